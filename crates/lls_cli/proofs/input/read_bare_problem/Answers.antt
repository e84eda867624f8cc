use Rattle.lls_outside.specs.Moment.{shelf_at}
use Rattle.lls_cli.specs.Question.{problem_in, search_limit}
use Rattle.lls_cli.proofs.Asked.{Reads-made}
use Rattle.lls_cli.proofs.Made.{problem_in-content}
use Rattle.lls_cli.proofs.input.read_bare_problem.Goals as goal

pub returns-clause-read : goal.returns-clause-read
returns-clause-read g c =
    Reads-made c.args.file.now search_limit (problem_in c.args.rule c.args.demands) c.in_ok-bytes.bytes c.problem_input.result (shelf_at g.S.Shelf c.args.shelf.now) (shelf_at g.S.Shelf c.read_input.new.shelf)
    (problem_in-content c.args.rule c.args.demands c.in_ok-bytes.bytes) c.in_ok-bytes.ensures.read (rw c.items.ensures at c.problem_input.ensures.problem)
