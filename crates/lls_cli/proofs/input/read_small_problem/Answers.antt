use Rattle.std.proofs.Common.{◌≡◌, ◌≤◌, ◌∙◌, length, ap, arith}
use Rattle.lls_search_file.specs.Posed.{PosedFile}
use Rattle.lls_answers.specs.Subject.{most_open_cells}
use Rattle.lls_outside.specs.Moment.{shelf_at}
use Rattle.lls_cli.specs.Question.{with_few_cells}
use Rattle.lls_cli.proofs.Asked.{Reads-tested}
use Rattle.lls_cli.proofs.Made.{few_cells-ok}
use Rattle.lls_cli.proofs.input.read_small_problem.Goals as goal

pub returns-clause-read : goal.returns-clause-read
returns-clause-read g c =
    let problem = c.in_ok-problem.problem in
    let cells : c.items-cells.result.now ≡ problem.posed.cells = c.items-cells.ensures ∙ ap (λ (f : PosedFile). f.cells) (c.behind-problem.view_is ∙ c.posed.ensures.value) in
    let few : length problem.posed.cells ≤ most_open_cells = omega (arith, c.if-cells-gt-MOST_OPEN_CELLS.false, ap length cells) in
    Reads-tested with_few_cells c.args.source problem c.read_listed.result (shelf_at g.S.Shelf c.args.shelf.now) (shelf_at g.S.Shelf c.read_bare_problem.new.shelf) (shelf_at g.S.Shelf c.read_listed.new.shelf)
    (few_cells-ok problem few) c.in_ok-problem.ensures.read c.read_listed.ensures.read
