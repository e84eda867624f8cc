use Rattle.std.proofs.Common.{◌≡◌, ◌<◌, ◌≤◌, ◌∙◌, Err, ap, arith, sym}
use Rattle.lls_problem.specs.Bounds.{most_counters}
use Rattle.lls_problem.specs.declared.demands.DemandError.TheVariants.{Counters}
use Rattle.lls_cli.specs.declared.fault.Fault.TheVariants as faults
use Rattle.lls_least.specs.Bounded.{counters_with_one_more}
use Rattle.lls_outside.specs.Moment.{shelf_at}
use Rattle.lls_cli.specs.Question.{with_room}
use Rattle.lls_cli.proofs.Asked.{Reads-failed, Reads-tested}
use Rattle.lls_cli.proofs.Made.{room-failed, room-ok}
use Rattle.lls_cli.proofs.input.read_roomy_problem.Goals as goal

pub returns-clause-read : goal.returns-clause-read
returns-clause-read g c =
    let problem = c.in_ok-problem.problem in
    let room : counters_with_one_more problem ≤ most_counters = omega (arith, c.if-counters-from.false, c.from.ensures, c.counters_with_one_more-counters.ensures) in
    Reads-tested with_room c.args.source problem c.read_listed.result (shelf_at g.S.Shelf c.args.shelf.now) (shelf_at g.S.Shelf c.read_bare_problem.new.shelf) (shelf_at g.S.Shelf c.read_listed.new.shelf)
    (room-ok problem room) c.in_ok-problem.ensures.read c.read_listed.ensures.read

pub returns-then-counters-from-clause-read : goal.returns-then-counters-from-clause-read
returns-then-counters-from-clause-read g c =
    let problem = c.in_ok-problem.problem in
    let counters = c.counters_with_one_more-counters.result in
    let more : most_counters < counters_with_one_more problem = omega (arith, c.if-counters-from.true, c.from.ensures, c.counters_with_one_more-counters.ensures) in
    let said : c.from-then-counters-from.result ≡ counters_with_one_more problem = c.from-then-counters-from.ensures ∙ c.counters_with_one_more-counters.ensures in
    Reads-failed with_room c.args.source problem _ (shelf_at g.S.Shelf c.args.shelf.now) (shelf_at g.S.Shelf c.read_bare_problem.new.shelf) tt
    (room-failed problem more ∙ ap (λ n. Err (faults.Demands (Counters n))) (sym said)) c.in_ok-problem.ensures.read
