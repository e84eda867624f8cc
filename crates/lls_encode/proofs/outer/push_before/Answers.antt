-- The clauses are those of the definition, and what they say is a theorem's matter.
use Rattle.std.proofs.Common.{◌≡◌, ◌≤◌, ◌↔◌, Bool, true, List, length}
use Rattle.lls_lit.specs.Formula.{satisfies}
use Rattle.lls_search_file.specs.Posed.{IsPosed}
use Rattle.lls_problem.specs.Problem.{PosedProblem, AreFitting}
use Rattle.lls_encode.specs.Formula.{front_part}
use Rattle.lls_encode.specs.History.{history_of}
use Rattle.lls_encode.specs.Parts.{MeetsBefore}
use Rattle.lls_encode.proofs.Complete.{satisfies-front_part}
use Rattle.lls_encode.proofs.Sound.{HasCells-history_of, MeetsBefore-by_clauses}
use Rattle.lls_encode.proofs.outer.push_before.Goals as goal

holds : (p : PosedProblem) → IsPosed p.posed → AreFitting p.posed p.demands → (values : List Bool) → length p.posed.cells ≤ length values
    → (satisfies values (front_part p) ≡ true) ↔ MeetsBefore p (history_of p values)
holds p kept fitting values enough = (
  MeetsBefore-by_clauses p values kept fitting enough,
  satisfies-front_part p (history_of p values) values (HasCells-history_of p values kept enough) fitting,
)

pub returns-in_err-push_front-clause-holds : goal.returns-in_err-push_front-clause-holds
returns-in_err-push_front-clause-holds c = holds c.args.problem.now c.posed.ensures.kept c.demands-demands.ensures.kept

pub returns-clause-holds : goal.returns-clause-holds
returns-clause-holds c = holds c.args.problem.now c.posed.ensures.kept c.demands-demands.ensures.kept
