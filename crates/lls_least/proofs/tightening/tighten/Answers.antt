use Rattle.std.proofs.Common.{◌≤◌, subst, sym}
use Rattle.lls_problem.specs.Problem.{PosedProblem}
use Rattle.lls_problem.specs.Bounds.{grid_size}
use Rattle.lls_problem.specs.Solution.{IsAbsent, IsSolution}
use Rattle.lls_encode.specs.Images.{formulated}
use Rattle.lls_prooflog.specs.Spent.{IsSpent}
use Rattle.lls_least.specs.Finding.{IsFinding, IsOpen, ShowsAbsence}
use Rattle.lls_least.proofs.Solutions.{bound_beyond, extreme_where_no_bound, extreme_where_none, live_cells-le, nearer, no_problem_beyond, solution-bounded}
use Rattle.lls_least.proofs.tightening.tighten.Goals as goal

pub beyond-requires-clause-within : goal.beyond-requires-clause-within
beyond-requires-clause-within c =
    subst (λ n. n ≤ grid_size c.args.problem.now.posed) (sym c.population-live.ensures) (live_cells-le c.args.problem.now c.tighter.history c.posed-posed.ensures.kept.generations.0 c.tighter.invariant)

pub returns-in_default-clause-settles : goal.returns-in_default-clause-settles
returns-in_default-clause-settles c =
    let extreme = c.args.extreme in
    let p = c.args.problem.now in
    extreme_where_no_bound extreme p c.tighter.history c.posed-posed.ensures.kept.generations.0
    (no_problem_beyond extreme p c.tighter.history _ _ c.population-live.ensures c.in_ok-bounded.ensures c.in_default.is)

pub returns-in-Absent-clause-settles : goal.returns-in-Absent-clause-settles
returns-in-Absent-clause-settles c =
    let extreme = c.args.extreme in
    let p = c.args.problem.now in
    let own = bound_beyond extreme p c.in-Some.bounded c.tighter.history _ _ c.population-live.ensures c.in_ok-bounded.ensures c.in-Some.is in
    let shows : ShowsAbsence c.in-Some.bounded c.args.effort c.in-Absent.log.steps = subst (IsFinding c.in-Some.bounded c.args.effort) c.in-Absent.is c.in_ok-next.ensures in
    extreme_where_none extreme p c.tighter.history own.0 own.1 (subst IsAbsent own.2 shows.absent)

pub returns-in-Undecided-clause-answer : goal.returns-in-Undecided-clause-answer
returns-in-Undecided-clause-answer c =
    let extreme = c.args.extreme in
    let p = c.args.problem.now in
    let effort = c.args.effort in
    let steps = c.in-Undecided.log.steps in
    let own = bound_beyond extreme p c.in-Some.bounded c.tighter.history _ _ c.population-live.ensures c.in_ok-bounded.ensures c.in-Some.is in
    let spent : IsOpen c.in-Some.bounded effort steps = subst (IsFinding c.in-Some.bounded effort) c.in-Undecided.is c.in_ok-next.ensures in
    record {
      solution = c.tighter.invariant;
      bound = own.0;
      asked = own.1;
      spent = subst (λ (q : PosedProblem). IsSpent (formulated q effort.formulation) steps effort.budget) own.2 spent.spent;
    }

pub tighter-smaller : goal.tighter-smaller
tighter-smaller c =
    let extreme = c.args.extreme in
    let p = c.args.problem.now in
    let own = bound_beyond extreme p c.in-Some.bounded c.tighter.history _ _ c.population-live.ensures c.in_ok-bounded.ensures c.in-Some.is in
    let found : IsSolution c.in-Some.bounded c.in-Found.next = subst (IsFinding c.in-Some.bounded c.args.effort) c.in-Found.is c.in_ok-next.ensures in
    nearer extreme p c.tighter.history c.in-Found.next own.0 c.posed-posed.ensures.kept.generations.0 own.1 (subst (λ (q : PosedProblem). IsSolution q c.in-Found.next) own.2 found)

pub tighter-preserved : goal.tighter-preserved
tighter-preserved c =
    let extreme = c.args.extreme in
    let p = c.args.problem.now in
    let own = bound_beyond extreme p c.in-Some.bounded c.tighter.history _ _ c.population-live.ensures c.in_ok-bounded.ensures c.in-Some.is in
    let found : IsSolution c.in-Some.bounded c.in-Found.next = subst (IsFinding c.in-Some.bounded c.args.effort) c.in-Found.is c.in_ok-next.ensures in
    solution-bounded p own.0 c.in-Found.next (subst (λ (q : PosedProblem). IsSolution q c.in-Found.next) own.2 found)
