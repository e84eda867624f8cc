-- The clauses are those of the definition, and what they say is a theorem's matter.
use Rattle.std.proofs.Common.{◌≡◌, ◌≤◌, ℕ, Bool, true, List, length, ap, arith}
use Rattle.lls_lit.specs.Formula.{Cnf, satisfies}
use Rattle.lls_search_file.specs.Posed.{IsPosed}
use Rattle.lls_problem.specs.Problem.{PosedProblem, AreFitting}
use Rattle.lls_encode.specs.History.{history_of}
use Rattle.lls_encode.specs.Parts.{MeetsAfter, HasExtension, after_part}
use Rattle.lls_encode.proofs.Complete.{has_extension}
use Rattle.lls_encode.proofs.Made.{room_for_difference}
use Rattle.lls_encode.proofs.Sound.{HasCells-history_of, MeetsAfter-by_clauses}
use Rattle.lls_encode.proofs.outer.push_after.Goals as goal

sound : (p : PosedProblem) (base : ℕ) → IsPosed p.posed → AreFitting p.posed p.demands → length p.posed.cells ≤ base → (values : List Bool) → length p.posed.cells ≤ length values
    → satisfies values (after_part p base) ≡ true → MeetsAfter p (history_of p values)
sound p base kept fitting behind values enough satisfied = MeetsAfter-by_clauses p values base kept fitting enough behind satisfied

complete : (p : PosedProblem) (base : ℕ) → IsPosed p.posed → AreFitting p.posed p.demands → length p.posed.cells ≤ base → (values : List Bool) → length values ≡ base
    → MeetsAfter p (history_of p values) → HasExtension p values
complete p base kept fitting behind values count meets =
    let enough : length p.posed.cells ≤ length values = omega (arith, count, behind) in
    has_extension p (history_of p values) values kept fitting (HasCells-history_of p values kept enough) enough meets

pub push_difference-requires-clause-room : goal.push_difference-requires-clause-room
push_difference-requires-clause-room c =
    let none : length c.new-after.result.clauses ≡ 0 = ap (λ (f : Cnf). length f.clauses) c.new-after.ensures in
    room_for_difference c.args.problem.now c.new-after.result c.push_bounds.new.formula c.posed-posed.ensures.kept c.demands-demands.ensures.kept (omega (arith, none)) c.in_ok-push_bounds.ensures

pub returns-in_err-push_bounds-clause-sound : goal.returns-in_err-push_bounds-clause-sound
returns-in_err-push_bounds-clause-sound c =
    sound c.args.problem.now c.args.formula.now.vars c.posed-posed.ensures.kept c.demands-demands.ensures.kept c.requires.cells

pub returns-in_err-push_bounds-clause-complete : goal.returns-in_err-push_bounds-clause-complete
returns-in_err-push_bounds-clause-complete c =
    complete c.args.problem.now c.args.formula.now.vars c.posed-posed.ensures.kept c.demands-demands.ensures.kept c.requires.cells

pub returns-in_err-push_difference-clause-sound : goal.returns-in_err-push_difference-clause-sound
returns-in_err-push_difference-clause-sound c =
    sound c.args.problem.now c.args.formula.now.vars c.posed-posed.ensures.kept c.demands-demands.ensures.kept c.requires.cells

pub returns-in_err-push_difference-clause-complete : goal.returns-in_err-push_difference-clause-complete
returns-in_err-push_difference-clause-complete c =
    complete c.args.problem.now c.args.formula.now.vars c.posed-posed.ensures.kept c.demands-demands.ensures.kept c.requires.cells

pub returns-clause-sound : goal.returns-clause-sound
returns-clause-sound c =
    sound c.args.problem.now c.args.formula.now.vars c.posed-posed.ensures.kept c.demands-demands.ensures.kept c.requires.cells

pub returns-clause-complete : goal.returns-clause-complete
returns-clause-complete c =
    complete c.args.problem.now c.args.formula.now.vars c.posed-posed.ensures.kept c.demands-demands.ensures.kept c.requires.cells
