-- A history is symmetric exactly where no cell differs from its image.
use Rattle.std.proofs.Common.{◌≡◌, Bool, true, false, [], length, refl}
use Rattle.lls_rule.specs.Rule.{background}
use Rattle.lls_grid.specs.History.{History, at}
use Rattle.lls_symmetry.specs.Motion.{cell_place}
use Rattle.lls_symmetry.specs.Symmetry.{generators_of}
use Rattle.lls_symmetry.proofs.Symmetric.{IsSymmetric-by_cells}
use Rattle.lls_problem.specs.Problem.{PosedProblem, AreFitting}
use Rattle.lls_problem.specs.Solution.{AreSymmetric}
use Rattle.lls_problem.specs.Judgement.{HasItsSizes}
use Rattle.lls_problem.specs.Unlike.{differ, is_unlike, unlike_at, unlike_in_row, unlike_in_generation, unlike_under, unlike_cells}
use Rattle.lls_problem.proofs.FirstOf.{empty_in_range, empty_range, empty_where, false_where_empty}
use Rattle.lls_problem.proofs.Outside.{at_outside}

pub same_by_differ : (a b : Bool) → differ a b ≡ false → a ≡ b
same_by_differ true true same = refl
same_by_differ true false same = cc
same_by_differ false true same = cc
same_by_differ false false same = refl

pub differ-same : (a b : Bool) → a ≡ b → differ a b ≡ false
differ-same true true same = refl
differ-same true false same = cc
differ-same false true same = cc
differ-same false false same = refl

pub AreSymmetric-by_cells : (p : PosedProblem) (h : History) → HasItsSizes p h → AreFitting p.posed p.demands → unlike_cells p h ≡ [] → AreSymmetric p h
AreSymmetric-by_cells p h sizes fitting none = λ t t_in.
    IsSymmetric-by_cells p.demands.symmetry p.posed.height p.posed.width (at p.rule h t) (background p.rule t) fitting.square (at_outside p h sizes t t_in) (λ k y x generator row column.
    let under = empty_in_range (unlike_under p h) (length (generators_of p.demands.symmetry)) k none generator in
    let rows = empty_in_range (unlike_in_generation p h k) p.posed.generations t under t_in in
    let cells = empty_in_range (unlike_in_row p h k t) p.posed.height y rows row in
    same_by_differ _ _ (false_where_empty (is_unlike p h k t y x) _ (empty_in_range (unlike_at p h k t y) p.posed.width x cells column)))

pub unlike_cells-symmetric : (p : PosedProblem) (h : History) → AreSymmetric p h → unlike_cells p h ≡ []
unlike_cells-symmetric p h symmetric =
    empty_range (unlike_under p h) (length (generators_of p.demands.symmetry)) (λ k generator.
    empty_range (unlike_in_generation p h k) p.posed.generations (λ t t_in.
    empty_range (unlike_in_row p h k t) p.posed.height (λ y row.
    empty_range (unlike_at p h k t y) p.posed.width (λ x column.
    empty_where (is_unlike p h k t y x) (record { t = t; y = y; x = x }) (differ-same _ _ (symmetric t t_in k (cell_place y x) generator))))))
