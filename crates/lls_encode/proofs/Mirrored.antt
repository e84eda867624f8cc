-- The clauses of symmetry say that each generation is symmetric.
use Rattle.std.proofs.Common.{◌≡◌, ◌<◌, ℕ, pos, Bool, true, List, refl, sym, ◌∙◌, arith}
use Rattle.std.specs.List.{AllByRecursion as Each}
use Rattle.std.proofs.lemmas.List.Elements.{All-from_recursion, recursion_from_All}
use Rattle.lls_lit.specs.Formula.{satisfies}
use Rattle.lls_rule.specs.Rule.{background}
use Rattle.lls_grid.specs.History.{History, at}
use Rattle.lls_symmetry.specs.declared.motion.Motion.{Motion}
use Rattle.lls_symmetry.specs.declared.pair.Pair.{Pair}
use Rattle.lls_symmetry.specs.Symmetry.{generators_of}
use Rattle.lls_symmetry.specs.Pairs.{motion_pairs, pairs_of, IsEqualPair}
use Rattle.lls_symmetry.proofs.Symmetric.{IsSymmetric-by_pairs}
use Rattle.lls_problem.specs.Problem.{PosedProblem, AreFitting}
use Rattle.lls_problem.specs.Solution.{AreSymmetric}
use Rattle.lls_problem.proofs.Outside.{at_outside}
use Rattle.lls_encode.specs.Formula.{pair_clauses, symmetric_clauses, motion_clauses, symmetry_part}
use Rattle.lls_encode.proofs.Satisfied.{satisfies-range}
use Rattle.lls_encode.proofs.Parts.{satisfied_in_range}
use Rattle.lls_encode.proofs.Values.{HasCells, value_of-place_at}
use Rattle.lls_encode.proofs.Alike.{equal_at, satisfies-same_at}
use Rattle.lls_encode.proofs.Each.{Each-satisfied, satisfies-each, Each-joined, joined-each, Each-below}

-- of a pair in generation t
pair_equal : (p : PosedProblem) (h : History) (values : List Bool) → HasCells p values h → (t : ℕ) → t < p.posed.generations
    → (pair : Pair) → satisfies values (pair_clauses p t pair) ≡ true → IsEqualPair (at p.rule h t) pair
pair_equal p h values has t t_in pair satisfied =
    sym (value_of-place_at p h values has t (pos pair.from_y) (pos pair.from_x) t_in)
    ∙ equal_at p values t (pos pair.from_y) (pos pair.from_x) t (pos pair.to_y) (pos pair.to_x) satisfied
    ∙ value_of-place_at p h values has t (pos pair.to_y) (pos pair.to_x) t_in

satisfies-pair : (p : PosedProblem) (h : History) (values : List Bool) → HasCells p values h → (t : ℕ) → t < p.posed.generations
    → (pair : Pair) → IsEqualPair (at p.rule h t) pair → satisfies values (pair_clauses p t pair) ≡ true
satisfies-pair p h values has t t_in pair equal =
    satisfies-same_at p values t (pos pair.from_y) (pos pair.from_x) t (pos pair.to_y) (pos pair.to_x)
    (value_of-place_at p h values has t (pos pair.from_y) (pos pair.from_x) t_in ∙ equal ∙ sym (value_of-place_at p h values has t (pos pair.to_y) (pos pair.to_x) t_in))

-- the pairs of a generator in generation t are equal
abbrev AreEqualUnder : PosedProblem → History → ℕ → Motion → Type 0
AreEqualUnder p h t motion = Each (IsEqualPair (at p.rule h t)) (motion_pairs p.posed.height p.posed.width motion)

motion_equal : (p : PosedProblem) (h : History) (values : List Bool) → HasCells p values h → (t : ℕ) → t < p.posed.generations
    → (motion : Motion) → satisfies values (motion_clauses p motion) ≡ true → AreEqualUnder p h t motion
motion_equal p h values has t t_in motion satisfied =
    Each-satisfied values (pair_clauses p t) (IsEqualPair (at p.rule h t)) (pair_equal p h values has t t_in) (motion_pairs p.posed.height p.posed.width motion)
    (satisfied_in_range values (symmetric_clauses p motion) 0 p.posed.generations t satisfied (omega arith) (omega arith))

satisfies-motion : (p : PosedProblem) (h : History) (values : List Bool) → HasCells p values h → (motion : Motion)
    → ((t : ℕ) → t < p.posed.generations → AreEqualUnder p h t motion) → satisfies values (motion_clauses p motion) ≡ true
satisfies-motion p h values has motion equal =
    satisfies-range values (symmetric_clauses p motion) 0 p.posed.generations (λ t low high.
    let t_in : t < p.posed.generations = omega arith in
    satisfies-each values (pair_clauses p t) (IsEqualPair (at p.rule h t)) (satisfies-pair p h values has t t_in) (motion_pairs p.posed.height p.posed.width motion) (equal t t_in))

pub AreSymmetric-by_clauses : (p : PosedProblem) (h : History) (values : List Bool) → HasCells p values h → AreFitting p.posed p.demands
    → satisfies values (symmetry_part p) ≡ true → AreSymmetric p h
unfolding pairs_of
AreSymmetric-by_clauses p h values has fitting satisfied = λ t t_in.
    let symmetry = p.demands.symmetry in
    let equal : Each (IsEqualPair (at p.rule h t)) (pairs_of symmetry p.posed.height p.posed.width) =
    Each-joined (IsEqualPair (at p.rule h t)) (motion_pairs p.posed.height p.posed.width) (generators_of symmetry)
    (Each-satisfied values (motion_clauses p) (AreEqualUnder p h t) (motion_equal p h values has t t_in) (generators_of symmetry) satisfied) in
    (IsSymmetric-by_pairs symmetry p.posed.height p.posed.width (pairs_of symmetry p.posed.height p.posed.width) fitting.square refl
    (at p.rule h t) (background p.rule t) (at_outside p h has.sizes t t_in)).1
    (All-from_recursion (IsEqualPair (at p.rule h t)) (pairs_of symmetry p.posed.height p.posed.width) equal)

pub satisfies-symmetry_part : (p : PosedProblem) (h : History) (values : List Bool) → HasCells p values h → AreFitting p.posed p.demands
    → AreSymmetric p h → satisfies values (symmetry_part p) ≡ true
unfolding pairs_of
satisfies-symmetry_part p h values has fitting symmetric =
    let symmetry = p.demands.symmetry in
    let pairs = pairs_of symmetry p.posed.height p.posed.width in
    let equal : (t : ℕ) → t < p.posed.generations → Each (AreEqualUnder p h t) (generators_of symmetry) = λ t t_in.
    joined-each (IsEqualPair (at p.rule h t)) (motion_pairs p.posed.height p.posed.width) (generators_of symmetry)
    (recursion_from_All (IsEqualPair (at p.rule h t)) (pairs_of symmetry p.posed.height p.posed.width)
    ((IsSymmetric-by_pairs symmetry p.posed.height p.posed.width pairs fitting.square refl (at p.rule h t) (background p.rule t) (at_outside p h has.sizes t t_in)).0 (symmetric t t_in))) in
    satisfies-each values (motion_clauses p) (λ motion. (t : ℕ) → t < p.posed.generations → AreEqualUnder p h t motion) (satisfies-motion p h values has) (generators_of symmetry)
    (Each-below (AreEqualUnder p h) p.posed.generations (generators_of symmetry) equal)
