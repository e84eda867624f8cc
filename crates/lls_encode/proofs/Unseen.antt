-- The clauses of an exact period say that generation 0 isn't there again after a shorter one, and a solution's assignment satisfies them.
use Rattle.std.proofs.Common.{◌≡◌, ◌<◌, ℕ, ◌+◌, ℤ, ◌+ℤ◌, Bool, true, false, not, ◌&&◌, ◌||◌, cond, List, [], ◌∷◌, ◌++◌, map, length, get_or, refl, sym, ap, ◌∙◌, subst, arith, length-append}
use Rattle.std.specs.List.{AllByRecursion as Each, list_any, flat_map, range_with_len}
use Rattle.std.proofs.lemmas.Bool.{and_parts, and_from}
use Rattle.std.proofs.lemmas.List.{get_or_append_left, get_or-append-add}
use Rattle.std.proofs.lemmas.List.Elements.{All-from_recursion, All-from_get_or, recursion_from_All}
use Rattle.std.proofs.lemmas.List.FromFn.{get_or-map-range_with_len, length-map-range_with_len}
use Rattle.lls_lit.specs.Literal.{negation}
use Rattle.lls_lit.specs.Formula.{is_true, satisfies}
use Rattle.lls_rule.specs.Rule.{background}
use Rattle.lls_grid.specs.History.{History, at}
use Rattle.lls_symmetry.specs.declared.moved.Moved.{Moved}
use Rattle.lls_symmetry.specs.Moved.{IsMovedPair}
use Rattle.lls_problem.specs.declared.demands.Period.{Period}
use Rattle.lls_problem.specs.Problem.{PosedProblem, AreFitting}
use Rattle.lls_problem.specs.Solution.{IsThere, IsExact}
use Rattle.lls_problem.specs.Unlike.{differ}
use Rattle.lls_problem.specs.Exact.{excluded}
use Rattle.lls_problem.proofs.Shorter.{IsUnseen, IsShort, IsExact-by_excluded, excluded-exact, excluded_short, there_by_pairs, back_by_there, pairs_by_there}
use Rattle.lls_problem.proofs.Symmetric.{same_by_differ, differ-same}
use Rattle.lls_transition.specs.declared.place.Place.{Place}
use Rattle.lls_transition.specs.declared.place.Place.TheVariants.{Known, Of}
use Rattle.lls_transition.specs.Place.{value_of}
use Rattle.lls_transition.specs.Clause.{differing}
use Rattle.lls_encode.specs.Place.{place_at}
use Rattle.lls_encode.specs.Formula.{difference_variable, any_of, unequal_clauses, pair_at, pair_difference, unequal_pairs, has_other_background, pairs_of, unseen_clauses, unseen_vars, all_unseen, all_unseen_vars, exact_part}
use Rattle.lls_encode.proofs.Satisfied.{is_literal, is_true-negation, satisfies-range}
use Rattle.lls_encode.proofs.Parts.{satisfies-append, satisfied_in_range}
use Rattle.lls_encode.proofs.Values.{HasCells, is_true-cell, value_of-place_at}
use Rattle.lls_encode.proofs.Alike.{IsOpposed, IsOpposed-place_at}
use Rattle.lls_encode.proofs.Returned.{said}
use Rattle.lls_encode.proofs.Differing.{HasTrue, some_true, any_true, literal}
use Rattle.lls_encode.proofs.Pairs.{IsInFile, pairs_in}

-- the clause of a literal and two places
three : (d a b : Bool) → ((d || (a || (b || false))) && true) ≡ (d || (a || b))
three true a b = refl
three false true b = refl
three false false true = refl
three false false false = refl

two : (d a : Bool) → ((d || (a || false)) && true) ≡ (d || (a || false))
two true a = refl
two false true = refl
two false false = refl

two_back : (d b : Bool) → ((d || (b || false)) && true) ≡ (d || b)
two_back true b = refl
two_back false true = refl
two_back false false = refl

one : (d : Bool) → ((d || false) && true) ≡ (d || false)
one true = refl
one false = refl

left_out : (d : Bool) → true ≡ (d || true)
left_out true = refl
left_out false = refl

left_out_by : (d a : Bool) → true ≡ (d || (a || true))
left_out_by true a = refl
left_out_by false true = refl
left_out_by false false = refl

satisfies-any_of : (values : List Bool) (d : ℤ) (a b : Place) → satisfies values (any_of d a b) ≡ (is_true values d || (value_of values a || value_of values b))
satisfies-any_of values d (Known true) b = left_out (is_true values d)
satisfies-any_of values d (Known false) (Known true) = left_out (is_true values d)
satisfies-any_of values d (Known false) (Known false) = one (is_true values d)
satisfies-any_of values d (Known false) (Of second) = two_back (is_true values d) (is_true values second)
satisfies-any_of values d (Of first) (Known true) = left_out_by (is_true values d) (is_true values first)
satisfies-any_of values d (Of first) (Known false) = two (is_true values d) (is_true values first)
satisfies-any_of values d (Of first) (Of second) = three (is_true values d) (is_true values first) (is_true values second)

-- what the two clauses of a pair say, by the values of its variable and its places
abbrev says_unequal : Bool → Bool → Bool → Bool
says_unequal d a b = (not d || (a || b)) && (not d || (not a || not b))

satisfies-unequal_clauses : (values : List Bool) (d : ℤ) (a b : Place) → is_literal d ≡ true → IsOpposed values a → IsOpposed values b
    → satisfies values (unequal_clauses d a b) ≡ says_unequal (is_true values d) (value_of values a) (value_of values b)
satisfies-unequal_clauses values d a b d_lit not_a not_b =
    satisfies-append values (any_of (negation d) a b) (any_of (negation d) (differing a true) (differing b true))
    ∙ ap (λ first. first && satisfies values (any_of (negation d) (differing a true) (differing b true)))
    (satisfies-any_of values (negation d) a b ∙ ap (λ v. v || (value_of values a || value_of values b)) (is_true-negation values d d_lit))
    ∙ ap (λ second. (not (is_true values d) || (value_of values a || value_of values b)) && second)
    (satisfies-any_of values (negation d) (differing a true) (differing b true)
    ∙ ap (λ v. v || (value_of values (differing a true) || value_of values (differing b true))) (is_true-negation values d d_lit)
    ∙ ap (λ v. not (is_true values d) || (v || value_of values (differing b true))) not_a
    ∙ ap (λ v. not (is_true values d) || (not (value_of values a) || v)) not_b)

apart : (d a b : Bool) → says_unequal d a b ≡ true → d ≡ true → a ≡ b → ⊥
apart true true true said holds same = cc
apart true true false said holds same = cc
apart true false true said holds same = cc
apart true false false said holds same = cc
apart false a b said holds same = cc

told : (d a b : Bool) → d ≡ differ a b → says_unequal d a b ≡ true
told true true true is = cc
told true true false is = refl
told true false true is = refl
told true false false is = cc
told false true true is = refl
told false true false is = cc
told false false true is = cc
told false false false is = refl

-- what an assignment says at the earlier place of the kth pair and at the later
abbrev early_said : PosedProblem → List Bool → List Moved → ℕ → Bool
early_said p values pairs k = said p values (pair_at pairs k).early.t (pair_at pairs k).early.y (pair_at pairs k).early.x

abbrev late_said : PosedProblem → List Bool → List Moved → ℕ → Bool
late_said p values pairs k = said p values (pair_at pairs k).late.t (pair_at pairs k).late.y (pair_at pairs k).late.x

satisfies-pair_difference : (p : PosedProblem) (values : List Bool) (base : ℕ) (pairs : List Moved) (k : ℕ)
    → satisfies values (pair_difference p base pairs k) ≡ says_unequal (is_true values (difference_variable base k)) (early_said p values pairs k) (late_said p values pairs k)
satisfies-pair_difference p values base pairs k =
    let pair = pair_at pairs k in
    satisfies-unequal_clauses values (difference_variable base k) (place_at p pair.early.t pair.early.y pair.early.x) (place_at p pair.late.t pair.late.y pair.late.x)
    (literal (base + k)) (IsOpposed-place_at p values pair.early.t pair.early.y pair.early.x) (IsOpposed-place_at p values pair.late.t pair.late.y pair.late.x)

-- where the clauses of the pairs are satisfied, they aren't all equal
unequal_by_clauses : (p : PosedProblem) (values : List Bool) (base : ℕ) (pairs : List Moved) → satisfies values (unequal_pairs p base pairs) ≡ true → Each (IsMovedPair (said p values)) pairs → ⊥
unequal_by_clauses p values base pairs satisfied equal =
    let n : ℕ = length pairs in
    let each = flat_map (pair_difference p base pairs) (range_with_len 0 n) in
    let variables = map (difference_variable base) (range_with_len 0 n) in
    let both : (satisfies values each && satisfies values (variables ∷ [])) ≡ true = sym (satisfies-append values each (variables ∷ [])) ∙ satisfied in
    let parts = and_parts (satisfies values each) (satisfies values (variables ∷ [])) both in
    let any : list_any (is_true values) variables ≡ true = (and_parts (list_any (is_true values) variables) true parts.1).0 in
    let some : HasTrue values base 0 n = some_true values base 0 n any in
    let within : some.k < n = omega (arith, some.high) in
    apart (is_true values (difference_variable base some.k)) (early_said p values pairs some.k) (late_said p values pairs some.k)
    (sym (satisfies-pair_difference p values base pairs some.k) ∙ satisfied_in_range values (pair_difference p base pairs) 0 n some.k parts.0 (omega arith) (omega (arith, within)))
    some.holds (All-from_recursion (IsMovedPair (said p values)) pairs equal some.k _ within)

unseen_by_pairs : (p : PosedProblem) (h : History) (values : List Bool) → HasCells p values h → (part : Period) → IsShort p part → (base : ℕ) → IsThere p h part
    → (b : Bool) → has_other_background p part ≡ b → satisfies values (cond b [] (unequal_pairs p base (pairs_of p part))) ≡ true → ⊥
unseen_by_pairs p h values has part short base there true other satisfied =
    let same : has_other_background p part ≡ false = differ-same (background p.rule 0) (background p.rule part.length) (back_by_there p h part short.period short.shorter has.sizes there) in
    cc
unseen_by_pairs p h values has part short base there false other satisfied =
    unequal_by_clauses p values base (pairs_of p part) satisfied
    (pairs_by_there p (said p values) part (λ y x.
    value_of-place_at p h values has part.length (y +ℤ part.dy) (x +ℤ part.dx) short.shorter ∙ there y x ∙ sym (value_of-place_at p h values has 0 y x (omega (arith, short.shorter)))))

pub all_unseen_by_clauses : (p : PosedProblem) (h : History) (values : List Bool) → HasCells p values h → (base : ℕ) (parts : List Period) → Each (IsShort p) parts
    → satisfies values (all_unseen p base parts) ≡ true → Each (IsUnseen p h) parts
all_unseen_by_clauses p h values has base [] short satisfied = tt
all_unseen_by_clauses p h values has base (part ∷ parts) short satisfied =
    let both = and_parts _ _ (sym (satisfies-append values (unseen_clauses p base part) (all_unseen p (base + unseen_vars p part) parts)) ∙ satisfied) in (
      λ there. unseen_by_pairs p h values has part short.0 base there (has_other_background p part) refl both.0,
      all_unseen_by_clauses p h values has (base + unseen_vars p part) parts short.1 both.1,
    )

-- the pairs of which the places differ
abbrev mark_at : PosedProblem → History → List Moved → ℕ → Bool
mark_at p h pairs k =
    let pair = pair_at pairs k in
    differ (at p.rule h pair.early.t pair.early.y pair.early.x) (at p.rule h pair.late.t pair.late.y pair.late.x)

abbrev pub pair_marks : PosedProblem → History → List Moved → List Bool
pair_marks p h pairs = map (mark_at p h pairs) (range_with_len 0 (length pairs))

abbrev pub unseen_marks : PosedProblem → History → Period → List Bool
unseen_marks p h part = cond (has_other_background p part) [] (pair_marks p h (pairs_of p part))

abbrev pub all_marks : PosedProblem → History → List Period → List Bool
all_marks p h [] = []
all_marks p h (part ∷ parts) = unseen_marks p h part ++ all_marks p h parts

length-marks : (p : PosedProblem) (h : History) (part : Period) (b : Bool) → length (cond b [] (pair_marks p h (pairs_of p part))) ≡ cond b 0 (length (pairs_of p part))
length-marks p h part true = refl
length-marks p h part false = length-map-range_with_len (mark_at p h (pairs_of p part)) 0 (length (pairs_of p part))

pub length-all_marks : (p : PosedProblem) (h : History) (parts : List Period) → length (all_marks p h parts) ≡ all_unseen_vars p parts
length-all_marks p h [] = refl
length-all_marks p h (part ∷ parts) =
    length-append (unseen_marks p h part) (all_marks p h parts)
    ∙ ap (λ n. n + length (all_marks p h parts)) (length-marks p h part (has_other_background p part))
    ∙ ap (λ n. unseen_vars p part + n) (length-all_marks p h parts)

-- the values behind the first `base` begin with the marks
abbrev pub AreMarks : List Bool → ℕ → List Bool → Type 0
AreMarks values base marks = (k : ℕ) → k < length marks → get_or values (base + k) false ≡ get_or marks k false

pub marks_front : (values : List Bool) (base : ℕ) (xs ys : List Bool) → AreMarks values base (xs ++ ys) → AreMarks values base xs
marks_front values base xs ys are k within = are k (omega (arith, length-append xs ys, within)) ∙ get_or_append_left xs ys false k within

pub marks_back : (values : List Bool) (base : ℕ) (xs ys : List Bool) → AreMarks values base (xs ++ ys) → AreMarks values (base + length xs) ys
marks_back values base xs ys are k within =
    let place : base + length xs + k ≡ base + (length xs + k) = omega arith in
    ap (λ n. get_or values n false) place ∙ are (length xs + k) (omega (arith, length-append xs ys, within)) ∙ get_or-append-add xs ys k false

-- such a variable is true where its pair differs
mark_is : (p : PosedProblem) (h : History) (values : List Bool) → HasCells p values h → (base : ℕ) (pairs : List Moved) → Each (IsInFile p) pairs → AreMarks values base (pair_marks p h pairs)
    → (k : ℕ) → k < length pairs → is_true values (difference_variable base k) ≡ differ (early_said p values pairs k) (late_said p values pairs k)
mark_is p h values has base pairs inside are k within =
    let pair = pair_at pairs k in
    let in_file = All-from_recursion (IsInFile p) pairs inside k _ within in
    is_true-cell values (base + k)
    ∙ are k (omega (arith, within, length-map-range_with_len (mark_at p h pairs) 0 (length pairs)))
    ∙ get_or-map-range_with_len (mark_at p h pairs) 0 (length pairs) k k false within (omega arith)
    ∙ ap (λ a. differ a (at p.rule h pair.late.t pair.late.y pair.late.x)) (sym (value_of-place_at p h values has pair.early.t pair.early.y pair.early.x in_file.early))
    ∙ ap (λ b. differ (early_said p values pairs k) b) (sym (value_of-place_at p h values has pair.late.t pair.late.y pair.late.x in_file.late))

-- where not all pairs are equal, some variable is true
no_mark : (p : PosedProblem) (h : History) (values : List Bool) → HasCells p values h → (base : ℕ) (pairs : List Moved) → Each (IsInFile p) pairs → AreMarks values base (pair_marks p h pairs)
    → list_any (is_true values) (map (difference_variable base) (range_with_len 0 (length pairs))) ≡ false → Each (IsMovedPair (said p values)) pairs
no_mark p h values has base pairs inside are none = recursion_from_All (IsMovedPair (said p values)) pairs (All-from_get_or (IsMovedPair (said p values)) pairs _ (λ k within.
    elim (is_true values (difference_variable base k)) as (λ b. is_true values (difference_variable base k) ≡ b → IsMovedPair (said p values) (pair_at pairs k)) [
      | true ↦ λ test. let some : list_any (is_true values) (map (difference_variable base) (range_with_len 0 (length pairs))) ≡ true = any_true values base 0 (length pairs) k (omega arith) (omega (arith, within)) test in cc
      | false ↦ λ test. same_by_differ (early_said p values pairs k) (late_said p values pairs k) (sym (mark_is p h values has base pairs inside are k within) ∙ test)
    ] refl))

satisfies-unequal_pairs : (p : PosedProblem) (h : History) (values : List Bool) → HasCells p values h → (base : ℕ) (pairs : List Moved) → Each (IsInFile p) pairs → AreMarks values base (pair_marks p h pairs)
    → (Each (IsMovedPair (said p values)) pairs → ⊥) → satisfies values (unequal_pairs p base pairs) ≡ true
satisfies-unequal_pairs p h values has base pairs inside are unequal =
    let n : ℕ = length pairs in
    let variables = map (difference_variable base) (range_with_len 0 n) in
    let each : satisfies values (flat_map (pair_difference p base pairs) (range_with_len 0 n)) ≡ true =
    satisfies-range values (pair_difference p base pairs) 0 n (λ k low high.
    satisfies-pair_difference p values base pairs k
    ∙ told (is_true values (difference_variable base k)) (early_said p values pairs k) (late_said p values pairs k) (mark_is p h values has base pairs inside are k (omega (arith, high)))) in
    let some : list_any (is_true values) variables ≡ true =
    elim (list_any (is_true values) variables) as (λ b. list_any (is_true values) variables ≡ b → list_any (is_true values) variables ≡ true) [
      | true ↦ λ test. test
      | false ↦ λ test. absurd (unequal (no_mark p h values has base pairs inside are test))
    ] refl in
    satisfies-append values (flat_map (pair_difference p base pairs) (range_with_len 0 n)) (variables ∷ []) ∙ and_from _ _ each (and_from _ _ some refl)

satisfies-unseen : (p : PosedProblem) (h : History) (values : List Bool) → HasCells p values h → (base : ℕ) (part : Period) → IsShort p part → IsUnseen p h part
    → (b : Bool) → has_other_background p part ≡ b → AreMarks values base (cond b [] (pair_marks p h (pairs_of p part)))
    → satisfies values (cond b [] (unequal_pairs p base (pairs_of p part))) ≡ true
satisfies-unseen p h values has base part short unseen true other are = refl
satisfies-unseen p h values has base part short unseen false same are =
    satisfies-unequal_pairs p h values has base (pairs_of p part) (pairs_in p part short.shorter) are (λ equal.
    unseen (there_by_pairs p h (said p values) part short.shorter (λ t y x t_in. value_of-place_at p h values has t y x t_in) has.sizes
    (same_by_differ (background p.rule 0) (background p.rule part.length) same) equal))

pub satisfies-all_unseen : (p : PosedProblem) (h : History) (values : List Bool) → HasCells p values h → (base : ℕ) (parts : List Period) → Each (IsShort p) parts → Each (IsUnseen p h) parts
    → AreMarks values base (all_marks p h parts) → satisfies values (all_unseen p base parts) ≡ true
satisfies-all_unseen p h values has base [] short unseen are = refl
satisfies-all_unseen p h values has base (part ∷ parts) short unseen are =
    let further : AreMarks values (base + length (unseen_marks p h part)) (all_marks p h parts) = marks_back values base (unseen_marks p h part) (all_marks p h parts) are in
    satisfies-append values (unseen_clauses p base part) (all_unseen p (base + unseen_vars p part) parts)
    ∙ and_from _ _
    (satisfies-unseen p h values has base part short.0 unseen.0 (has_other_background p part) refl (marks_front values base (unseen_marks p h part) (all_marks p h parts) are))
    (satisfies-all_unseen p h values has (base + unseen_vars p part) parts short.1 unseen.1
    (subst (λ n. AreMarks values (base + n) (all_marks p h parts)) (length-marks p h part (has_other_background p part)) further))

-- marks that stand behind others
pub marks_behind : (before asked marks : List Bool) → AreMarks (before ++ (asked ++ marks)) (length before + length asked) marks
marks_behind before asked marks k within =
    let place : length before + length asked + k ≡ length before + (length asked + k) = omega arith in
    ap (λ n. get_or (before ++ (asked ++ marks)) n false) place
    ∙ get_or-append-add before (asked ++ marks) (length asked + k) false
    ∙ get_or-append-add asked marks k false

-- of the shorter periods that are excluded
pub IsExact-by_clauses : (p : PosedProblem) (h : History) (values : List Bool) → HasCells p values h → AreFitting p.posed p.demands → (base : ℕ)
    → satisfies values (exact_part p base) ≡ true → IsExact p h
IsExact-by_clauses p h values has fitting base satisfied =
    IsExact-by_excluded p h fitting (all_unseen_by_clauses p h values has base (excluded p.demands) (excluded_short p fitting) satisfied)

pub satisfies-exact_part : (p : PosedProblem) (h : History) (values : List Bool) → HasCells p values h → (base : ℕ) → AreFitting p.posed p.demands → IsExact p h
    → AreMarks values base (all_marks p h (excluded p.demands)) → satisfies values (exact_part p base) ≡ true
satisfies-exact_part p h values has base fitting exact are =
    satisfies-all_unseen p h values has base (excluded p.demands) (excluded_short p fitting) (excluded-exact p h exact) are
