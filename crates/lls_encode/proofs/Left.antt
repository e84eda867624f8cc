-- The clauses that compare generation 0 with its images say that it comes first of them, and an assignment of such a history satisfies them.
use Rattle.std.proofs.Common.{◌≡◌, ℕ, zero, suc, ◌+◌, ◌*◌, ℤ, Bool, true, false, cond, not, ◌||◌, ◌&&◌, List, [], ◌∷◌, ◌++◌, length, get_or, drop, refl, sym, ap, ◌∙◌, subst, arith, add-one}
use Rattle.std.specs.List.{list_any, flat_map, range_with_len}
use Rattle.std.proofs.Math.Bool.{beq}
use Rattle.std.proofs.lemmas.Bool.{and_parts, and_from}
use Rattle.std.proofs.lemmas.List.Folds.{list_any-append}
use Rattle.lls_lit.specs.Literal.{negation}
use Rattle.lls_lit.specs.Formula.{is_true, satisfies_clause, satisfies}
use Rattle.lls_symmetry.specs.declared.motion.Motion.{Motion}
use Rattle.lls_problem.specs.Problem.{PosedProblem}
use Rattle.lls_encode.specs.Formula.{generation_size, cell_of_generation, difference_variable}
use Rattle.lls_encode.specs.Images.{image_of_cell, before_of, comparison, comparisons}
use Rattle.lls_encode.proofs.Satisfied.{is_true-negation}
use Rattle.lls_encode.proofs.Parts.{satisfies-append}
use Rattle.lls_encode.proofs.Differing.{literal}
use Rattle.lls_encode.proofs.Values.{is_true-cell}
use Rattle.lls_encode.proofs.Unseen.{AreMarks}
use Rattle.lls_encode.proofs.Leading.{leads}

-- what an assignment says of a cell of generation 0, and of its image under a motion
abbrev pub own : List Bool → ℕ → Bool
own values k = get_or values k false

abbrev pub imaged : PosedProblem → Motion → List Bool → ℕ → Bool
imaged p motion values k = get_or values (image_of_cell p motion k) false

pub is_true-own : (p : PosedProblem) (values : List Bool) (k : ℕ) → is_true values (cell_of_generation p 0 k) ≡ get_or values k false
is_true-own p values k =
    let number : k + generation_size p * 0 ≡ k = grind arith in
    is_true-cell values (k + generation_size p * 0) ∙ ap (λ i. get_or values i false) number

-- what a comparison says, by the values of what stands before, of the cell, of its image and of the variable
abbrev says : Bool → Bool → Bool → Bool → Bool
says before cell image same = (before || (cell || not image)) && ((before || (not image || same)) && (before || (cell || same)))

tidy : (d a b : Bool) → (d || (a || (b || false))) ≡ (d || (a || b))
tidy true a b = refl
tidy false true b = refl
tidy false false true = refl
tidy false false false = refl

satisfies_two : (values : List Bool) (before : List ℤ) (a b : ℤ) → satisfies_clause values (before ++ a ∷ b ∷ []) ≡ (list_any (is_true values) before || (is_true values a || is_true values b))
satisfies_two values before a b =
    list_any-append (is_true values) before (a ∷ b ∷ []) ∙ tidy (list_any (is_true values) before) (is_true values a) (is_true values b)

last_true : (a b c : Bool) → (a && (b && (c && true))) ≡ (a && (b && c))
last_true true true true = refl
last_true true true false = refl
last_true true false c = refl
last_true false b c = refl

satisfies-comparison : (p : PosedProblem) (motion : Motion) (values : List Bool) (base : ℕ) (cells : List ℕ) (i : ℕ) → satisfies values (comparison p motion base cells i)
    ≡ says (list_any (is_true values) (before_of base i)) (own values (get_or cells i 0)) (imaged p motion values (get_or cells i 0)) (get_or values (base + i) false)
satisfies-comparison p motion values base cells i =
    let k = get_or cells i 0 in
    let before = before_of base i in
    let cell = cell_of_generation p 0 k in
    let image = cell_of_generation p 0 (image_of_cell p motion k) in
    let same = difference_variable base i in
    let no_image : is_true values (negation image) ≡ not (imaged p motion values k) = is_true-negation values image (literal (image_of_cell p motion k + generation_size p * 0)) ∙ ap not (is_true-own p values (image_of_cell p motion k)) in
    let a : is_true values cell ≡ own values k = is_true-own p values k in
    let e : is_true values same ≡ get_or values (base + i) false = is_true-cell values (base + i) in
    let one = satisfies_two values before cell (negation image) in
    let two = satisfies_two values before (negation image) same in
    let three = satisfies_two values before cell same in
    rw (one, two, three, no_image, a, e)
    (last_true (list_any (is_true values) before || (own values k || not (imaged p motion values k)))
    (list_any (is_true values) before || (not (imaged p motion values k) || get_or values (base + i) false))
    (list_any (is_true values) before || (own values k || get_or values (base + i) false)))

-- the value of what stands before the next
before_next : (values : List Bool) (base i : ℕ) → list_any (is_true values) (before_of base (suc i)) ≡ not (get_or values (base + i) false)
before_next values base i =
    ap (λ b. b || false) (is_true-negation values (difference_variable base i) (literal (base + i)) ∙ ap not (is_true-cell values (base + i)))
    ∙ or_false (not (get_or values (base + i) false))
  where
    or_false : (b : Bool) → (b || false) ≡ b
    or_false true = refl
    or_false false = refl

-- the cell that is next of those that are left
next_of : (cells : List ℕ) (i k : ℕ) (ks : List ℕ) → drop i cells ≡ k ∷ ks → (get_or cells i 0 ≡ k) × (drop (suc i) cells ≡ ks)
next_of [] zero k ks is = cc
next_of [] (suc i) k ks is = cc
next_of (cell ∷ cells) zero k ks is = (cc, cc)
next_of (cell ∷ cells) (suc i) k ks is = next_of cells i k ks is

-- where the clauses of the cells that are left are satisfied and none before differs, the cells lead their images
by_said : (d a b e rest : Bool) → d ≡ false → says d a b e ≡ true → (e ≡ true → rest ≡ true) → cond (beq a b) rest a ≡ true
by_said d true true true rest none said later = later refl
by_said true true true false rest none said later = cc
by_said false true true false rest none said later = cc
by_said d true false e rest none said later = refl
by_said true false true e rest none said later = cc
by_said false false true e rest none said later = cc
by_said d false false true rest none said later = later refl
by_said true false false false rest none said later = cc
by_said false false false false rest none said later = cc

leads_from : (p : PosedProblem) (motion : Motion) (values : List Bool) (base : ℕ) (cells : List ℕ) (i : ℕ) (left : List ℕ) → drop i cells ≡ left
    → list_any (is_true values) (before_of base i) ≡ false → satisfies values (flat_map (comparison p motion base cells) (range_with_len i (length left))) ≡ true
    → leads (own values) (imaged p motion values) left ≡ true
leads_from p motion values base cells i [] is none satisfied = refl
leads_from p motion values base cells i (k ∷ ks) is none satisfied =
    let next = next_of cells i k ks is in
    let parts = and_parts _ _ (sym (satisfies-append values (comparison p motion base cells i) (flat_map (comparison p motion base cells) (range_with_len (i + 1) (length ks)))) ∙ satisfied) in
    let said = subst (λ j. says (list_any (is_true values) (before_of base i)) (own values j) (imaged p motion values j) (get_or values (base + i) false) ≡ true) next.0
    (sym (satisfies-comparison p motion values base cells i) ∙ parts.0) in
    let further : satisfies values (flat_map (comparison p motion base cells) (range_with_len (suc i) (length ks))) ≡ true =
    subst (λ j. satisfies values (flat_map (comparison p motion base cells) (range_with_len j (length ks))) ≡ true) (add-one i) parts.1 in
    by_said (list_any (is_true values) (before_of base i)) (own values k) (imaged p motion values k) (get_or values (base + i) false) (leads (own values) (imaged p motion values) ks) none said
    (λ same. leads_from p motion values base cells (suc i) ks next.1 (before_next values base i ∙ ap not same) further)

pub leads_by_clauses : (p : PosedProblem) (motion : Motion) (values : List Bool) (base : ℕ) (cells : List ℕ) → satisfies values (comparisons p motion base cells) ≡ true
    → leads (own values) (imaged p motion values) cells ≡ true
leads_by_clauses p motion values base cells satisfied = leads_from p motion values base cells 0 cells refl refl satisfied

-- the values of the variables: whether a cell and all before it have the values of their images
abbrev pub marks_from : (ℕ → Bool) → (ℕ → Bool) → Bool → List ℕ → List Bool
marks_from a b same [] = []
marks_from a b same (k ∷ ks) = (same && beq (a k) (b k)) ∷ marks_from a b (same && beq (a k) (b k)) ks

pub length-marks_from : (a b : ℕ → Bool) (same : Bool) (ks : List ℕ) → length (marks_from a b same ks) ≡ length ks
length-marks_from a b same [] = refl
length-marks_from a b same (k ∷ ks) = ap suc (length-marks_from a b (same && beq (a k) (b k)) ks)

-- such values satisfy the clauses where the cells lead
told : (d same a b e rest : Bool) → d ≡ not same → e ≡ (same && beq a b) → (same ≡ true → cond (beq a b) rest a ≡ true) → says d a b e ≡ true
told true same a b e rest before mark lead = refl
told false true true true e rest before mark lead = cc
told false true true false e rest before mark lead = refl
told false true false true e rest before mark lead = let no' = lead refl in cc
told false true false false e rest before mark lead = cc
told false false a b e rest before mark lead = cc

lead_on : (same a b rest : Bool) → (same ≡ true → cond (beq a b) rest a ≡ true) → (same && beq a b) ≡ true → rest ≡ true
lead_on true true true rest lead both = lead refl
lead_on true true false rest lead both = cc
lead_on true false true rest lead both = cc
lead_on true false false rest lead both = lead refl
lead_on false a b rest lead both = cc

satisfies_from : (p : PosedProblem) (motion : Motion) (values : List Bool) (base : ℕ) (cells : List ℕ) (i : ℕ) (left : List ℕ) (same : Bool) → drop i cells ≡ left
    → list_any (is_true values) (before_of base i) ≡ not same → AreMarks values (base + i) (marks_from (own values) (imaged p motion values) same left)
    → (same ≡ true → leads (own values) (imaged p motion values) left ≡ true) → satisfies values (flat_map (comparison p motion base cells) (range_with_len i (length left))) ≡ true
satisfies_from p motion values base cells i [] same is before are lead = refl
satisfies_from p motion values base cells i (k ∷ ks) same is before are lead =
    let next = next_of cells i k ks is in
    let now : Bool = same && beq (own values k) (imaged p motion values k) in
    let rest : Bool = leads (own values) (imaged p motion values) ks in
    let here : base + i + 0 ≡ base + i = omega arith in
    let mark : get_or values (base + i) false ≡ now = ap (λ n. get_or values n false) (sym here) ∙ are 0 (omega arith) in
    let one : satisfies values (comparison p motion base cells i) ≡ true =
    satisfies-comparison p motion values base cells i
    ∙ ap (λ j. says (list_any (is_true values) (before_of base i)) (own values j) (imaged p motion values j) (get_or values (base + i) false)) next.0
    ∙ told (list_any (is_true values) (before_of base i)) same (own values k) (imaged p motion values k) (get_or values (base + i) false) rest before mark lead in
    let others : AreMarks values (base + suc i) (marks_from (own values) (imaged p motion values) now ks) = λ j within.
    let place : base + suc i + j ≡ base + i + suc j = omega arith in
    ap (λ n. get_or values n false) place ∙ are (suc j) (omega (arith, within)) in
    let later : satisfies values (flat_map (comparison p motion base cells) (range_with_len (suc i) (length ks))) ≡ true =
    satisfies_from p motion values base cells (suc i) ks now next.1 (before_next values base i ∙ ap not mark) others (lead_on same (own values k) (imaged p motion values k) rest lead) in
    satisfies-append values (comparison p motion base cells i) (flat_map (comparison p motion base cells) (range_with_len (i + 1) (length ks)))
    ∙ and_from _ _ one (subst (λ j. satisfies values (flat_map (comparison p motion base cells) (range_with_len j (length ks))) ≡ true) (sym (add-one i)) later)

pub satisfies-comparisons : (p : PosedProblem) (motion : Motion) (values : List Bool) (base : ℕ) (cells : List ℕ)
    → AreMarks values base (marks_from (own values) (imaged p motion values) true cells) → leads (own values) (imaged p motion values) cells ≡ true
    → satisfies values (comparisons p motion base cells) ≡ true
satisfies-comparisons p motion values base cells are lead =
    let here : base ≡ base + 0 = omega arith in
    satisfies_from p motion values base cells 0 cells true refl refl (subst (λ n. AreMarks values n (marks_from (own values) (imaged p motion values) true cells)) here are) (λ same. lead)
