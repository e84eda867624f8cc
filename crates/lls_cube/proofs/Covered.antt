-- Covers: each chosen cube contains forbidden rows only, and each forbidden row is in one.
use Rattle.std.proofs.Common.{◌≡◌, ℕ, zero, suc, ◌+◌, ◌-◌, ◌*◌, ◌/◌, ◌^◌, ◌<◌, ◌≤◌, List, [], ◌∷◌, ◌++◌, Bool, true, false, cond, not, ◌||◌, ◌&&◌, length, refl, ap, ◌∙◌, sym, subst, nat_eq, bit_and, inl, inr, eqb-true, eq-eqb, true≢false, ap₂, le_trans, le_of_eq, zero-add, arith, add-one}
use Rattle.std.specs.Prelude.{All, filter, fold}
use Rattle.std.specs.List.{range_with_len, list_all, list_any}
use Rattle.std.specs.Int.Bits.{and_self}
use Rattle.std.proofs.Math.Pow.{pow-lt}
use Rattle.std.proofs.lemmas.Nat.{and_assoc, and_comm, and_le_l, and_shr}
use Rattle.std.proofs.lemmas.Bool.{and_parts, or_cases, or_left, or_right, cond-true, cond_both, cases_Bool, not-true}
use Rattle.std.proofs.lemmas.Bool.Decides.{eqb_tells, leb_tells, nat_tests}
use Rattle.std.proofs.lemmas.List.{length_push}
use Rattle.std.proofs.lemmas.List.Elements.{All-nil, All-push, All-head, All-tail}
use Rattle.std.proofs.lemmas.List.Folds.{list_any-append}
use Rattle.lls_cube.specs.declared.cube.Cube.{Cube}
use Rattle.lls_cube.specs.Cube.{row_cube, contains}
use Rattle.lls_cube.specs.Table.{is_forbidden, forbidden_rows}
use Rattle.lls_cube.specs.Cover.{forbids_between, forbids_all, all_but, without, after_input, widest, after_row, cover_of}
use Rattle.lls_cube.proofs.Listed.{masked, contains-row_cube}

fold_suc : {A : Type 0} (f : A → ℕ → A) (a n j : ℕ) (x : A) → a + n ≡ j → fold f x (range_with_len a (suc n)) ≡ f (fold f x (range_with_len a n)) j
fold_suc f a zero j x at = ap (f x) (omega arith)
fold_suc f a (suc n) j x at = fold_suc f (a + 1) n j (f x a) (omega arith)

-- a step more of a fold over numbers
pub fold_more : {A : Type 0} (f : A → ℕ → A) (n : ℕ) (x : A) → fold f x (range_with_len 0 (n + 1)) ≡ f (fold f x (range_with_len 0 n)) n
fold_more f n x = rw add-one (fold_suc f 0 n n x (omega arith))

-- both under one mask
both_masked : (v c m : ℕ) → bit_and (bit_and v m) (bit_and c m) ≡ bit_and (bit_and v c) m
both_masked v c m =
    and_assoc (bit_and c m) v m
    ∙ ap (bit_and v) (and_comm m (bit_and c m) ∙ and_assoc m c m ∙ ap (bit_and c) (and_self m))
    ∙ sym (and_assoc m v c)

contains-without : (k i row : ℕ) (cube : Cube) → contains row cube ≡ true → contains row (without k i cube) ≡ true
contains-without k i row cube inside =
    let m = all_but k i in
    let same : bit_and row cube.care ≡ bit_and cube.value cube.care = eqb-true _ _ inside in
    eq-eqb _ _ (sym (and_assoc m row cube.care) ∙ ap (λ bits. bit_and bits m) same ∙ sym (both_masked cube.value cube.care m))

-- what every chosen cube is: no bit of its value isn't cared for, it cares for inputs alone, and its rows are forbidden
pub record IsAllowed (table : List Bool) (k : ℕ) (cube : Cube) : Type 0 where
  pub cared : bit_and cube.value cube.care ≡ cube.value
  pub inputs : cube.care < 2 ^ k
  pub forbids : forbids_all table cube ≡ true

-- a test of all numbers of a range, at one of them
all_at : (p : ℕ → Bool) (a n row : ℕ) → list_all p (range_with_len a n) ≡ true → a ≤ row → row < a + n → p row ≡ true
all_at p a zero row all low high = absurd (omega (arith, low, high))
all_at p a (suc n) row all low high =
    let both = and_parts (p a) (list_all p (range_with_len (a + 1) n)) all in
    elim (eqb_tells a row) [
      | inl t ↦ subst (λ r. p r ≡ true) t.1 both.0
      | inr t ↦ all_at p (a + 1) n row both.1 (omega (arith, low, t.1)) (omega (arith, high))
    ]

all_from : (p : ℕ → Bool) (a n : ℕ) → ((row : ℕ) → a ≤ row → row < a + n → p row ≡ true) → list_all p (range_with_len a n) ≡ true
all_from p a zero each = refl
all_from p a (suc n) each =
    ap (λ b. b && list_all p (range_with_len (a + 1) n)) (each a (omega arith) (omega arith))
    ∙ all_from p (a + 1) n (λ row low high. each row (omega (arith, low)) (omega (arith, high)))

-- one of these rows that is in the cube
forbidden_between : (table : List Bool) (cube : Cube) (a n row : ℕ) → forbids_between table cube a n ≡ true → a ≤ row → row < a + n → contains row cube ≡ true → is_forbidden table row ≡ true
unfolding forbids_between
forbidden_between table cube a n row all low high inside =
    elim (or_cases (not (contains row cube)) (is_forbidden table row) (all_at (λ r. not (contains r cube) || is_forbidden table r) a n row all low high)) [
      | inl out ↦ absurd (true≢false (sym inside ∙ not-true (contains row cube) out))
      | inr also ↦ also
    ]

-- each of these rows is out of the cube, or forbidden
pub between_from : (table : List Bool) (cube : Cube) (a n : ℕ) → ((row : ℕ) → a ≤ row → row < a + n → contains row cube ≡ true → is_forbidden table row ≡ true) → forbids_between table cube a n ≡ true
unfolding forbids_between
between_from table cube a n each =
    all_from (λ r. not (contains r cube) || is_forbidden table r) a n (λ r low high.
    elim (cases_Bool (contains r cube)) [
      | inl inside ↦ or_right (not (contains r cube)) (is_forbidden table r) (each r low high inside)
      | inr outside ↦ or_left (not (contains r cube)) (is_forbidden table r) (ap not outside)
    ])

pub forbidden_in : (table : List Bool) (cube : Cube) (row : ℕ) → forbids_all table cube ≡ true → row < length table → contains row cube ≡ true → is_forbidden table row ≡ true
forbidden_in table cube row all within inside = forbidden_between table cube 0 (length table) row all (omega arith) (omega (arith, within)) inside

-- one of these rows that is in the cube and isn't forbidden
pub not_between : (table : List Bool) (cube : Cube) (a n row : ℕ) → a ≤ row → row < a + n → contains row cube ≡ true → is_forbidden table row ≡ false → false ≡ forbids_between table cube a n
not_between table cube a n row low high inside fails = elim (cases_Bool (forbids_between table cube a n)) [
  | inl all ↦ absurd (true≢false (sym (forbidden_between table cube a n row all low high inside) ∙ fails))
  | inr none ↦ sym none
]

pub between_none : (table : List Bool) (cube : Cube) (a : ℕ) → forbids_between table cube a 0 ≡ true
unfolding forbids_between
between_none table cube a = refl

-- one row more
pub row_passed : (table : List Bool) (cube : Cube) (a n row : ℕ) → a + n ≡ row → forbids_between table cube a n ≡ true → (contains row cube ≡ true → is_forbidden table row ≡ true) → forbids_between table cube a (n + 1) ≡ true
row_passed table cube a n row at so_far here =
    between_from table cube a (n + 1) (λ r low high inside. elim (eqb_tells row r) [
      | inl t ↦ subst (λ i. is_forbidden table i ≡ true) t.1 (here (subst (λ i. contains i cube ≡ true) (sym t.1) inside))
      | inr t ↦ forbidden_between table cube a n r so_far low (omega (arith, at, high, t.1)) inside
    ])

-- the rows of one word more
pub word_passed : (table : List Bool) (cube : Cube) (word : ℕ) → forbids_between table cube 0 (64 * word) ≡ true → forbids_between table cube (64 * word) 64 ≡ true → forbids_between table cube 0 (64 * (word + 1)) ≡ true
word_passed table cube word so_far here =
    between_from table cube 0 (64 * (word + 1)) (λ r low high inside. elim (leb_tells (64 * word) r) [
      | inl t ↦ forbidden_between table cube (64 * word) 64 r here t.1 (omega (arith, high)) inside
      | inr t ↦ forbidden_between table cube 0 (64 * word) r so_far low (omega (arith, t.1)) inside
    ])

pub all_words : (table : List Bool) (cube : Cube) (n : ℕ) → 64 * n ≡ length table → forbids_between table cube 0 (64 * n) ≡ true → true ≡ forbids_all table cube
all_words table cube n all so_far = sym so_far ∙ ap (forbids_between table cube 0) all

-- a word that fails is in the table
pub word_failed : (table : List Bool) (cube : Cube) (word : ℕ) → 64 * (word + 1) ≤ length table → forbids_between table cube (64 * word) 64 ≡ false → false ≡ forbids_all table cube
word_failed table cube word within fails = elim (cases_Bool (forbids_all table cube)) [
  | inl all ↦ absurd (true≢false (sym (between_from table cube (64 * word) 64 (λ r low high inside. forbidden_in table cube r all (omega (arith, within, high)) inside)) ∙ fails))
  | inr none ↦ sym none
]

-- a word that differs from the cube above its own bits has none of its rows
pub word_outside : (table : List Bool) (cube : Cube) (word : ℕ) → nat_eq (bit_and word (cube.care / 64)) (bit_and cube.value cube.care / 64) ≡ false → forbids_between table cube (64 * word) 64 ≡ true
word_outside table cube word apart =
    between_from table cube (64 * word) 64 (λ r low high inside. absurd (true≢false (sym (meets r cube word (omega (arith, low, high)) inside) ∙ apart)))
  where
    meets : (r : ℕ) (cube : Cube) (word : ℕ) → r / 64 ≡ word → contains r cube ≡ true → nat_eq (bit_and word (cube.care / 64)) (bit_and cube.value cube.care / 64) ≡ true
    meets r cube word at inside = eq-eqb _ _ (ap (λ w. bit_and w (cube.care / 64)) (sym at) ∙ sym (and_shr r cube.care 6) ∙ ap (λ n. n / 64) (eqb-true _ _ inside))

-- the weight of an input is below the number of rows
pub weight-lt : (k i : ℕ) → i < k → 2 ^ (k - 1 - i) < 2 ^ k
weight-lt k i within = pow-lt (omega (arith, within))

-- the cube of one row alone
forbids_alone : (table : List Bool) (k row : ℕ) → length table ≡ 2 ^ k → row < 2 ^ k → is_forbidden table row ≡ true → forbids_all table (row_cube k row) ≡ true
forbids_alone table k row size within forbidden =
    between_from table (row_cube k row) 0 (length table) (λ r low high inside.
    subst (λ n. is_forbidden table n ≡ true)
    (sym (eqb-true r row (sym (contains-row_cube k r row (omega (arith, high, size)) within) ∙ inside))) forbidden)

-- a chosen cube of a row
abbrev IsChosen : List Bool → ℕ → ℕ → Cube → Type 0
IsChosen table k row cube = IsAllowed table k cube × (contains row cube ≡ true)

begun : (table : List Bool) (k row : ℕ) → length table ≡ 2 ^ k → row < 2 ^ k → is_forbidden table row ≡ true → IsChosen table k row (row_cube k row)
begun table k row size within forbidden = (
  record { cared = masked k row within; inputs = omega (arith, within); forbids = forbids_alone table k row size within forbidden },
  contains-row_cube k row row within within ∙ eq-eqb row row refl,
)

tried : (table : List Bool) (k row i : ℕ) (cube : Cube) → IsChosen table k row cube → IsChosen table k row (after_input table k cube i)
tried table k row i cube chosen =
    let wider = without k i cube in
    cond_both (forbids_all table wider) wider cube (IsChosen table k row)
    (λ forbids. (
      record {
        cared = both_masked cube.value cube.care (all_but k i) ∙ ap (λ bits. bit_and bits (all_but k i)) chosen.0.cared;
        inputs = omega (arith, and_le_l cube.care (all_but k i), chosen.0.inputs);
        forbids = forbids;
      },
      contains-without k i row cube chosen.1,
    ))
    (λ _. chosen)

all_tried : (table : List Bool) (k row a n : ℕ) (cube : Cube) → IsChosen table k row cube → IsChosen table k row (fold (after_input table k) cube (range_with_len a n))
all_tried table k row a zero cube chosen = chosen
all_tried table k row a (suc n) cube chosen = all_tried table k row (a + 1) n (after_input table k cube a) (tried table k row a cube chosen)

IsChosen-widest : (table : List Bool) (k row : ℕ) → length table ≡ 2 ^ k → row < 2 ^ k → is_forbidden table row ≡ true → IsChosen table k row (widest table k row)
unfolding widest
IsChosen-widest table k row size within forbidden = all_tried table k row 0 k (row_cube k row) (begun table k row size within forbidden)

-- after the rows of a range every chosen cube is allowed
allowed_after : (table : List Bool) (k a n : ℕ) (cubes : List Cube) → length table ≡ 2 ^ k → a + n ≤ 2 ^ k → All (IsAllowed table k) cubes → All (IsAllowed table k) (fold (after_row table k) cubes (range_with_len a n))
allowed_after table k a zero cubes size within allowed = allowed
allowed_after table k a (suc n) cubes size within allowed =
    allowed_after table k (a + 1) n (after_row table k cubes a) size (omega (arith, within))
    (cond_both (is_forbidden table a && not (list_any (contains a) cubes)) (cubes ++ widest table k a ∷ []) cubes (All (IsAllowed table k))
    (λ e. All-push (IsAllowed table k) cubes (widest table k a) allowed
    (IsChosen-widest table k a size (omega (arith, within)) (and_parts (is_forbidden table a) (not (list_any (contains a) cubes)) e).0).0)
    (λ _. allowed))

-- a row that is in a cube stays in one
kept_after : (table : List Bool) (k row a n : ℕ) (cubes : List Cube) → list_any (contains row) cubes ≡ true → list_any (contains row) (fold (after_row table k) cubes (range_with_len a n)) ≡ true
kept_after table k row a zero cubes inside = inside
kept_after table k row a (suc n) cubes inside =
    kept_after table k row (a + 1) n (after_row table k cubes a)
    (cond_both (is_forbidden table a && not (list_any (contains a) cubes)) (cubes ++ widest table k a ∷ []) cubes (λ now. list_any (contains row) now ≡ true)
    (λ e. list_any-append (contains row) cubes (widest table k a ∷ []) ∙ or_left (list_any (contains row) cubes) (list_any (contains row) (widest table k a ∷ [])) inside)
    (λ _. inside))

-- the row at which the choice stands is in a cube after it, where it is forbidden
taken : (table : List Bool) (k row : ℕ) (cubes : List Cube) → length table ≡ 2 ^ k → row < 2 ^ k → is_forbidden table row ≡ true → list_any (contains row) (after_row table k cubes row) ≡ true
taken table k row cubes size within forbidden =
    cond_both (is_forbidden table row && not (list_any (contains row) cubes)) (cubes ++ widest table k row ∷ []) cubes (λ now. list_any (contains row) now ≡ true)
    (λ e. list_any-append (contains row) cubes (widest table k row ∷ [])
    ∙ or_right (list_any (contains row) cubes) (list_any (contains row) (widest table k row ∷ []))
    (or_left (contains row (widest table k row)) false (IsChosen-widest table k row size within forbidden).1))
    (λ e. elim (cases_Bool (list_any (contains row) cubes)) [
      | inl inside ↦ inside
      | inr out ↦ absurd (true≢false (sym (ap₂ (λ a b. a && not b) forbidden out) ∙ e))
    ])

taken_after : (table : List Bool) (k row a n : ℕ) (cubes : List Cube) → length table ≡ 2 ^ k → a + n ≤ 2 ^ k → a ≤ row → row < a + n → is_forbidden table row ≡ true
    → list_any (contains row) (fold (after_row table k) cubes (range_with_len a n)) ≡ true
taken_after table k row a zero cubes size within low high forbidden = absurd (omega (arith, low, high))
taken_after table k row a (suc n) cubes size within low high forbidden =
    elim (cases_Bool (nat_eq a row)) [
      | inl e ↦ kept_after table k row (a + 1) n (after_row table k cubes a)
          (subst (λ r. list_any (contains row) (after_row table k cubes r) ≡ true) (sym (eqb-true a row e)) (taken table k row cubes size (omega (arith, within, high)) forbidden))
      | inr e ↦ taken_after table k row (a + 1) n (after_row table k cubes a) size (omega (arith, within)) (past a row low e) (omega (arith, high)) forbidden
    ]
  where
    past : (a row : ℕ) → a ≤ row → nat_eq a row ≡ false → a + 1 ≤ row
    past a row low apart = grind (arith, nat_tests)

-- a row that is in an allowed cube is forbidden
only_forbidden : (table : List Bool) (k row : ℕ) (cubes : List Cube) → row < length table → All (IsAllowed table k) cubes → list_any (contains row) cubes ≡ true → is_forbidden table row ≡ true
only_forbidden table k row [] within allowed inside = absurd (true≢false (sym inside))
only_forbidden table k row (cube ∷ cubes) within allowed inside =
    elim (or_cases (contains row cube) (list_any (contains row) cubes) inside) [
      | inl here ↦ forbidden_in table cube row (All-head (IsAllowed table k) cube cubes allowed).forbids within here
      | inr later ↦ only_forbidden table k row cubes within (All-tail (IsAllowed table k) cube cubes allowed) later
    ]

pub All-cover : (table : List Bool) (k : ℕ) → length table ≡ 2 ^ k → All (IsAllowed table k) (cover_of table k)
unfolding cover_of
All-cover table k size = allowed_after table k 0 (length table) [] size (omega (arith, size)) (All-nil (IsAllowed table k))

in_cover : (table : List Bool) (k row : ℕ) → length table ≡ 2 ^ k → row < 2 ^ k → is_forbidden table row ≡ true → list_any (contains row) (cover_of table k) ≡ true
unfolding cover_of
in_cover table k row size within forbidden = taken_after table k row 0 (length table) [] size (omega (arith, size)) (omega arith) (omega (arith, size, within)) forbidden

pub list_any-cover : (table : List Bool) (k row : ℕ) → length table ≡ 2 ^ k → row < 2 ^ k → list_any (contains row) (cover_of table k) ≡ is_forbidden table row
list_any-cover table k row size within =
    same_tests (list_any (contains row) (cover_of table k)) (is_forbidden table row)
    (only_forbidden table k row (cover_of table k) (omega (arith, size, within)) (All-cover table k size))
    (in_cover table k row size within)
  where
    same_tests : (a b : Bool) → (a ≡ true → b ≡ true) → (b ≡ true → a ≡ true) → a ≡ b
    same_tests true b there back = sym (there refl)
    same_tests false true there back = back refl
    same_tests false false there back = refl

-- no more cubes than forbidden rows
few_after : (table : List Bool) (k a n : ℕ) (cubes : List Cube)
    → length (fold (after_row table k) cubes (range_with_len a n)) ≤ length cubes + length (filter (is_forbidden table) (range_with_len a n))
few_after table k a zero cubes = omega arith
few_after table k a (suc n) cubes =
    let rest = filter (is_forbidden table) (range_with_len (a + 1) n) in
    le_trans (few_after table k (a + 1) n (after_row table k cubes a)) (one (is_forbidden table a) (list_any (contains a) cubes) (widest table k a) cubes rest a)
  where
    one : (forbidden inside : Bool) (cube : Cube) (cubes : List Cube) (rest : List ℕ) (a : ℕ)
        → length (cond (forbidden && not inside) (cubes ++ cube ∷ []) cubes) + length rest ≤ length cubes + length (cond forbidden (a ∷ rest) rest)
    one false inside cube cubes rest a = omega arith
    one true true cube cubes rest a = omega arith
    one true false cube cubes rest a = omega (arith, length_push cubes cube)

pub length-cover : (table : List Bool) (k : ℕ) → length (cover_of table k) ≤ length (forbidden_rows table)
unfolding cover_of
length-cover table k = le_trans (few_after table k 0 (length table) []) (le_of_eq (zero-add (length (forbidden_rows table))))

pub All-cared : (table : List Bool) (k : ℕ) → length table ≡ 2 ^ k → All (λ cube. bit_and cube.value cube.care ≡ cube.value) (cover_of table k)
All-cared table k size = λ i cube below. (All-cover table k size i cube below).cared

pub All-inputs : (table : List Bool) (k : ℕ) → length table ≡ 2 ^ k → All (λ cube. cube.care < 2 ^ k) (cover_of table k)
All-inputs table k size = λ i cube below. (All-cover table k size i cube below).inputs

-- what the loops have made at their ends
pub cover_made : (table : List Bool) (k n : ℕ) (cubes : List Cube) → n ≡ length table → cubes ≡ fold (after_row table k) [] (range_with_len 0 n) → cubes ≡ cover_of table k
unfolding cover_of
cover_made table k n cubes all so_far = so_far ∙ ap (λ m. fold (after_row table k) [] (range_with_len 0 m)) all

pub widest_made : (table : List Bool) (k row n : ℕ) (cube : Cube) → n ≡ k → cube ≡ fold (after_input table k) (row_cube k row) (range_with_len 0 n) → cube ≡ widest table k row
unfolding widest
widest_made table k row n cube all so_far = so_far ∙ ap (λ m. fold (after_input table k) (row_cube k row) (range_with_len 0 m)) all

pub without_made : (k i mask : ℕ) (cube wider : Cube) → wider ≡ record { care = bit_and cube.care mask; value = bit_and cube.value mask } → mask ≡ all_but k i → wider ≡ without k i cube
without_made k i mask cube wider made is = subst (λ m. wider ≡ record { care = bit_and cube.care m; value = bit_and cube.value m }) is made

pub input_dropped : (table : List Bool) (k i : ℕ) (cube wider : Cube) → wider ≡ without k i cube → forbids_all table wider ≡ true → wider ≡ after_input table k cube i
input_dropped table k i cube wider same forbids =
    same ∙ sym (cond-true (forbids_all table (without k i cube)) (without k i cube) cube (ap (forbids_all table) (sym same) ∙ forbids))

pub input_kept : (table : List Bool) (k i : ℕ) (cube wider : Cube) → wider ≡ without k i cube → forbids_all table wider ≡ false → cube ≡ after_input table k cube i
input_kept table k i cube wider same fails =
    ap (λ b. cond b (without k i cube) cube) (sym fails ∙ ap (forbids_all table) same)
