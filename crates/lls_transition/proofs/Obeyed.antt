-- An assignment satisfies the clauses of a transition exactly where it obeys the rule.
use Rattle.std.proofs.Common.{◌↔◌, ◌≡◌, ℕ, zero, suc, ◌+◌, ◌*◌, ◌/◌, ◌%◌, ◌^◌, ◌<◌, ◌≤◌, List, [], ◌∷◌, Bool, true, false, not, cond, map, take, length, get_or, refl, ap, ◌∙◌, sym, subst, arith}
use Rattle.std.specs.Prelude.{All, filter}
use Rattle.std.specs.List.{list_all, range_with_len, take-map}
use Rattle.std.proofs.lemmas.List.{length-map, get_or-map}
use Rattle.std.proofs.lemmas.List.Elements.{All-nil, All-cons}
use Rattle.std.proofs.lemmas.List.FromFn.{length-map-range_with_len, get_or-map-range_with_len}
use Rattle.lls_lit.specs.Formula.{satisfies}
use Rattle.lls_rule.specs.Rule.{answer, number_of}
use Rattle.lls_rule.proofs.Numbers.{number_of-lt}
use Rattle.lls_cube.specs.declared.cube.Cube.{Cube}
use Rattle.lls_cube.specs.Table.{forbidden_rows}
use Rattle.lls_cube.specs.Table as table
use Rattle.lls_cube.specs.Cube.{row_cube}
use Rattle.lls_cube.specs.Cover.{cover_of}
use Rattle.lls_cube.proofs.Listed.{list_any-cubes}
use Rattle.lls_cube.proofs.Covered.{list_any-cover, length-cover, All-inputs}
use Rattle.lls_transition.specs.declared.place.Place.{Place}
use Rattle.lls_transition.specs.declared.place.Place.TheVariants.{Known}
use Rattle.lls_transition.specs.Place.{place_within, value_of}
use Rattle.lls_transition.specs.Clause.{cube_clauses, row_of}
use Rattle.lls_transition.specs.Transition.{is_forbidden, table_of, transition_clauses, ContainForbidden, Obeys}
use Rattle.lls_transition.proofs.Excluded.{number_of-split, satisfies-cube_clauses}

length-table_of : (rule : List Bool) → length (table_of rule) ≡ 1024
unfolding table_of
length-table_of rule = length-map-range_with_len (is_forbidden rule) 0 1024

is_forbidden-table_of : (rule : List Bool) (row : ℕ) → row < 1024 → table.is_forbidden (table_of rule) row ≡ is_forbidden rule row
unfolding table_of
is_forbidden-table_of rule row inside = get_or-map-range_with_len (is_forbidden rule) 0 1024 row row false inside (omega arith)

small_cares : (rows : List ℕ) → All (λ (cube : Cube). cube.care < 1024) (map (row_cube 10) rows)
small_cares [] = All-nil (λ (cube : Cube). cube.care < 1024)
small_cares (row ∷ rows) = All-cons (λ (cube : Cube). cube.care < 1024) (row_cube 10 row) (map (row_cube 10) rows) (omega arith) (small_cares rows)

row_in : (values : List Bool) (inputs : List Place) → length inputs ≡ 10 → row_of values inputs < 1024
row_in values inputs ten =
    subst (λ n. row_of values inputs < 2 ^ n) (length-map inputs (value_of values) ∙ ten) (number_of-lt (map (value_of values) inputs))

-- the cubes care for no input but those of a transition
pub cares_of : (rule : List Bool) (inputs : List Place) (cubes : List Cube) → length inputs ≡ 10 → ContainForbidden rule cubes → All (λ cube. cube.care < 2 ^ length inputs) cubes
cares_of rule inputs cubes ten just = subst (λ (n : ℕ). All (λ (cube : Cube). cube.care < 2 ^ n) cubes) (sym ten) just.inputs

-- the row of the inputs' values isn't forbidden
satisfies-forbidden : (values : List Bool) (vars : ℕ) (rule : List Bool) (inputs : List Place) (cubes : List Cube) → list_all (place_within vars) inputs ≡ true → length inputs ≡ 10 → ContainForbidden rule cubes
    → satisfies values (cube_clauses inputs cubes) ≡ not (is_forbidden rule (row_of values inputs))
satisfies-forbidden values vars rule inputs cubes all ten just =
    let row = row_of values inputs in
    let inside = row_in values inputs ten in
    satisfies-cube_clauses values vars inputs cubes all (cares_of rule inputs cubes ten just) ∙ ap not (just.rows row inside ∙ is_forbidden-table_of rule row inside)

-- the cubes of the forbidden rows
pub forbidden_cubes : (rule : List Bool) → ContainForbidden rule (map (row_cube 10) (forbidden_rows (table_of rule)))
forbidden_cubes rule = record {
  inputs = small_cares (forbidden_rows (table_of rule));
  rows = λ row inside. list_any-cubes (table.is_forbidden (table_of rule)) 10 (length (table_of rule)) row (length-table_of rule) inside;
}

-- and the cover of them
pub covering_cubes : (rule : List Bool) → ContainForbidden rule (cover_of (table_of rule) 10)
covering_cubes rule = record {
  inputs = All-inputs (table_of rule) 10 (length-table_of rule);
  rows = λ row inside. list_any-cover (table_of rule) 10 row (length-table_of rule) inside;
}

-- a row by its last bit and the nine before it
halved : (n : ℕ) → ((2 * n + 0) / 2 ≡ n) × ((2 * n + 0) % 2 ≡ 0)
halved n = (omega arith, omega arith)

halved_odd : (n : ℕ) → ((2 * n + 1) / 2 ≡ n) × ((2 * n + 1) % 2 ≡ 1)
halved_odd n = (omega arith, omega arith)

pub is_forbidden-row : (rule : List Bool) (n : ℕ) (last : Bool) → is_forbidden rule (2 * n + cond last 1 0) ≡ cond (answer rule n) (not last) last
is_forbidden-row rule n true = rw ((halved_odd n).0, (halved_odd n).1) refl
is_forbidden-row rule n false = rw ((halved n).0, (halved n).1) refl

agrees : (a b : Bool) → (not (cond a (not b) b) ≡ true) ↔ (b ≡ a)
agrees true true = (λ e. refl, λ e. refl)
agrees true false = (λ e. cc, λ e. cc)
agrees false true = (λ e. cc, λ e. cc)
agrees false false = (λ e. refl, λ e. refl)

both : (p : Bool) (a b last answered : Bool) → p ≡ not (cond a (not b) b) → b ≡ last → a ≡ answered → (p ≡ true) ↔ (last ≡ answered)
both p a b last answered e at_last at_answer =
    subst (λ q. (q ≡ true) ↔ (last ≡ answered)) (sym e) (subst (λ l. (not (cond a (not b) b) ≡ true) ↔ (l ≡ answered)) at_last (subst (λ r. (not (cond a (not b) b) ≡ true) ↔ (b ≡ r)) at_answer (agrees a b)))

-- clauses of cubes that contain just the forbidden rows
pub cubes_obey : (values : List Bool) (vars : ℕ) (rule : List Bool) (inputs : List Place) (cubes : List Cube) → list_all (place_within vars) inputs ≡ true → length inputs ≡ 10 → ContainForbidden rule cubes
    → (satisfies values (cube_clauses inputs cubes) ≡ true) ↔ Obeys values rule inputs
cubes_obey values vars rule inputs cubes all ten just =
    let bits : List Bool = map (value_of values) inputs in
    let count : length bits ≡ 10 = length-map inputs (value_of values) ∙ ten in
    both (satisfies values (cube_clauses inputs cubes)) (answer rule (number_of (take 9 bits))) (get_or bits 9 false) _ _
    (satisfies-forbidden values vars rule inputs cubes all ten just ∙ ap not (ap (is_forbidden rule) (number_of-split 9 bits count) ∙ is_forbidden-row rule (number_of (take 9 bits)) (get_or bits 9 false)))
    (get_or-map (value_of values) inputs 9 (Known false) false (omega arith))
    (ap (λ bs. answer rule (number_of bs)) (take-map (value_of values) 9 inputs))

pub satisfies_obeys : (values : List Bool) (vars : ℕ) (rule : List Bool) (inputs : List Place) → list_all (place_within vars) inputs ≡ true → length inputs ≡ 10
    → (satisfies values (transition_clauses rule inputs) ≡ true) ↔ Obeys values rule inputs
satisfies_obeys values vars rule inputs all ten = cubes_obey values vars rule inputs (map (row_cube 10) (forbidden_rows (table_of rule))) all ten (forbidden_cubes rule)

-- of two rows that differ in the last bit alone, one is forbidden
one_of : (a x y : Bool) (b c : ℕ) (rest : List ℕ) → x ≡ cond a true false → y ≡ cond a false true → length (cond x (b ∷ cond y (c ∷ rest) rest) (cond y (c ∷ rest) rest)) ≡ suc (length rest)
one_of true x y b c rest e e' = rw (e, e') refl
one_of false x y b c rest e e' = rw (e, e') refl

abbrev twice : ℕ → ℕ
twice zero = zero
twice (suc n) = suc (suc (twice n))

count_pairs : (rule : List Bool) (a b n : ℕ) → b ≡ 2 * a → length (filter (is_forbidden rule) (range_with_len b (twice n))) ≡ n
count_pairs rule a b zero even = refl
count_pairs rule a b (suc n) even =
    one_of (answer rule a) (is_forbidden rule b) (is_forbidden rule (b + 1)) b (b + 1) (filter (is_forbidden rule) (range_with_len (b + 1 + 1) (twice n)))
    (ap (is_forbidden rule) (plus_none a b even) ∙ is_forbidden-row rule a false)
    (ap (λ m. is_forbidden rule (m + 1)) even ∙ is_forbidden-row rule a true)
    ∙ ap suc (count_pairs rule (a + 1) (b + 1 + 1) n (omega arith))
  where
    plus_none : (a b : ℕ) → b ≡ 2 * a → b ≡ 2 * a + 0
    plus_none a b even = omega arith

filter_cons : (p q : ℕ → Bool) (x : ℕ) (xs ys : List ℕ) → p x ≡ q x → xs ≡ ys → cond (p x) (x ∷ xs) xs ≡ cond (q x) (x ∷ ys) ys
filter_cons p q x xs ys e e' = rw (e, e') refl

filter_same : (p q : ℕ → Bool) (a n : ℕ) → ((i : ℕ) → i < a + n → p i ≡ q i) → filter p (range_with_len a n) ≡ filter q (range_with_len a n)
filter_same p q a zero same = refl
filter_same p q a (suc n) same =
    filter_cons p q a (filter p (range_with_len (a + 1) n)) (filter q (range_with_len (a + 1) n)) (same a (omega arith)) (filter_same p q (a + 1) n (λ i inside. same i (omega arith)))

-- so a rule forbids half of the rows
pub length-forbidden_rows : (rule : List Bool) → length (forbidden_rows (table_of rule)) ≡ 512
length-forbidden_rows rule =
    ap (λ n. length (filter (table.is_forbidden (table_of rule)) (range_with_len 0 n))) (length-table_of rule)
    ∙ ap length (filter_same (table.is_forbidden (table_of rule)) (is_forbidden rule) 0 1024 (λ row inside. is_forbidden-table_of rule row (omega arith)))
    ∙ count_pairs rule 0 0 512 refl

pub length-cubes : (rule : List Bool) (cubes : List Cube) → cubes ≡ map (row_cube 10) (forbidden_rows (table_of rule)) → length cubes ≡ 512
length-cubes rule cubes is = ap length is ∙ length-map (forbidden_rows (table_of rule)) (row_cube 10) ∙ length-forbidden_rows rule

pub length-covering_cubes : (rule : List Bool) → length (cover_of (table_of rule) 10) ≤ 512
length-covering_cubes rule = omega (arith, length-cover (table_of rule) 10, length-forbidden_rows rule)
