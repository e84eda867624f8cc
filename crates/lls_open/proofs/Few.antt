-- The tables of a transition whose rule is open: how many rows they have, and how many they forbid at most.
use Rattle.std.proofs.Common.{◌≡◌, ℕ, zero, suc, ◌+◌, ◌*◌, ◌/◌, ◌%◌, ◌^◌, ◌<◌, ◌≤◌, nat_eq, List, [], ◌∷◌, Bool, true, false, cond, not, ◌&&◌, length, refl, ap, ◌∙◌, arith, length-append}
use Rattle.std.specs.Prelude.{All, filter}
use Rattle.std.proofs.Math.Bool.{beq}
use Rattle.std.specs.List.{flat_map, range_with_len}
use Rattle.std.proofs.lemmas.List.FromFn.{length-map-range_with_len, get_or-map-range_with_len, length-range_with_len}
use Rattle.lls_lit.specs.Formula.{Clause}
use Rattle.lls_cube.specs.declared.cube.Cube.{Cube}
use Rattle.lls_cube.specs.Table.{is_forbidden, forbidden_rows}
use Rattle.lls_transition.specs.declared.place.Place.{Place}
use Rattle.lls_problem.specs.declared.form.Form.{Form}
use Rattle.lls_problem.specs.Problem.{PosedProblem}
use Rattle.lls_encode.specs.Formula.{cubes_in, clauses_at}
use Rattle.lls_encode.proofs.Taken.{All-cubes_in, length-cubes_in}
use Rattle.lls_encode.proofs.Bounds.{length-clauses_at}
use Rattle.lls_encode.proofs.Steps.{length-flat_map_most}
use Rattle.lls_open.specs.Classes.{class_number}
use Rattle.lls_open.specs.declared.class.SideClass.{SideClass}
use Rattle.lls_open.specs.declared.target.Target.{Target}
use Rattle.lls_open.specs.Formula.{is_settled_forbidden, settled_table, is_class_forbidden, class_table, class_inputs, class_clauses, open_clauses}

pub length-settled_table : (low : List Bool) (classes : List SideClass) → length (settled_table low classes) ≡ 1024
unfolding settled_table
length-settled_table low classes = length-map-range_with_len (is_settled_forbidden low classes) 0 1024

pub settled_table-at : (low : List Bool) (classes : List SideClass) (row : ℕ) → row < 1024 → is_forbidden (settled_table low classes) row ≡ is_settled_forbidden low classes row
unfolding settled_table
settled_table-at low classes row inside = get_or-map-range_with_len (is_settled_forbidden low classes) 0 1024 row row false inside (omega arith)

pub length-class_table : (class : SideClass) → length (class_table class) ≡ 2048
unfolding class_table
length-class_table class = length-map-range_with_len (is_class_forbidden class) 0 2048

pub class_table-at : (class : SideClass) (row : ℕ) → row < 2048 → is_forbidden (class_table class) row ≡ is_class_forbidden class row
unfolding class_table
class_table-at class row inside = get_or-map-range_with_len (is_class_forbidden class) 0 2048 row row false inside (omega arith)

-- no more rows than the table has
length-filter-le : (p : ℕ → Bool) (xs : List ℕ) → length (filter p xs) ≤ length xs
length-filter-le p [] = omega arith
length-filter-le p (x ∷ xs) =
    elim (p x) as (λ b. length (cond b (x ∷ filter p xs) (filter p xs)) ≤ suc (length xs)) [ true ↦ omega (arith, length-filter-le p xs) | false ↦ omega (arith, length-filter-le p xs) ]

pub few_settled : (low : List Bool) (classes : List SideClass) → length (forbidden_rows (settled_table low classes)) ≤ 1024
few_settled low classes =
    omega (
      arith,
      length-filter-le (is_forbidden (settled_table low classes)) (range_with_len 0 (length (settled_table low classes))),
      length-range_with_len 0 (length (settled_table low classes)),
      length-settled_table low classes,
    )

-- of four rows that differ in the last two bits alone, at most two are forbidden
right_false : (b c : Bool) → c ≡ false → (b && c) ≡ false
right_false true c e = e
right_false false c e = refl

outer : (class : SideClass) (a b : ℕ) → b ≡ 4 * a → (is_class_forbidden class b ≡ false) × (is_class_forbidden class (b + 1 + 1 + 1) ≡ false)
outer class a b is =
    let low : b / 2 % 2 ≡ 0 = omega (arith, is) in
    let lowest : b % 2 ≡ 0 = omega (arith, is) in
    let high : (b + 1 + 1 + 1) / 2 % 2 ≡ 1 = omega (arith, is) in
    let highest : (b + 1 + 1 + 1) % 2 ≡ 1 = omega (arith, is) in (
      right_false _ _ (ap (λ n. not (beq (nat_eq n 1) (nat_eq (b % 2) 1))) low ∙ ap (λ n. not (beq (nat_eq 0 1) (nat_eq n 1))) lowest),
      right_false _ _ (ap (λ n. not (beq (nat_eq n 1) (nat_eq ((b + 1 + 1 + 1) % 2) 1))) high ∙ ap (λ n. not (beq (nat_eq 1 1) (nat_eq n 1))) highest),
    )

two_of : (w x y z : Bool) (a b c d : ℕ) (rest : List ℕ) → w ≡ false → z ≡ false
    → length (cond w (a ∷ cond x (b ∷ cond y (c ∷ cond z (d ∷ rest) rest) (cond z (d ∷ rest) rest)) (cond y (c ∷ cond z (d ∷ rest) rest) (cond z (d ∷ rest) rest)))
    (cond x (b ∷ cond y (c ∷ cond z (d ∷ rest) rest) (cond z (d ∷ rest) rest)) (cond y (c ∷ cond z (d ∷ rest) rest) (cond z (d ∷ rest) rest)))) ≤ 2 + length rest
two_of true x y z a b c d rest e e' = cc
two_of false x y true a b c d rest e e' = cc
two_of false true true false a b c d rest e e' = omega arith
two_of false true false false a b c d rest e e' = omega arith
two_of false false true false a b c d rest e e' = omega arith
two_of false false false false a b c d rest e e' = omega arith

abbrev fours : ℕ → ℕ
fours zero = zero
fours (suc n) = suc (suc (suc (suc (fours n))))

count_fours : (class : SideClass) (a b n : ℕ) → b ≡ 4 * a → length (filter (is_class_forbidden class) (range_with_len b (fours n))) ≤ 2 * n
count_fours class a b zero is = omega arith
count_fours class a b (suc n) is =
    let sides = outer class a b is in
    let rest = filter (is_class_forbidden class) (range_with_len (b + 1 + 1 + 1 + 1) (fours n)) in
    let more = count_fours class (a + 1) (b + 1 + 1 + 1 + 1) n (omega (arith, is)) in
    omega (
      arith,
      more,
      two_of (is_class_forbidden class b) (is_class_forbidden class (b + 1)) (is_class_forbidden class (b + 1 + 1)) (is_class_forbidden class (b + 1 + 1 + 1)) b (b + 1) (b + 1 + 1) (b + 1 + 1 + 1) rest sides.0 sides.1,
    )

filter_cons : (p q : ℕ → Bool) (x : ℕ) (xs ys : List ℕ) → p x ≡ q x → xs ≡ ys → cond (p x) (x ∷ xs) xs ≡ cond (q x) (x ∷ ys) ys
filter_cons p q x xs ys e e' = rw (e, e') refl

filter_same : (p q : ℕ → Bool) (a n : ℕ) → ((i : ℕ) → i < a + n → p i ≡ q i) → filter p (range_with_len a n) ≡ filter q (range_with_len a n)
filter_same p q a zero same = refl
filter_same p q a (suc n) same =
    filter_cons p q a (filter p (range_with_len (a + 1) n)) (filter q (range_with_len (a + 1) n)) (same a (omega arith)) (filter_same p q (a + 1) n (λ i inside. same i (omega arith)))

pub few_of_class : (class : SideClass) → length (forbidden_rows (class_table class)) ≤ 1024
few_of_class class =
    let rows : forbidden_rows (class_table class) ≡ filter (is_class_forbidden class) (range_with_len 0 2048) =
    ap (λ n. filter (is_forbidden (class_table class)) (range_with_len 0 n)) (length-class_table class)
    ∙ filter_same (is_forbidden (class_table class)) (is_class_forbidden class) 0 2048 (λ row inside. class_table-at class row (omega (arith, inside))) in
    omega (arith, ap length rows, count_fours class 0 0 512 refl)

-- the cubes and the clauses of these tables
pub All-settled : (form : Form) (low : List Bool) (classes : List SideClass) → All (λ (cube : Cube). cube.care < 2 ^ 10) (cubes_in form 10 (settled_table low classes))
All-settled form low classes = All-cubes_in form 10 (settled_table low classes) (length-settled_table low classes)

pub All-class : (form : Form) (class : SideClass) → All (λ (cube : Cube). cube.care < 2 ^ 11) (cubes_in form 11 (class_table class))
All-class form class = All-cubes_in form 11 (class_table class) (length-class_table class)

pub length-settled : (form : Form) (low : List Bool) (classes : List SideClass) → length (cubes_in form 10 (settled_table low classes)) ≤ 1024
length-settled form low classes = omega (arith, length-cubes_in form 10 (settled_table low classes), few_settled low classes)

pub length-class : (form : Form) (class : SideClass) → length (cubes_in form 11 (class_table class)) ≤ 1024
length-class form class = omega (arith, length-cubes_in form 11 (class_table class), few_of_class class)

-- of a class, and of all tables
pub length-class_clauses : (p : PosedProblem) (form : Form) (classes : List SideClass) (inputs : List Place) (k : ℕ) → length (class_clauses p form classes inputs k) ≤ 1024
length-class_clauses p form classes inputs k =
    omega (arith, length-clauses_at form (cubes_in form 11 (class_table (class_number classes k))) (class_inputs p inputs k), length-class form (class_number classes k))

pub length-open_clauses : (p : PosedProblem) (form : Form) (classes : List SideClass) (inputs : List Place) → length classes ≤ 102 → length (open_clauses p form classes inputs) ≤ 105472
length-open_clauses p form classes inputs few =
    let settled = cubes_in form 10 (settled_table p.rule classes) in
    omega (
      arith,
      few,
      length-append (clauses_at form settled inputs) (flat_map (class_clauses p form classes inputs) (range_with_len 0 (length classes))),
      length-clauses_at form settled inputs,
      length-settled form p.rule classes,
      length-flat_map_most (class_clauses p form classes inputs) 1024 (length-class_clauses p form classes inputs) 0 (length classes),
    )

-- and of places
pub length-so_far : (f : Target → List Clause) (m : ℕ) → ((target : Target) → length (f target) ≤ m) → (xs : List Target) → length (flat_map f xs) ≤ m * length xs
length-so_far f m each [] = omega arith
length-so_far f m each (x ∷ xs) =
    let more = length-so_far f m each xs in
    let all : m * length (x ∷ xs) ≡ m + m * length xs = grind arith in
    omega (arith, all, more, each x, length-append (f x) (flat_map f xs))
