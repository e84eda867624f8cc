-- What the clauses of the tables say of the values of a transition's inputs.
use Rattle.std.proofs.Common.{◌≡◌, ℕ, ◌+◌, ◌*◌, ◌/◌, ◌%◌, ◌^◌, ◌<◌, nat_eq, List, [], ◌∷◌, ◌++◌, Bool, true, false, cond, not, ◌&&◌, map, take, length, get_or, refl, ap, ap₂, ◌∙◌, sym, subst, arith, length-append}
use Rattle.std.specs.Prelude.{All}
use Rattle.std.specs.List.{list_all, list_any}
use Rattle.std.proofs.Math.Bool.{beq}
use Rattle.std.proofs.lemmas.List.{length-map, map-append}
use Rattle.lls_lit.specs.Formula.{satisfies}
use Rattle.lls_rule.specs.Rule.{answer, number_of}
use Rattle.lls_rule.proofs.Numbers.{number_of-lt, number_of-append}
use Rattle.lls_cube.specs.declared.cube.Cube.{Cube}
use Rattle.lls_transition.specs.declared.place.Place.{Place}
use Rattle.lls_transition.specs.Place.{place_within, value_of}
use Rattle.lls_transition.specs.Clause.{row_of}
use Rattle.lls_transition.specs.Transition.{is_forbidden}
use Rattle.lls_transition.proofs.Excluded.{halved, number_of-split, satisfies-cube_clauses}
use Rattle.lls_transition.proofs.Obeyed.{is_forbidden-row}
use Rattle.lls_problem.specs.declared.form.Form.{Form}
use Rattle.lls_encode.specs.Formula.{cubes_in, clauses_at}
use Rattle.lls_encode.proofs.Obeyed.{satisfies-clauses_at}
use Rattle.lls_encode.proofs.Taken.{list_any-cubes_in}
use Rattle.lls_open.specs.declared.class.SideClass.{SideClass}
use Rattle.lls_open.specs.Classes.{is_of}
use Rattle.lls_open.specs.Formula.{is_settled_forbidden, settled_table, is_class_forbidden, class_table}
use Rattle.lls_open.proofs.Few.{length-settled_table, settled_table-at, length-class_table, class_table-at, All-settled, All-class}

row_in : (values : List Bool) (inputs : List Place) (n : ℕ) → length inputs ≡ n → row_of values inputs < 2 ^ n
row_in values inputs n count = subst (λ m. row_of values inputs < 2 ^ m) (length-map inputs (value_of values) ∙ count) (number_of-lt (map (value_of values) inputs))

-- the clauses of the table of ten inputs, and of a class's
settled-row : (values : List Bool) (vars : ℕ) (form : Form) (low : List Bool) (classes : List SideClass) (inputs : List Place) → list_all (place_within vars) inputs ≡ true → length inputs ≡ 10
    → satisfies values (clauses_at form (cubes_in form 10 (settled_table low classes)) inputs) ≡ not (is_settled_forbidden low classes (row_of values inputs))
settled-row values vars form low classes inputs within ten =
    let table = settled_table low classes in
    let row = row_of values inputs in
    let inside = row_in values inputs 10 ten in
    satisfies-clauses_at values form (cubes_in form 10 table) inputs
    ∙ satisfies-cube_clauses values vars inputs (cubes_in form 10 table) within (subst (λ (n : ℕ). All (λ (cube : Cube). cube.care < 2 ^ n) (cubes_in form 10 table)) (sym ten) (All-settled form low classes))
    ∙ ap not (list_any-cubes_in form 10 row table (length-settled_table low classes) inside ∙ settled_table-at low classes row inside)

class-row : (values : List Bool) (vars : ℕ) (form : Form) (class : SideClass) (inputs : List Place) → list_all (place_within vars) inputs ≡ true → length inputs ≡ 11
    → satisfies values (clauses_at form (cubes_in form 11 (class_table class)) inputs) ≡ not (is_class_forbidden class (row_of values inputs))
class-row values vars form class inputs within eleven =
    let table = class_table class in
    let row = row_of values inputs in
    let inside = row_in values inputs 11 eleven in
    satisfies-clauses_at values form (cubes_in form 11 table) inputs
    ∙ satisfies-cube_clauses values vars inputs (cubes_in form 11 table) within (subst (λ (n : ℕ). All (λ (cube : Cube). cube.care < 2 ^ n) (cubes_in form 11 table)) (sym eleven) (All-class form class))
    ∙ ap not (list_any-cubes_in form 11 row table (length-class_table class) inside ∙ class_table-at class row inside)

-- of a row of ten, the neighbourhood and the last bit
is_settled_forbidden-row : (low : List Bool) (classes : List SideClass) (n : ℕ) (last : Bool)
    → is_settled_forbidden low classes (2 * n + cond last 1 0) ≡ (not (list_any (λ class. is_of class n) classes) && cond (answer low n) (not last) last)
is_settled_forbidden-row low classes n last =
    ap (λ m. not (list_any (λ class. is_of class m) classes) && is_forbidden low (2 * n + cond last 1 0)) (halved n last)
    ∙ ap (λ b. not (list_any (λ class. is_of class n) classes) && b) (is_forbidden-row low n last)

-- of a row of eleven, the neighbourhood and the last two bits
quarter : (n : ℕ) (a b : Bool) → (2 * (2 * n + cond a 1 0) + cond b 1 0) / 4 ≡ n
quarter n true true = omega arith
quarter n true false = omega arith
quarter n false true = omega arith
quarter n false false = omega arith

last_but_one : (n : ℕ) (a b : Bool) → nat_eq ((2 * (2 * n + cond a 1 0) + cond b 1 0) / 2 % 2) 1 ≡ a
last_but_one n true true = let odd : (2 * (2 * n + 1) + 1) / 2 % 2 ≡ 1 = omega arith in rw odd refl
last_but_one n true false = let odd : (2 * (2 * n + 1) + 0) / 2 % 2 ≡ 1 = omega arith in rw odd refl
last_but_one n false true = let even : (2 * (2 * n + 0) + 1) / 2 % 2 ≡ 0 = omega arith in rw even refl
last_but_one n false false = let even : (2 * (2 * n + 0) + 0) / 2 % 2 ≡ 0 = omega arith in rw even refl

last_one : (n : ℕ) (a b : Bool) → nat_eq ((2 * (2 * n + cond a 1 0) + cond b 1 0) % 2) 1 ≡ b
last_one n true true = let odd : (2 * (2 * n + 1) + 1) % 2 ≡ 1 = omega arith in rw odd refl
last_one n true false = let even : (2 * (2 * n + 1) + 0) % 2 ≡ 0 = omega arith in rw even refl
last_one n false true = let odd : (2 * (2 * n + 0) + 1) % 2 ≡ 1 = omega arith in rw odd refl
last_one n false false = let even : (2 * (2 * n + 0) + 0) % 2 ≡ 0 = omega arith in rw even refl

is_class_forbidden-row : (class : SideClass) (n : ℕ) (last value : Bool) → is_class_forbidden class (2 * (2 * n + cond last 1 0) + cond value 1 0) ≡ (is_of class n && not (beq last value))
is_class_forbidden-row class n last value =
    let row : ℕ = 2 * (2 * n + cond last 1 0) + cond value 1 0 in
    ap (λ m. is_of class m && not (beq (nat_eq (row / 2 % 2) 1) (nat_eq (row % 2) 1))) (quarter n last value)
    ∙ ap₂ (λ a b. is_of class n && not (beq a b)) (last_but_one n last value) (last_one n last value)

-- the neighbourhood's number and the next value, of ten values
pub record AreTen (bits : List Bool) (n : ℕ) (last : Bool) : Type 0 where
  pub ten : length bits ≡ 10
  pub neighbourhood : number_of (take 9 bits) ≡ n
  pub next : get_or bits 9 false ≡ last

number_of-ten : (bits : List Bool) (n : ℕ) (last : Bool) → AreTen bits n last → number_of bits ≡ 2 * n + cond last 1 0
number_of-ten bits n last are =
    number_of-split 9 bits are.ten ∙ ap₂ (λ m b. 2 * m + cond b 1 0) are.neighbourhood are.next

pub settled-says : (values : List Bool) (vars : ℕ) (form : Form) (low : List Bool) (classes : List SideClass) (inputs : List Place) (n : ℕ) (last : Bool) → list_all (place_within vars) inputs ≡ true
    → AreTen (map (value_of values) inputs) n last
    → satisfies values (clauses_at form (cubes_in form 10 (settled_table low classes)) inputs) ≡ not (not (list_any (λ class. is_of class n) classes) && cond (answer low n) (not last) last)
settled-says values vars form low classes inputs n last within are =
    settled-row values vars form low classes inputs within (sym (length-map inputs (value_of values)) ∙ are.ten)
    ∙ ap not (ap (is_settled_forbidden low classes) (number_of-ten _ n last are) ∙ is_settled_forbidden-row low classes n last)

pub class-says : (values : List Bool) (vars : ℕ) (form : Form) (class : SideClass) (inputs : List Place) (variable : Place) (n : ℕ) (last : Bool) → list_all (place_within vars) (inputs ++ variable ∷ []) ≡ true
    → AreTen (map (value_of values) inputs) n last
    → satisfies values (clauses_at form (cubes_in form 11 (class_table class)) (inputs ++ variable ∷ [])) ≡ not (is_of class n && not (beq last (value_of values variable)))
class-says values vars form class inputs variable n last within are =
    let bits : List Bool = map (value_of values) inputs in
    let value : Bool = value_of values variable in
    let row : row_of values (inputs ++ variable ∷ []) ≡ 2 * (2 * n + cond last 1 0) + cond value 1 0 =
    ap number_of (map-append (value_of values) inputs (variable ∷ []))
    ∙ number_of-append bits value
    ∙ ap (λ m. 2 * m + cond value 1 0) (number_of-ten bits n last are) in
    class-row values vars form class (inputs ++ variable ∷ []) within
    (omega (arith, length-append inputs (variable ∷ []), length-map inputs (value_of values), are.ten))
    ∙ ap not (ap (is_class_forbidden class) row ∙ is_class_forbidden-row class n last value)
