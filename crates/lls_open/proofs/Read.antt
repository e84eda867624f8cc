-- The clauses of a transition by the values of the cells that it reads and of the open classes' variables.
use Rattle.std.proofs.Common.{◌≡◌, ℕ, ◌+◌, ◌<◌, ℤ, pos, List, [], ◌∷◌, Bool, true, false, cond, not, ◌&&◌, map, take, length, get_or, refl, ap, ◌∙◌, sym, arith, add-one}
use Rattle.std.specs.List.{list_all, list_any, flat_map, range_with_len}
use Rattle.std.proofs.Math.Bool.{beq}
use Rattle.std.proofs.lemmas.Bool.{and_parts, and_from, le-leb}
use Rattle.std.proofs.lemmas.List.Folds.{list_all-append}
use Rattle.lls_lit.specs.Formula.{satisfies}
use Rattle.lls_rule.specs.Rule.{answer, number_of}
use Rattle.lls_rule.proofs.Numbers.{number_of-lt}
use Rattle.lls_grid.specs.History.{History, at, nine}
use Rattle.lls_transition.specs.declared.place.Place.TheVariants.{Of}
use Rattle.lls_transition.specs.Place.{place_within, value_of}
use Rattle.lls_problem.specs.declared.form.Form.{Form}
use Rattle.lls_problem.specs.Problem.{PosedProblem}
use Rattle.lls_encode.specs.Place.{inputs_at}
use Rattle.lls_encode.specs.Formula.{cubes_in, clauses_at}
use Rattle.lls_encode.proofs.Obeyed.{place_is_literal, inputs_are_literals, most_of, within_most}
use Rattle.lls_encode.proofs.Parts.{satisfies-append, satisfied_in_range}
use Rattle.lls_encode.proofs.Satisfied.{satisfies-range}
use Rattle.lls_encode.proofs.Values.{HasCells, values-inputs_at, is_true-cell}
use Rattle.lls_open.specs.declared.class.SideClass.{SideClass}
use Rattle.lls_open.specs.Classes.{is_of, class_number, open_classes}
use Rattle.lls_open.specs.Formula.{settled_table, class_variable, class_inputs, class_clauses, open_clauses}
use Rattle.lls_open.specs.Decoding.{class_value}
use Rattle.lls_open.proofs.Rows.{AreTen, settled-says, class-says}
use Rattle.lls_open.proofs.Placed.{Says}

-- the number of a place's neighbourhood
abbrev pub nine_at : PosedProblem → History → ℕ → ℤ → ℤ → ℕ
nine_at p h t y x = number_of (nine p.rule h t y x)

pub nine_at-lt : (p : PosedProblem) (h : History) (t : ℕ) (y x : ℤ) → nine_at p h t y x < 512
nine_at-lt p h t y x = number_of-lt (nine p.rule h t y x)

tens : (p : PosedProblem) (h : History) (values : List Bool) → HasCells p values h → (t : ℕ) (y x : ℤ) → t + 1 < p.posed.generations
    → AreTen (map (value_of values) (inputs_at p t y x)) (nine_at p h t y x) (at p.rule h (t + 1) y x)
tens p h values has t y x next_in =
    let said = values-inputs_at p h values has t y x next_in in
    record { ten = ap length said; neighbourhood = ap (λ bits. number_of (take 9 bits)) said; next = ap (λ bits. get_or bits 9 false) said }

-- all inputs are literals of some number of variables
inputs_within : (p : PosedProblem) (t : ℕ) (y x : ℤ) → list_all (place_within (most_of (inputs_at p t y x))) (inputs_at p t y x) ≡ true
inputs_within p t y x = within_most (inputs_at p t y x) (most_of (inputs_at p t y x)) (omega arith) (inputs_are_literals p t y x)

variable_is : (n : ℕ) → place_is_literal (Of (pos (n + 1))) ≡ true
variable_is n = rw add-one (le-leb 1 _ (omega arith))

class_inputs_within : (p : PosedProblem) (t : ℕ) (y x : ℤ) (k : ℕ) → list_all (place_within (most_of (class_inputs p (inputs_at p t y x) k))) (class_inputs p (inputs_at p t y x) k) ≡ true
class_inputs_within p t y x k =
    within_most (class_inputs p (inputs_at p t y x) k) _ (omega arith)
    (list_all-append place_is_literal (inputs_at p t y x) (Of (class_variable p k) ∷ []) ∙ and_from _ _ (inputs_are_literals p t y x) (and_from _ _ (variable_is (length p.posed.cells + k)) refl))

settled-is : (p : PosedProblem) (form : Form) (classes : List SideClass) (h : History) (values : List Bool) → HasCells p values h → (t : ℕ) (y x : ℤ) → t + 1 < p.posed.generations
    → satisfies values (clauses_at form (cubes_in form 10 (settled_table p.rule classes)) (inputs_at p t y x))
    ≡ not (not (list_any (λ class. is_of class (nine_at p h t y x)) classes) && cond (answer p.rule (nine_at p h t y x)) (not (at p.rule h (t + 1) y x)) (at p.rule h (t + 1) y x))
settled-is p form classes h values has t y x next_in =
    settled-says values (most_of (inputs_at p t y x)) form p.rule classes (inputs_at p t y x) (nine_at p h t y x) (at p.rule h (t + 1) y x) (inputs_within p t y x) (tens p h values has t y x next_in)

class-is : (p : PosedProblem) (form : Form) (classes : List SideClass) (h : History) (values : List Bool) → HasCells p values h → (t : ℕ) (y x : ℤ) → t + 1 < p.posed.generations → (k : ℕ)
    → satisfies values (class_clauses p form classes (inputs_at p t y x) k) ≡ not (is_of (class_number classes k) (nine_at p h t y x) && not (beq (at p.rule h (t + 1) y x) (class_value p values k)))
class-is p form classes h values has t y x next_in k =
    class-says values (most_of (class_inputs p (inputs_at p t y x) k)) form (class_number classes k) (inputs_at p t y x) (Of (class_variable p k)) (nine_at p h t y x) (at p.rule h (t + 1) y x)
    (class_inputs_within p t y x k) (tens p h values has t y x next_in)
    ∙ ap (λ b. not (is_of (class_number classes k) (nine_at p h t y x) && not (beq (at p.rule h (t + 1) y x) b))) (is_true-cell values (length p.posed.cells + k))

-- they are satisfied exactly where the values are so
pub says-by_clauses : (p : PosedProblem) (form : Form) (high : List Bool) (h : History) (values : List Bool) → HasCells p values h → (t : ℕ) (y x : ℤ) → t + 1 < p.posed.generations
    → satisfies values (open_clauses p form (open_classes p.rule high) (inputs_at p t y x)) ≡ true → Says p high values (nine_at p h t y x) (at p.rule h (t + 1) y x)
says-by_clauses p form high h values has t y x next_in satisfied =
    let classes = open_classes p.rule high in
    let inputs = inputs_at p t y x in
    let parts = and_parts _ _ (sym (satisfies-append values (clauses_at form (cubes_in form 10 (settled_table p.rule classes)) inputs) (flat_map (class_clauses p form classes inputs) (range_with_len 0 (length classes)))) ∙ satisfied) in
    record {
      settled = sym (settled-is p form classes h values has t y x next_in) ∙ parts.0;
      classes = λ k inside. sym (class-is p form classes h values has t y x next_in k)
          ∙ satisfied_in_range values (class_clauses p form classes inputs) 0 (length classes) k parts.1 (omega arith) (omega (arith, inside));
    }

pub clauses-by_says : (p : PosedProblem) (form : Form) (high : List Bool) (h : History) (values : List Bool) → HasCells p values h → (t : ℕ) (y x : ℤ) → t + 1 < p.posed.generations
    → Says p high values (nine_at p h t y x) (at p.rule h (t + 1) y x) → satisfies values (open_clauses p form (open_classes p.rule high) (inputs_at p t y x)) ≡ true
clauses-by_says p form high h values has t y x next_in says =
    let classes = open_classes p.rule high in
    let inputs = inputs_at p t y x in
    satisfies-append values (clauses_at form (cubes_in form 10 (settled_table p.rule classes)) inputs) (flat_map (class_clauses p form classes inputs) (range_with_len 0 (length classes)))
    ∙ and_from _ _ (settled-is p form classes h values has t y x next_in ∙ says.settled)
    (satisfies-range values (class_clauses p form classes inputs) 0 (length classes) (λ k low high_in. class-is p form classes h values has t y x next_in k ∙ says.classes k (omega (arith, high_in))))
