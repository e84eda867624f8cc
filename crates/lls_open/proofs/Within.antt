-- The inputs of a transition are variables of a formula that has more variables than cells, and so are those of an open class's table.
use Rattle.std.proofs.Common.{◌≡◌, ℕ, suc, ◌+◌, ◌<◌, ◌≤◌, pos, List, [], ◌∷◌, true, map, length, get_or, refl, ap, ◌∙◌, sym, arith, add-one}
use Rattle.std.specs.List.{list_all}
use Rattle.std.proofs.Common.{Vec, Global}
use Rattle.std.proofs.lemmas.Bool.{and_parts, and_from, le-leb, leb-true}
use Rattle.std.proofs.lemmas.List.{length-map, get_or-map}
use Rattle.std.proofs.lemmas.List.Folds.{list_all-append}
use Rattle.lls_lit.specs.Literal.{variable_of}
use Rattle.lls_cube.specs.declared.cube.Cube.{Cube}
use Rattle.lls_transition.specs.declared.place.Place.{Place}
use Rattle.lls_transition.specs.declared.place.Place.TheVariants.{Known, Of}
use Rattle.lls_transition.specs.Place.{place_within}
use Rattle.lls_problem.specs.declared.form.Form.{Form}
use Rattle.lls_problem.specs.Problem.{PosedProblem}
use Rattle.lls_open.specs.declared.class.SideClass.{SideClass}
use Rattle.lls_open.specs.Classes.{class_number}
use Rattle.lls_open.specs.Cubes.{class_cubes}
use Rattle.lls_open.specs.Formula.{class_variable, class_inputs}

place_within-more : (vars more : ℕ) (place : Place) → vars ≤ more → place_within vars place ≡ true → place_within more place ≡ true
place_within-more vars more (Known value) le within = refl
place_within-more vars more (Of literal) le within =
    let parts = and_parts _ _ within in
    and_from _ _ parts.0 (le-leb (variable_of literal) more (omega (arith, leb-true (variable_of literal) vars parts.1, le)))

pub within-more : (vars more : ℕ) (places : List Place) → vars ≤ more → list_all (place_within vars) places ≡ true → list_all (place_within more) places ≡ true
within-more vars more [] le within = refl
within-more vars more (place ∷ places) le within =
    let parts = and_parts _ _ within in and_from _ _ (place_within-more vars more place le parts.0) (within-more vars more places le parts.1)

variable_within : (vars n : ℕ) → n < vars → place_within vars (Of (pos (n + 1))) ≡ true
variable_within vars n inside = rw add-one (and_from _ _ (le-leb 1 (suc n) (omega arith)) (le-leb (suc n) vars (omega (arith, inside))))

pub within-class_inputs : (p : PosedProblem) (inputs : List Place) (k vars : ℕ) → list_all (place_within (length p.posed.cells)) inputs ≡ true → length p.posed.cells + k < vars
    → list_all (place_within vars) (class_inputs p inputs k) ≡ true
within-class_inputs p inputs k vars within inside =
    list_all-append (place_within vars) inputs (Of (class_variable p k) ∷ [])
    ∙ and_from _ _ (within-more (length p.posed.cells) vars inputs (omega (arith, inside)) within) (and_from _ _ (variable_within vars (length p.posed.cells + k) inside) refl)

-- the cubes of the kth class
pub by_class-at : (form : Form) (cubes : List (Vec Cube Global)) (classes : List SideClass) (k : ℕ) (some : Vec Cube Global) → map (λ some. some.items) cubes ≡ map (class_cubes form) classes
    → k < length classes → some ≡ get_or cubes k some → some.items ≡ class_cubes form (class_number classes k)
by_class-at form cubes classes k some are inside is =
    let count : length cubes ≡ length classes = sym (length-map cubes (λ (v : Vec Cube Global). v.items)) ∙ ap length are ∙ length-map classes (class_cubes form) in
    ap (λ (v : Vec Cube Global). v.items) is
    ∙ sym (get_or-map (λ (v : Vec Cube Global). v.items) cubes k some some.items (omega (arith, count, inside)))
    ∙ ap (λ xs. get_or xs k some.items) are
    ∙ get_or-map (class_cubes form) classes k _ some.items inside

pub length-by_class : (form : Form) (cubes : List (Vec Cube Global)) (classes : List SideClass) → map (λ some. some.items) cubes ≡ map (class_cubes form) classes → length cubes ≡ length classes
length-by_class form cubes classes are = sym (length-map cubes (λ (v : Vec Cube Global). v.items)) ∙ ap length are ∙ length-map classes (class_cubes form)
