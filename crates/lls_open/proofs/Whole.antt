-- The formula from its parts, and the room that each leaves.
use Rattle.std.proofs.Common.{◌≡◌, ◌+◌, ◌≤◌, List, [], ◌∷◌, ◌++◌, Bool, true, false, cond, length, refl, ap, ◌∙◌, arith, length-append}
use Rattle.std.specs.Prelude.{filter}
use Rattle.lls_lit.specs.Formula.{Cnf}
use Rattle.lls_search_file.specs.Posed.{IsPosed}
use Rattle.lls_transition.specs.Clause.{with_clauses}
use Rattle.lls_problem.specs.declared.form.Form.{Form}
use Rattle.lls_problem.specs.Problem.{PosedProblem, AreFitting}
use Rattle.lls_encode.specs.Formula.{front_part}
use Rattle.lls_encode.specs.Parts.{after_part, after_vars}
use Rattle.lls_encode.specs.Place.{inputs_at}
use Rattle.lls_encode.proofs.Made.{empty_of, length-front_part}
use Rattle.lls_open.specs.declared.class.SideClass.{SideClass}
use Rattle.lls_open.specs.Classes.{side_classes, all_classes, is_open, open_classes}
use Rattle.lls_open.specs.Targets.{row_of, column_of, targets_of}
use Rattle.lls_open.specs.Formula.{target_clauses, open_part, formula_with}
use Rattle.lls_open.proofs.Few.{length-so_far, length-open_clauses}
use Rattle.lls_open.proofs.Framed.{length-targets_of}

length-filter-le : (p : SideClass → Bool) (xs : List SideClass) → length (filter p xs) ≤ length xs
length-filter-le p [] = omega arith
length-filter-le p (x ∷ xs) =
    elim (p x) as (λ b. length (cond b (x ∷ filter p xs) (filter p xs)) ≤ length (x ∷ xs)) [ true ↦ omega (arith, length-filter-le p xs) | false ↦ omega (arith, length-filter-le p xs) ]

length-all_classes : length all_classes ≡ 102
unfolding side_classes
length-all_classes = refl

-- there are at most 51 classes of birth, and as many of survival
pub few_classes : (low high : List Bool) → length (open_classes low high) ≤ 102
unfolding open_classes
few_classes low high = omega (arith, length-filter-le (is_open low high) all_classes, length-all_classes)

pub made : (p : PosedProblem) (form : Form) (classes : List SideClass) (empty front wider transitions all : Cnf) → empty ≡ empty_of p → front ≡ with_clauses empty (front_part p)
    → wider ≡ record front { vars = front.vars + length classes } → transitions ≡ with_clauses wider (open_part p form classes)
    → all ≡ record { vars = transitions.vars + after_vars p; clauses = transitions.clauses ++ after_part p transitions.vars } → all ≡ formula_with p form classes
made p form classes empty front wider transitions all none one two three four =
    four
    ∙ ap (λ (f : Cnf). record { vars = f.vars + after_vars p; clauses = f.clauses ++ after_part p f.vars })
    (three ∙ ap (λ f. with_clauses f (open_part p form classes)) (two ∙ ap (λ (f : Cnf). record f { vars = f.vars + length classes }) (one ∙ ap (λ f. with_clauses f (front_part p)) none)))

length-open_part : (p : PosedProblem) (form : Form) (classes : List SideClass) → IsPosed p.posed → length p.posed.cells ≤ 2048 → length classes ≤ 102 → length (open_part p form classes) ≤ 687888384
unfolding open_part
length-open_part p form classes kept cells few =
    let each = length-so_far (target_clauses p form classes) 105472 (λ target. length-open_clauses p form classes (inputs_at p target.t (row_of target) (column_of target)) few) (targets_of p) in
    omega (arith, each, length-targets_of p kept cells)

-- how many clauses stand before the transitions, and with them
pub few_front : (p : PosedProblem) (classes : List SideClass) (empty front wider : Cnf) → IsPosed p.posed → AreFitting p.posed p.demands → empty ≡ empty_of p → front ≡ with_clauses empty (front_part p)
    → wider ≡ record front { vars = front.vars + length classes } → length wider.clauses ≤ 2105407
few_front p classes empty front wider kept fitting none one two =
    let nothing : length empty.clauses ≡ 0 = ap (λ (f : Cnf). length f.clauses) none in
    let before : length front.clauses ≡ length empty.clauses + length (front_part p) = ap (λ (f : Cnf). length f.clauses) one ∙ length-append empty.clauses (front_part p) in
    let same : length wider.clauses ≡ length front.clauses = ap (λ (f : Cnf). length f.clauses) two in
    omega (arith, nothing, before, same, length-front_part p kept fitting)

pub few_transitions : (p : PosedProblem) (form : Form) (classes : List SideClass) (wider transitions : Cnf) → IsPosed p.posed → length p.posed.cells ≤ 2048 → length classes ≤ 102
    → length wider.clauses ≤ 2105407 → transitions ≡ with_clauses wider (open_part p form classes) → length transitions.clauses ≤ 689993791
few_transitions p form classes wider transitions kept cells few before is =
    let count : length transitions.clauses ≡ length wider.clauses + length (open_part p form classes) = ap (λ (f : Cnf). length f.clauses) is ∙ length-append wider.clauses (open_part p form classes) in
    omega (arith, count, before, length-open_part p form classes kept cells few)
