-- Every open solution has an assignment that satisfies the formula: its cells, then what its rule gives at each open class.
use Rattle.std.proofs.Common.{◌≡◌, ℕ, ◌+◌, ◌-◌, ◌<◌, ℤ, pos, ◌-ℤ◌, List, [], ◌∷◌, ◌++◌, Bool, true, false, cond, map, length, get_or, refl, ap, ◌∙◌, sym, arith, length-append}
use Rattle.std.specs.List.{flat_map, range_with_len}
use Rattle.std.proofs.lemmas.Bool.{and_from}
use Rattle.std.proofs.lemmas.List.{append-nil, length-map, get_or-map, get_or_append_left, get_or-append-add}
use Rattle.lls_lit.specs.Formula.{Clause, satisfies, IsUnsatisfiable}
use Rattle.lls_rule.specs.Rule.{answer, successor}
use Rattle.lls_grid.specs.History.{History, at, cells_of}
use Rattle.lls_search_file.specs.Posed.{IsPosed}
use Rattle.lls_problem.specs.declared.form.Form.{Form}
use Rattle.lls_problem.specs.Problem.{PosedProblem, AreFitting}
use Rattle.lls_problem.specs.Solution.{IsFramed, is_marked, Obeys}
use Rattle.lls_problem.proofs.FirstOf.{flat_map-flat_map}
use Rattle.lls_encode.specs.Formula.{first_framed, framed_count, front_part}
use Rattle.lls_encode.specs.Parts.{HasExtension, after_part}
use Rattle.lls_encode.specs.Place.{inputs_at}
use Rattle.lls_encode.proofs.Complete.{HasCells-cells_of, satisfies-front_part, has_extension}
use Rattle.lls_encode.proofs.Differing.{count_of, HasCells-append}
use Rattle.lls_encode.proofs.Framed.{framed_place, framed_both}
use Rattle.lls_encode.proofs.Parts.{satisfies-append}
use Rattle.lls_encode.proofs.Satisfied.{satisfies-range}
use Rattle.lls_encode.proofs.Values.{HasCells}
use Rattle.lls_open.specs.declared.class.SideClass.{SideClass}
use Rattle.lls_open.specs.declared.target.Target.{Target}
use Rattle.lls_open.specs.Between.{IsBetween, AreEnds, IsOpenSolution, IsOpenlyAbsent, with_rule}
use Rattle.lls_open.specs.Classes.{gives, class_number, open_classes}
use Rattle.lls_open.specs.Decoding.{class_value, HasOpenAssignment}
use Rattle.lls_open.specs.Formula.{open_clauses, target_clauses, open_part, open_formula}
use Rattle.lls_open.specs.Targets.{place_targets, line_targets, generation_targets, targets_of}
use Rattle.lls_open.proofs.Placed.{says-by_rule}
use Rattle.lls_open.proofs.Read.{nine_at, nine_at-lt, clauses-by_says}
use Rattle.lls_open.proofs.Same.{HaveSame, same_backgrounds, at-same, nine-same, MeetsBefore-same, MeetsAfter-same}

-- one backgrounds for the other's
turned_round : (rule other : List Bool) → HaveSame rule other → HaveSame other rule
turned_round rule other same = λ t. sym (same t)

-- the values of the open classes' variables
abbrev Gives : PosedProblem → List Bool → List Bool → List Bool → Type 0
Gives p high rule values = (k : ℕ) → k < length (open_classes p.rule high) → class_value p values k ≡ gives rule (class_number (open_classes p.rule high) k)

place_satisfied : (p : PosedProblem) (form : Form) (high rule : List Bool) (h : History) (values : List Bool) → AreEnds p.rule high → IsBetween p.rule high rule → HasCells p values h → Gives p high rule values
    → Obeys (with_rule p rule) h → HaveSame rule p.rule → (t : ℕ) (y x : ℤ) → t + 1 < p.posed.generations → IsFramed p.demands.edge p.posed.height p.posed.width y x → is_marked p.posed (t + 1) y x ≡ false
    → satisfies values (open_clauses p form (open_classes p.rule high) (inputs_at p t y x)) ≡ true
place_satisfied p form high rule h values ends between has given obeys same t y x next_in framed free =
    let next : at p.rule h (t + 1) y x ≡ answer rule (nine_at p h t y x) =
    sym (at-same rule p.rule h (t + 1) y x same) ∙ obeys t y x next_in framed free ∙ ap (successor rule) (nine-same rule p.rule h t y x same) in
    clauses-by_says p form high h values has t y x next_in (says-by_rule p high rule values (nine_at p h t y x) _ ends between (nine_at-lt p h t y x) next given)

unless_marked : (values : List Bool) (f : Target → List Clause) (b : Bool) (target : Target) → (b ≡ false → satisfies values (f target) ≡ true) → satisfies values (flat_map f (cond b [] (target ∷ []))) ≡ true
unless_marked values f true target each = refl
unless_marked values f false target each = ap (satisfies values) (append-nil (f target)) ∙ each refl

satisfies-open_part : (p : PosedProblem) (form : Form) (high rule : List Bool) (h : History) (values : List Bool) → AreEnds p.rule high → IsBetween p.rule high rule → HasCells p values h → Gives p high rule values
    → Obeys (with_rule p rule) h → HaveSame rule p.rule → satisfies values (open_part p form (open_classes p.rule high)) ≡ true
unfolding open_part targets_of
satisfies-open_part p form high rule h values ends between has given obeys same =
    let f : Target → List Clause = target_clauses p form (open_classes p.rule high) in
    let edge = p.demands.edge in
    ap (satisfies values) (flat_map-flat_map f (generation_targets p) (range_with_len 0 (p.posed.generations - 1)))
    ∙ satisfies-range values (λ t. flat_map f (generation_targets p t)) 0 (p.posed.generations - 1) (λ t t_low t_high.
    ap (satisfies values) (flat_map-flat_map f (line_targets p t) (range_with_len (first_framed edge) (framed_count edge p.posed.height)))
    ∙ satisfies-range values (λ line. flat_map f (line_targets p t line)) (first_framed edge) (framed_count edge p.posed.height) (λ line line_low line_high.
    ap (satisfies values) (flat_map-flat_map f (place_targets p t line) (range_with_len (first_framed edge) (framed_count edge p.posed.width)))
    ∙ satisfies-range values (λ column. flat_map f (place_targets p t line column)) (first_framed edge) (framed_count edge p.posed.width) (λ column column_low column_high.
    unless_marked values f (is_marked p.posed (t + 1) (pos line -ℤ pos 1) (pos column -ℤ pos 1)) (record { t = t; line = line; column = column }) (λ free.
    place_satisfied p form high rule h values ends between has given obeys same t (pos line -ℤ pos 1) (pos column -ℤ pos 1) (omega (arith, t_high))
    (framed_both edge p.posed.height p.posed.width _ _ (framed_place edge p.posed.height line line_low line_high) (framed_place edge p.posed.width column column_low column_high)) free))))

-- the values behind the cells are what the rule gives
gives-behind : (cells more : List Bool) (rule : List Bool) (classes : List SideClass) (n k : ℕ) → length cells ≡ n → k < length classes
    → get_or (cells ++ map (gives rule) classes ++ more) (n + k) false ≡ gives rule (class_number classes k)
gives-behind cells more rule classes n k count inside =
    let marks : List Bool = map (gives rule) classes in
    get_or_append_left (cells ++ marks) more false (n + k) (omega (arith, count, inside, length-append cells marks, length-map classes (gives rule)))
    ∙ ap (λ m. get_or (cells ++ marks) (m + k) false) (sym count)
    ∙ get_or-append-add cells marks k false
    ∙ get_or-map (gives rule) classes k _ false inside

-- the theorem
pub HasOpenAssignment-values_of : (p : PosedProblem) (form : Form) (high : List Bool) → IsPosed p.posed → AreFitting p.posed p.demands → AreEnds p.rule high → (history : History) (rule : List Bool)
    → IsOpenSolution p high history rule → HasOpenAssignment p high (open_formula p high form) history rule
unfolding open_formula
HasOpenAssignment-values_of p form high kept fitting ends history rule found =
    let solution = found.solution in
    let classes : List SideClass = open_classes p.rule high in
    let cells : List Bool = cells_of history in
    let marks : List Bool = map (gives rule) classes in
    let before : List Bool = cells ++ marks in
    let base : ℕ = length p.posed.cells + length classes in
    let count : length cells ≡ length p.posed.cells = count_of p history kept solution.sizes in
    let len : length before ≡ base = omega (arith, count, length-append cells marks, length-map classes (gives rule)) in
    let has : HasCells p before history = HasCells-append p history cells marks (HasCells-cells_of p history kept solution.sizes) (omega (arith, count)) in
    let same = same_backgrounds p.rule high rule ends found.between in
    let meets_before = MeetsBefore-same p p.rule rule history (turned_round rule p.rule same) (record { cells = solution.cells; symmetric = solution.symmetric; moved = solution.moved }) in
    let meets_after = MeetsAfter-same p p.rule rule history (turned_round rule p.rule same) (record { populated = solution.populated; differ = solution.differ; exact = solution.exact; unlisted = solution.unlisted }) in
    let after : HasExtension p before = has_extension p history before kept fitting has (omega (arith, len)) meets_after in
    let values : List Bool = before ++ after.more in
    let has_all : HasCells p values history = HasCells-append p history before after.more has (omega (arith, len)) in
    let given : Gives p high rule values = λ k inside. gives-behind cells after.more rule classes (length p.posed.cells) k count inside in
    let front : satisfies values (front_part p) ≡ true = satisfies-front_part p history values has_all fitting meets_before in
    let transitions = satisfies-open_part p form high rule history values ends found.between has_all given solution.rule same in
    let behind : satisfies values (after_part p base) ≡ true = ap (λ n. satisfies values (after_part p n)) (sym len) ∙ ap (λ more. satisfies (before ++ more) (after_part p (length before))) (sym (append-nil after.more)) ∙ after.satisfied [] in
    record {
      more = after.more;
      values = values;
      are = refl;
      count = omega (arith, len, length-append before after.more, after.count);
      satisfied = satisfies-append values (front_part p ++ open_part p form classes) (after_part p base)
          ∙ and_from _ _ (satisfies-append values (front_part p) (open_part p form classes) ∙ and_from _ _ front transitions) behind;
    }

-- a formula that nothing satisfies has no open solution
pub openly_absent_from : (p : PosedProblem) (form : Form) (high : List Bool) → IsPosed p.posed → AreFitting p.posed p.demands → AreEnds p.rule high → IsUnsatisfiable (open_formula p high form) → IsOpenlyAbsent p high
openly_absent_from p form high kept fitting ends unsatisfiable history rule found =
    let assigned = HasOpenAssignment-values_of p form high kept fitting ends history rule found in
    let none = unsatisfiable assigned.values assigned.count in
    let all = assigned.satisfied in
    cc
