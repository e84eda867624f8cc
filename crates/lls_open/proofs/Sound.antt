-- The history and the rule that a satisfying assignment says are an open solution.
use Rattle.std.proofs.Common.{◌≡◌, ℕ, ◌+◌, ◌-◌, ◌<◌, ◌≤◌, pos, ◌-ℤ◌, List, [], ◌∷◌, ◌++◌, Bool, true, false, cond, ◌&&◌, ◌||◌, length, refl, ap, ap₂, ◌∙◌, sym, arith}
use Rattle.std.specs.List.{flat_map, range_with_len}
use Rattle.std.proofs.lemmas.Bool.{and_parts, false_from_ne_true}
use Rattle.std.proofs.lemmas.List.{append-nil}
use Rattle.lls_lit.specs.Formula.{Clause, satisfies, IsUnsatisfiable}
use Rattle.lls_rule.specs.Rule.{answer, successor}
use Rattle.lls_rule.proofs.Tables.{length-table_of, answer-table_of}
use Rattle.lls_grid.specs.History.{History}
use Rattle.lls_search_file.specs.Posed.{IsPosed}
use Rattle.lls_problem.specs.declared.form.Form.{Form}
use Rattle.lls_problem.specs.Problem.{PosedProblem, AreFitting}
use Rattle.lls_problem.specs.Solution.{is_marked, Obeys}
use Rattle.lls_problem.proofs.FirstOf.{flat_map-flat_map}
use Rattle.lls_encode.specs.Formula.{first_framed, framed_count, front_part}
use Rattle.lls_encode.specs.History.{history_of}
use Rattle.lls_encode.specs.Parts.{after_part}
use Rattle.lls_encode.specs.Place.{inputs_at}
use Rattle.lls_encode.proofs.Framed.{framed_row, framed_column, counted}
use Rattle.lls_encode.proofs.Parts.{satisfies-append, satisfied_in_range}
use Rattle.lls_encode.proofs.Sound.{HasCells-history_of, MeetsBefore-by_clauses, MeetsAfter-by_clauses}
use Rattle.lls_encode.proofs.Values.{HasCells}
use Rattle.lls_open.specs.declared.class.SideClass.{SideClass}
use Rattle.lls_open.specs.declared.target.Target.{Target}
use Rattle.lls_open.specs.Between.{IsBetween, AreEnds, IsOpenSolution, IsOpenlyAbsent, with_rule}
use Rattle.lls_open.specs.Classes.{is_of, class_number, open_classes}
use Rattle.lls_open.specs.Decoding.{class_value, is_chosen, rule_with, rule_of}
use Rattle.lls_open.specs.Formula.{open_clauses, target_clauses, open_part, open_formula}
use Rattle.lls_open.specs.Targets.{place_targets, line_targets, generation_targets, targets_of}
use Rattle.lls_open.proofs.Opened.{answers-open, is_of-image}
use Rattle.lls_open.proofs.Placed.{next-by_clauses}
use Rattle.lls_open.proofs.Ranges.{any_none, any_same}
use Rattle.lls_open.proofs.Read.{nine_at, nine_at-lt, says-by_clauses}
use Rattle.lls_open.proofs.Same.{HaveSame, same_backgrounds, at-same, nine-same, MeetsBefore-same, MeetsAfter-same}

true_false : true ≡ false → ⊥
true_false e = cc

unless_of : (b c : Bool) → (b ≡ true → c ≡ false) → (b && c) ≡ false
unless_of true c e = e refl
unless_of false c e = refl

neither : (b c : Bool) → b ≡ false → c ≡ false → (b || c) ≡ false
neither true c e e' = cc
neither false c e e' = e'

-- the answers of the rule that values say
answer-rule_of : (p : PosedProblem) (high values : List Bool) (n : ℕ) → n < 512 → answer (rule_of p high values) n ≡ (answer p.rule n || is_chosen p (open_classes p.rule high) values n)
unfolding rule_with
answer-rule_of p high values n h = answer-table_of (λ nine. answer p.rule nine || is_chosen p (open_classes p.rule high) values nine) n h

length-rule_of : (p : PosedProblem) (high values : List Bool) → length (rule_of p high values) ≡ 512
unfolding rule_with
length-rule_of p high values = length-table_of (λ nine. answer p.rule nine || is_chosen p (open_classes p.rule high) values nine)

unchosen : (p : PosedProblem) (high values : List Bool) (n : ℕ) → AreEnds p.rule high → n < 512 → answer high n ≡ false → is_chosen p (open_classes p.rule high) values n ≡ false
unchosen p high values n ends h shut =
    let classes = open_classes p.rule high in
    any_none (λ k. is_of (class_number classes k) n && class_value p values k) 0 (length classes) (λ k low high_in.
    unless_of (is_of (class_number classes k) n) (class_value p values k) (λ of.
    absurd (true_false (sym (answers-open p.rule high k n ends.low_isotropic ends.high_isotropic (omega (arith, high_in)) h of).1 ∙ shut))))

low_shut : (low high : List Bool) (n : ℕ) → AreEnds low high → n < 512 → answer high n ≡ false → answer low n ≡ false
low_shut low high n ends h shut = false_from_ne_true (answer low n) (λ live. true_false (sym (ends.ordered n h live) ∙ shut))

-- it is between the two
pub IsBetween-rule_of : (p : PosedProblem) (high values : List Bool) → AreEnds p.rule high → IsBetween p.rule high (rule_of p high values)
IsBetween-rule_of p high values ends =
    let classes = open_classes p.rule high in
    record {
      whole = length-rule_of p high values;
      isotropic = λ m n m_in n_in centres images.
          answer-rule_of p high values m m_in
          ∙ ap₂ (λ a b. a || b) (ends.low_isotropic m n m_in n_in centres images)
          (any_same (λ k. is_of (class_number classes k) m && class_value p values k) (λ k. is_of (class_number classes k) n && class_value p values k) 0 (length classes)
          (λ k. ap (λ b. b && class_value p values k) (is_of-image (class_number classes k) m n m_in n_in centres images)))
          ∙ sym (answer-rule_of p high values n n_in);
      above = λ n h live. answer-rule_of p high values n h ∙ ap (λ b. b || is_chosen p classes values n) live;
      below = λ n h shut. answer-rule_of p high values n h ∙ neither _ _ (low_shut p.rule high n ends h shut) (unchosen p high values n ends h shut);
    }

-- the clauses of a place that no mark frees
one_of : (values : List Bool) (f : Target → List Clause) (b : Bool) (target : Target) → b ≡ false → satisfies values (flat_map f (cond b [] (target ∷ []))) ≡ true → satisfies values (f target) ≡ true
one_of values f true target free satisfied = cc
one_of values f false target free satisfied = ap (satisfies values) (sym (append-nil (f target))) ∙ satisfied

target_satisfied : (p : PosedProblem) (form : Form) (classes : List SideClass) (values : List Bool) (t line column : ℕ) → satisfies values (open_part p form classes) ≡ true → t + 1 < p.posed.generations
    → first_framed p.demands.edge ≤ line → line < first_framed p.demands.edge + framed_count p.demands.edge p.posed.height
    → first_framed p.demands.edge ≤ column → column < first_framed p.demands.edge + framed_count p.demands.edge p.posed.width
    → is_marked p.posed (t + 1) (pos line -ℤ pos 1) (pos column -ℤ pos 1) ≡ false
    → satisfies values (open_clauses p form classes (inputs_at p t (pos line -ℤ pos 1) (pos column -ℤ pos 1))) ≡ true
unfolding open_part targets_of
target_satisfied p form classes values t line column satisfied next_in line_low line_high column_low column_high free =
    let f : Target → List Clause = target_clauses p form classes in
    let edge = p.demands.edge in
    let all = sym (ap (satisfies values) (flat_map-flat_map f (generation_targets p) (range_with_len 0 (p.posed.generations - 1)))) ∙ satisfied in
    let generation = satisfied_in_range values (λ k. flat_map f (generation_targets p k)) 0 (p.posed.generations - 1) t all (omega arith) (omega (arith, next_in)) in
    let lines = sym (ap (satisfies values) (flat_map-flat_map f (line_targets p t) (range_with_len (first_framed edge) (framed_count edge p.posed.height)))) ∙ generation in
    let in_line = satisfied_in_range values (λ k. flat_map f (line_targets p t k)) (first_framed edge) (framed_count edge p.posed.height) line lines line_low line_high in
    let columns = sym (ap (satisfies values) (flat_map-flat_map f (place_targets p t line) (range_with_len (first_framed edge) (framed_count edge p.posed.width)))) ∙ in_line in
    let in_column = satisfied_in_range values (λ k. flat_map f (place_targets p t line k)) (first_framed edge) (framed_count edge p.posed.width) column columns column_low column_high in
    one_of values f (is_marked p.posed (t + 1) (pos line -ℤ pos 1) (pos column -ℤ pos 1)) (record { t = t; line = line; column = column }) free in_column

Obeys-by_clauses : (p : PosedProblem) (form : Form) (high : List Bool) (h : History) (values : List Bool) → AreEnds p.rule high → HasCells p values h
    → satisfies values (open_part p form (open_classes p.rule high)) ≡ true → HaveSame (rule_of p high values) p.rule → Obeys (with_rule p (rule_of p high values)) h
Obeys-by_clauses p form high h values ends has satisfied same = λ t y x next_in framed free.
    let rule = rule_of p high values in
    let edge = p.demands.edge in
    let line = counted edge p.posed.height y (framed_row edge p.posed.height p.posed.width y x framed) in
    let column = counted edge p.posed.width x (framed_column edge p.posed.height p.posed.width y x framed) in
    let mark : is_marked p.posed (t + 1) (pos line.line -ℤ pos 1) (pos column.line -ℤ pos 1) ≡ false =
    ap (λ at. is_marked p.posed (t + 1) at (pos column.line -ℤ pos 1)) line.is ∙ ap (is_marked p.posed (t + 1) y) column.is ∙ free in
    let there = target_satisfied p form (open_classes p.rule high) values t line.line column.line satisfied next_in line.low line.high column.low column.high mark in
    let here : satisfies values (open_clauses p form (open_classes p.rule high) (inputs_at p t y x)) ≡ true =
    ap (λ at. satisfies values (open_clauses p form (open_classes p.rule high) (inputs_at p t y at))) (sym column.is)
    ∙ ap (λ at. satisfies values (open_clauses p form (open_classes p.rule high) (inputs_at p t at (pos column.line -ℤ pos 1)))) (sym line.is)
    ∙ there in
    let says = says-by_clauses p form high h values has t y x next_in here in
    let inside = nine_at-lt p h t y x in
    at-same rule p.rule h (t + 1) y x same
    ∙ next-by_clauses p high values (nine_at p h t y x) _ ends inside says
    ∙ sym (answer-rule_of p high values (nine_at p h t y x) inside)
    ∙ ap (successor rule) (sym (nine-same rule p.rule h t y x same))

-- the theorem
pub IsOpenSolution-by_clauses : (p : PosedProblem) (form : Form) (high values : List Bool) → IsPosed p.posed → AreFitting p.posed p.demands → AreEnds p.rule high → length p.posed.cells ≤ length values
    → satisfies values (open_formula p high form).clauses ≡ true → IsOpenSolution p high (history_of p values) (rule_of p high values)
unfolding open_formula
IsOpenSolution-by_clauses p form high values kept fitting ends enough satisfied =
    let classes = open_classes p.rule high in
    let base : ℕ = length p.posed.cells + length classes in
    let h : History = history_of p values in
    let rule : List Bool = rule_of p high values in
    let has : HasCells p values h = HasCells-history_of p values kept enough in
    let all = and_parts _ _ (sym (satisfies-append values (front_part p ++ open_part p form classes) (after_part p base)) ∙ satisfied) in
    let body = and_parts _ _ (sym (satisfies-append values (front_part p) (open_part p form classes)) ∙ all.0) in
    let between = IsBetween-rule_of p high values ends in
    let same = same_backgrounds p.rule high rule ends between in
    let before = MeetsBefore-same p rule p.rule h same (MeetsBefore-by_clauses p values kept fitting enough body.0) in
    let after = MeetsAfter-same p rule p.rule h same (MeetsAfter-by_clauses p values base kept fitting enough (omega arith) all.1) in
    record {
      between = between;
      solution = record {
        sizes = has.sizes;
        cells = before.cells;
        symmetric = before.symmetric;
        moved = before.moved;
        rule = Obeys-by_clauses p form high h values ends has body.1 same;
        populated = after.populated;
        differ = after.differ;
        exact = after.exact;
        unlisted = after.unlisted;
      };
    }

enough_values : (p : PosedProblem) (form : Form) (high values : List Bool) → length values ≡ (open_formula p high form).vars → length p.posed.cells ≤ length values
unfolding open_formula
enough_values p form high values len = omega (arith, len)

pub unsatisfiable_from : (p : PosedProblem) (form : Form) (high : List Bool) → IsPosed p.posed → AreFitting p.posed p.demands → AreEnds p.rule high → IsOpenlyAbsent p high → IsUnsatisfiable (open_formula p high form)
unsatisfiable_from p form high kept fitting ends absent values len =
    false_from_ne_true (satisfies values (open_formula p high form).clauses)
    (λ satisfied. absent (history_of p values) (rule_of p high values) (IsOpenSolution-by_clauses p form high values kept fitting ends (enough_values p form high values len) satisfied))
