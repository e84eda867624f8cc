-- Every solution has an assignment that satisfies the formula.
use Rattle.std.proofs.Common.{◌≡◌, ◌<◌, ◌≤◌, ℕ, suc, ◌+◌, ◌-◌, ℤ, pos, ◌-ℤ◌, Bool, true, false, not, ◌&&◌, ◌||◌, cond, List, [], ◌∷◌, ◌++◌, length, refl, sym, ap, ◌∙◌, subst, arith, Option, None, Some, get_or, ◌==◌, add-one, append_assoc, length-append}
use Rattle.std.specs.Option.{option_map_or}
use Rattle.std.specs.List.{flat_map, position_from}
use Rattle.std.proofs.lemmas.Bool.{and_parts, and_from, eqb-true}
use Rattle.std.proofs.lemmas.List.{append-nil}
use Rattle.lls_lit.specs.Formula.{Clause, is_true, satisfies, IsUnsatisfiable}
use Rattle.lls_grid.specs.History.{History, HasSizes, cells_of}
use Rattle.lls_search_file.specs.declared.cell.Cell.{Cell}
use Rattle.lls_search_file.specs.declared.cell.Kind.{Kind}
use Rattle.lls_search_file.specs.declared.cell.Kind.TheVariants.{Dead, Live, Free, Named, Negated}
use Rattle.lls_search_file.specs.Posed.{name_of, IsPosed}
use Rattle.lls_problem.specs.declared.demands.Edge.{Edge}
use Rattle.lls_problem.specs.declared.form.Form.{Form}
use Rattle.lls_problem.specs.Problem.{PosedProblem, AreFitting}
use Rattle.lls_problem.specs.Solution.{cell_number, HasItsBit, AreTied, MeetsCells, IsFramed, is_marked, Obeys, IsSolution, IsAbsent}
use Rattle.lls_cube.specs.declared.cube.Cube.{Cube}
use Rattle.lls_transition.specs.Transition.{ContainForbidden}
use Rattle.lls_encode.specs.Place.{inputs_at}
use Rattle.lls_encode.specs.History.{HasAssignment}
use Rattle.lls_encode.specs.Parts.{MeetsBefore, MeetsAfter, HasExtension, after_part}
use Rattle.std.proofs.Math.Seq.{take-append_seam}
use Rattle.lls_problem.specs.Exact.{excluded}
use Rattle.lls_encode.specs.Formula.{fixed_clauses, same, name_literal, has_name, tied_to, name_clauses, first_framed, framed_count, framed, cubes_of, clauses_at, place_clauses, line_clauses, generation_clauses, transitions_by, fixed_part, name_part, symmetry_part, period_part, front_part, transition_part, bounds_part, bounds_vars, difference_base, difference_part, asked_part, asked_vars, exact_part, listed_part, formula_of}
use Rattle.lls_encode.proofs.Steps.{flat_map-map}
use Rattle.lls_encode.proofs.Framed.{IsFramedLine, framed_place, framed_both}
use Rattle.lls_encode.proofs.Parts.{satisfies-append}
use Rattle.lls_encode.proofs.Values.{HasCells, is_true-cell}
use Rattle.lls_encode.proofs.Mirrored.{satisfies-symmetry_part}
use Rattle.lls_encode.proofs.Returned.{satisfies-period_part}
use Rattle.lls_encode.proofs.Differing.{marks_where, length-marks_where, count_of, HasCells-append, satisfies-asked_part}
use Rattle.lls_encode.proofs.Unseen.{AreMarks, all_marks, length-all_marks, marks_front, marks_behind, satisfies-exact_part}
use Rattle.lls_encode.proofs.Unlisted.{satisfies-listed_part}
use Rattle.lls_encode.proofs.AllBounds.{AreBounds, HasCounters, satisfies-bounds_clauses, AllCount-append, has_counters}
use Rattle.lls_encode.proofs.Satisfied.{satisfies-range, is_true-negation, is_literal, or_left}
use Rattle.lls_encode.proofs.Obeyed.{cubes_contain, satisfies-by_successor}

not_not : (b : Bool) → not (not b) ≡ b
not_not true = refl
not_not false = refl

unless : (values : List Bool) (b : Bool) (clauses : List Clause) → satisfies values clauses ≡ true → satisfies values (cond b [] clauses) ≡ true
unless values true clauses e = refl
unless values false clauses e = e

named : (o : Option ℕ) (n : ℕ) → option_map_or (λ m. m == n) o false ≡ true → o ≡ Some n
named None n e = cc
named (Some m) n e = ap Some (eqb-true m n e)

-- a fixed cell's clause
satisfies-fixed_clauses : (values : List Bool) (k : ℕ) (kind : Kind) → HasItsBit kind (get_or values k false) → satisfies values (fixed_clauses k kind) ≡ true
satisfies-fixed_clauses values k Dead bit = and_from _ _ (or_left _ _ (ap not bit)) refl
satisfies-fixed_clauses values k Live bit = and_from _ _ (or_left _ _ (is_true-cell values k ∙ bit)) refl
satisfies-fixed_clauses values k Free bit = refl
satisfies-fixed_clauses values k (Named n) bit = refl
satisfies-fixed_clauses values k (Negated n) bit = refl

-- two literals that agree
agree : (a b : Bool) → a ≡ b → ((not a || (b || false)) && ((a || (not b || false)) && true)) ≡ true
agree true true e = refl
agree true false e = cc
agree false true e = cc
agree false false e = refl

satisfies-same : (values : List Bool) (a b : ℤ) → is_literal a ≡ true → is_literal b ≡ true → is_true values a ≡ is_true values b → satisfies values (same a b) ≡ true
satisfies-same values a b a_lit b_lit e =
    rw (is_true-negation values a a_lit, is_true-negation values b b_lit) (agree (is_true values a) (is_true values b) e)

pub name_literal_is : (k : ℕ) (kind : Kind) → is_literal (name_literal k kind) ≡ true
name_literal_is k Dead = rw add-one refl
name_literal_is k Live = rw add-one refl
name_literal_is k Free = rw add-one refl
name_literal_is k (Named n) = rw add-one refl
name_literal_is k (Negated n) = refl

-- the literals of two cells of one name agree
names_agree : (values : List Bool) (j k n : ℕ) (first kind : Kind) → name_of first ≡ Some n → name_of kind ≡ Some n
    → AreTied first kind (get_or values j false) (get_or values k false) → is_true values (name_literal j first) ≡ is_true values (name_literal k kind)
names_agree values j k n Dead kind e e' tied = cc
names_agree values j k n Live kind e e' tied = cc
names_agree values j k n Free kind e e' tied = cc
names_agree values j k n (Named m) Dead e e' tied = cc
names_agree values j k n (Named m) Live e e' tied = cc
names_agree values j k n (Named m) Free e e' tied = cc
names_agree values j k n (Negated m) Dead e e' tied = cc
names_agree values j k n (Negated m) Live e e' tied = cc
names_agree values j k n (Negated m) Free e e' tied = cc
names_agree values j k n (Named m) (Named m') e e' tied = let one : m ≡ m' = cc in is_true-cell values j ∙ tied one ∙ sym (is_true-cell values k)
names_agree values j k n (Named m) (Negated m') e e' tied = let one : m ≡ m' = cc in is_true-cell values j ∙ tied one
names_agree values j k n (Negated m) (Named m') e e' tied = let one : m ≡ m' = cc in ap not (tied one) ∙ not_not (get_or values k false) ∙ sym (is_true-cell values k)
names_agree values j k n (Negated m) (Negated m') e e' tied = let one : m ≡ m' = cc in ap not (tied one)

-- what the first place of a name is
has_name_is : (n : ℕ) (cell : Cell) → has_name n cell ≡ true → name_of cell.kind ≡ Some n
has_name_is n cell e = named (name_of cell.kind) n e

first_has : (cells : List Cell) (n a first : ℕ) → position_from (has_name n) a cells ≡ Some first
    → (i : ℕ) × (first ≡ a + i) × (i < length cells) × (has_name n (cell_number cells i) ≡ true)
first_has [] n a first e = cc
first_has (cell ∷ cells) n a first e =
    elim (has_name n cell) as (λ b. has_name n cell ≡ b → cond b (Some a) (position_from (has_name n) (a + 1) cells) ≡ Some first → (i : ℕ) × (first ≡ a + i) × (i < length (cell ∷ cells)) × (has_name n (cell_number (cell ∷ cells) i) ≡ true)) [
      | true ↦ λ yes is. let here : a ≡ first = cc in (0, omega arith, omega arith, yes)
      | false ↦ λ no is. let later = first_has cells n (a + 1) first is in (suc later.0, omega (arith, later.1), omega (arith, later.2), later.3)
    ] refl e

-- what cells say of values they say of others that are equal there
pub MeetsCells-same : (cells : List Cell) (v w : List Bool) → ((k : ℕ) → k < length cells → get_or v k false ≡ get_or w k false) → MeetsCells cells v → MeetsCells cells w
MeetsCells-same cells v w same meets = record {
  fixed = λ k k_in. subst (HasItsBit (cell_number cells k).kind) (same k k_in) (meets.fixed k k_in);
  tied = λ j k j_in k_in.
      subst (λ b. AreTied (cell_number cells j).kind (cell_number cells k).kind (get_or w j false) b) (same k k_in)
      (subst (λ a. AreTied (cell_number cells j).kind (cell_number cells k).kind a (get_or v k false)) (same j j_in) (meets.tied j k j_in k_in));
}

satisfies-tied_to : (values : List Bool) (cells : List Cell) → MeetsCells cells values → (k n : ℕ) → k < length cells → name_of (cell_number cells k).kind ≡ Some n
    → (o : Option ℕ) → position_from (has_name n) 0 cells ≡ o → satisfies values (tied_to cells k o) ≡ true
satisfies-tied_to values cells meets k n k_in named None e = refl
satisfies-tied_to values cells meets k n k_in named (Some first) e =
    let found = first_has cells n 0 first e in
    let at : found.0 ≡ first = omega (arith, found.1) in
    let first_in : first < length cells = omega (arith, found.2) in
    let first_named : name_of (cell_number cells first).kind ≡ Some n = has_name_is n (cell_number cells first) (subst (λ i. has_name n (cell_number cells i) ≡ true) at found.3) in
    unless values (first == k) _
    (satisfies-same values _ _ (name_literal_is first _) (name_literal_is k _)
    (names_agree values first k n (cell_number cells first).kind (cell_number cells k).kind first_named named (meets.tied first k first_in k_in)))

satisfies-name_clauses : (values : List Bool) (cells : List Cell) → MeetsCells cells values → (k : ℕ) → k < length cells → (o : Option ℕ) → name_of (cell_number cells k).kind ≡ o
    → satisfies values (option_map_or (λ n. tied_to cells k (position_from (has_name n) 0 cells)) o []) ≡ true
satisfies-name_clauses values cells meets k k_in None named = refl
satisfies-name_clauses values cells meets k k_in (Some n) named = satisfies-tied_to values cells meets k n k_in named (position_from (has_name n) 0 cells) refl

satisfies-place_clauses : (p : PosedProblem) (form : Form) (cubes : List Cube) → ContainForbidden p.rule cubes → (h : History) (values : List Bool) → HasCells p values h → Obeys p h → (t : ℕ) (y x : ℤ)
    → t + 1 < p.posed.generations → IsFramed p.demands.edge p.posed.height p.posed.width y x → (b : Bool) → is_marked p.posed (t + 1) y x ≡ b
    → satisfies values (cond b [] (clauses_at form cubes (inputs_at p t y x))) ≡ true
satisfies-place_clauses p form cubes just h values has obeys t y x next_in in_frame true mark = refl
satisfies-place_clauses p form cubes just h values has obeys t y x next_in in_frame false mark =
    satisfies-by_successor p form cubes just h values has t y x next_in (obeys t y x next_in in_frame mark)

pub satisfies-framed : (values : List Bool) (f : ℤ → List Clause) (edge : Edge) (size : ℕ) → ((x : ℤ) → IsFramedLine edge size x → satisfies values (f x) ≡ true)
    → satisfies values (flat_map f (framed edge size)) ≡ true
satisfies-framed values f edge size each =
    ap (satisfies values) (flat_map-map f (λ (k : ℕ). pos k -ℤ pos 1) _)
    ∙ satisfies-range values (λ k. f (pos k -ℤ pos 1)) (first_framed edge) (framed_count edge size) (λ k low high. each (pos k -ℤ pos 1) (framed_place edge size k low high))

satisfies-generation_clauses : (p : PosedProblem) (form : Form) (cubes : List Cube) → ContainForbidden p.rule cubes → (h : History) (values : List Bool) → HasCells p values h → Obeys p h → (t : ℕ)
    → t + 1 < p.posed.generations → satisfies values (generation_clauses p form cubes t) ≡ true
satisfies-generation_clauses p form cubes just h values has obeys t next_in =
    satisfies-framed values (line_clauses p form cubes t) p.demands.edge p.posed.height
    (λ y line. satisfies-framed values (place_clauses p form cubes t y) p.demands.edge p.posed.width
    (λ x column. satisfies-place_clauses p form cubes just h values has obeys t y x next_in (framed_both p.demands.edge p.posed.height p.posed.width y x line column) (is_marked p.posed (t + 1) y x) refl))

-- what stands before the transitions
pub satisfies-front_part : (p : PosedProblem) (h : History) (values : List Bool) → HasCells p values h → AreFitting p.posed p.demands → MeetsBefore p h → satisfies values (front_part p) ≡ true
satisfies-front_part p h values has fitting s =
    let meets = MeetsCells-same p.posed.cells (cells_of h) values (λ k k_in. sym (has.cells k k_in)) s.cells in
    let fixed : satisfies values (fixed_part p) ≡ true =
    satisfies-range values (λ k. fixed_clauses k (cell_number p.posed.cells k).kind) 0 (length p.posed.cells) (λ k low high. satisfies-fixed_clauses values k _ (meets.fixed k (omega arith))) in
    let names : satisfies values (name_part p) ≡ true =
    satisfies-range values (λ k. name_clauses p.posed.cells k) 0 (length p.posed.cells) (λ k low high. satisfies-name_clauses values p.posed.cells meets k (omega arith) _ refl) in
    satisfies-append values (fixed_part p ++ name_part p ++ symmetry_part p) (period_part p)
    ∙ and_from _ _ (satisfies-append values (fixed_part p ++ name_part p) (symmetry_part p)
    ∙ and_from _ _ (satisfies-append values (fixed_part p) (name_part p) ∙ and_from _ _ fixed names) (satisfies-symmetry_part p h values has fitting s.symmetric))
    (satisfies-period_part p h values has fitting s.moved)

satisfies-transitions_by : (p : PosedProblem) (form : Form) (cubes : List Cube) → ContainForbidden p.rule cubes → (h : History) (values : List Bool) → HasCells p values h → Obeys p h
    → satisfies values (transitions_by p form cubes) ≡ true
satisfies-transitions_by p form cubes just h values has obeys =
    satisfies-range values (generation_clauses p form cubes) 0 (p.posed.generations - 1) (λ t low high. satisfies-generation_clauses p form cubes just h values has obeys t (omega arith))

-- bounds that fit the file
pub AreBounds-fitting : (p : PosedProblem) → AreFitting p.posed p.demands → AreBounds p p.demands.bounds
AreBounds-fitting p fitting = record { bounded = fitting.bounded; ordered = fitting.ordered }

-- the values of one part behind those of another
gathered : (values counters asked unseen further : List Bool) → values ++ ((counters ++ (asked ++ unseen)) ++ further) ≡ (values ++ counters) ++ (asked ++ (unseen ++ further))
gathered values counters asked unseen further =
    ap (λ vs. values ++ vs) (append_assoc counters (asked ++ unseen) further ∙ ap (λ vs. counters ++ vs) (append_assoc asked unseen further))
    ∙ sym (append_assoc values counters (asked ++ (unseen ++ further)))

-- Behind any values whose first are the cells of a history that meets the demands behind the transitions, there are values
-- of the counters, and where generations have to differ, the cells in which they do.
pub has_extension : (p : PosedProblem) (h : History) (values : List Bool) → IsPosed p.posed → AreFitting p.posed p.demands → HasCells p values h → length p.posed.cells ≤ length values → MeetsAfter p h
    → HasExtension p values
has_extension p h values kept fitting has enough meets =
    let fit = AreBounds-fitting p fitting in
    let counters : HasCounters p values p.demands.bounds = has_counters p kept p.demands.bounds fit values enough in
    let before : List Bool = values ++ counters.more in
    let asked : List Bool = marks_where p before p.demands.differ in
    let unseen : List Bool = all_marks p h (excluded p.demands) in
    let marks : List Bool = asked ++ unseen in
    let len : length before ≡ length values + bounds_vars p = omega (arith, length-append values counters.more, counters.count) in
    let has_before : HasCells p before h = HasCells-append p h values counters.more has enough in
    record {
      more = counters.more ++ marks;
      count = length-append counters.more marks ∙ ap (λ n. n + length marks) counters.count
          ∙ ap (λ n. bounds_vars p + n) (length-append asked unseen ∙ ap (λ n. n + length unseen) (length-marks_where p before) ∙ ap (λ n. asked_vars p + n) (length-all_marks p h (excluded p.demands)));
      satisfied = λ further.
          let later : List Bool = unseen ++ further in
          let behind : List Bool = asked ++ later in
          let has_all : HasCells p (before ++ behind) h = HasCells-append p h before behind has_before (omega (arith, len, enough)) in
          let bounds : satisfies (before ++ behind) (bounds_part p (length values)) ≡ true =
          satisfies-bounds_clauses p h (before ++ behind) has_all (length values) enough p.demands.bounds fit
          (AllCount-append p kept before behind (omega (arith, len, enough)) (length values) p.demands.bounds fit (omega (arith, len)) counters.counts) meets.populated in
          let difference : satisfies (before ++ behind) (difference_part p (length values + bounds_vars p)) ≡ true =
          ap (λ base. satisfies (before ++ behind) (difference_part p base)) (sym len)
          ∙ satisfies-append (before ++ behind) (asked_part p (length before) ++ exact_part p (length before + asked_vars p)) (listed_part p)
          ∙ and_from _ _ (satisfies-append (before ++ behind) (asked_part p (length before)) (exact_part p (length before + asked_vars p))
          ∙ and_from _ _ (satisfies-asked_part p h before later has_before (omega (arith, len, enough)) fitting meets.differ)
          (satisfies-exact_part p h (before ++ behind) has_all (length before + asked_vars p) fitting meets.exact
          (marks_front (before ++ behind) (length before + asked_vars p) unseen further
          (subst (λ n. AreMarks (before ++ behind) (length before + n) later) (length-marks_where p before) (marks_behind before asked later)))))
          (satisfies-listed_part p h (before ++ behind) has_all fitting meets.unlisted) in
          ap (λ vs. satisfies vs (after_part p (length values))) (gathered values counters.more asked unseen further)
          ∙ satisfies-append (before ++ behind) (bounds_part p (length values)) (difference_part p (length values + bounds_vars p)) ∙ and_from _ _ bounds difference;
    }

pub HasCells-cells_of : (p : PosedProblem) (h : History) → IsPosed p.posed → HasSizes p.posed.generations p.posed.height p.posed.width h → HasCells p (cells_of h) h
HasCells-cells_of p h kept sizes = record { kept = kept; sizes = sizes; cells = λ k k_in. refl }

-- A solution's cells and such values behind them, whatever follows, satisfy the clauses.
pub satisfies-formula_of : (p : PosedProblem) (form : Form) (h : History) → IsPosed p.posed → AreFitting p.posed p.demands → IsSolution p h → (after : HasExtension p (cells_of h)) → (further : List Bool)
    → satisfies (cells_of h ++ (after.more ++ further)) (formula_of p form).clauses ≡ true
unfolding formula_of
satisfies-formula_of p form h kept fitting s after further =
    let values : List Bool = cells_of h ++ (after.more ++ further) in
    let count : length (cells_of h) ≡ length p.posed.cells = count_of p h kept s.sizes in
    let has : HasCells p values h = HasCells-append p h (cells_of h) (after.more ++ further) (HasCells-cells_of p h kept s.sizes) (omega (arith, count)) in
    let satisfied : satisfies values (after_part p (length p.posed.cells)) ≡ true = ap (λ base. satisfies values (after_part p base)) (sym count) ∙ after.satisfied further in
    let parts = and_parts _ _ (sym (satisfies-append values (bounds_part p (length p.posed.cells)) (difference_part p (difference_base p))) ∙ satisfied) in
    satisfies-append values (front_part p ++ transition_part p form ++ bounds_part p (length p.posed.cells)) (difference_part p (difference_base p))
    ∙ and_from _ _ (satisfies-append values (front_part p ++ transition_part p form) (bounds_part p (length p.posed.cells))
    ∙ and_from _ _ (satisfies-append values (front_part p) (transition_part p form)
    ∙ and_from _ _ (satisfies-front_part p h values has fitting (record { cells = s.cells; symmetric = s.symmetric; moved = s.moved }))
    (satisfies-transitions_by p form (cubes_of form p.rule) (cubes_contain form p.rule) h values has s.rule))
    parts.0)
    parts.1

-- a value for each variable
pub length-values : (p : PosedProblem) (form : Form) (h : History) → IsPosed p.posed → HasSizes p.posed.generations p.posed.height p.posed.width h → (after : HasExtension p (cells_of h))
    → length (cells_of h ++ after.more) ≡ (formula_of p form).vars
unfolding formula_of
length-values p form h kept sizes after = omega (arith, length-append (cells_of h) after.more, count_of p h kept sizes, after.count)

pub extension_of : (p : PosedProblem) → IsPosed p.posed → AreFitting p.posed p.demands → (history : History) → IsSolution p history → HasExtension p (cells_of history)
extension_of p kept fitting history solution =
    let count : length (cells_of history) ≡ length p.posed.cells = count_of p history kept solution.sizes in
    has_extension p history (cells_of history) kept fitting (HasCells-cells_of p history kept solution.sizes) (omega (arith, count))
    (record { populated = solution.populated; differ = solution.differ; exact = solution.exact; unlisted = solution.unlisted })

-- the theorem
pub HasAssignment-values_of : (p : PosedProblem) (form : Form) → IsPosed p.posed → AreFitting p.posed p.demands → (history : History) → IsSolution p history → HasAssignment (formula_of p form) history
HasAssignment-values_of p form kept fitting history solution =
    let cells : List Bool = cells_of history in
    let after : HasExtension p cells = extension_of p kept fitting history solution in
    record {
      values = cells ++ after.more;
      count = length-values p form history kept solution.sizes after;
      cells = take-append_seam cells after.more;
      satisfied = ap (λ more. satisfies (cells ++ more) (formula_of p form).clauses) (sym (append-nil after.more)) ∙ satisfies-formula_of p form history kept fitting solution after [];
    }

-- a formula that nothing satisfies has no solution
pub absent_from : (p : PosedProblem) (form : Form) → IsPosed p.posed → AreFitting p.posed p.demands → IsUnsatisfiable (formula_of p form) → IsAbsent p
absent_from p form kept fitting unsatisfiable history solution =
    let assigned = HasAssignment-values_of p form kept fitting history solution in
    let none = unsatisfiable assigned.values assigned.count in
    let all = assigned.satisfied in
    cc
