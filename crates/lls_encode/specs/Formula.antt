-- The formula of a problem, by its parts: fixed cells, names, symmetry, period, transitions, bounds on live cells, differing
-- generations, exact period, listed patterns. The transitions are by its form.
use Rattle.std.specs.Prelude.{ℕ, ◌+◌, ◌-◌, ◌*◌, ℤ, pos, negsuc, ◌-ℤ◌, Bool, true, false, ◌==◌, nat_le, List, [], ◌∷◌, ◌++◌, map, length, slice_index_or, Option, None, Some, if◌then◌else◌}
use Rattle.std.specs.Option.{option_map_or, option_to_list}
use Rattle.std.specs.List.{flat_map, range_with_len, position_from}
use Rattle.lls_lit.specs.Literal.{negation}
use Rattle.lls_lit.specs.Formula.{Clause, Cnf}
use Rattle.lls_search_file.specs.declared.cell.Cell.{Cell}
use Rattle.lls_search_file.specs.declared.cell.Kind.{Kind}
use Rattle.lls_search_file.specs.declared.cell.Kind.TheVariants.{Dead, Live, Free, Named, Negated}
use Rattle.lls_search_file.specs.Posed.{name_of}
use Rattle.lls_rule.specs.Rule.{background}
use Rattle.lls_symmetry.specs.declared.motion.Motion.{Motion}
use Rattle.lls_symmetry.specs.declared.pair.Pair.{Pair}
use Rattle.lls_symmetry.specs.declared.moved.Moved.{Moved}
use Rattle.lls_symmetry.specs.Symmetry.{generators_of}
use Rattle.lls_symmetry.specs.Pairs.{motion_pairs}
use Rattle.lls_symmetry.specs.Moved.{spot, generation_moved}
use Rattle.lls_problem.specs.declared.demands.Edge.{Edge}
use Rattle.lls_problem.specs.declared.demands.Edge.TheVariants.{Framed, Bare}
use Rattle.lls_problem.specs.declared.demands.Period.{Period}
use Rattle.lls_problem.specs.declared.form.Form.{Form}
use Rattle.lls_problem.specs.declared.form.Form.TheVariants.{Rows, Cover}
use Rattle.lls_problem.specs.declared.bounds.Bound.{Bound}
use Rattle.lls_problem.specs.Bounds.{top_end, counter_top, counter_vars, all_counter_vars}
use Rattle.lls_problem.specs.Problem.{Pattern, PosedProblem}
use Rattle.lls_problem.specs.Solution.{cell_number, is_marked}
use Rattle.lls_problem.specs.Unlike.{differ}
use Rattle.lls_problem.specs.Losses.{course_of}
use Rattle.lls_problem.specs.Exact.{excluded}
use Rattle.lls_cube.specs.declared.cube.Cube.{Cube}
use Rattle.lls_cube.specs.Table.{forbidden_rows}
use Rattle.lls_cube.specs.Cube.{row_cube}
use Rattle.lls_cube.specs.Cover.{cover_of}
use Rattle.lls_transition.specs.declared.place.Place.{Place}
use Rattle.lls_transition.specs.declared.place.Place.TheVariants.{Of}
use Rattle.lls_transition.specs.declared.table.TheConstants.{INPUTS}
use Rattle.lls_transition.specs.Clause.{differing, clause_of, cube_clauses, distinct}
use Rattle.lls_transition.specs.Transition.{table_of}
use Rattle.lls_cardinality.specs.Counter.{at_least, counter_clauses}
use Rattle.lls_encode.specs.Place.{place_at, inputs_at}

-- The kth cell has the variable k + 1. A fixed cell gives it, or its negation.
abbrev pub fixed_clauses : ℕ → Kind → List Clause
fixed_clauses k Dead = (negsuc k ∷ []) ∷ []
fixed_clauses k Live = (pos (k + 1) ∷ []) ∷ []
fixed_clauses k Free = []
fixed_clauses k (Named n) = []
fixed_clauses k (Negated n) = []

-- two literals are equal
abbrev pub same : ℤ → ℤ → List Clause
same a b = (negation a ∷ b ∷ []) ∷ (a ∷ negation b ∷ []) ∷ []

-- the literal of a name at the kth cell: its variable where it stands plain, the negation where it stands with `-`
abbrev pub name_literal : ℕ → Kind → ℤ
name_literal k Dead = pos (k + 1)
name_literal k Live = pos (k + 1)
name_literal k Free = pos (k + 1)
name_literal k (Named n) = pos (k + 1)
name_literal k (Negated n) = negsuc k

-- whether a cell has that name
abbrev pub has_name : ℕ → Cell → Bool
has_name n cell = option_map_or (λ m. m == n) (name_of cell.kind) false

-- the kth cell and the first cell of its name, where that is another, say the same
abbrev pub tied_to : List Cell → ℕ → Option ℕ → List Clause
tied_to cells k None = []
tied_to cells k (Some first) =
    if first == k then [] else same (name_literal first (cell_number cells first).kind) (name_literal k (cell_number cells k).kind)

abbrev pub name_clauses : List Cell → ℕ → List Clause
name_clauses cells k = option_map_or (λ n. tied_to cells k (position_from (has_name n) 0 cells)) (name_of (cell_number cells k).kind) []

-- The framed rows or columns, where the grid has `size` of them: one before and one behind the grid under a closed edge.
abbrev pub first_framed : Edge → ℕ
first_framed Framed = 0
first_framed Bare = 1

abbrev pub framed_count : Edge → ℕ → ℕ
framed_count Framed size = size + 2
framed_count Bare size = size

abbrev pub framed : Edge → ℕ → List ℤ
framed edge size = map (λ i. pos i -ℤ pos 1) (range_with_len (first_framed edge) (framed_count edge size))

-- the cubes of a table of so many inputs: one for each forbidden row, ascending, or the cover of these rows
abbrev pub cubes_in : Form → ℕ → List Bool → List Cube
cubes_in Rows inputs table = map (row_cube inputs) (forbidden_rows table)
cubes_in Cover inputs table = cover_of table inputs

-- those of a rule's transitions
abbrev pub cubes_of : Form → List Bool → List Cube
cubes_of form rule = cubes_in form INPUTS (table_of rule)

-- the clauses of cubes with these inputs; of a cover's, one that equals an earlier one, as a list, is left out
abbrev pub clauses_at : Form → List Cube → List Place → List Clause
clauses_at Rows cubes inputs = cube_clauses inputs cubes
clauses_at Cover cubes inputs = distinct (cube_clauses inputs cubes)

-- the transition into a place of generation t + 1, unless a mark frees it
abbrev pub place_clauses : PosedProblem → Form → List Cube → ℕ → ℤ → ℤ → List Clause
place_clauses p form cubes t y x = if is_marked p.posed (t + 1) y x then [] else clauses_at form cubes (inputs_at p t y x)

abbrev pub line_clauses : PosedProblem → Form → List Cube → ℕ → ℤ → List Clause
line_clauses p form cubes t y = flat_map (place_clauses p form cubes t y) (framed p.demands.edge p.posed.width)

abbrev pub generation_clauses : PosedProblem → Form → List Cube → ℕ → List Clause
generation_clauses p form cubes t = flat_map (line_clauses p form cubes t) (framed p.demands.edge p.posed.height)

-- one of two places is true
abbrev pub either : Place → Place → List Clause
either a b = option_to_list (clause_of (a ∷ b ∷ []))

-- two places are equal
abbrev pub same_places : Place → Place → List Clause
same_places a b = either (differing a true) b ++ either a (differing b true)

-- the cells of a pair are equal in generation t
abbrev pub pair_clauses : PosedProblem → ℕ → Pair → List Clause
pair_clauses p t pair = same_places (place_at p t (pos pair.from_y) (pos pair.from_x)) (place_at p t (pos pair.to_y) (pos pair.to_x))

-- of a generator, generation by generation, the pairs in their order
abbrev pub symmetric_clauses : PosedProblem → Motion → ℕ → List Clause
symmetric_clauses p motion t = flat_map (pair_clauses p t) (motion_pairs p.posed.height p.posed.width motion)

abbrev pub motion_clauses : PosedProblem → Motion → List Clause
motion_clauses p motion = flat_map (symmetric_clauses p motion) (range_with_len 0 p.posed.generations)

-- a place and where it is a period later are equal
abbrev pub moved_clauses : PosedProblem → Moved → List Clause
moved_clauses p pair = same_places (place_at p pair.early.t pair.early.y pair.early.x) (place_at p pair.late.t pair.late.y pair.late.x)

-- no assignment satisfies the clause without literals: it stands where the background isn't the same a period later
abbrev pub background_clauses : PosedProblem → Period → ℕ → List Clause
background_clauses p period t = if differ (background p.rule t) (background p.rule (t + period.length)) then [] ∷ [] else []

-- generation t is there again a period later, moved by the shift
abbrev pub return_clauses : PosedProblem → Period → ℕ → List Clause
return_clauses p period t =
    background_clauses p period t ++ flat_map (moved_clauses p) (generation_moved p.posed.height p.posed.width (course_of period t))

abbrev pub period_clauses : PosedProblem → Period → List Clause
period_clauses p period = flat_map (return_clauses p period) (range_with_len 0 (p.posed.generations - period.length))

-- how many cells a generation has
abbrev pub generation_size : PosedProblem → ℕ
generation_size p = p.posed.width * p.posed.height

-- the variable of the kth cell of generation t, in the order row, column
abbrev pub cell_of_generation : PosedProblem → ℕ → ℕ → ℤ
cell_of_generation p t k = pos (k + generation_size p * t + 1)

-- the variables of all cells of generation t
abbrev pub generation_cells : PosedProblem → ℕ → List ℤ
generation_cells p t = map (cell_of_generation p t) (range_with_len 0 (generation_size p))

-- Of a counter of `size` cells: at least `low` are live. At least none says nothing.
abbrev pub low_clauses : ℕ → ℕ → ℕ → ℕ → List Clause
low_clauses base top size low = if low == 0 then [] else (at_least base top (size - 1) (low - 1) ∷ []) ∷ []

-- not more than `top_end` are. Not more than all says nothing.
abbrev pub high_clauses : ℕ → ℕ → ℕ → ℕ → List Clause
high_clauses base top size end = if nat_le size end then [] else (negation (at_least base top (size - 1) end) ∷ []) ∷ []

-- the counter of the cells of a bound's generation, whose variables stand behind the first `base`, and what it says of them
abbrev pub counted_clauses : PosedProblem → ℕ → Bound → List Clause
counted_clauses p base bound =
    let size = generation_size p in
    let top = counter_top size bound in
    counter_clauses base top (generation_cells p bound.generation) ++ (low_clauses base top size bound.low ++ high_clauses base top size (top_end size bound))

-- a bound that needs no counter gives nothing
abbrev pub bound_clauses : PosedProblem → ℕ → Bound → List Clause
bound_clauses p base bound = if counter_top (generation_size p) bound == 0 then [] else counted_clauses p base bound

-- bounds one after another, each with variables of its own
abbrev pub bounds_clauses : PosedProblem → ℕ → List Bound → List Clause
bounds_clauses p base [] = []
bounds_clauses p base (bound ∷ bounds) = bound_clauses p base bound ++ bounds_clauses p (base + counter_vars (generation_size p) bound) bounds

-- where d is true, a and b differ
abbrev pub difference_clauses : ℤ → ℤ → ℤ → List Clause
difference_clauses d a b = (negation d ∷ a ∷ b ∷ []) ∷ (negation d ∷ negation a ∷ negation b ∷ []) ∷ []

-- The variables behind the first `base`, one a cell of the grid. Where the kth is true, the kth cell differs in two generations.
abbrev pub difference_variable : ℕ → ℕ → ℤ
difference_variable base k = pos (base + k + 1)

abbrev pub cell_difference : PosedProblem → ℕ → ℕ × ℕ → ℕ → List Clause
cell_difference p base pair k =
    difference_clauses (difference_variable base k) (cell_of_generation p pair.0 k) (cell_of_generation p pair.1 k)

-- and some of them is true
abbrev pub differing_clauses : PosedProblem → ℕ → ℕ × ℕ → List Clause
differing_clauses p base pair =
    flat_map (cell_difference p base pair) (range_with_len 0 (generation_size p))
    ++ map (difference_variable base) (range_with_len 0 (generation_size p)) ∷ []

-- where d is true, the values of two places differ: of each clause a known place that is false drops out, and it is left out where one is true
abbrev pub any_of : ℤ → Place → Place → List Clause
any_of d a b = option_to_list (clause_of (Of d ∷ a ∷ b ∷ []))

abbrev pub unequal_clauses : ℤ → Place → Place → List Clause
unequal_clauses d a b = any_of (negation d) a b ++ any_of (negation d) (differing a true) (differing b true)

-- Of pairs of places, each with a variable behind the first `base`: where the kth variable is true, the places of the kth pair differ.
abbrev pub pair_at : List Moved → ℕ → Moved
pair_at pairs k = slice_index_or pairs k (record { early = spot 0 (pos 0) (pos 0); late = spot 0 (pos 0) (pos 0) })

abbrev pub pair_difference : PosedProblem → ℕ → List Moved → ℕ → List Clause
pair_difference p base pairs k =
    let pair = pair_at pairs k in
    unequal_clauses (difference_variable base k) (place_at p pair.early.t pair.early.y pair.early.x) (place_at p pair.late.t pair.late.y pair.late.x)

-- and some of them is true
abbrev pub unequal_pairs : PosedProblem → ℕ → List Moved → List Clause
unequal_pairs p base pairs =
    flat_map (pair_difference p base pairs) (range_with_len 0 (length pairs)) ++ map (difference_variable base) (range_with_len 0 (length pairs)) ∷ []

-- Generation 0 isn't there again after a shorter period. Where the background isn't the same then, that needs no clause.
abbrev pub has_other_background : PosedProblem → Period → Bool
has_other_background p part = differ (background p.rule 0) (background p.rule part.length)

abbrev pub pairs_of : PosedProblem → Period → List Moved
pairs_of p part = generation_moved p.posed.height p.posed.width (course_of part 0)

abbrev pub unseen_clauses : PosedProblem → ℕ → Period → List Clause
unseen_clauses p base part = if has_other_background p part then [] else unequal_pairs p base (pairs_of p part)

abbrev pub unseen_vars : PosedProblem → Period → ℕ
unseen_vars p part = if has_other_background p part then 0 else length (pairs_of p part)

-- of shorter periods one after another, each with variables of its own
abbrev pub all_unseen : PosedProblem → ℕ → List Period → List Clause
all_unseen p base [] = []
all_unseen p base (part ∷ parts) = unseen_clauses p base part ++ all_unseen p (base + unseen_vars p part) parts

abbrev pub all_unseen_vars : PosedProblem → List Period → ℕ
all_unseen_vars p [] = 0
all_unseen_vars p (part ∷ parts) = unseen_vars p part + all_unseen_vars p parts

-- generation 0 isn't a pattern: some cell of it is the other one
abbrev pub other_cell : PosedProblem → Pattern → ℕ → ℤ
other_cell p pattern k =
    let cell = cell_of_generation p 0 k in if slice_index_or pattern k false then negation cell else cell

abbrev pub unlike : PosedProblem → Pattern → Clause
unlike p pattern = map (other_cell p pattern) (range_with_len 0 (generation_size p))

-- the parts in their order
abbrev pub fixed_part : PosedProblem → List Clause
fixed_part p = flat_map (λ k. fixed_clauses k (cell_number p.posed.cells k).kind) (range_with_len 0 (length p.posed.cells))

abbrev pub name_part : PosedProblem → List Clause
name_part p = flat_map (name_clauses p.posed.cells) (range_with_len 0 (length p.posed.cells))

abbrev pub symmetry_part : PosedProblem → List Clause
symmetry_part p = flat_map (motion_clauses p) (generators_of p.demands.symmetry)

abbrev pub period_part : PosedProblem → List Clause
period_part p = option_map_or (period_clauses p) p.demands.period []

abbrev pub transitions_by : PosedProblem → Form → List Cube → List Clause
transitions_by p form cubes = flat_map (generation_clauses p form cubes) (range_with_len 0 (p.posed.generations - 1))

abbrev pub transition_part : PosedProblem → Form → List Clause
transition_part p form = transitions_by p form (cubes_of form p.rule)

abbrev pub bounds_part : PosedProblem → ℕ → List Clause
bounds_part p base = bounds_clauses p base p.demands.bounds

-- how many variables that part has of its own
abbrev pub bounds_vars : PosedProblem → ℕ
bounds_vars p = all_counter_vars (generation_size p) p.demands.bounds

-- two generations that are asked to differ, and behind them the shorter periods that an exact one excludes
abbrev pub asked_part : PosedProblem → ℕ → List Clause
asked_part p base = option_map_or (differing_clauses p base) p.demands.differ []

abbrev pub asked_vars : PosedProblem → ℕ
asked_vars p = option_map_or (λ pair. generation_size p) p.demands.differ 0

abbrev pub exact_part : PosedProblem → ℕ → List Clause
exact_part p base = all_unseen p base (excluded p.demands)

abbrev pub exact_vars : PosedProblem → ℕ
exact_vars p = all_unseen_vars p (excluded p.demands)

-- the listed patterns that generation 0 mustn't be
abbrev pub listed_part : PosedProblem → List Clause
listed_part p = map (unlike p) p.demands.listed

abbrev pub difference_part : PosedProblem → ℕ → List Clause
difference_part p base = asked_part p base ++ exact_part p (base + asked_vars p) ++ listed_part p

-- and how many that has
abbrev pub difference_vars : PosedProblem → ℕ
difference_vars p = asked_vars p + exact_vars p

-- what stands before the transitions
abbrev pub front_part : PosedProblem → List Clause
front_part p = fixed_part p ++ name_part p ++ symmetry_part p ++ period_part p

-- the variables before those of the difference: one a cell, and those of the counters
abbrev pub difference_base : PosedProblem → ℕ
difference_base p = length p.posed.cells + bounds_vars p

-- one variable a cell, and behind these the variables of the counters and of the difference
unfoldable pub formula_of : PosedProblem → Form → Cnf
formula_of p form = record {
  vars = difference_base p + difference_vars p;
  clauses = front_part p ++ transition_part p form ++ bounds_part p (length p.posed.cells) ++ difference_part p (difference_base p);
}
