-- The clauses of listed patterns say that generation 0 is none of them, and a solution's assignment satisfies them.
use Rattle.std.proofs.Common.{◌≡◌, ◌≢◌, ◌<◌, ◌≤◌, ℕ, zero, suc, ◌+◌, ◌*◌, ℤ, Bool, true, false, not, ◌||◌, cond, List, [], ◌∷◌, ◌++◌, map, length, get_or, take, refl, sym, ap, ◌∙◌, subst, arith, inl, inr, append_assoc, length-append}
use Rattle.std.specs.List.{All, list_any, range_with_len}
use Rattle.std.proofs.lemmas.Bool.{and_parts, and_from, cases_lt}
use Rattle.std.proofs.lemmas.List.{ext_get_or, length-map, length-take-le, get_or-take, map-append, take_more}
use Rattle.std.proofs.lemmas.List.Elements.{All-nil, All-cons, All-head, All-tail}
use Rattle.lls_lit.specs.Literal.{negation}
use Rattle.lls_lit.specs.Formula.{Clause, Cnf, is_true, satisfies_clause, satisfies}
use Rattle.lls_grid.specs.History.{History, cells_of, cells_of_rows, rows_at}
use Rattle.lls_grid.proofs.Chunks.{generation-le}
use Rattle.lls_grid.proofs.InOrder.{length-cells_of}
use Rattle.lls_problem.specs.Problem.{Pattern, PosedProblem, AreOfSize, AreFitting}
use Rattle.lls_problem.specs.Solution.{IsUnlisted}
use Rattle.lls_transition.specs.Clause.{with_clauses}
use Rattle.lls_encode.specs.Room.{HasRoom}
use Rattle.lls_encode.specs.Formula.{generation_size, cell_of_generation, other_cell, unlike, listed_part}
use Rattle.lls_encode.proofs.Differences.{cell_in_order}
use Rattle.lls_encode.proofs.Differing.{literal}
use Rattle.lls_encode.proofs.LiveCells.{cells_of_generation}
use Rattle.lls_encode.proofs.Satisfied.{is_true-negation}
use Rattle.lls_encode.proofs.Values.{HasCells, is_true-cell}

-- the cells of generation 0
abbrev pub first_cells : History → List Bool
first_cells h = cells_of_rows (rows_at h 0)

-- they stand first among all
first_cells-front : (p : PosedProblem) (h : History) (values : List Bool) → HasCells p values h → first_cells h ≡ take (generation_size p) (cells_of h)
first_cells-front p h values has =
    let none : p.posed.width * (p.posed.height * 0) ≡ 0 = grind arith in
    cells_of_generation p h has.sizes 0 has.kept.generations.0 ∙ rw none refl

enough_cells : (p : PosedProblem) (h : History) (values : List Bool) → HasCells p values h → generation_size p ≤ length (cells_of h)
enough_cells p h values has =
    let none : p.posed.width * (p.posed.height * 0) ≡ 0 = grind arith in
    omega (arith, none, length-cells_of p.posed.generations p.posed.height p.posed.width h has.sizes, generation-le p.posed.generations p.posed.height p.posed.width 0 has.kept.generations.0)

pub length-first_cells : (p : PosedProblem) (h : History) (values : List Bool) → HasCells p values h → length (first_cells h) ≡ generation_size p
length-first_cells p h values has = ap length (first_cells-front p h values has) ∙ length-take-le (generation_size p) (cells_of h) (enough_cells p h values has)

-- the variable of such a cell has its value
pub is_true-first_cell : (p : PosedProblem) (h : History) (values : List Bool) → HasCells p values h → (k : ℕ) → k < generation_size p → is_true values (cell_of_generation p 0 k) ≡ get_or (first_cells h) k false
is_true-first_cell p h values has k k_in =
    let number : k + generation_size p * 0 ≡ k = grind arith in
    is_true-cell values (k + generation_size p * 0)
    ∙ has.cells (k + generation_size p * 0) (cell_in_order p has.kept 0 k has.kept.generations.0 k_in)
    ∙ ap (λ i. get_or (cells_of h) i false) number
    ∙ sym (ap (λ cells. get_or cells k false) (first_cells-front p h values has) ∙ get_or-take (generation_size p) (cells_of h) k false k_in)

-- what the literal of a cell says
other_value : Bool → Bool → Bool
other_value bit value = cond bit (not value) value

is_true-other : (values : List Bool) (k : ℕ) (bit : Bool) (l : ℤ) (value : Bool) → is_true values l ≡ value → is_true values (negation l) ≡ not (is_true values l)
    → is_true values (cond bit (negation l) l) ≡ other_value bit value
unfolding other_value
is_true-other values k true l value is negated = negated ∙ ap not is
is_true-other values k false l value is negated = is

is_true-other_cell : (p : PosedProblem) (h : History) (values : List Bool) (pattern : Pattern) → HasCells p values h → (k : ℕ) → k < generation_size p
    → is_true values (other_cell p pattern k) ≡ other_value (get_or pattern k false) (get_or (first_cells h) k false)
is_true-other_cell p h values pattern has k k_in =
    is_true-other values k (get_or pattern k false) (cell_of_generation p 0 k) (get_or (first_cells h) k false) (is_true-first_cell p h values has k k_in)
    (is_true-negation values (cell_of_generation p 0 k) (literal (k + generation_size p * 0)))

alike : (bit value : Bool) → other_value bit value ≡ false → value ≡ bit
unfolding other_value
alike true true is = refl
alike true false is = cc
alike false true is = cc
alike false false is = refl

unalike : (bit value : Bool) → value ≡ bit → other_value bit value ≡ false
unfolding other_value
unalike true true is = refl
unalike true false is = cc
unalike false true is = cc
unalike false false is = refl

-- a clause of a range of literals isn't satisfied where none is true, and only there
none_true : (values : List Bool) (f : ℕ → ℤ) (a n : ℕ) → ((k : ℕ) → a ≤ k → k < a + n → is_true values (f k) ≡ false) → list_any (is_true values) (map f (range_with_len a n)) ≡ false
none_true values f a zero each = refl
none_true values f a (suc n) each = rw (each a (omega arith) (omega arith)) (none_true values f (a + 1) n (λ k low high. each k (omega arith) (omega arith)))

neither_true : (a b : Bool) → (a || b) ≡ false → (a ≡ false) × (b ≡ false)
neither_true true b is = cc
neither_true false b is = (refl, is)

each_false : (values : List Bool) (f : ℕ → ℤ) (a n k : ℕ) → list_any (is_true values) (map f (range_with_len a n)) ≡ false → a ≤ k → k < a + n → is_true values (f k) ≡ false
each_false values f a zero k none low high = absurd (omega arith)
each_false values f a (suc n) k none low high =
    let parts = neither_true (is_true values (f a)) (list_any (is_true values) (map f (range_with_len (a + 1) n))) none in
    elim (cases_lt a k) [
      | inl less ↦ each_false values f (a + 1) n k parts.1 (omega arith) (omega arith)
      | inr rest ↦ let same : a ≡ k = omega arith in subst (λ i. is_true values (f i) ≡ false) same parts.0
    ]

-- a pattern's clause is satisfied where generation 0 isn't the pattern, and only there
unlike_by_clause : (p : PosedProblem) (h : History) (values : List Bool) (pattern : Pattern) → HasCells p values h → satisfies_clause values (unlike p pattern) ≡ true → first_cells h ≢ pattern
unlike_by_clause p h values pattern has satisfied = λ same.
    let none : list_any (is_true values) (map (other_cell p pattern) (range_with_len 0 (generation_size p))) ≡ false =
    none_true values (other_cell p pattern) 0 (generation_size p) (λ k low high.
    is_true-other_cell p h values pattern has k (omega (arith, high))
    ∙ unalike (get_or pattern k false) (get_or (first_cells h) k false) (ap (λ cells. get_or cells k false) same)) in
    cc

satisfies-unlike : (p : PosedProblem) (h : History) (values : List Bool) (pattern : Pattern) → HasCells p values h → length pattern ≡ generation_size p → first_cells h ≢ pattern
    → satisfies_clause values (unlike p pattern) ≡ true
satisfies-unlike p h values pattern has sized other =
    elim (list_any (is_true values) (map (other_cell p pattern) (range_with_len 0 (generation_size p))))
    as (λ b. list_any (is_true values) (map (other_cell p pattern) (range_with_len 0 (generation_size p))) ≡ b → b ≡ true) [
      | true ↦ λ some. refl
      | false ↦ λ none.
          let count : length (first_cells h) ≡ generation_size p = length-first_cells p h values has in
          absurd (other (ext_get_or false (first_cells h) pattern (count ∙ sym sized) (λ k k_in.
          alike (get_or pattern k false) (get_or (first_cells h) k false)
          (sym (is_true-other_cell p h values pattern has k (omega (arith, k_in, count))) ∙ each_false values (other_cell p pattern) 0 (generation_size p) k none (omega arith) (omega (arith, k_in, count))))))
    ] refl

-- and so are those of all
unlisted_by_clauses : (p : PosedProblem) (h : History) (values : List Bool) (patterns : List Pattern) → HasCells p values h → satisfies values (map (unlike p) patterns) ≡ true
    → All (λ pattern. first_cells h ≢ pattern) patterns
unlisted_by_clauses p h values [] has satisfied = All-nil (λ pattern. first_cells h ≢ pattern)
unlisted_by_clauses p h values (pattern ∷ patterns) has satisfied =
    let parts = and_parts (satisfies_clause values (unlike p pattern)) (satisfies values (map (unlike p) patterns)) satisfied in
    All-cons (λ pattern. first_cells h ≢ pattern) pattern patterns (unlike_by_clause p h values pattern has parts.0) (unlisted_by_clauses p h values patterns has parts.1)

satisfies-unlisted : (p : PosedProblem) (h : History) (values : List Bool) (patterns : List Pattern) → HasCells p values h → All (λ pattern. length pattern ≡ generation_size p) patterns
    → All (λ pattern. first_cells h ≢ pattern) patterns → satisfies values (map (unlike p) patterns) ≡ true
satisfies-unlisted p h values [] has sized others = refl
satisfies-unlisted p h values (pattern ∷ patterns) has sized others =
    and_from _ _
    (satisfies-unlike p h values pattern has (All-head (λ pattern. length pattern ≡ generation_size p) pattern patterns sized) (All-head (λ pattern. first_cells h ≢ pattern) pattern patterns others))
    (satisfies-unlisted p h values patterns has (All-tail (λ pattern. length pattern ≡ generation_size p) pattern patterns sized) (All-tail (λ pattern. first_cells h ≢ pattern) pattern patterns others))

pub IsUnlisted-by_clauses : (p : PosedProblem) (h : History) (values : List Bool) → HasCells p values h → satisfies values (listed_part p) ≡ true → IsUnlisted p h
IsUnlisted-by_clauses p h values has satisfied = unlisted_by_clauses p h values p.demands.listed has satisfied

pub satisfies-listed_part : (p : PosedProblem) (h : History) (values : List Bool) → HasCells p values h → AreFitting p.posed p.demands → IsUnlisted p h → satisfies values (listed_part p) ≡ true
satisfies-listed_part p h values has fitting unlisted = satisfies-unlisted p h values p.demands.listed has fitting.listed.sized unlisted

-- the clause of one pattern more
pub listed_more : (p : PosedProblem) (formula now next : Cnf) (patterns : List Pattern) (k : ℕ) (d : Pattern) (clause : Clause) → k < length patterns
    → now ≡ with_clauses formula (map (unlike p) (take k patterns)) → next ≡ record { vars = now.vars; clauses = now.clauses ++ clause ∷ [] } → clause ≡ unlike p (get_or patterns k d)
    → next ≡ with_clauses formula (map (unlike p) (take (k + 1) patterns))
listed_more p formula now next patterns k d clause inside before step is =
    let done = map (unlike p) (take k patterns) in
    step ∙ ap (λ (f : Cnf). record { vars = f.vars; clauses = f.clauses ++ clause ∷ [] }) before
    ∙ ap (λ clauses. record { vars = formula.vars; clauses = clauses }) (append_assoc formula.clauses done (clause ∷ []))
    ∙ ap (λ c. with_clauses formula (done ++ c ∷ [])) is
    ∙ ap (with_clauses formula) (sym (map-append (unlike p) (take k patterns) (get_or patterns k d ∷ [])))
    ∙ ap (λ ps. with_clauses formula (map (unlike p) ps)) (sym (take_more patterns k d inside))

-- the room that is left for it
pub listed_room : (p : PosedProblem) (formula now : Cnf) (patterns : List Pattern) (k : ℕ) → k < length patterns → now ≡ with_clauses formula (map (unlike p) (take k patterns))
    → length patterns ≤ 1000000 → HasRoom formula 1000000 → HasRoom now 1
listed_room p formula now patterns k inside is few has =
    let done = map (unlike p) (take k patterns) in
    let count : length now.clauses ≡ length formula.clauses + length done = ap (λ (f : Cnf). length f.clauses) is ∙ length-append formula.clauses done in
    omega (arith, count, inside, few, has, length-map (take k patterns) (unlike p), length-take-le k patterns (omega (arith, inside)))

-- each has the grid's size
pub listed_size : (p : PosedProblem) (patterns : List Pattern) (k : ℕ) (d : Pattern) → patterns ≡ p.demands.listed → AreOfSize p.posed p.demands.listed → k < length patterns
    → length (get_or patterns k d) ≡ generation_size p
listed_size p patterns k d is are inside = ap (λ ps. length (get_or ps k d)) is ∙ are.sized k d (omega (arith, inside, ap length is))
