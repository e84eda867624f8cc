-- The clauses of the shorter periods, one after another: what one more leaves, and how many there are.
use Rattle.std.proofs.Common.{◌≡◌, ◌<◌, ◌≤◌, ℕ, zero, suc, ◌+◌, ◌-◌, ◌*◌, ℤ, true, false, Bool, cond, List, [], ◌∷◌, ◌++◌, map, length, Option, None, Some, refl, sym, ap, ◌∙◌, arith, append_assoc, length-append, add-zero}
use Rattle.std.specs.List.{flat_map, filter_map, cons_option, range_with_len}
use Rattle.std.specs.Option.{option_map_or, option_to_list}
use Rattle.std.proofs.lemmas.List.{append-nil}
use Rattle.lls_lit.specs.Literal.{negation}
use Rattle.lls_lit.specs.Formula.{Clause, Cnf}
use Rattle.lls_search_file.specs.Posed.{IsPosed}
use Rattle.lls_symmetry.specs.declared.moved.Moved.{Moved}
use Rattle.lls_problem.specs.declared.demands.Period.{Period}
use Rattle.lls_problem.specs.Problem.{PosedProblem, AreFitting, IsPeriod}
use Rattle.lls_problem.specs.Exact.{part_by, parts_of, excluded}
use Rattle.lls_transition.specs.declared.place.Place.{Place}
use Rattle.lls_transition.specs.declared.place.Place.TheVariants.{Of}
use Rattle.lls_transition.specs.Clause.{clause_of, differing, with_clauses}
use Rattle.lls_encode.specs.Place.{place_at}
use Rattle.lls_encode.specs.Formula.{any_of, unequal_clauses, difference_variable, pair_at, pair_difference, unequal_pairs, has_other_background, pairs_of, unseen_clauses, unseen_vars, all_unseen, all_unseen_vars, asked_part, asked_vars, exact_part, exact_vars, listed_part, difference_part, difference_vars}
use Rattle.lls_encode.specs.Room.{HasRoom, with_more}
use Rattle.lls_encode.proofs.Steps.{length-flat_map_most, pushed_more}
use Rattle.lls_encode.proofs.Pairs.{pairs_few}

-- the clauses of one pair more
pub pairs_more : (p : PosedProblem) (base n k : ℕ) (pairs : List Moved) (formula now next : Cnf) (d : ℤ) (a b : Place) → now ≡ with_more formula n (flat_map (pair_difference p base pairs) (range_with_len 0 k))
    → next ≡ with_clauses now (unequal_clauses d a b) → d ≡ difference_variable base k
    → a ≡ place_at p (pair_at pairs k).early.t (pair_at pairs k).early.y (pair_at pairs k).early.x → b ≡ place_at p (pair_at pairs k).late.t (pair_at pairs k).late.y (pair_at pairs k).late.x
    → next ≡ with_more formula n (flat_map (pair_difference p base pairs) (range_with_len 0 (k + 1)))
pairs_more p base n k pairs formula now next d a b so_far step d_is a_is b_is =
    let pair = pair_at pairs k in
    pushed_more (with_more formula n []) now next (pair_difference p base pairs) 0 k k
    (so_far ∙ rw append-nil)
    (step ∙ ap (λ d. with_clauses now (unequal_clauses d a b)) d_is ∙ ap (λ a. with_clauses now (unequal_clauses (difference_variable base k) a b)) a_is
    ∙ ap (λ b. with_clauses now (unequal_clauses (difference_variable base k) (place_at p pair.early.t pair.early.y pair.early.x) b)) b_is)
    (omega arith)
    ∙ rw append-nil

-- a pair has two clauses at most
at_most_one : (found : Option Clause) → length (option_to_list found) ≤ 1
at_most_one None = omega arith
at_most_one (Some clause) = omega arith

length-pair_difference : (p : PosedProblem) (base : ℕ) (pairs : List Moved) (k : ℕ) → length (pair_difference p base pairs k) ≤ 2
length-pair_difference p base pairs k =
    let pair = pair_at pairs k in
    let d : ℤ = negation (difference_variable base k) in
    let a : Place = place_at p pair.early.t pair.early.y pair.early.x in
    let b : Place = place_at p pair.late.t pair.late.y pair.late.x in
    omega (
      arith,
      length-append (any_of d a b) (any_of d (differing a true) (differing b true)),
      at_most_one (clause_of (Of d ∷ a ∷ b ∷ [])),
      at_most_one (clause_of (Of d ∷ differing a true ∷ differing b true ∷ [])),
    )

-- how many there are after k pairs
pub length-pairs : (p : PosedProblem) (base n k : ℕ) (pairs : List Moved) (formula now : Cnf) → now ≡ with_more formula n (flat_map (pair_difference p base pairs) (range_with_len 0 k))
    → length now.clauses ≤ length formula.clauses + 2 * k
length-pairs p base n k pairs formula now is =
    let clauses = flat_map (pair_difference p base pairs) (range_with_len 0 k) in
    let count : length now.clauses ≡ length formula.clauses + length clauses = ap (λ (g : Cnf). length g.clauses) is ∙ length-append formula.clauses clauses in
    omega (arith, count, length-flat_map_most (pair_difference p base pairs) 2 (length-pair_difference p base pairs) 0 k)

-- the clauses of a shorter period are those of its pairs, where the background is the same then
pub unseen_made : (p : PosedProblem) (formula next : Cnf) (part : Period) (pairs : List Moved) → pairs ≡ pairs_of p part → has_other_background p part ≡ false
    → next ≡ with_more formula (length pairs) (unequal_pairs p formula.vars pairs) → next ≡ with_more formula (unseen_vars p part) (unseen_clauses p formula.vars part)
unseen_made p formula next part pairs are same made =
    made ∙ ap (λ ps. with_more formula (length ps) (unequal_pairs p formula.vars ps)) are
    ∙ ap (λ b. with_more formula (cond b 0 (length (pairs_of p part))) (cond b [] (unequal_pairs p formula.vars (pairs_of p part)))) (sym same)

pub unseen_vars-pairs : (p : PosedProblem) (part : Period) (pairs : List Moved) → pairs ≡ pairs_of p part → has_other_background p part ≡ false → unseen_vars p part ≡ length pairs
unseen_vars-pairs p part pairs are same = ap (λ b. cond b 0 (length (pairs_of p part))) same ∙ ap length (sym are)

-- more twice is more at once
pub with_more-more : (formula : Cnf) (a b : ℕ) (xs ys : List Clause) → with_more (with_more formula a xs) b ys ≡ with_more formula (a + b) (xs ++ ys)
with_more-more formula a b xs ys =
    ap (λ clauses. record { vars = formula.vars + a + b; clauses = clauses }) (append_assoc formula.clauses xs ys)
    ∙ ap (λ vars. record { vars = vars; clauses = formula.clauses ++ (xs ++ ys) }) (place formula.vars a b)
  where
    place : (a b c : ℕ) → a + b + c ≡ a + (b + c)
    place a b c = omega arith

-- two generations that are asked to differ, behind them the exact period, and behind that the listed patterns
both_parts : (p : PosedProblem) (formula asked exact : Cnf) → asked ≡ with_more formula (asked_vars p) (asked_part p formula.vars) → exact ≡ with_more asked (exact_vars p) (exact_part p asked.vars)
    → exact ≡ with_more formula (difference_vars p) (asked_part p formula.vars ++ exact_part p (formula.vars + asked_vars p))
both_parts p formula asked exact one two =
    two ∙ ap (λ (f : Cnf). with_more f (exact_vars p) (exact_part p f.vars)) one
    ∙ with_more-more formula (asked_vars p) (exact_vars p) (asked_part p formula.vars) (exact_part p (formula.vars + asked_vars p))

pub all_parts : (p : PosedProblem) (formula asked exact all : Cnf) → asked ≡ with_more formula (asked_vars p) (asked_part p formula.vars) → exact ≡ with_more asked (exact_vars p) (exact_part p asked.vars)
    → all ≡ with_clauses exact (listed_part p) → all ≡ with_more formula (difference_vars p) (difference_part p formula.vars)
all_parts p formula asked exact all one two three =
    let both : List Clause = asked_part p formula.vars ++ exact_part p (formula.vars + asked_vars p) in
    three ∙ ap (λ f. with_clauses f (listed_part p)) (both_parts p formula asked exact one two)
    ∙ ap (λ clauses. record { vars = formula.vars + difference_vars p; clauses = clauses }) (append_assoc formula.clauses both (listed_part p))

-- the formula with the clauses of shorter periods behind its own, and their variables
abbrev pub with_parts : PosedProblem → Cnf → List Period → Cnf
with_parts p formula parts = with_more formula (all_unseen_vars p parts) (all_unseen p formula.vars parts)

pub with_no_parts : (p : PosedProblem) (formula : Cnf) → with_parts p formula [] ≡ formula
with_no_parts p formula = rw (append-nil, add-zero) refl

-- one more, and those that are left
pub with_part : (p : PosedProblem) (formula next : Cnf) (part : Period) (parts : List Period) → next ≡ with_more formula (unseen_vars p part) (unseen_clauses p formula.vars part)
    → with_parts p next parts ≡ with_parts p formula (part ∷ parts)
with_part p formula next part parts is =
    ap (λ (f : Cnf). with_parts p f parts) is
    ∙ with_more-more formula (unseen_vars p part) (all_unseen_vars p parts) (unseen_clauses p formula.vars part) (all_unseen p (formula.vars + unseen_vars p part) parts)

-- the numbers that are left, at the next of them
left : (period : Period) (q : ℕ) → q < period.length + 1
    → filter_map (part_by period) (range_with_len q (period.length + 1 - q)) ≡ cons_option (part_by period q) (filter_map (part_by period) (range_with_len (q + 1) (period.length + 1 - (q + 1))))
left period q within =
    let more : period.length + 1 - q ≡ suc (period.length + 1 - (q + 1)) = omega (arith, within) in
    ap (λ n. filter_map (part_by period) (range_with_len q n)) more

pub left_with : (period : Period) (q : ℕ) (part : Period) → q < period.length + 1 → part_by period q ≡ Some part
    → filter_map (part_by period) (range_with_len q (period.length + 1 - q)) ≡ part ∷ filter_map (part_by period) (range_with_len (q + 1) (period.length + 1 - (q + 1)))
left_with period q part within is = left period q within ∙ ap (λ found. cons_option found (filter_map (part_by period) (range_with_len (q + 1) (period.length + 1 - (q + 1))))) is

pub left_without : (period : Period) (q : ℕ) → q < period.length + 1 → part_by period q ≡ None
    → filter_map (part_by period) (range_with_len q (period.length + 1 - q)) ≡ filter_map (part_by period) (range_with_len (q + 1) (period.length + 1 - (q + 1)))
left_without period q within is = left period q within ∙ ap (λ found. cons_option found (filter_map (part_by period) (range_with_len (q + 1) (period.length + 1 - (q + 1))))) is

-- how many clauses and variables there are
length-unequal_pairs : (p : PosedProblem) (base : ℕ) (pairs : List Moved) → length pairs ≤ 8192 → length (unequal_pairs p base pairs) ≤ 16385
length-unequal_pairs p base pairs few =
    omega (
      arith,
      few,
      length-append (flat_map (pair_difference p base pairs) (range_with_len 0 (length pairs))) (map (difference_variable base) (range_with_len 0 (length pairs)) ∷ []),
      length-flat_map_most (pair_difference p base pairs) 2 (length-pair_difference p base pairs) 0 (length pairs),
    )

length-unseen : (p : PosedProblem) (base : ℕ) (part : Period) → IsPosed p.posed → (b : Bool) → length (cond b [] (unequal_pairs p base (pairs_of p part))) ≤ 16385
length-unseen p base part kept true = omega arith
length-unseen p base part kept false = length-unequal_pairs p base (pairs_of p part) (pairs_few p part kept)

few_unseen : (p : PosedProblem) (part : Period) → IsPosed p.posed → (b : Bool) → cond b 0 (length (pairs_of p part)) ≤ 8192
few_unseen p part kept true = omega arith
few_unseen p part kept false = pairs_few p part kept

length-all_unseen : (p : PosedProblem) → IsPosed p.posed → (base : ℕ) (parts : List Period) → length (all_unseen p base parts) ≤ 16385 * length parts
length-all_unseen p kept base [] = omega arith
length-all_unseen p kept base (part ∷ parts) =
    omega (
      arith,
      length-append (unseen_clauses p base part) (all_unseen p (base + unseen_vars p part) parts),
      length-unseen p base part kept (has_other_background p part),
      length-all_unseen p kept (base + unseen_vars p part) parts,
    )

few_all_unseen : (p : PosedProblem) → IsPosed p.posed → (parts : List Period) → all_unseen_vars p parts ≤ 8192 * length parts
few_all_unseen p kept [] = omega arith
few_all_unseen p kept (part ∷ parts) = omega (arith, few_unseen p part kept (has_other_background p part), few_all_unseen p kept parts)

one_more : (found : Option Period) (parts : List Period) → length (cons_option found parts) ≤ length parts + 1
one_more None parts = omega arith
one_more (Some part) parts = omega arith

length-filter_map : (period : Period) (a n : ℕ) → length (filter_map (part_by period) (range_with_len a n)) ≤ n
length-filter_map period a zero = omega arith
length-filter_map period a (suc n) =
    omega (arith, length-filter_map period (a + 1) n, one_more (part_by period a) (filter_map (part_by period) (range_with_len (a + 1) n)))

pub length-parts_of : (period : Period) → IsPeriod period → length (parts_of period) ≤ 64
length-parts_of period kept = omega (arith, kept.length.1, length-filter_map period 0 (period.length + 1))

few_excluded : (p : PosedProblem) → AreFitting p.posed p.demands → (exact : Bool) (asked : Option Period) → p.demands.period ≡ asked → length (cond exact (option_map_or parts_of asked []) []) ≤ 64
few_excluded p fitting false asked is = omega arith
few_excluded p fitting true None is = omega arith
few_excluded p fitting true (Some period) is = length-parts_of period (fitting.period period is)

pub length-exact_part : (p : PosedProblem) → IsPosed p.posed → AreFitting p.posed p.demands → (base : ℕ) → length (exact_part p base) ≤ 1048640
length-exact_part p kept fitting base =
    omega (arith, length-all_unseen p kept base (excluded p.demands), few_excluded p fitting p.demands.exact p.demands.period refl)

pub few_exact_vars : (p : PosedProblem) → IsPosed p.posed → AreFitting p.posed p.demands → exact_vars p ≤ 524288
few_exact_vars p kept fitting = omega (arith, few_all_unseen p kept (excluded p.demands), few_excluded p fitting p.demands.exact p.demands.period refl)

-- the room and the variables that are left for one more of them
pub left_room : (p : PosedProblem) (formula now : Cnf) (parts left : List Period) → IsPosed p.posed → with_parts p now left ≡ with_parts p formula parts → length parts ≤ 64
    → HasRoom formula 1065025 → HasRoom now 16385
left_room p formula now parts left kept is few has =
    let count : length (now.clauses ++ all_unseen p now.vars left) ≡ length (formula.clauses ++ all_unseen p formula.vars parts) = ap (λ (f : Cnf). length f.clauses) is in
    omega (
      arith,
      count,
      has,
      few,
      length-append now.clauses (all_unseen p now.vars left),
      length-append formula.clauses (all_unseen p formula.vars parts),
      length-all_unseen p kept formula.vars parts,
    )

pub left_vars : (p : PosedProblem) (formula now : Cnf) (parts left : List Period) → with_parts p now left ≡ with_parts p formula parts
    → now.vars + all_unseen_vars p left ≡ formula.vars + all_unseen_vars p parts
left_vars p formula now parts left is = ap (λ (f : Cnf). f.vars) is
