-- Values that satisfy the clauses of fixed cells and of names are as the cells say.
use Rattle.std.proofs.Common.{◌≡◌, ◌<◌, ℕ, ◌+◌, ℤ, pos, Bool, true, false, not, ◌&&◌, ◌||◌, cond, List, [], length, take, refl, sym, ap, ◌∙◌, arith, Option, None, Some, get_or, ◌==◌}
use Rattle.std.specs.Option.{option_map_or}
use Rattle.std.specs.List.{flat_map, range_with_len, position_from}
use Rattle.std.proofs.lemmas.Bool.{eqb-true, not-true}
use Rattle.lls_lit.specs.Formula.{is_true, satisfies}
use Rattle.lls_search_file.specs.declared.cell.Cell.{Cell}
use Rattle.lls_search_file.specs.declared.cell.Kind.{Kind}
use Rattle.lls_search_file.specs.declared.cell.Kind.TheVariants.{Dead, Live, Free, Named, Negated}
use Rattle.lls_search_file.specs.Posed.{name_of}
use Rattle.lls_problem.specs.Solution.{cell_number, HasItsBit, MeetsCells}
use Rattle.lls_problem.specs.Named.{named_value}
use Rattle.lls_problem.proofs.NameValues.{AreTied-by_value, MeetsCells-by_firsts}
use Rattle.lls_encode.specs.Formula.{fixed_clauses, same, name_literal, has_name, tied_to, name_clauses}
use Rattle.lls_encode.proofs.Satisfied.{is_literal, is_true-negation}
use Rattle.lls_encode.proofs.Complete.{name_literal_is}
use Rattle.lls_encode.proofs.Values.{is_true-cell}
use Rattle.lls_encode.proofs.Firsts.{or_else, position_all, has_own_name}
use Rattle.lls_encode.proofs.Parts.{satisfied_in_range}

-- a clause of one literal
only : (b : Bool) → ((b || false) && true) ≡ true → b ≡ true
only true e = refl
only false e = e

pub HasItsBit-by_clauses : (values : List Bool) (k : ℕ) (kind : Kind) → satisfies values (fixed_clauses k kind) ≡ true → HasItsBit kind (get_or values k false)
HasItsBit-by_clauses values k Dead satisfied = not-true _ (only _ satisfied)
HasItsBit-by_clauses values k Live satisfied = sym (is_true-cell values k) ∙ only (is_true values (pos (k + 1))) satisfied
HasItsBit-by_clauses values k Free satisfied = tt
HasItsBit-by_clauses values k (Named n) satisfied = tt
HasItsBit-by_clauses values k (Negated n) satisfied = tt

-- literals are equal by the two clauses that say so
equal : (a b : Bool) → ((not a || (b || false)) && ((a || (not b || false)) && true)) ≡ true → a ≡ b
equal true true e = refl
equal true false e = cc
equal false true e = cc
equal false false e = refl

same_literals : (values : List Bool) (a b : ℤ) → is_literal a ≡ true → is_literal b ≡ true → satisfies values (same a b) ≡ true → is_true values a ≡ is_true values b
same_literals values a b a_lit b_lit satisfied =
    equal (is_true values a) (is_true values b) (rw (is_true-negation values a a_lit, is_true-negation values b b_lit) at satisfied)

-- a name's literal says the value that the cell gives the name
is_true-name_literal : (values : List Bool) (k : ℕ) (kind : Kind) → is_true values (name_literal k kind) ≡ named_value kind (get_or values k false)
is_true-name_literal values k Dead = is_true-cell values k
is_true-name_literal values k Live = is_true-cell values k
is_true-name_literal values k Free = is_true-cell values k
is_true-name_literal values k (Named n) = is_true-cell values k
is_true-name_literal values k (Negated n) = refl

-- the value that the kth cell gives its name
abbrev value_by : List Bool → List Cell → ℕ → Bool
value_by values cells k = named_value (cell_number cells k).kind (get_or values k false)

-- the first cell of a name gives it the same value as the kth cell
record HasFirst (values : List Bool) (cells : List Cell) (k n : ℕ) : Type 0 where
  first : ℕ
  is : position_from (has_name n) 0 cells ≡ Some first
  agrees : value_by values cells first ≡ value_by values cells k

agrees_unless : (values : List Bool) (cells : List Cell) (k first : ℕ) (one : Bool) → (first == k) ≡ one
    → satisfies values (cond one [] (same (name_literal first (cell_number cells first).kind) (name_literal k (cell_number cells k).kind))) ≡ true
    → value_by values cells first ≡ value_by values cells k
agrees_unless values cells k first true e satisfied = ap (value_by values cells) (eqb-true first k e)
agrees_unless values cells k first false e satisfied =
    sym (is_true-name_literal values first _) ∙ same_literals values _ _ (name_literal_is first _) (name_literal_is k _) satisfied ∙ is_true-name_literal values k _

first_in : (before : Option ℕ) (k : ℕ) → (first : ℕ) × (or_else before (Some k) ≡ Some first)
first_in None k = (k, refl)
first_in (Some first) k = (first, refl)

has_first : (values : List Bool) (cells : List Cell) (k n : ℕ) → k < length cells → name_of (cell_number cells k).kind ≡ Some n
    → satisfies values (name_clauses cells k) ≡ true → HasFirst values cells k n
has_first values cells k n k_in named satisfied =
    let found = first_in (position_from (has_name n) 0 (take k cells)) k in
    let is : position_from (has_name n) 0 cells ≡ Some found.0 = position_all cells k n k_in (has_own_name n (cell_number cells k) named) ∙ found.1 in
    let clauses : name_clauses cells k ≡ tied_to cells k (Some found.0) =
    ap (λ o. option_map_or (λ n. tied_to cells k (position_from (has_name n) 0 cells)) o []) named ∙ ap (tied_to cells k) is in
    record { first = found.0; is = is; agrees = agrees_unless values cells k found.0 (found.0 == k) refl (ap (satisfies values) (sym clauses) ∙ satisfied) }

-- so any two cells of a name give it one value
one_value : (values : List Bool) (cells : List Cell) (j k n : ℕ) → HasFirst values cells j n → HasFirst values cells k n → value_by values cells j ≡ value_by values cells k
one_value values cells j k n at_j at_k =
    let same_first = sym at_j.is ∙ at_k.is in
    let one : at_j.first ≡ at_k.first = cc in
    sym at_j.agrees ∙ ap (value_by values cells) one ∙ at_k.agrees

pub MeetsCells-by_clauses : (values : List Bool) (cells : List Cell)
    → satisfies values (flat_map (λ k. fixed_clauses k (cell_number cells k).kind) (range_with_len 0 (length cells))) ≡ true
    → satisfies values (flat_map (name_clauses cells) (range_with_len 0 (length cells))) ≡ true → MeetsCells cells values
MeetsCells-by_clauses values cells fixed names =
    let named = λ (k n : ℕ) (k_in : k < length cells) (is : name_of (cell_number cells k).kind ≡ Some n).
    has_first values cells k n k_in is (satisfied_in_range values (name_clauses cells) 0 (length cells) k names (omega arith) (omega arith)) in
    MeetsCells-by_firsts cells values
    (λ k k_in. HasItsBit-by_clauses values k (cell_number cells k).kind
    (satisfied_in_range values (λ k. fixed_clauses k (cell_number cells k).kind) 0 (length cells) k fixed (omega arith) (omega arith)))
    (λ k k_in n first is first_is. AreTied-by_value n _ _ _ _ first_is.named is
    (one_value values cells first k n (named first n first_is.within first_is.named) (named k n k_in is)))
