-- The first cells of the names, one cell more.
use Rattle.std.proofs.Common.{◌≡◌, ◌≢◌, ◌<◌, ◌≤◌, ℕ, zero, suc, ◌+◌, ℤ, Bool, true, false, cond, ltb, replicate, IfSome, List, [], ◌∷◌, ◌++◌, map, length, take, drop, set, refl, sym, ap, ◌∙◌, subst, arith, Option, None, Some, get_or, ◌==◌, eqb, drop-cons}
use Rattle.std.specs.Option.{option_map, option_map_or}
use Rattle.std.specs.List.{range_with_len, position_from}
use Rattle.std.proofs.lemmas.List.{take_more, get_or-set_same, get_or-set_other}
use Rattle.std.proofs.Math.ListN.{length-set}
use Rattle.std.proofs.lemmas.Bool.Decides.{nat_tests}
use Rattle.std.proofs.lemmas.Bool.{eqb-true, eq-eqb, and_from, le-leb, ltb-true}
use Rattle.lls_search_file.specs.Posed.{are_numbered, names_after}
use Rattle.std.proofs.lemmas.List.FromFn.{get_or-map-range_with_len, length-map-range_with_len, fill_by_all}
use Rattle.lls_lit.specs.Literal.{variable_of}
use Rattle.lls_lit.specs.Formula.{is_literal_of, is_within}
use Rattle.lls_search_file.specs.declared.cell.Cell.{Cell}
use Rattle.lls_search_file.specs.declared.cell.Kind.{Kind}
use Rattle.lls_search_file.specs.declared.cell.Kind.TheVariants.{Dead, Live, Free, Named, Negated}
use Rattle.lls_search_file.specs.Posed.{name_of}
use Rattle.lls_problem.specs.Solution.{cell_number}
use Rattle.lls_encode.specs.Formula.{same, has_name, name_literal, tied_to, name_clauses}
use Rattle.lls_encode.specs.Names.{first_literal, first_literals}

-- the first place in one list, else in the next
abbrev pub or_else : Option ℕ → Option ℕ → Option ℕ
or_else (Some i) later = Some i
or_else None later = later

position_from-append : {X : Type 0} (t : X → Bool) (a : ℕ) (xs ys : List X) → position_from t a (xs ++ ys) ≡ or_else (position_from t a xs) (position_from t (a + length xs) ys)
position_from-append t a [] ys = let at : a + 0 ≡ a = omega arith in rw at refl
position_from-append t a (x ∷ xs) ys =
    let at : a + length (x ∷ xs) ≡ a + 1 + length xs = omega arith in
    rw at (elim (t x) as (λ b. cond b (Some a) (position_from t (a + 1) (xs ++ ys)) ≡ or_else (cond b (Some a) (position_from t (a + 1) xs)) (position_from t (a + 1 + length xs) ys)) [
      | true ↦ refl
      | false ↦ position_from-append t (a + 1) xs ys
    ])

or_none : (o : Option ℕ) → or_else o None ≡ o
or_none (Some i) = refl
or_none None = refl

none_from : {X : Type 0} (o : Option ℕ) (f : ℕ → X) → option_map f o ≡ None → o ≡ None
none_from None f e = refl
none_from (Some i) f e = cc

kept : {X : Type 0} (o later : Option ℕ) (l : X) (f : ℕ → X) → option_map f o ≡ Some l → option_map f (or_else o later) ≡ Some l
kept None later l f e = cc
kept (Some i) later l f e = e

differ : (n m : ℕ) → (n ≡ m → ⊥) → (n == m) ≡ false
differ n m other = grind (arith, nat_tests)

differs_from : (n m : ℕ) → eqb n m ≡ false → n ≡ m → ⊥
differs_from n m is one = let yes' = eq-eqb n m one in cc

-- a first place is within the list
position_in : {X : Type 0} (t : X → Bool) (a : ℕ) (xs : List X) (i : ℕ) → position_from t a xs ≡ Some i → i < a + length xs
position_in t a [] i e = cc
position_in t a (x ∷ xs) i e =
    elim (t x) as (λ b. cond b (Some a) (position_from t (a + 1) xs) ≡ Some i → i < a + length (x ∷ xs)) [
      | true ↦ λ here. let at : a ≡ i = cc in omega arith
      | false ↦ λ later. omega (arith, position_in t (a + 1) xs i later)
    ] e

length-take_within : {X : Type 0} (k : ℕ) (xs : List X) → k ≤ length xs → length (take k xs) ≡ k
length-take_within zero xs h = refl
length-take_within (suc k) [] h = absurd (omega arith)
length-take_within (suc k) (x ∷ xs) h = ap suc (length-take_within k xs (omega arith))

take-drop : {X : Type 0} (k : ℕ) (xs : List X) → take k xs ++ drop k xs ≡ xs
take-drop zero xs = refl
take-drop (suc k) [] = refl
take-drop (suc k) (x ∷ xs) = ap (λ rest. x ∷ rest) (take-drop k xs)

-- the first place among k + 1 cells
position_more : (cells : List Cell) (k n : ℕ) → k < length cells
    → position_from (has_name n) 0 (take (k + 1) cells) ≡ or_else (position_from (has_name n) 0 (take k cells)) (cond (has_name n (cell_number cells k)) (Some k) None)
position_more cells k n k_in =
    let len : length (take k cells) ≡ k = length-take_within k cells (omega arith) in
    ap (position_from (has_name n) 0) (take_more cells k (record { mark = false; kind = Dead }) k_in)
    ∙ position_from-append (has_name n) 0 (take k cells) (cell_number cells k ∷ [])
    ∙ ap (λ at. or_else (position_from (has_name n) 0 (take k cells)) (cond (has_name n (cell_number cells k)) (Some at) None)) (omega (arith, len))

-- the first place among all cells
pub position_all : (cells : List Cell) (k n : ℕ) → k < length cells → has_name n (cell_number cells k) ≡ true
    → position_from (has_name n) 0 cells ≡ or_else (position_from (has_name n) 0 (take k cells)) (Some k)
position_all cells k n k_in here =
    let len : length (take k cells) ≡ k = length-take_within k cells (omega arith) in
    let at : 0 + length (take k cells) ≡ k = omega arith in
    ap (position_from (has_name n) 0) (sym (take-drop k cells))
    ∙ position_from-append (has_name n) 0 (take k cells) (drop k cells)
    ∙ ap (or_else (position_from (has_name n) 0 (take k cells)))
    (rw (at, drop-cons cells k (record { mark = false; kind = Dead })) (ap (λ b. cond b (Some k) (position_from (has_name n) (k + 1) (drop (suc k) cells))) here))

pub has_own_name : (n : ℕ) (cell : Cell) → name_of cell.kind ≡ Some n → has_name n cell ≡ true
has_own_name n cell e = ap (λ o. option_map_or (λ m. m == n) o false) e ∙ eq-eqb n n refl

has_no_name : (m : ℕ) (cell : Cell) → name_of cell.kind ≡ None → has_name m cell ≡ false
has_no_name m cell e = ap (λ o. option_map_or (λ l. l == m) o false) e

has_other_name : (m n : ℕ) (cell : Cell) → name_of cell.kind ≡ Some n → (n ≡ m → ⊥) → has_name m cell ≡ false
has_other_name m n cell e other = ap (λ o. option_map_or (λ l. l == m) o false) e ∙ differ n m other

-- a name that the kth cell hasn't keeps its first cell
first_same : (cells : List Cell) (k m : ℕ) → k < length cells → has_name m (cell_number cells k) ≡ false → first_literal cells (k + 1) m ≡ first_literal cells k m
first_same cells k m k_in other =
    ap (option_map (λ first. name_literal first (cell_number cells first).kind))
    (position_more cells k m k_in ∙ ap (λ b. or_else (position_from (has_name m) 0 (take k cells)) (cond b (Some k) None)) other
    ∙ or_none (position_from (has_name m) 0 (take k cells)))

-- and so does one that has an earlier one
first_kept : (cells : List Cell) (k n : ℕ) (l : ℤ) → k < length cells → first_literal cells k n ≡ Some l → first_literal cells (k + 1) n ≡ Some l
first_kept cells k n l k_in had =
    ap (option_map (λ first. name_literal first (cell_number cells first).kind)) (position_more cells k n k_in)
    ∙ kept (position_from (has_name n) 0 (take k cells)) _ l (λ first. name_literal first (cell_number cells first).kind) had

first_new : (cells : List Cell) (k n : ℕ) → k < length cells → name_of (cell_number cells k).kind ≡ Some n → first_literal cells k n ≡ None
    → first_literal cells (k + 1) n ≡ Some (name_literal k (cell_number cells k).kind)
first_new cells k n k_in named none =
    ap (option_map (λ first. name_literal first (cell_number cells first).kind))
    (position_more cells k n k_in
    ∙ ap (λ o. or_else o (cond (has_name n (cell_number cells k)) (Some k) None)) (none_from (position_from (has_name n) 0 (take k cells)) _ none)
    ∙ ap (λ b. cond b (Some k) None) (has_own_name n (cell_number cells k) named))

-- the list of all names' first literals
pub get_or-first_literals : (cells : List Cell) (k names n : ℕ) (d : Option ℤ) → n < names → get_or (first_literals cells k names) n d ≡ first_literal cells k n
get_or-first_literals cells k names n d inside = get_or-map-range_with_len (first_literal cells k) 0 names n n d inside (omega arith)

same_map : {X : Type 0} (f g : ℕ → X) (a n : ℕ) → ((k : ℕ) → a ≤ k → k < a + n → f k ≡ g k) → map f (range_with_len a n) ≡ map g (range_with_len a n)
same_map f g a zero each = refl
same_map f g a (suc n) each =
    rw (each a (omega arith) (omega arith)) (ap (λ rest. g a ∷ rest) (same_map f g (a + 1) n (λ k low high. each k (omega arith) (omega arith))))

pub first_literals-unnamed : (cells : List Cell) (k names : ℕ) → k < length cells → name_of (cell_number cells k).kind ≡ None
    → first_literals cells k names ≡ first_literals cells (k + 1) names
first_literals-unnamed cells k names k_in named =
    same_map _ _ 0 names (λ m low high. sym (first_same cells k m k_in (has_no_name m (cell_number cells k) named)))

pub first_literals-kept : (cells : List Cell) (k names n : ℕ) (l : ℤ) → k < length cells → name_of (cell_number cells k).kind ≡ Some n → first_literal cells k n ≡ Some l
    → first_literals cells k names ≡ first_literals cells (k + 1) names
first_literals-kept cells k names n l k_in named had =
    same_map _ _ 0 names (λ m low high. elim (eqb n m) as (λ b. eqb n m ≡ b → first_literal cells k m ≡ first_literal cells (k + 1) m) [
      | true ↦ λ is. let one : n ≡ m = eqb-true n m is in subst (λ i. first_literal cells k i ≡ first_literal cells (k + 1) i) one (had ∙ sym (first_kept cells k n l k_in had))
      | false ↦ λ is. sym (first_same cells k m k_in (has_other_name m n (cell_number cells k) named (λ one. differs_from n m is one)))
    ] refl)

pub first_literals-new : (cells : List Cell) (k names n : ℕ) → k < length cells → n < names → name_of (cell_number cells k).kind ≡ Some n → first_literal cells k n ≡ None
    → set (first_literals cells k names) n (Some (name_literal k (cell_number cells k).kind)) ≡ first_literals cells (k + 1) names
first_literals-new cells k names n k_in n_in named none =
    let value : Option ℤ = Some (name_literal k (cell_number cells k).kind) in
    let len : length (first_literals cells k names) ≡ names = length-map-range_with_len (first_literal cells k) 0 names in
    fill_by_all (first_literal cells (k + 1)) (set (first_literals cells k names) n value) names None (length-set (first_literals cells k names) n value ∙ len)
    (λ m m_in. elim (eqb n m) as (λ b. eqb n m ≡ b → get_or (set (first_literals cells k names) n value) m None ≡ first_literal cells (k + 1) m) [
      | true ↦ λ is.
          let one : n ≡ m = eqb-true n m is in
          let within : n < length (first_literals cells k names) = omega arith in
          subst (λ i. get_or (set (first_literals cells k names) n value) i None ≡ first_literal cells (k + 1) i) one
          (get_or-set_same (first_literals cells k names) n value None within ∙ sym (first_new cells k n k_in named none))
      | false ↦ λ is.
          let apart : m ≢ n = λ one. differs_from n m is (sym one) in
          get_or-set_other (first_literals cells k names) n m value None apart
          ∙ get_or-first_literals cells k names m None m_in
          ∙ sym (first_same cells k m k_in (has_other_name m n (cell_number cells k) named (λ one. differs_from n m is one)))
    ] refl)

earlier : (cells : List Cell) (k n : ℕ) (l : ℤ) → k < length cells → (o : Option ℕ) → position_from (has_name n) 0 (take k cells) ≡ o
    → option_map (λ first. name_literal first (cell_number cells first).kind) o ≡ Some l
    → tied_to cells k (or_else o (Some k)) ≡ same l (name_literal k (cell_number cells k).kind)
earlier cells k n l k_in None e had = cc
earlier cells k n l k_in (Some first) e had =
    let len : length (take k cells) ≡ k = length-take_within k cells (omega arith) in
    let before : first < k = omega (arith, position_in (has_name n) 0 (take k cells) first e) in
    let other : (first == k) ≡ false = differ first k (λ one. absurd (omega arith)) in
    let is : name_literal first (cell_number cells first).kind ≡ l = cc in
    ap (λ b. cond b [] (same (name_literal first (cell_number cells first).kind) (name_literal k (cell_number cells k).kind))) other
    ∙ ap (λ a. same a (name_literal k (cell_number cells k).kind)) is

-- what is pushed for the kth cell
pub name_clauses-unnamed : (cells : List Cell) (k : ℕ) → name_of (cell_number cells k).kind ≡ None → name_clauses cells k ≡ []
name_clauses-unnamed cells k named = ap (λ o. option_map_or (λ n. tied_to cells k (position_from (has_name n) 0 cells)) o []) named

pub name_clauses-new : (cells : List Cell) (k n : ℕ) → k < length cells → name_of (cell_number cells k).kind ≡ Some n → first_literal cells k n ≡ None → name_clauses cells k ≡ []
name_clauses-new cells k n k_in named none =
    ap (λ o. option_map_or (λ m. tied_to cells k (position_from (has_name m) 0 cells)) o []) named
    ∙ ap (tied_to cells k) (position_all cells k n k_in (has_own_name n (cell_number cells k) named)
    ∙ ap (λ o. or_else o (Some k)) (none_from (position_from (has_name n) 0 (take k cells)) _ none))
    ∙ ap (λ b. cond b [] (same (name_literal k (cell_number cells k).kind) (name_literal k (cell_number cells k).kind))) (eq-eqb k k refl)

pub name_clauses-old : (cells : List Cell) (k n : ℕ) (l : ℤ) → k < length cells → name_of (cell_number cells k).kind ≡ Some n → first_literal cells k n ≡ Some l
    → name_clauses cells k ≡ same l (name_literal k (cell_number cells k).kind)
name_clauses-old cells k n l k_in named had =
    ap (λ o. option_map_or (λ m. tied_to cells k (position_from (has_name m) 0 cells)) o []) named
    ∙ ap (tied_to cells k) (position_all cells k n k_in (has_own_name n (cell_number cells k) named))
    ∙ earlier cells k n l k_in (position_from (has_name n) 0 (take k cells)) refl had

-- a first literal is one of the cells' variables
variable_of-name_literal : (k : ℕ) (kind : Kind) → variable_of (name_literal k kind) ≡ k + 1
variable_of-name_literal k Dead = refl
variable_of-name_literal k Live = refl
variable_of-name_literal k Free = refl
variable_of-name_literal k (Named n) = refl
variable_of-name_literal k (Negated n) = refl

pub record IsCellLiteral (cells : List Cell) (l : ℤ) : Type 0 where
  pub some : 1 ≤ variable_of l
  pub within : variable_of l ≤ length cells

within_of : (cells : List Cell) (k n : ℕ) (l : ℤ) → k < length cells → (o : Option ℕ) → position_from (has_name n) 0 (take k cells) ≡ o
    → option_map (λ first. name_literal first (cell_number cells first).kind) o ≡ Some l → IsCellLiteral cells l
within_of cells k n l k_in None e had = cc
within_of cells k n l k_in (Some first) e had =
    let len : length (take k cells) ≡ k = length-take_within k cells (omega arith) in
    let before : first < k = omega (arith, position_in (has_name n) 0 (take k cells) first e) in
    let is : name_literal first (cell_number cells first).kind ≡ l = cc in
    subst (λ m. IsCellLiteral cells m) is record { some = rw variable_of-name_literal (omega arith); within = rw variable_of-name_literal (omega arith) }

pub within_first : (cells : List Cell) (k n : ℕ) (l : ℤ) → k < length cells → first_literal cells k n ≡ Some l → IsCellLiteral cells l
within_first cells k n l k_in had = within_of cells k n l k_in (position_from (has_name n) 0 (take k cells)) refl had

pub within_own : (cells : List Cell) (k : ℕ) → k < length cells → IsCellLiteral cells (name_literal k (cell_number cells k).kind)
within_own cells k k_in = record { some = rw variable_of-name_literal (omega arith); within = rw variable_of-name_literal (omega arith) }

-- what stands at a cell's name among the first literals
pub first_literal_at : (cells : List Cell) (k n : ℕ) (firsts : List (Option ℤ)) (d o : Option ℤ) → firsts ≡ first_literals cells k (length firsts)
    → IfSome (name_of (cell_number cells k).kind) (λ m. m < length firsts) → name_of (cell_number cells k).kind ≡ Some n → get_or firsts n d ≡ o → first_literal cells k n ≡ o
first_literal_at cells k n firsts d o are known named at =
    let inside : n < length firsts = subst (λ name. IfSome name (λ m. m < length firsts)) named known in
    sym (get_or-first_literals cells k (length firsts) n d inside) ∙ ap (λ xs. get_or xs n d) (sym are) ∙ at

-- so both literals are within the cells' variables
pub is_within-names : (cells : List Cell) (vars k n : ℕ) (l own : ℤ) → vars ≡ length cells → k < length cells → first_literal cells k n ≡ Some l
    → own ≡ name_literal k (cell_number cells k).kind → is_within vars (l ∷ own ∷ []) ≡ true
is_within-names cells vars k n l own count k_in had is =
    let one = within_first cells k n l k_in had in
    let two = within_own cells k k_in in
    let second : is_literal_of vars own ≡ true = rw is (and_from _ _ (le-leb _ _ two.some) (le-leb _ _ (omega (arith, count, two.within)))) in
    and_from _ _ (and_from _ _ (le-leb _ _ one.some) (le-leb _ _ (omega (arith, count, one.within)))) (and_from _ _ second refl)

-- a number of names covers those of the cells
numbered_none : (cells : List Cell) (count : ℕ) → are_numbered cells count None ≡ false
numbered_none [] count = refl
numbered_none (cell ∷ cells) count = refl

known_more : (cell : Cell) (cells : List Cell) (count : ℕ) → IfSome (name_of cell.kind) (λ m. m < count)
    → ((j : ℕ) → j < length cells → IfSome (name_of (cell_number cells j).kind) (λ m. m < count))
    → (j : ℕ) → j < length (cell ∷ cells) → IfSome (name_of (cell_number (cell ∷ cells) j).kind) (λ m. m < count)
known_more cell cells count here later zero j_in = here
known_more cell cells count here later (suc j) j_in = later j (omega arith)

named_known : (cells : List Cell) (count next n : ℕ)
    → ((next : ℕ) → are_numbered cells count (Some next) ≡ true → (next ≤ count) × ((j : ℕ) → j < length cells → IfSome (name_of (cell_number cells j).kind) (λ m. m < count)))
    → (before here : Bool) → ltb n next ≡ before → (n == next) ≡ here → are_numbered cells count (cond before (Some next) (cond here (Some (next + 1)) None)) ≡ true
    → (n < count) × (next ≤ count) × ((j : ℕ) → j < length cells → IfSome (name_of (cell_number cells j).kind) (λ m. m < count))
named_known cells count next n rest true here is is' e =
    let later = rest next e in
    (omega (arith, later.0, ltb-true n next is), later.0, later.1)
named_known cells count next n rest false true is is' e =
    let later = rest (next + 1) e in
    (omega (arith, later.0, eqb-true n next is'), omega (arith, later.0), later.1)
named_known cells count next n rest false false is is' e = let none = numbered_none cells count in cc

known_step : (cells : List Cell) (count next : ℕ) (o : Option ℕ)
    → ((next : ℕ) → are_numbered cells count (Some next) ≡ true → (next ≤ count) × ((j : ℕ) → j < length cells → IfSome (name_of (cell_number cells j).kind) (λ m. m < count)))
    → are_numbered cells count (names_after o next) ≡ true
    → IfSome o (λ m. m < count) × (next ≤ count) × ((j : ℕ) → j < length cells → IfSome (name_of (cell_number cells j).kind) (λ m. m < count))
known_step cells count next None rest e = let later = rest next e in (tt, later.0, later.1)
known_step cells count next (Some n) rest e = named_known cells count next n rest _ _ refl refl e

nothing : {X : Type 0} (f : ℕ → Option X) (a names : ℕ) → ((k : ℕ) → f k ≡ None) → replicate names None ≡ map f (range_with_len a names)
nothing f a zero none = refl
nothing f a (suc names) none = rw (none a) (ap (λ rest. None ∷ rest) (nothing f (a + 1) names none))

names_known_from : (cells : List Cell) (count next : ℕ) → are_numbered cells count (Some next) ≡ true
    → (next ≤ count) × ((j : ℕ) → j < length cells → IfSome (name_of (cell_number cells j).kind) (λ m. m < count))
names_known_from [] count next numbered = (omega (arith, eqb-true next count numbered), λ j j_in. absurd (omega arith))
names_known_from (cell ∷ cells) count next numbered =
    let found = known_step cells count next (name_of cell.kind) (names_known_from cells count) numbered in
    (found.1, known_more cell cells count found.0 found.2)

pub names_known : (cells : List Cell) (count k : ℕ) → are_numbered cells count (Some 0) ≡ true → k < length cells → IfSome (name_of (cell_number cells k).kind) (λ m. m < count)
names_known cells count k numbered k_in = (names_known_from cells count 0 numbered).1 k k_in

-- no cell, no first literal
pub first_literals-start : (cells : List Cell) (names : ℕ) → replicate names None ≡ first_literals cells 0 names
first_literals-start cells names = nothing (first_literal cells 0) 0 names (λ k. refl)

few : (b : Bool) (l m : ℤ) → length (cond b [] (same l m)) ≤ 2
few true l m = omega arith
few false l m = omega arith

-- a cell has at most two clauses for its name
tied_few : (cells : List Cell) (k : ℕ) (o : Option ℕ) → length (tied_to cells k o) ≤ 2
tied_few cells k None = omega arith
tied_few cells k (Some first) = few (first == k) _ _

name_few : (cells : List Cell) (k : ℕ) (o : Option ℕ) → length (option_map_or (λ n. tied_to cells k (position_from (has_name n) 0 cells)) o []) ≤ 2
name_few cells k None = omega arith
name_few cells k (Some n) = tied_few cells k (position_from (has_name n) 0 cells)

pub length-name_clauses : (cells : List Cell) (k : ℕ) → length (name_clauses cells k) ≤ 2
length-name_clauses cells k = name_few cells k (name_of (cell_number cells k).kind)
