-- A trail: the literals that are true, in the order in which they became so, each with its level and its reason.
use Rattle.std.specs.Prelude.{◌≡◌, ◌≤◌, ℕ, ◌+◌, ℤ, Bool, true, ◌&&◌, List, [], ◌∷◌, length, map, Option, is_none, option_map, option_and_then, if◌then◌else◌, ◌==◌, find, count_by}
use Rattle.std.specs.List.{list_any, position}
use Rattle.std.specs.Ordering.{int_eq}
use Rattle.lls_lit.specs.declared.var.TheConstants.Var.{MOST}
use Rattle.lls_lit.specs.Literal.{variable_of, negation}
use Rattle.lls_lit.specs.Formula.{Clause, is_within}

-- a true literal, its level, and the number of the clause that forced it: None where it was decided
pub record Entry : Type 0 where
  pub lit : ℤ
  pub level : ℕ
  pub reason : Option ℕ

-- the number of variables, the current level, and the true literals
pub record TrailState : Type 0 where
  pub vars : ℕ
  pub current : ℕ
  pub entries : List Entry

abbrev pub literals_of : List Entry → Clause
literals_of entries = map (λ e. e.lit) entries

-- some entry has the literal
abbrev pub has : List Entry → ℤ → Bool
has entries l = list_any (λ e. int_eq e.lit l) entries

-- the literal is true
abbrev pub Has : List Entry → ℤ → Type 0
Has entries l = has entries l ≡ true

-- the literal is false
abbrev pub HasNegated : List Entry → ℤ → Type 0
HasNegated entries l = Has entries (negation l)

-- the literal has no value
pub record IsUnset (entries : List Entry) (l : ℤ) : Type 0 where
  pub not_true : ¬ Has entries l
  pub not_false : ¬ HasNegated entries l

-- the entry of a variable, where it has a value
abbrev pub entry_of : List Entry → ℕ → Option Entry
entry_of entries v = find (λ e. variable_of e.lit == v) entries

abbrev pub level_of : List Entry → ℕ → Option ℕ
level_of entries v = option_map (λ e. e.level) (entry_of entries v)

abbrev pub reason_of : List Entry → ℕ → Option ℕ
reason_of entries v = option_and_then (λ e. e.reason) (entry_of entries v)

-- where the entry of a variable stands
abbrev pub place_of : List Entry → ℕ → Option ℕ
place_of entries v = position (λ e. variable_of e.lit == v) entries

abbrev pub is_decision : Entry → Bool
is_decision e = is_none e.reason

-- how many entries were decided
abbrev pub decisions : List Entry → ℕ
decisions entries = count_by is_decision entries

-- the level of each entry, where so many decisions stand before the first: as many as stand up to it, with itself
abbrev pub levels_after : ℕ → List Entry → List ℕ
levels_after before [] = []
levels_after before (e ∷ es) = let level = if is_decision e then before + 1 else before in level ∷ levels_after level es

-- no literal is both true and false
abbrev pub IsConsistent : List Entry → Type 0
IsConsistent entries = (l : ℤ) → Has entries l → ¬ HasNegated entries l

-- no variable stands twice
abbrev pub has_variables_once : List Entry → Bool
has_variables_once [] = true
has_variables_once (e ∷ es) = is_none (entry_of es (variable_of e.lit)) && has_variables_once es

-- what holds of every trail
pub record IsTrail (trail : TrailState) : Type 0 where
  pub vars_fit : trail.vars ≤ MOST
  pub within : is_within trail.vars (literals_of trail.entries) ≡ true
  pub once : has_variables_once trail.entries ≡ true
  pub most : length trail.entries ≤ trail.vars
  pub levels : map (λ e. e.level) trail.entries ≡ levels_after 0 trail.entries
  pub current : trail.current ≡ decisions trail.entries
