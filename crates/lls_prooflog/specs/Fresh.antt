-- Fresh clauses: those that the live clauses don't give already by unit propagation from all their literals but one.
use Rattle.std.specs.Prelude.{◌≡◌, ℤ, Bool, true, false, not, ◌||◌, List, [], ◌∷◌, filter, None}
use Rattle.std.specs.List.{list_any, list_all, Contains}
use Rattle.std.specs.Ordering.{int_eq}
use Rattle.lls_lit.specs.Literal.{negation}
use Rattle.lls_lit.specs.Formula.{Clause}
use Rattle.lls_prooflog.specs.UnitWalk.{Live, is_among, unit_walk}
use Rattle.lls_prooflog.specs.Steps.{clauses_of}

-- among literals that are taken as true there isn't the negation of this one
abbrev pub is_not_false : List ℤ → ℤ → Bool
is_not_false trues l = not (is_among trues (negation l))

-- no literal is taken as true together with its negation
abbrev pub is_consistent : List ℤ → Bool
is_consistent trues = list_all (is_not_false trues) trues

-- some two of the literals differ
abbrev pub has_two : List ℤ → Bool
has_two [] = false
has_two (l ∷ ls) = list_any (λ m. not (int_eq l m)) ls || has_two ls

-- unit propagation has nothing to do at the clause: it has a true literal, or two different ones that aren't false
abbrev pub is_settled : List ℤ → Clause → Bool
is_settled trues clause = list_any (is_among trues) clause || has_two (filter (is_not_false trues) clause)

-- nor at any of the clauses
abbrev pub is_closed : List ℤ → List Clause → Bool
is_closed trues clauses = list_all (is_settled trues) clauses

-- the literals of the clause but one are false, and perhaps further ones, and unit propagation over the clauses ends there: without a
-- conflict, and with that one unset
pub record ShowsFresh (clauses : List Clause) (clause : Clause) (unset : ℤ) (trues : List ℤ) : Type 0 where
  pub in_clause : is_among clause unset ≡ true
  pub consistent : is_consistent trues ≡ true
  pub others_false : list_all (λ l. int_eq l unset || is_among trues (negation l)) clause ≡ true
  pub unset_not_true : is_among trues unset ≡ false
  pub unset_not_false : is_among trues (negation unset) ≡ false
  pub closed : is_closed trues clauses ≡ true

-- some literal of the clause and some literals that are taken as true show it
abbrev pub IsFresh : List Clause → Clause → Type 0
IsFresh clauses clause = (unset : ℤ) × ((trues : List ℤ) × ShowsFresh clauses clause unset trues)

-- no clause that has all literals of one of the clauses is fresh
abbrev pub NoWeakerClauseIsFresh : Type 0
NoWeakerClauseIsFresh = (clauses : List Clause) (clause part : Clause) → Contains clauses part → list_all (is_among clause) part ≡ true → ¬ IsFresh clauses clause

-- where some clause is fresh, no hints lead from the live clauses alone to a conflict
abbrev pub NoHintsRefuteWhereFresh : Type 0
NoHintsRefuteWhereFresh = (live : Live) (clause : Clause) (hints : List ℤ) → IsFresh (clauses_of live) clause → ¬ (unit_walk live [] hints ≡ None)
