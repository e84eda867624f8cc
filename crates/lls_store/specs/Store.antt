-- What a store of clauses is seen as, and what its calls make of it.
use Rattle.std.specs.Prelude.{◌≡◌, ◌≢◌, ◌≤◌, ◌<◌, ℕ, ◌+◌, ℤ, true, false, List, [], ◌∷◌, ◌++◌, All, AllPairs, Contains, Some, IsSome, ◌==◌}
use Rattle.std.specs.List.{list_any}
use Rattle.std.specs.FinSet as set
use Rattle.lls_lit.specs.Literal.{variable_of}
use Rattle.lls_lit.specs.Formula.{is_literal_of}
use Rattle.lls_store.specs.declared.store.TheConstants.{MOST_ID}
use Rattle.lls_store.specs.Trail.{Entry, TrailState, HasNegated, level_of}
use Rattle.lls_store.specs.Clauses.{LiveClause, Literals, IsIn, clause_numbered}

-- the number of variables, how many numbers were given, the live clauses by number, and the clause that is being built
pub record StoreState : Type 0 where
  pub vars : ℕ
  pub count : ℕ
  pub live : List LiveClause
  pub tail : List ℤ

-- no clause
abbrev pub empty_store : ℕ → StoreState
empty_store vars = record { vars = vars; count = 0; live = []; tail = [] }

-- an id that no live clause has
pub record IsNewId (live : List LiveClause) (id : ℕ) : Type 0 where
  pub least : 1 ≤ id
  pub most : id ≤ MOST_ID
  pub new : (clause : LiveClause) → Contains live clause → clause.id ≢ id

-- each literal is one of the variables from 1 to vars
abbrev pub AreWithin : ℕ → Literals → Type 0
AreWithin vars lits = (l : ℤ) → IsIn lits l → is_literal_of vars l ≡ true

-- each id is one clause's alone, the numbers rise, every number was given, and the literals are of the store's variables
pub record AreLive (store : StoreState) : Type 0 where
  pub ids : AllPairs (λ a b. a.id ≢ b.id) store.live
  pub numbers : AllPairs (λ a b. a.number < b.number) store.live
  pub given : All (λ a. a.number < store.count) store.live
  pub ids_fit : All (λ a. (1 ≤ a.id) × (a.id ≤ MOST_ID)) store.live
  pub within : All (λ a. AreWithin store.vars a.lits) store.live

-- another clause, under the next number
abbrev pub with_clause : StoreState → ℕ → List ℤ → StoreState
with_clause store id lits = record store {
  count = store.count + 1;
  live = store.live ++ record { number = store.count; id = id; lits = set.from_list lits } ∷ [];
}

-- the clause at the tail becomes live
abbrev pub sealed : StoreState → ℕ → StoreState
sealed store id = record (with_clause store id store.tail) { tail = [] }

-- the literal's variable isn't among these
abbrev pub IsNewVariable : List ℤ → ℤ → Type 0
IsNewVariable lits l = list_any (λ m. variable_of m == variable_of l) lits ≡ false

-- the trail goes on by forced literals of the current level, which stays
pub record GoesOn (old new : TrailState) : Type 0 where
  pub added : List Entry
  pub grown : new ≡ record old { entries = old.entries ++ added }
  pub of_level : All (λ e. e.level ≡ old.current) added
  pub are_forced : All (λ e. IsSome e.reason) added

-- a live clause whose literals are all false
pub record IsConflict (live : List LiveClause) (trail : TrailState) (number : ℕ) : Type 0 where
  pub clause : LiveClause
  pub is_live : clause_numbered live number ≡ Some clause
  pub all_false : (l : ℤ) → IsIn clause.lits l → HasNegated trail.entries l

-- no literal has a higher level than the first
abbrev pub IsFirstHighest : List Entry → List ℤ → Type 0
IsFirstHighest entries [] = Unit {0}
IsFirstHighest entries (l ∷ ls) =
    (m : ℤ) (level other : ℕ) → Contains ls m → level_of entries (variable_of l) ≡ Some level → level_of entries (variable_of m) ≡ Some other → other ≤ level

-- a clause that may be learnt: false, its first literal alone of the current level, its second of the highest level of the others
pub record IsAsserting (trail : TrailState) (first : ℤ) (others : List ℤ) : Type 0 where
  pub all_false : (l : ℤ) → Contains (first ∷ others) l → HasNegated trail.entries l
  pub first_current : level_of trail.entries (variable_of first) ≡ Some trail.current
  pub alone : (l : ℤ) → Contains others l → level_of trail.entries (variable_of l) ≢ Some trail.current
  pub second_highest : IsFirstHighest trail.entries others

abbrev pub IsLearnt : TrailState → List ℤ → Type 0
IsLearnt trail [] = ⊥
IsLearnt trail (first ∷ others) = IsAsserting trail first others
