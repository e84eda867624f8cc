-- For private contracts: live clauses that are found by a hash of their literals.
use Rattle.std.specs.Prelude.{◌≡◌, ◌<◌, ◌==◌, ◌+◌, ◌*◌, ◌/◌, ◌%◌, ◌^◌, ℕ, zero, suc, ℤ, pos, negsuc, bit_xor, if◌then◌else◌, List, length, Option, Some, slice_get, Contains}
use Rattle.std.specs.Map.{lookup}
use Rattle.std.specs.FinSet as set
use Rattle.lls_lit.specs.Literal.{index_of, negation}
use Rattle.lls_store.specs.Clauses.{LiveClause, Literals, IsIn}
use Rattle.lls_lemmas.specs.declared.finding.TheConstants.{FACTOR}
use Rattle.lls_lemmas.specs.declared.index.Entry.{Entry}
use Rattle.lls_lemmas.specs.declared.index.Index.{Index}

-- the bits that stand for a literal
abbrev pub mixed : ℤ → ℕ
mixed l = let product = (index_of l + 1) * FACTOR % 2 ^ 64 in bit_xor product (product / 2 ^ 29)

-- what a literal of a set adds to its hash
abbrev pub share : Literals → ℤ → ℕ
share lits l = if set.contains lits l then mixed l else 0

-- what the literals of the variables up to one add, each once
abbrev pub shares : Literals → ℕ → ℕ
shares lits zero = 0
shares lits (suc v) = shares lits v + share lits (pos (v + 1)) + share lits (negsuc v)

-- the hash of a set of literals of so many variables
abbrev pub set_hash : ℕ → Literals → ℕ
set_hash vars lits = shares lits vars % 2 ^ 64 / 2 ^ 32

-- the place of the newest entry with a hash
abbrev pub newest_in : Index → ℕ → Option ℕ
newest_in index hash = lookup (λ q. hash == q) index.newest.entries

-- an entry of that number is met from a place on, each entry leading to the one before it
pub data IsMet (entries : List Entry) (number : ℕ) : Option ℕ → Type 0 where
  here : (from : Option ℕ) (place : ℕ) (entry : Entry) → from ≡ Some place → slice_get entries place ≡ Some entry → entry.number ≡ number → IsMet entries number from
  before : (from : Option ℕ) (place : ℕ) (entry : Entry) → from ≡ Some place → slice_get entries place ≡ Some entry → IsMet entries number entry.before → IsMet entries number from

-- each entry leads back, and each hash to an entry
pub record IsLinked (index : Index) : Type 0 where
  pub back : (place before : ℕ) (entry : Entry) → slice_get index.entries.items place ≡ Some entry → entry.before ≡ Some before → before < place
  pub within : (hash place : ℕ) → newest_in index hash ≡ Some place → place < length index.entries.items

-- a clause is met from the newest entry with its hash on, and its number stands among all
pub record IsIndexed (vars : ℕ) (index : Index) (clause : LiveClause) : Type 0 where
  pub met : IsMet index.entries.items clause.number (newest_in index (set_hash vars clause.lits))
  pub listed : Contains index.numbers.items clause.number

-- such is each live clause
pub record Indexes (vars : ℕ) (index : Index) (live : List LiveClause) : Type 0 where
  pub linked : IsLinked index
  pub each : (clause : LiveClause) → Contains live clause → IsIndexed vars index clause

-- no literal stands beside its negation
abbrev pub IsPlain : Literals → Type 0
IsPlain lits = (l : ℤ) → IsIn lits l → IsIn lits (negation l) → ⊥

-- in no live clause one does
abbrev pub ArePlain : List LiveClause → Type 0
ArePlain live = (clause : LiveClause) → Contains live clause → IsPlain clause.lits

-- live clauses that are indexed, none of which holds for any values
pub record IsFound (vars : ℕ) (index : Index) (live : List LiveClause) : Type 0 where
  pub indexes : Indexes vars index live
  pub plain : ArePlain live
