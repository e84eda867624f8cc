-- For private contracts alone: hints and ids in buffers, of which each run of numbers is a piece, narrow or wide.
use Rattle.std.specs.Prelude.{◌≡◌, ◌≤◌, ◌-◌, ◌^◌, ◌++◌, ℕ, ℤ, pos, Bool, List, map, ◌&&◌, nat_le}
use Rattle.std.specs.List.{between}
use Rattle.lls_lit.specs.Literal.{variable_of}
use Rattle.lls_prooflog.specs.Spent.{is_positive}
use Rattle.lls_prooflog.specs.declared.spans.Span.{Span}
use Rattle.lls_prooflog.specs.declared.spans.Place.{Place}
use Rattle.lls_prooflog.specs.declared.spans.Place.TheVariants as places

-- a piece of a buffer of that length
pub record IsSpan (len : ℕ) (span : Span) : Type 0 where
  pub order : span.from ≤ span.to
  pub within : span.to ≤ len

-- a piece of one of two buffers of these lengths
abbrev pub IsPlace : ℕ → ℕ → Place → Type 0
IsPlace narrow wide (places.Narrow span) = IsSpan narrow span
IsPlace narrow wide (places.Wide span) = IsSpan wide span

-- numbers without a sign that have 32 bits, other numbers, and for how many of each kind there is room
pub record Hinted : Type 0 where
  pub narrow : List ℕ
  pub wide : List ℤ
  pub room : ℕ

pub record Named : Type 0 where
  pub narrow : List ℕ
  pub wide : List ℕ
  pub room : ℕ

abbrev pub hints_at : List ℕ → List ℤ → Place → List ℤ
hints_at narrow wide (places.Narrow span) = map pos (between span.from span.to narrow)
hints_at narrow wide (places.Wide span) = between span.from span.to wide

abbrev pub ids_at : List ℕ → List ℕ → Place → List ℕ
ids_at narrow wide (places.Narrow span) = between span.from span.to narrow
ids_at narrow wide (places.Wide span) = between span.from span.to wide

-- a hint from 1 to the greatest number of 32 bits
abbrev pub is_narrow_hint : ℤ → Bool
is_narrow_hint hint = is_positive hint && nat_le (variable_of hint) (2 ^ 32 - 1)

abbrev pub is_narrow_id : ℕ → Bool
is_narrow_id id = nat_le id (2 ^ 32 - 1)

-- a buffer that begins with another
abbrev pub Begins : {X : Type 0} → List X → List X → Type 0
Begins {X = X} old new = (more : List X) × (new ≡ old ++ more)
