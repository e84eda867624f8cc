-- What changes a trail.
use Rattle.std.specs.Prelude.{ℕ, ◌+◌, ℤ, List, [], ◌∷◌, ◌++◌, map, take_while, nat_le, Option, Some, None, if◌then◌else◌, ◌==◌}
use Rattle.lls_lit.specs.Literal.{variable_of}
use Rattle.lls_store.specs.Trail.{Entry, TrailState}

-- no literal is true
abbrev pub empty_trail : ℕ → TrailState
empty_trail vars = record { vars = vars; current = 0; entries = [] }

-- the literal is true at a level, which becomes the current one
abbrev pub taken : TrailState → ℤ → ℕ → Option ℕ → TrailState
taken trail l level reason = record trail {
  current = level;
  entries = trail.entries ++ record { lit = l; level = level; reason = reason } ∷ [];
}

-- the literal is taken as true, which begins a level
abbrev pub decided : TrailState → ℤ → TrailState
decided trail l = taken trail l (trail.current + 1) None

-- a clause makes the literal true
abbrev pub forced : TrailState → ℤ → ℕ → TrailState
forced trail l reason = taken trail l trail.current (Some reason)

-- the entries up to the first above the level
abbrev pub entries_up_to : ℕ → List Entry → List Entry
entries_up_to level entries = take_while (λ e. nat_le e.level level) entries

-- the trail as it was before the first literal above the level
abbrev pub cut_to : TrailState → ℕ → TrailState
cut_to trail level = record trail { current = level; entries = entries_up_to level trail.entries }

-- the entry with another reason, where it is the variable's
abbrev pub with_reason_at : ℕ → ℕ → Entry → Entry
with_reason_at v reason e = if variable_of e.lit == v then record e { reason = Some reason } else e

-- the variable has another reason
abbrev pub with_reason : TrailState → ℕ → ℕ → TrailState
with_reason trail v reason = record trail { entries = map (with_reason_at v reason) trail.entries }
