-- For private contracts alone: numbers in bytes, read one after another.
use Rattle.std.specs.Prelude.{ℕ, ℤ, ◌+◌, List, [], ◌∷◌, length, min, Option, Some, None, Result, Ok}
use Rattle.std.specs.List.{position_or_len}
use Rattle.lls_base.specs.Results.{and_then}
use Rattle.lls_drat.specs.declared.drat_fault.DratFault.{DratFault}
use Rattle.lls_drat.specs.Number.{PlacedNumber, is_last, literal_in_bytes}
use Rattle.lls_drat.specs.Stretch.{in_range}

-- the literal of the first number, None where there is none, or its fault
abbrev pub next_number : List PlacedNumber → Result (Option ℤ) DratFault
next_number [] = Ok None
next_number (number ∷ numbers) = and_then (in_range number.place (literal_in_bytes number.bytes)) (λ l. Ok (Some l))

-- how many bytes the first number has
abbrev pub first_len : List ℕ → ℕ
first_len bytes = min (length bytes) (position_or_len is_last bytes + 1)
