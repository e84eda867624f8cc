-- For private contracts alone: the literal of a sign and a variable.
use Rattle.std.specs.Prelude.{ℕ, ℤ, Bool, Option}
use Rattle.lls_prooflog.specs.Number.{literal_in}

abbrev pub literal_of_size : Bool → ℕ → Option ℤ
literal_of_size negative size = literal_in (record { is_negative = negative; size = size })
