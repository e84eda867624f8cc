-- Steps whose ids and hints are in range.
use Rattle.std.specs.Prelude.{◌≡◌, ℕ, ℤ, Bool, true, ◌&&◌, nat_le}
use Rattle.std.specs.List.{list_all}
use Rattle.lls_lit.specs.Literal.{variable_of}
use Rattle.lls_prooflog.specs.declared.step.Step.{Step}
use Rattle.lls_prooflog.specs.declared.step.Step.TheVariants.{Add, Del}
use Rattle.lls_prooflog.specs.declared.step.TheConstants.Step.{MOST_ID}

abbrev pub is_id : ℕ → Bool
is_id n = nat_le 1 n && nat_le n MOST_ID

-- an id, with either sign
abbrev pub is_hint : ℤ → Bool
is_hint hint = is_id (variable_of hint)

abbrev pub is_in_range : Step → Bool
is_in_range (Add id lits hints) = is_id id && list_all is_hint hints
is_in_range (Del ids) = list_all is_id ids

abbrev pub IsInRange : Step → Type 0
IsInRange step = is_in_range step ≡ true
