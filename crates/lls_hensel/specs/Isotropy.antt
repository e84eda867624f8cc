-- Rules that answer by class.
use Rattle.std.specs.Prelude.{◌≡◌, ◌<◌, ℕ, Bool, true, List}
use Rattle.lls_rule.specs.declared.rule.TheConstants.Rule.{NEIGHBOURHOODS}
use Rattle.lls_rule.specs.Rule.{has_centre, answer, around}
use Rattle.lls_hensel.specs.Neighbours.{are_images}

-- neighbourhoods with equal centres and one class have equal answers
abbrev pub IsIsotropic : List Bool → Type 0
IsIsotropic table =
    (m n : ℕ) → m < NEIGHBOURHOODS → n < NEIGHBOURHOODS → has_centre m ≡ has_centre n → are_images (around m) (around n) ≡ true →
    answer table m ≡ answer table n
