-- The constants of the code are those of the definitions.
use Rattle.std.proofs.Common.{◌≡◌, refl}
use Rattle.lls_numbers.specs.declared.TheConstants.{MULTIPLIER, INCREMENT}
use Rattle.lls_numbers.specs.Numbers.{multiplier, increment}

pub multiplier-is : MULTIPLIER ≡ multiplier
multiplier-is = refl

pub increment-is : INCREMENT ≡ increment
increment-is = refl
