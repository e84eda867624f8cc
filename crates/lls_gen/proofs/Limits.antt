-- The constant of the code is that of the definitions.
use Rattle.std.proofs.Common.{◌≡◌, refl}
use Rattle.lls_gen.specs.declared.making.TheConstants.{MOST_SIZE}
use Rattle.lls_gen.specs.Made.{most_size}

pub most_size-is : MOST_SIZE ≡ most_size
most_size-is = refl
