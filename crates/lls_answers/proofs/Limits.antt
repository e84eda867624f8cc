-- The constants of the code are the limits of the definitions.
use Rattle.std.proofs.Common.{◌≡◌, refl}
use Rattle.lls_answers.specs.declared.model.TheConstants.{NUMBERS_A_LINE}
use Rattle.lls_answers.specs.ModelText.{numbers_a_line}

pub numbers_a_line-is : NUMBERS_A_LINE ≡ numbers_a_line
numbers_a_line-is = refl
