-- The constants of the code are the limits and the default of the definitions.
use Rattle.std.proofs.Common.{◌≡◌, refl}
use Rattle.lls_words.specs.declared.values.TheConstants.{MOST_DIGITS, MOST_BUDGET, DEFAULT_BUDGET, MOST_SEED, MOST_SIZE, MOST_SEARCHERS}
use Rattle.lls_words.specs.Values.{most_digits, most_budget, default_budget, most_seed, most_size, most_searchers}

pub most_digits-is : MOST_DIGITS ≡ most_digits
most_digits-is = refl

pub most_budget-is : MOST_BUDGET ≡ most_budget
most_budget-is = refl

pub default_budget-is : DEFAULT_BUDGET ≡ default_budget
default_budget-is = refl

pub most_seed-is : MOST_SEED ≡ most_seed
most_seed-is = refl

pub most_size-is : MOST_SIZE ≡ most_size
most_size-is = refl

pub most_searchers-is : MOST_SEARCHERS ≡ most_searchers
most_searchers-is = refl
