-- How a clause stands under a trail.
use Rattle.std.specs.Prelude.{◌≢◌, ℤ, List}
use Rattle.lls_store.specs.declared.standing.Standing.{Standing}
use Rattle.lls_store.specs.declared.standing.Standing.TheVariants.{Settled, Forces, Falsified}
use Rattle.lls_store.specs.Trail.{Entry, HasNegated, IsUnset}
use Rattle.lls_store.specs.Clauses.{Literals, IsIn}
use Rattle.lls_store.specs.Closed.{IsSettled}

-- the one literal that isn't false has no value
pub record IsLeft (entries : List Entry) (lits : Literals) (l : ℤ) : Type 0 where
  pub unset : IsUnset entries l
  pub stands : IsIn lits l
  pub others_false : (m : ℤ) → IsIn lits m → m ≢ l → HasNegated entries m

abbrev pub Stands : List Entry → Literals → Standing → Type 0
Stands entries lits Settled = IsSettled entries lits
Stands entries lits (Forces l) = IsLeft entries lits l
Stands entries lits Falsified = (l : ℤ) → IsIn lits l → HasNegated entries l
