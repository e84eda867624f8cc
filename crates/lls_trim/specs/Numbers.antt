-- For private contracts alone: sources as numbers on one scale.
use Rattle.std.specs.Prelude.{◌≡◌, ℕ, ◌+◌, ◌-◌, ◌≤◌, true, false, refl, nat_le, if◌then◌else◌}
use Rattle.std.proofs.Common.{arith}
use Rattle.std.proofs.lemmas.Bool.Decides.{nat_tests}
use Rattle.lls_cnf.specs.declared.formula.TheConstants.Formula.{MOST_CLAUSES}
use Rattle.lls_trim.specs.declared.inferences.TheConstants.Inferences.{MOST}
use Rattle.lls_trim.specs.declared.source.Source.{Source}
use Rattle.lls_trim.specs.declared.source.Source.TheVariants.{Given, Added}

-- the formula's clauses have their ids, and the additions stand behind the greatest that such an id may be
abbrev pub number_of : Source → ℕ
number_of (Given id) = id
number_of (Added k) = MOST_CLAUSES + 1 + k

-- the source of a number
abbrev pub source_at : ℕ → Source
source_at n = if nat_le n MOST_CLAUSES then Given n else Added (n - MOST_CLAUSES - 1)

-- a source that has a number of four bytes
abbrev pub IsNumbered : Source → Type 0
IsNumbered (Given id) = id ≤ MOST_CLAUSES
IsNumbered (Added k) = k ≤ MOST

-- a number is that of its source
pub number_of-source_at : (n : ℕ) → number_of (source_at n) ≡ n
number_of-source_at n =
    elim (nat_le n MOST_CLAUSES) as (λ b. nat_le n MOST_CLAUSES ≡ b → number_of (if b then Given n else Added (n - MOST_CLAUSES - 1)) ≡ n) [
      | true ↦ λ e. refl
      | false ↦ λ e. grind (arith, nat_tests)
    ] refl
