-- Clauses and literals within the variables.
use Rattle.std.proofs.Common.{◌≡◌, ℕ, zero, suc, ◌<◌, ◌≤◌, true, length, get_or, Some, refl, ◌∙◌, arith, leb, leb-true}
use Rattle.std.specs.Prelude.{ℤ, pos, negsuc}
use Rattle.std.proofs.lemmas.Option.{slice_get-get_or}
use Rattle.lls_lit.specs.Literal.{variable_of, negation}
use Rattle.lls_lit.specs.Formula.{Clause, is_literal_of, is_within}
use Rattle.lls_cnf.proofs.Elements.{passes_at}
use Rattle.lls_prooflog.specs.UnitWalk.{Live, find_clause}
use Rattle.lls_prooflog.proofs.Walks.{found_passes}
use Rattle.std.proofs.lemmas.List.Folds.{list_all-map}
use Rattle.lls_lrat.specs.Hinted.{are_within}
use Rattle.std.proofs.lemmas.Bool.{and_parts}

pub found_within : (vars : ℕ) (live : Live) (id : ℕ) (clause : Clause) → are_within vars live ≡ true → find_clause live id ≡ Some clause → is_within vars clause ≡ true
found_within vars live id clause all e = found_passes (is_within vars) live id clause (list_all-map (is_within vars) (λ (pair : ℕ × Clause). pair.1) live ∙ all) e

-- a literal of a clause that is within the variables
pub literal_within : (vars : ℕ) (clause : Clause) (i : ℕ) (d : ℤ) → is_within vars clause ≡ true → i < length clause → variable_of (get_or clause i d) ≤ vars
literal_within vars clause i d all lt =
    let v = variable_of (get_or clause i d) in
    leb-true v vars (and_parts (leb 1 v) (leb v vars) (passes_at (is_literal_of vars) clause i (get_or clause i d) all (slice_get-get_or clause i d lt))).1

pub variable_of-negation : (l : ℤ) → variable_of (negation l) ≡ variable_of l
variable_of-negation (pos zero) = refl
variable_of-negation (pos (suc n)) = omega arith
variable_of-negation (negsuc n) = refl
