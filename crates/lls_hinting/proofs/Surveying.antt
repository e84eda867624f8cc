-- The first reading of a proof's lemmas.
use Rattle.std.proofs.Common.{◌≡◌, ◌≤◌, ◌<◌, ◌+◌, ℕ, Bool, true, false, ◌&&◌, List, [], ◌∷◌, ◌++◌, length, take, get_or, Option, Some, Ok, Err, refl, sym, ap, ◌∙◌, arith}
use Rattle.std.specs.Prelude.{ℤ}
use Rattle.std.proofs.lemmas.List.Folds.{list_all_more}
use Rattle.std.proofs.lemmas.Bool.Decides.{nat_tests}
use Rattle.lls_base.specs.Results.{and_then}
use Rattle.lls_cnf.proofs.Within.{is_within-more}
use Rattle.lls_lit.specs.Formula.{is_literal_of, is_within}
use Rattle.lls_lit.specs.Literal.{variable_of}
use Rattle.lls_drat.specs.declared.drat_fault.DratFault.{DratFault}
use Rattle.lls_drat.specs.declared.form.Form.{Form}
use Rattle.lls_drat.specs.Lemma.{NumberedLemma}
use Rattle.lls_drat.specs.Proof.{proof_of}
use Rattle.lls_drat.specs.Reading.{begun, to_come}
use Rattle.lls_hinting.specs.declared.fault.Fault.TheVariants as faults
use Rattle.lls_hinting.specs.Asked.{input_from, lemmas_in, lemmas_read, proof_limit}
use Rattle.lls_hinting.specs.Judging.{are_within}
use Rattle.lls_hinting.specs.Place.{FaultBehind, Faulty, Place, RestSays}
use Rattle.lls_hinting.proofs.Inputs.{input_some}
use Rattle.lls_hinting.proofs.Passing.{at}

-- the lemmas are of more variables too, and with them one more
pub within_more : (few vars : ℕ) (lemmas : List NumberedLemma) (l : NumberedLemma) → few ≤ vars → are_within few lemmas ≡ true → is_within vars l.lemma.lits ≡ true
    → are_within vars (lemmas ++ l ∷ []) ≡ true
within_more few vars [] l le all one = rw one refl
within_more few vars (first ∷ lemmas) l le all one =
    let head = is_within-more few vars first.lemma.lits le (left (is_within few first.lemma.lits) (are_within few lemmas) all) in
    rw head (within_more few vars lemmas l le (right (is_within few first.lemma.lits) (are_within few lemmas) all) one)
  where
    left : (a b : Bool) → (a && b) ≡ true → a ≡ true
    left true b is = refl
    left false b is = absurd cc

    right : (a b : Bool) → (a && b) ≡ true → b ≡ true
    right true b is = is
    right false b is = absurd cc

-- a proof of which nothing was read yet
pub record Fresh (form : Form) (bytes : List ℕ) (place : Place) : Type 0 where
  pub taken : place.taken ≡ 0
  pub rest : place.rest ≡ Some bytes
  pub whole : to_come place.reading bytes ≡ proof_of form bytes

pub fresh : (form : Form) (bytes : List ℕ) (place : Place) → place.reading ≡ begun form → place.taken ≡ 0 → place.rest ≡ Some bytes → Fresh form bytes place
fresh form bytes place reading taken rest = record { taken = taken; rest = rest; whole = ap (λ r. to_come r bytes) reading }

-- a fault comes before the end, and there is an end
faulty : (o : Option (List ℕ)) (bytes : List ℕ) (form : Form) (place after : Place) (front : List NumberedLemma) (fault : DratFault) → o ≡ Some bytes → Fresh form bytes place → FaultBehind front fault place after
    → RestSays after (Ok tt) → and_then (input_from proof_limit o) (lemmas_in form) ≡ Err (faults.Proof fault)
faulty o bytes form place after front fault is start stops rest =
    let f = at (Faulty front fault place after) place.rest bytes start.rest stops in
    let r = at (λ left. after.taken + length left ≤ proof_limit) after.rest f.left_then.bytes f.left_then.rest rest in
    let input = input_some proof_limit o bytes is (omega (arith, r, f.left_then.same_length, start.taken)) in
    ap (λ read. and_then read (lemmas_in form)) input ∙ ap lemmas_read (sym start.whole ∙ f.lemmas)

is_of : (l : ℤ) (vars : ℕ) → 1 ≤ variable_of l → variable_of l ≤ vars → is_literal_of vars l ≡ true
is_of l vars some le = grind (arith, nat_tests, some, le)

-- the next literal, of the same variables or more
pub within_next : (few vars : ℕ) (lits : List ℤ) (k : ℕ) (l : ℤ) → few ≤ vars → k < length lits → l ≡ get_or lits k l → 1 ≤ variable_of l → variable_of l ≤ vars
    → is_within few (take k lits) ≡ true → is_within vars (take (k + 1) lits) ≡ true
within_next few vars lits k l le lt is some of_vars before =
    list_all_more (is_literal_of vars) lits k l lt ∙ rw (is_within-more few vars (take k lits) le before, ← is, is_of l vars some of_vars) refl
