-- What the lemmas of a file come to that was surveyed.
use Rattle.std.proofs.Common.{◌≡◌, ◌≤◌, ◌<◌, ◌+◌, ℕ, Bool, true, false, ◌&&◌, List, [], ◌∷◌, ◌++◌, length, Option, None, Some, Ok, Err, refl, sym, ap, subst, ◌∙◌, inl, inr, arith}
use Rattle.std.specs.Prelude.{Result, Vec}
use Rattle.std.specs.declared.alloc.Global.{Global}
use Rattle.std.proofs.lemmas.Bool.{and_parts}
use Rattle.lls_base.specs.Shelf.{Files}
use Rattle.lls_cnf.proofs.Within.{is_within-more}
use Rattle.lls_lit.specs.Formula.{Cnf, is_within}
use Rattle.lls_prooflog.specs.declared.step.Step.{Step}
use Rattle.lls_drat.specs.declared.drat_fault.DratFault.{DratFault}
use Rattle.lls_drat.specs.declared.form.Form.{Form}
use Rattle.lls_drat.specs.Lemma.{NumberedLemma}
use Rattle.lls_drat.specs.Proof.{Proof, no_more}
use Rattle.lls_drat.specs.Reading.{begun, to_come}
use Rattle.lls_lemmas.specs.Lemmas.{Begins, EndsEmpty, GoesOnWell, IsNotImplied, KeepsPlain}
use Rattle.lls_hinting.specs.declared.fault.Fault.{Fault}
use Rattle.lls_hinting.specs.declared.fault.Fault.TheVariants as faults
use Rattle.lls_hinting.specs.declared.fault.OutsideFault.TheVariants as outside
use Rattle.lls_hinting.specs.declared.outcome.Hints.{Hints}
use Rattle.lls_hinting.specs.declared.outcome.Outcome.{Outcome}
use Rattle.lls_hinting.specs.declared.outcome.Outcome.TheVariants.{Hinted, Refused as Refusal}
use Rattle.lls_hinting.specs.declared.judging.Stand.{Stand}
use Rattle.lls_hinting.specs.declared.judging.Stand.TheVariants.{Going, Refuted, NotImplied}
use Rattle.lls_hinting.specs.declared.tally.Tally.{Tally}
use Rattle.lls_hinting.specs.Asked.{proof_limit}
use Rattle.lls_hinting.specs.Behind.{IsBehind, Progress, TakesAll, progress_start}
use Rattle.lls_hinting.specs.Hinted.{AreHints, IsHinted}
use Rattle.lls_hinting.specs.Judging.{HasGreater, IsJudged, IsProved, JudgeSays, StandSays, Surveyed, are_within, progress}
use Rattle.lls_hinting.specs.Place.{Ended, EndsBehind, FaultBehind, Faulty, IsTooLong, Passed, Passes, Place, with_front}
use Rattle.lls_hinting.specs.Outcome.{IsSaid}
use Rattle.lls_hinting.specs.Refusal.{IsRefusal, addition, no_empty_text, not_implied_text}
use Rattle.lls_hinting.specs.Steps.{IsOpened}
use Rattle.lls_hinting.proofs.Passing.{at}
use Rattle.lls_hinting.proofs.Surveying.{Fresh, fresh}

-- lemmas alone end at one place
lemmas_of : (one two : List NumberedLemma) → with_front one no_more ≡ with_front two no_more → one ≡ two
lemmas_of one two is = sym (front_none one) ∙ ap (λ (p : Proof). p.lemmas) is ∙ front_none two
  where
    front_none : (front : List NumberedLemma) → front ++ [] ≡ front
    front_none [] = refl
    front_none (l ∷ ls) = ap (λ (more : List NumberedLemma). l ∷ more) (front_none ls)

pub ends_so : (form : Form) (bytes : List ℕ) (place : Place) (vars : ℕ) (front : List NumberedLemma) → Fresh form bytes place → (surveyed : Surveyed vars form bytes) → EndsBehind front place → front ≡ surveyed.lemmas
ends_so form bytes place vars front fresh surveyed end =
    let ended = at (Ended front place) place.rest bytes fresh.rest end in
    lemmas_of front surveyed.lemmas (sym ended.lemmas ∙ fresh.whole ∙ surveyed.lemmas_are)

-- lemmas that were read are the first of those
pub passed_so : (form : Form) (bytes : List ℕ) (before after : Place) (vars : ℕ) (front : List NumberedLemma) → Fresh form bytes before → (surveyed : Surveyed vars form bytes) → Passes front before after
    → (behind : List NumberedLemma) × (surveyed.lemmas ≡ front ++ behind)
passed_so form bytes before after vars front fresh surveyed passes =
    let passed = at (Passed front before after) before.rest bytes fresh.rest passes in
    let same : with_front front (to_come after.reading passed.left_then.bytes) ≡ with_front surveyed.lemmas no_more = sym passed.lemmas ∙ fresh.whole ∙ surveyed.lemmas_are in
    ((to_come after.reading passed.left_then.bytes).lemmas, sym (front_none surveyed.lemmas) ∙ ap (λ (p : Proof). p.lemmas) (sym same))
  where
    front_none : (front : List NumberedLemma) → front ++ [] ≡ front
    front_none [] = refl
    front_none (l ∷ ls) = ap (λ (more : List NumberedLemma). l ∷ more) (front_none ls)

no_fault : (form : Form) (bytes : List ℕ) (before after : Place) (vars : ℕ) (front : List NumberedLemma) (fault : DratFault) → Fresh form bytes before → Surveyed vars form bytes → FaultBehind front fault before after → ⊥
no_fault form bytes before after vars front fault fresh surveyed faulty =
    let f = at (Faulty front fault before after) before.rest bytes fresh.rest faulty in
    let same : Some fault ≡ None = ap (λ (p : Proof). p.fault) (sym f.lemmas ∙ fresh.whole ∙ surveyed.lemmas_are) in
    absurd cc

not_long : (form : Form) (bytes : List ℕ) (before : Place) (vars : ℕ) → Fresh form bytes before → Surveyed vars form bytes → IsTooLong before → ⊥
not_long form bytes before vars fresh surveyed long =
    let l = at (λ left. proof_limit < before.taken + length left) before.rest bytes fresh.rest long in
    absurd (omega (arith, l, fresh.taken, surveyed.fits))

within_all : (vars : ℕ) (front behind : List NumberedLemma) (l : NumberedLemma) → are_within vars (front ++ l ∷ behind) ≡ true → is_within vars l.lemma.lits ≡ true
within_all vars [] behind l is = both (is_within vars l.lemma.lits) (are_within vars behind) is
  where
    both : (a b : Bool) → (a && b) ≡ true → a ≡ true
    both true b is = refl
    both false b is = absurd cc
within_all vars (first ∷ front) behind l is = within_all vars front behind l (second (is_within vars first.lemma.lits) (are_within vars (front ++ l ∷ behind)) is)
  where
    second : (a b : Bool) → (a && b) ≡ true → b ≡ true
    second true b is = is
    second false b is = absurd cc

append_one : (front behind : List NumberedLemma) (l : NumberedLemma) → (front ++ l ∷ []) ++ behind ≡ front ++ l ∷ behind
append_one [] behind l = refl
append_one (first ∷ front) behind l = ap (λ (ls : List NumberedLemma). first ∷ ls) (append_one front behind l)

not_greater : (form : Form) (bytes : List ℕ) (before after : Place) (vars : ℕ) → Fresh form bytes before → Surveyed vars form bytes → HasGreater vars before after → ⊥
not_greater form bytes before after vars fresh surveyed has =
    let so = passed_so form bytes before after vars (has.front ++ has.lemma ∷ []) fresh surveyed has.passes in
    let are : surveyed.lemmas ≡ has.front ++ has.lemma ∷ so.0 = so.1 ∙ append_one has.front so.0 has.lemma in
    let inside = within_all vars has.front so.0 has.lemma (ap (are_within vars) (sym are) ∙ surveyed.within) in
    let clash : true ≡ false = sym inside ∙ has.greater in
    absurd cc

-- what the lemmas came to, by what they are
pub stands : (formula : Cnf) (vars : ℕ) (form : Form) (bytes : List ℕ) (old new : Progress) (before after : Place) (stand : Stand) → Fresh form bytes before → (surveyed : Surveyed vars form bytes)
    → JudgeSays formula vars old new before after (Ok stand) → StandSays formula surveyed.lemmas old new stand
stands formula vars form bytes old new before after Going fresh surveyed says =
    subst (λ (ls : List NumberedLemma). TakesAll formula ls old new) (ends_so form bytes before vars says.0 fresh surveyed says.1) says.2
stands formula vars form bytes old new before after Refuted fresh surveyed says =
    let so = passed_so form bytes before after vars says.0 fresh surveyed says.1 in
    (says.0, so.0, so.1, says.2)
stands formula vars form bytes old new before after (NotImplied number) fresh surveyed says =
    let so = passed_so form bytes before after vars (says.front ++ addition number says.lits ∷ []) fresh surveyed says.passes in
    (says.front, says.lits, so.0, so.1 ∙ append_one says.front so.0 (addition number says.lits), says.taken, says.not_implied, says.not_addable)

-- nothing stops them
pub no_stop : (formula : Cnf) (vars : ℕ) (form : Form) (bytes : List ℕ) (old new : Progress) (before after : Place) (fault : Fault) → Fresh form bytes before → Surveyed vars form bytes
    → JudgeSays formula vars old new before after (Err fault) → ⊥
no_stop formula vars form bytes old new before after (faults.Outside outside.Changed) fresh surveyed says = not_greater form bytes before after vars fresh surveyed says
no_stop formula vars form bytes old new before after (faults.Outside outside.NoFile) fresh surveyed says = says.1
no_stop formula vars form bytes old new before after (faults.Outside outside.OpenFailed) fresh surveyed says = says.1
no_stop formula vars form bytes old new before after (faults.Outside outside.ReadFailed) fresh surveyed says = says.1
no_stop formula vars form bytes old new before after (faults.Outside outside.CreateFailed) fresh surveyed says = says.1
no_stop formula vars form bytes old new before after (faults.Outside outside.WriteFailed) fresh surveyed says = says.1
no_stop formula vars form bytes old new before after (faults.Outside outside.OutFailed) fresh surveyed says = says.1
no_stop formula vars form bytes old new before after (faults.Proof fault) fresh surveyed says = no_fault form bytes before after vars says.0 fault fresh surveyed says.1
no_stop formula vars form bytes old new before after (faults.TooLong limit) fresh surveyed says = not_long form bytes before vars fresh surveyed says.1.1
no_stop formula vars form bytes old new before after (faults.Dimacs fault) fresh surveyed says = says.1
no_stop formula vars form bytes old new before after faults.Memory fresh surveyed says = says.1

-- the lemmas of a file that was opened
pub file_judged : (formula : Cnf) (vars : ℕ) (files : Option Files) (name : List ℕ) (form : Form) (old new : Progress) (place after : Place) (result : Result Stand Fault) → IsOpened files name place.rest (Ok tt)
    → place.reading ≡ begun form → place.taken ≡ 0 → JudgeSays formula vars old new place after result → IsJudged formula vars files name form old new result
file_judged formula vars None name form old new place after result opened reading taken says = tt
file_judged formula vars (Some files) name form old new place after (Ok stand) opened reading taken says = λ bytes found surveyed.
    stands formula vars form bytes old new place after stand (fresh form bytes place reading taken (opened.2 ∙ sym opened.1 ∙ found)) surveyed says
file_judged formula vars (Some files) name form old new place after (Err fault) opened reading taken says = λ bytes found surveyed.
    no_stop formula vars form bytes old new place after fault (fresh form bytes place reading taken (opened.2 ∙ sym opened.1 ∙ found)) surveyed says

-- the same by other names of its parts, where nothing was passed over before
pub judged_from : (formula formula' : Cnf) (vars : ℕ) (files : Option Files) (name : List ℕ) (form : Form) (start : List Step) (tally : Tally) (new : Progress) (stand stand' : Stand) → formula ≡ formula'
    → tally ≡ record { reasons = 0; unknown = 0 } → stand ≡ stand' → IsJudged formula vars files name form (progress start tally) new (Ok stand) → IsJudged formula' vars files name form (progress_start start) new (Ok stand')
judged_from formula formula' vars files name form start tally new stand stand' same_formula none same judged =
    subst (λ (f : Cnf). IsJudged f vars files name form (progress_start start) new (Ok stand')) same_formula
    (subst (λ (t : Tally). IsJudged formula vars files name form (progress start t) new (Ok stand')) none
    (subst (λ (s : Stand). IsJudged formula vars files name form (progress start tally) new (Ok s)) same judged))

-- what a surveyed proof comes to, by what its lemmas came to
module _ (formula : Cnf) (start : List Step) (new : Progress) (well : GoesOnWell formula [] start) (keeps : KeepsPlain formula [] start) (begins : Begins formula start) where
  behind : (lemmas : List NumberedLemma) → TakesAll formula lemmas (progress_start start) new → IsBehind formula lemmas new
  behind lemmas taken = record { start = start; well = well; keeps = keeps; begins = begins; taken = taken }

  stand_refused : (lemmas : List NumberedLemma) (number : ℕ) (text : List ℕ) → StandSays formula lemmas (progress_start start) new (NotImplied number) → text ≡ not_implied_text number
      → IsRefusal (record { formula = formula; lemmas = lemmas }) text
  stand_refused lemmas number text says is = inl (
    number,
    record {
      before = says.0;
      lits = says.1;
      behind = says.2;
      lemmas_are = says.3;
      now = new;
      is_behind = behind says.0 says.4;
      not_implied = says.5;
      not_addable = says.6;
    },
    is,
  )

  stand_open : (lemmas : List NumberedLemma) (text : List ℕ) → StandSays formula lemmas (progress_start start) new Going → IsNotImplied formula new.steps [] → text ≡ no_empty_text
      → IsRefusal (record { formula = formula; lemmas = lemmas }) text
  stand_open lemmas text says open_ is = inr (record { now = new; is_behind = behind lemmas says; not_implied = open_ }, is)

  stand_hinted : (lemmas : List NumberedLemma) (bytes text : List ℕ) → StandSays formula lemmas (progress_start start) new Refuted → EndsEmpty new.steps → AreHints formula new bytes text
      → IsHinted (record { formula = formula; lemmas = lemmas }) bytes text
  stand_hinted lemmas bytes text says ends hints = record {
    now = new;
    reaches = record { before = says.0; behind = says.1; lemmas_are = says.2; is_behind = behind says.0 says.3; ends = ends };
    hints = hints;
  }

  proved_refused : (vars : ℕ) (files : Option Files) (name : List ℕ) (form : Form) (number : ℕ) (text : Vec ℕ Global) → text.items ≡ not_implied_text number
      → IsJudged formula vars files name form (progress_start start) new (Ok (NotImplied number)) → IsProved formula vars files name form (Ok (Refusal text))
  proved_refused vars None name form number text is judged = tt
  proved_refused vars (Some files) name form number text is judged = λ bytes found surveyed. stand_refused surveyed.lemmas number text.items (judged bytes found surveyed) is

  proved_open : (vars : ℕ) (files : Option Files) (name : List ℕ) (form : Form) (text : Vec ℕ Global) → IsNotImplied formula new.steps [] → text.items ≡ no_empty_text
      → IsJudged formula vars files name form (progress_start start) new (Ok Going) → IsProved formula vars files name form (Ok (Refusal text))
  proved_open vars None name form text open_ is judged = tt
  proved_open vars (Some files) name form text open_ is judged = λ bytes found surveyed. stand_open surveyed.lemmas text.items (judged bytes found surveyed) open_ is

  proved_hinted : (vars : ℕ) (files : Option Files) (name : List ℕ) (form : Form) (hints : Hints) → EndsEmpty new.steps → AreHints formula new hints.bytes.items hints.text.items
      → IsJudged formula vars files name form (progress_start start) new (Ok Refuted) → IsProved formula vars files name form (Ok (Hinted hints))
  proved_hinted vars None name form hints ends are judged = tt
  proved_hinted vars (Some files) name form hints ends are judged = λ bytes found surveyed. stand_hinted surveyed.lemmas hints.bytes.items hints.text.items (judged bytes found surveyed) ends are

  -- by what is said of it
  pub proved_said : (vars : ℕ) (files : Option Files) (name : List ℕ) (form : Form) (stand : Stand) (outcome : Outcome) → (stand ≡ Going → IsNotImplied formula new.steps []) → (stand ≡ Refuted → EndsEmpty new.steps)
      → IsSaid formula new stand outcome → IsJudged formula vars files name form (progress_start start) new (Ok stand) → IsProved formula vars files name form (Ok outcome)
  proved_said vars files name form Going (Refusal text) open_ ends said judged = proved_open vars files name form text (open_ refl) said judged
  proved_said vars files name form Going (Hinted hints) open_ ends said judged = absurd said
  proved_said vars files name form Refuted (Refusal text) open_ ends said judged = absurd said
  proved_said vars files name form Refuted (Hinted hints) open_ ends said judged = proved_hinted vars files name form hints (ends refl) said judged
  proved_said vars files name form (NotImplied number) (Refusal text) open_ ends said judged = proved_refused vars files name form number text said judged
  proved_said vars files name form (NotImplied number) (Hinted hints) open_ ends said judged = absurd said

within_vars : (few vars : ℕ) (lemmas : List NumberedLemma) → few ≤ vars → are_within few lemmas ≡ true → are_within vars lemmas ≡ true
within_vars few vars [] le all = refl
within_vars few vars (l ∷ ls) le all =
    let both = and_parts (is_within few l.lemma.lits) (are_within few ls) all in
    rw (is_within-more few vars l.lemma.lits le both.0, within_vars few vars ls le both.1) refl

abbrev surveyed_more : (few vars : ℕ) (form : Form) (bytes : List ℕ) → few ≤ vars → Surveyed few form bytes → Surveyed vars form bytes
surveyed_more few vars form bytes le s = record { lemmas = s.lemmas; lemmas_are = s.lemmas_are; within = within_vars few vars s.lemmas le s.within; fits = s.fits }

-- so it is for fewer variables
pub proved_fewer : (formula : Cnf) (few vars : ℕ) (files : Option Files) (name : List ℕ) (form : Form) (result : Result Outcome Fault) → few ≤ vars → IsProved formula vars files name form result
    → IsProved formula few files name form result
proved_fewer formula few vars None name form result le proved = tt
proved_fewer formula few vars (Some files) name form (Ok outcome) le proved = λ bytes found s. proved bytes found (surveyed_more few vars form bytes le s)
proved_fewer formula few vars (Some files) name form (Err fault) le proved = λ bytes found s. proved bytes found (surveyed_more few vars form bytes le s)
