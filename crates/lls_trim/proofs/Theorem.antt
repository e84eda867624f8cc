-- What holds of every trimmed proof, in the words of the public calls.
use Rattle.std.proofs.Common.{◌≡◌, ◌≢◌, ℕ, zero, suc, ◌+◌, Bool, true, false, cond, List, [], ◌∷◌, length, map, Option, Some, None, refl, sym, ap, ◌∙◌, subst, arith}
use Rattle.std.specs.Prelude.{ℤ, Result, Ok, Err, IfOk, OnOk, slice_get, is_none, find}
use Rattle.std.specs.List.{enumerate_from}
use Rattle.std.specs.Option.{option_map}
use Rattle.lls_lit.specs.Formula.{Clause, Cnf}
use Rattle.lls_prooflog.specs.declared.step.Step.{Step}
use Rattle.lls_prooflog.specs.declared.step.Step.TheVariants.{Add, Del}
use Rattle.std.proofs.lemmas.Option.{same_Some}
use Rattle.lls_prooflog.specs.Steps.{numbered, unit_walk, after, are_accepted}
use Rattle.lls_prooflog.specs.Spent.{LogState, log_start, log_after, EachStep, IsGood}
use Rattle.lls_prooflog.proofs.Soundness.{walk_is_good}
use Rattle.lls_lrat.specs.Looked.{beginnings, looked_at}
use Rattle.lls_lrat.proofs.Looking.{find-map}
use Rattle.lls_lrat.specs.declared.error.CheckError.{CheckError}
use Rattle.lls_lrat.specs.declared.error.CheckError.TheVariants as checks
use Rattle.lls_lrat.specs.Verdict.{Verdict, Accepted, answer_of}
use Rattle.lls_trim.specs.declared.error.TrimError.{TrimError}
use Rattle.lls_trim.specs.declared.error.TrimError.TheVariants.{Refused, Memory}
use Rattle.lls_trim.specs.declared.trimming.Trimming.{Trimming}
use Rattle.lls_trim.specs.FaultText.{refused}
use Rattle.lls_trim.specs.Placed.{Placed, steps_in, steps_of_log}
use Rattle.lls_trim.specs.Inferences.{Inference, Before, at_start, behind, inference_at, sources_of, inferences_from, inferences_of}
use Rattle.lls_trim.specs.Needed.{last, IsFirstRat, NeedsNoRat}
use Rattle.lls_trim.specs.Trimmed.{is_marked, renumbered, AreMarked, Trims, IsTrimmed}
use Rattle.lls_trim.specs.Marking.{AreOrdered}
use Rattle.lls_trim.specs.Trimming.{IsTrimmingOf}
use Rattle.lls_trim.proofs.Founded.{AreFounded, LastIsEmpty, is_proof}
use Rattle.lls_trim.proofs.Laws.{IsClosed, kept_well, kept-start, kept_sublist, inferences_fewer, closed_at, ordered_founded}
use Rattle.lls_trim.proofs.Readings.{steps_in-log}
use Rattle.lls_trim.proofs.Renumbered.{length-renumbered-le}
use Rattle.lls_trim.proofs.Used.{are_used}
use Rattle.lls_trim.proofs.Again.{again_from, marked_in, all_set, inferences_again, all_marked_again, steps_again}

-- numbered anew once more, the needed additions stay as they are
again_kept : (formula : Cnf) (marks : List Bool) (inferences : List Inference) → AreMarked inferences marks → ((k : ℕ) (i : Inference) → slice_get inferences k ≡ Some i → is_marked marks k ≡ true → IsClosed marks i) → AreFounded formula.clauses [] inferences → LastIsEmpty inferences
    → are_accepted (numbered formula.clauses) (renumbered (length formula.clauses) marks inferences) ≡ true
    → IsTrimmed formula (steps_of_log (renumbered (length formula.clauses) marks inferences)) (renumbered (length formula.clauses) marks inferences)
again_kept formula marks inferences m closed founded ends accepted =
    let given = length formula.clauses in
    let steps = renumbered given marks inferences in
    let ended = λ (k : ℕ) (e : k + 1 ≡ length inferences). (m.needed k).1 (last k e) in
    let ordered = ordered_founded formula.clauses inferences founded in
    let new = again_from marks 1 (marked_in marks (enumerate_from 0 inferences)) in
    let same : inferences_of formula (steps_of_log steps) ≡ new = inferences_again formula marks inferences m.as_many closed ended founded ends in
    let proof = is_proof formula (steps_of_log steps) (ap (are_accepted (numbered formula.clauses)) (steps_in-log 1 steps) ∙ accepted) in
    let order : AreOrdered new = subst AreOrdered same (ordered_founded formula.clauses (inferences_of formula (steps_of_log steps)) proof.founded) in
    record {
      marks = all_set (length new);
      marked = subst (λ (is : List Inference). AreMarked is (all_set (length new))) (sym same) (all_marked_again given marks inferences m ordered closed order);
      steps_are = steps_again given marks inferences m ordered closed ∙ ap (renumbered given (all_set (length new))) (sym same);
    }

module _ (formula : Cnf) (placed : Placed) (accepted : are_accepted (numbered formula.clauses) (steps_in placed) ≡ true) where
  trims_well : (trimming : Trimming) → IsTrimmed formula placed trimming.log.steps → trimming.additions ≡ length (inferences_of formula placed) → NeedsNoRat (inferences_of formula placed) → IsTrimmingOf formula placed trimming
  trims_well trimming t counted none =
      let inferences = inferences_of formula placed in
      let proof = is_proof formula placed accepted in
      let closed = closed_at inferences t.marks t.marked none in
      let ended = λ (k : ℕ) (e : k + 1 ≡ length inferences). (t.marked.needed k).1 (last k e) in
      let well = kept_well formula.clauses t.marks inferences t.marked.as_many closed ended inferences [] (log_start formula) refl (kept-start formula.clauses t.marks) proof.founded proof.ends in
      let few = length-renumbered-le (length formula.clauses) t.marks inferences in
      let left : IsTrimmed formula placed (renumbered (length formula.clauses) t.marks inferences) = record { marks = t.marks; marked = t.marked; steps_are = refl } in
      rw t.steps_are (record {
        trimmed = left;
        counted = counted;
        accepted = well.accepted;
        good = well.good;
        additions = well.additions;
        sublist = kept_sublist (length formula.clauses) t.marks placed (at_start formula) 0;
        fewer = omega (arith, few, inferences_fewer placed (at_start formula));
        within = omega (arith, few, counted);
        used = are_used (length formula.clauses) t.marks inferences t.marked (ordered_founded formula.clauses inferences proof.founded);
        empty = well.ends_empty;
        again = again_kept formula t.marks inferences t.marked closed proof.founded proof.ends well.accepted;
      })

  by_result : {E : Type 0} (r : Result Trimming E) → IfOk r (λ t. IsTrimmed formula placed t.log.steps) → IfOk r (λ t. t.additions ≡ length (inferences_of formula placed)) → OnOk r (NeedsNoRat (inferences_of formula placed)) → IfOk r (IsTrimmingOf formula placed)
  by_result (Ok trimming) t counted none = trims_well trimming t counted none
  by_result (Err e) t counted none = tt

  -- a call that was given the additions, and so many clauses, trims well
  pub call_trims_well : {E : Type 0} (inferences : List Inference) (given : ℕ) (r : Result Trimming E) → inferences ≡ inferences_of formula placed → given ≡ length formula.clauses
      → IfOk r (λ t. Trims given inferences t.log.steps) → IfOk r (λ t. t.additions ≡ length inferences) → OnOk r (NeedsNoRat inferences) → IfOk r (IsTrimmingOf formula placed)
  call_trims_well inferences given r same len trims counted none =
      by_result r
      (subst (λ (is : List Inference). IfOk r (λ t. Trims (length formula.clauses) is t.log.steps)) same (subst (λ (n : ℕ). IfOk r (λ t. Trims n inferences t.log.steps)) len trims))
      (subst (λ (is : List Inference). IfOk r (λ t. t.additions ≡ length is)) same counted)
      (subst (λ (is : List Inference). OnOk r (NeedsNoRat is)) same none)

pub on_ok_any : {X E : Type 0} (P : Type 0) (r : Result X E) → P → OnOk r P
on_ok_any P (Ok x) p = p
on_ok_any P (Err e) p = tt

-- an accepted proof isn't refused
pub not_refused : {X : Type 0} (r : Result X TrimError) (error : CheckError) (v : Verdict) → v ≡ Accepted → (error ≢ checks.Memory → answer_of v ≡ Err error) → (answer : TrimError) → r ≡ Err answer → answer ≡ refused error → (fault : CheckError) → r ≡ Err (Refused fault) → ⊥
not_refused r (checks.Line line f) v accepted gives answer was is fault e = let clash : Ok tt ≡ Err (checks.Line line f) = sym (ap answer_of accepted) ∙ gives (λ h. cc) in cc
not_refused r (checks.Step line f) v accepted gives answer was is fault e = let clash : Ok tt ≡ Err (checks.Step line f) = sym (ap answer_of accepted) ∙ gives (λ h. cc) in cc
not_refused r checks.NoEmpty v accepted gives answer was is fault e = let clash : Ok tt ≡ Err checks.NoEmpty = sym (ap answer_of accepted) ∙ gives (λ h. cc) in cc
not_refused r checks.Memory v accepted gives answer was is fault e = let clash : Memory ≡ Refused fault = cc in cc

-- hints that lead to a conflict have a shortest beginning that does
abbrev front_or : {X : Type 0} → Bool → Option (List X) → Option (List X)
front_or b o = cond b (Some []) o

unmapped : {X : Type 0} (x : X) (o : Option (List X)) → option_map (λ front. x ∷ front) o ≡ None → o ≡ None
unmapped x None h = refl
unmapped x (Some front) h = absurd cc

find_none-whole : {X : Type 0} (p : List X → Bool) (xs : List X) → find p (beginnings xs) ≡ None → p xs ≡ false
find_none-whole {X = X} p [] e = elim (p []) as (λ b. front_or {X = X} b None ≡ None → b ≡ false) [ true ↦ λ h. absurd cc | false ↦ λ h. refl ] e
find_none-whole {X = X} p (x ∷ xs) e =
    let behind_it = find p (map (λ front. x ∷ front) (beginnings xs)) in
    let rest : behind_it ≡ None = elim (p []) as (λ b. front_or {X = X} b behind_it ≡ None → behind_it ≡ None) [ true ↦ λ h. absurd cc | false ↦ λ h. h ] e in
    find_none-whole (λ front. p (x ∷ front)) xs (unmapped x (find (λ front. p (x ∷ front)) (beginnings xs)) (sym (find-map p (λ (front : List X). x ∷ front) (beginnings xs)) ∙ rest))

by_walk : (before : Before) (line : ℕ) (lits : Clause) (hints : List ℤ) → unit_walk before.live lits hints ≡ None → (inference_at before line lits hints).by ≡ None → ⊥
by_walk before line lits hints walk none = by_looked (looked_at before.live lits hints) refl none where
  by_looked : (o : Option (List ℤ)) → looked_at before.live lits hints ≡ o → option_map (sources_of before.names) o ≡ None → ⊥
  by_looked None is h =
      let open_ended = find_none-whole (λ front. is_none (unit_walk before.live lits front)) hints is in
      let clash : true ≡ false = sym (ap is_none walk) ∙ open_ended in cc
  by_looked (Some front) is h = cc

-- additions that are good by unit propagation are so here
pub all_by : (placed : Placed) (before : Before) (state : LogState) → state.live ≡ before.live → EachStep IsGood state (steps_in placed) → (k : ℕ) (i : Inference) → slice_get (inferences_from before placed) k ≡ Some i → i.by ≡ None → ⊥
all_by [] before state same good k i there none = absurd cc
all_by ((line, Add id [] hints) ∷ rest) before state same good zero i there none =
    by_walk before line [] hints (ap (λ live. unit_walk live [] hints) (sym same) ∙ walk_is_good state.live id [] hints good.0.good) (ap (λ (x : Inference). x.by) (same_Some (inference_at before line [] hints) i there) ∙ none)
all_by ((line, Add id [] hints) ∷ rest) before state same good (suc k) i there none = absurd cc
all_by ((line, Add id (l ∷ ls) hints) ∷ rest) before state same good zero i there none =
    by_walk before line (l ∷ ls) hints (ap (λ live. unit_walk live (l ∷ ls) hints) (sym same) ∙ walk_is_good state.live id (l ∷ ls) hints good.0.good) (ap (λ (x : Inference). x.by) (same_Some (inference_at before line (l ∷ ls) hints) i there) ∙ none)
all_by ((line, Add id (l ∷ ls) hints) ∷ rest) before state same good (suc k) i there none =
    all_by rest (behind before (Add id (l ∷ ls) hints)) (log_after state (Add id (l ∷ ls) hints)) (ap (λ live. after live (Add id (l ∷ ls) hints)) same) good.1 k i there none
all_by ((line, Del ids) ∷ rest) before state same good k i there none =
    all_by rest (behind before (Del ids)) (log_after state (Del ids)) (ap (λ live. after live (Del ids)) same) good.1 k i there none

pub no_first_rat : (formula : Cnf) (steps : List Step) (line : ℕ) → EachStep IsGood (log_start formula) steps → IsFirstRat (inferences_of formula (steps_of_log steps)) line → ⊥
no_first_rat formula steps line good rat =
    let each = subst (EachStep IsGood (log_start formula)) (sym (steps_in-log 1 steps)) good in
    all_by (steps_of_log steps) (at_start formula) (log_start formula) refl each rat.place rat.rat.inference rat.rat.there rat.rat.not_by
