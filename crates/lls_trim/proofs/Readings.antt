-- A check under way: what the lines that are left come to, and what the record has then.
use Rattle.std.proofs.Common.{◌≡◌, ℕ, ◌+◌, Bool, true, false, ◌||◌, cond, List, [], ◌∷◌, ◌++◌, length, map, Option, Some, None, refl, sym, ap, ◌∙◌, arith, length-append, append_assoc}
use Rattle.std.specs.Prelude.{ℤ, Result, Ok, Err, fold, is_none}
use Rattle.std.specs.List.{enumerate_from}
use Rattle.lls_text.specs.Lines.{lines_of}
use Rattle.lls_lit.specs.Formula.{Clause, Cnf}
use Rattle.lls_prooflog.specs.declared.line_fault.LineFault.{LineFault}
use Rattle.lls_prooflog.specs.declared.step_fault.StepFault.{StepFault}
use Rattle.lls_prooflog.specs.declared.step.Step.{Step}
use Rattle.lls_prooflog.specs.declared.step.Step.TheVariants.{Add, Del}
use Rattle.lls_prooflog.specs.Line.{step_of_line}
use Rattle.lls_prooflog.specs.Log.{read_lines}
use Rattle.lls_prooflog.specs.Steps.{Live, numbered, fault_of, after, is_empty_addition, are_accepted}
use Rattle.lls_lrat.specs.declared.error.CheckError.{CheckError}
use Rattle.lls_lrat.specs.declared.error.CheckError.TheVariants as errors
use Rattle.lls_lrat.specs.Verdict.{Verdict, Accepted, BadLine, BadStep, NoEmpty, State, start, after_step, line_taken, take_line, step_taken, take_step, closing, verdict, log_verdict, answer_of}
use Rattle.lls_lrat.proofs.Verdicts.{fold-ended}
use Rattle.lls_trim.specs.Placed.{Placed, placed_from, steps_in, steps_of_log, steps_of_text}
use Rattle.lls_trim.specs.Inferences.{Before, behind, inference_at, put_step, inferences_from, inferences_of}
use Rattle.lls_trim.specs.Recording.{Recording, begun, before, with_step, unless_fault, step_recorded, reading_recorded, take_reading, reading_taken, state_at, verdict_of, GoesOn}

abbrev pub Reading : Type 0
Reading = Result (Option Step) LineFault

abbrev pub reading_of_step : Step → Reading
reading_of_step step = Ok (Some step)

-- lines and steps are readings
line_is_reading : (state : State) (end : Option Verdict) (line : List ℕ) → take_line state end line ≡ take_reading state end (step_of_line line)
line_is_reading state None line = refl
line_is_reading state (Some v) line = refl

step_is_reading : (state : State) (end : Option Verdict) (step : Step) → take_step state end step ≡ take_reading state end (Ok (Some step))
step_is_reading state None step = refl
step_is_reading state (Some v) step = refl

fold-lines : (lines : List (List ℕ)) (state : State) → fold line_taken state lines ≡ fold reading_taken state (map step_of_line lines)
fold-lines [] state = refl
fold-lines (line ∷ lines) state = ap (λ (s : State). fold line_taken s lines) (line_is_reading state state.end line) ∙ fold-lines lines (reading_taken state (step_of_line line))

fold-steps : (steps : List Step) (state : State) → fold step_taken state steps ≡ fold reading_taken state (map reading_of_step steps)
fold-steps [] state = refl
fold-steps (step ∷ steps) state = ap (λ (s : State). fold step_taken s steps) (step_is_reading state state.end step) ∙ fold-steps steps (reading_taken state (Ok (Some step)))

pub verdict_of-lines : (formula : Cnf) (text : List ℕ) → verdict formula text ≡ verdict_of formula (read_lines text)
verdict_of-lines formula text = ap (λ (s : State). closing s.end) (fold-lines (lines_of text) (start formula))

pub verdict_of-steps : (formula : Cnf) (steps : List Step) → log_verdict formula steps ≡ verdict_of formula (map reading_of_step steps)
verdict_of-steps formula steps = ap (λ (s : State). closing s.end) (fold-steps steps (start formula))

placed-steps : (n : ℕ) (steps : List Step) → enumerate_from n steps ≡ placed_from n (map reading_of_step steps)
placed-steps n [] = refl
placed-steps n (step ∷ steps) = ap (λ (placed : Placed). (n, step) ∷ placed) (placed-steps (n + 1) steps)

pub steps_of_log-readings : (steps : List Step) → steps_of_log steps ≡ placed_from 1 (map reading_of_step steps)
steps_of_log-readings steps = placed-steps 1 steps

-- an end stays
reading_taken-ended : (state : State) (end : Verdict) (reading : Reading) → state.end ≡ Some end → reading_taken state reading ≡ state
reading_taken-ended state end reading e = ap (λ (o : Option Verdict). take_reading state o reading) e

pub closing-ended : (state : State) (end : Verdict) (readings : List Reading) → state.end ≡ Some end → closing (fold reading_taken state readings).end ≡ end
closing-ended state end readings e =
    ap (λ (s : State). closing s.end) (fold-ended reading_taken reading_taken-ended state end readings e) ∙ ap closing e

-- readings that come to acceptance have accepted steps
abbrev going_at : Live → ℕ → State
going_at live lines = record { live = live; lines = lines; end = None }

accepted_empty : (live : Live) (lines : ℕ) (rest : List Reading) (b more : Bool) → closing (fold reading_taken (record { live = live; lines = lines; end = cond b (Some Accepted) None }) rest).end ≡ Accepted
    → (closing (fold reading_taken (going_at live lines) rest).end ≡ Accepted → more ≡ true) → (b || more) ≡ true
accepted_empty live lines rest true more e goes_on = refl
accepted_empty live lines rest false more e goes_on = goes_on e

accepted_step : (live : Live) (lines : ℕ) (step : Step) (rest : List Reading) (more : Bool) (o : Option StepFault) → closing (fold reading_taken (after_step (going_at live lines) step o) rest).end ≡ Accepted
    → (closing (fold reading_taken (going_at (after live step) (lines + 1)) rest).end ≡ Accepted → more ≡ true) → cond (is_none o) (is_empty_addition step || more) false ≡ true
accepted_step live lines step rest more None e goes_on = accepted_empty (after live step) (lines + 1) rest (is_empty_addition step) more e goes_on
accepted_step live lines step rest more (Some fault) e goes_on =
    let clash = sym (closing-ended (after_step (going_at live lines) step (Some fault)) (BadStep (lines + 1) fault) rest refl) ∙ e in absurd cc

pub accepted_from : (readings : List Reading) (live : Live) (lines line : ℕ) → closing (fold reading_taken (going_at live lines) readings).end ≡ Accepted → are_accepted live (steps_in (placed_from line readings)) ≡ true
accepted_from [] live lines line e = absurd cc
accepted_from (Err fault ∷ rest) live lines line e =
    let clash = sym (closing-ended (reading_taken (going_at live lines) (Err fault)) (BadLine (lines + 1) fault) rest refl) ∙ e in absurd cc
accepted_from (Ok None ∷ rest) live lines line e = accepted_from rest live (lines + 1) (line + 1) e
accepted_from (Ok (Some step) ∷ rest) live lines line e =
    accepted_step live lines step rest (are_accepted (after live step) (steps_in (placed_from (line + 1) rest))) (fault_of live step) e (λ h. accepted_from rest (after live step) (lines + 1) (line + 1) h)

accepted_readings : (formula : Cnf) (readings : List Reading) → verdict_of formula readings ≡ Accepted → are_accepted (numbered formula.clauses) (steps_in (placed_from 1 readings)) ≡ true
accepted_readings formula readings e = accepted_from readings (numbered formula.clauses) 0 1 e

-- a text that is accepted has accepted steps
pub accepted_text : (formula : Cnf) (text : List ℕ) → verdict formula text ≡ Accepted → are_accepted (numbered formula.clauses) (steps_in (steps_of_text text)) ≡ true
accepted_text formula text e = accepted_readings formula (read_lines text) (sym (verdict_of-lines formula text) ∙ e)

-- at the start
pub goes_on-start : (formula : Cnf) (readings : List Reading) (r : Recording) → r ≡ begun formula → GoesOn formula readings r 0 readings
goes_on-start formula readings r e = rw e (record { going = refl; inferences = refl; verdict = refl })

-- what a step makes of the record
same_before : (r : Recording) (line id : ℕ) (lits : Clause) (hints : List ℤ) → before (with_step line r (Add id lits hints)) ≡ behind (before r) (Add id lits hints)
same_before r line id lits hints =
    let more : length (r.inferences ++ inference_at (before r) line lits hints ∷ []) ≡ length r.inferences + 1 = omega (arith, length-append r.inferences (inference_at (before r) line lits hints ∷ [])) in
    λ i. record { live = after r.live (Add id lits hints); names = (behind (before r) (Add id lits hints)).names; count = more i }

-- the record and what follows, behind a step that isn't the last
step_goes_on : (r : Recording) (line : ℕ) (step : Step) (rest : Placed) → (with_step line r step).done ≡ false → r.done ≡ false
    → (with_step line r step).inferences ++ inferences_from (before (with_step line r step)) rest ≡ r.inferences ++ put_step (before r) line step (inferences_from (behind (before r) step) rest)
step_goes_on r line (Add id [] hints) rest going was = absurd cc
step_goes_on r line (Add id (l ∷ ls) hints) rest going was =
    let i = inference_at (before r) line (l ∷ ls) hints in
    append_assoc r.inferences (i ∷ []) (inferences_from (before (with_step line r (Add id (l ∷ ls) hints))) rest) ∙ ap (λ (b : Before). r.inferences ++ i ∷ inferences_from b rest) (same_before r line id (l ∷ ls) hints)
step_goes_on r line (Del ids) rest going was = refl

-- behind the last step
step_ends : (r : Recording) (line : ℕ) (step : Step) (rest : Placed) → (with_step line r step).done ≡ true → r.done ≡ false
    → (with_step line r step).inferences ≡ r.inferences ++ put_step (before r) line step (inferences_from (behind (before r) step) rest)
step_ends r line (Add id [] hints) rest done was = refl
step_ends r line (Add id (l ∷ ls) hints) rest done was = absurd cc
step_ends r line (Del ids) rest done was = absurd cc

-- a good step of the next line
record StepRecorded (r : Recording) (line : ℕ) (step : Step) (r2 : Recording) : Type 0 where
  pub good : fault_of r.live step ≡ None
  pub is : r2 ≡ with_step line r step

step_is : (r : Recording) (line : ℕ) (step : Step) (r2 : Recording) → step_recorded line r step ≡ Ok r2 → StepRecorded r line step r2
step_is r line step r2 e =
    elim (fault_of r.live step) as (λ o. fault_of r.live step ≡ o → unless_fault line r step o ≡ Ok r2 → StepRecorded r line step r2) [
      | None ↦ λ good h. record { good = good; is = let same : r2 ≡ with_step line r step = cc in same }
      | Some fault ↦ λ _ h. absurd cc
    ] refl e

step_fault_is : (r : Recording) (line : ℕ) (step : Step) (error : CheckError) → step_recorded line r step ≡ Err error → (fault : StepFault) × ((fault_of r.live step ≡ Some fault) × (error ≡ errors.Step line fault))
step_fault_is r line step error e =
    elim (fault_of r.live step) as (λ o. fault_of r.live step ≡ o → unless_fault line r step o ≡ Err error → (fault : StepFault) × ((fault_of r.live step ≡ Some fault) × (error ≡ errors.Step line fault))) [
      | None ↦ λ _ h. absurd cc
      | Some fault ↦ λ is h. (fault, (is, let same : error ≡ errors.Step line fault = cc in same))
    ] refl e

module _ (formula : Cnf) (readings : List Reading) (r : Recording) (lines : ℕ) (rest : List Reading) where
  -- the state behind a step
  state_behind : (step : Step) → GoesOn formula readings r lines (Ok (Some step) ∷ rest) → fault_of r.live step ≡ None → fold reading_taken (after_step (state_at r lines) step None) rest ≡ fold reading_taken (start formula) readings
  state_behind step g good = sym (ap (λ o. fold reading_taken (after_step (state_at r lines) step o) rest) good) ∙ g.verdict

  done_of : (step : Step) → r.done ≡ false → (with_step (lines + 1) r step).done ≡ is_empty_addition step
  done_of (Add id lits hints) was = refl
  done_of (Del ids) was = was

  live_of : (step : Step) → (with_step (lines + 1) r step).live ≡ after r.live step
  live_of (Add id lits hints) = refl
  live_of (Del ids) = refl

  goes_on_step : (step : Step) → GoesOn formula readings r lines (Ok (Some step) ∷ rest) → fault_of r.live step ≡ None → (with_step (lines + 1) r step).done ≡ false → GoesOn formula readings (with_step (lines + 1) r step) (lines + 1) rest
  goes_on_step step g good going = record {
    going = going;
    inferences = step_goes_on r (lines + 1) step (placed_from (lines + 1 + 1) rest) going g.going ∙ g.inferences;
    verdict =
        let not_empty : is_empty_addition step ≡ false = sym (done_of step g.going) ∙ going in
        ap (λ live. fold reading_taken (going_at live (lines + 1)) rest) (live_of step)
        ∙ sym (ap (λ b. fold reading_taken (record { live = after r.live step; lines = lines + 1; end = cond b (Some Accepted) None }) rest) not_empty)
        ∙ state_behind step g good;
  }

  -- the record goes on behind the next line
  pub goes_on : (reading : Reading) (r2 : Recording) → GoesOn formula readings r lines (reading ∷ rest) → reading_recorded (lines + 1) r reading ≡ Ok r2 → r2.done ≡ false → GoesOn formula readings r2 (lines + 1) rest
  goes_on (Err fault) r2 g e going = absurd cc
  goes_on (Ok None) r2 g e going =
      let same : r ≡ r2 = cc in
      rw (← same) (record { going = g.going; inferences = g.inferences; verdict = g.verdict })
  goes_on (Ok (Some step)) r2 g e going =
      let s = step_is r (lines + 1) step r2 e in
      rw s.is (goes_on_step step g s.good (sym (ap (λ (x : Recording). x.done) s.is) ∙ going))

  -- the record is whole behind the last line
  pub ends_accepted : (reading : Reading) (r2 : Recording) → GoesOn formula readings r lines (reading ∷ rest) → reading_recorded (lines + 1) r reading ≡ Ok r2 → r2.done ≡ true
      → (r2.inferences ≡ inferences_of formula (placed_from 1 readings)) × (verdict_of formula readings ≡ Accepted)
  ends_accepted (Err fault) r2 g e done = absurd cc
  ends_accepted (Ok None) r2 g e done =
      let same : r ≡ r2 = cc in
      let clash : true ≡ false = sym done ∙ sym (ap (λ (x : Recording). x.done) same) ∙ g.going in absurd cc
  ends_accepted (Ok (Some step)) r2 g e done =
      let s = step_is r (lines + 1) step r2 e in
      let is_done = sym (ap (λ (x : Recording). x.done) s.is) ∙ done in
      let empty : is_empty_addition step ≡ true = sym (done_of step g.going) ∙ is_done in (
        ap (λ (x : Recording). x.inferences) s.is ∙ step_ends r (lines + 1) step (placed_from (lines + 1 + 1) rest) is_done g.going ∙ g.inferences,
        sym (ap (λ (x : State). closing x.end) (state_behind step g s.good)) ∙ closing-ended (after_step (state_at r lines) step None) Accepted rest (ap (λ b. cond b (Some Accepted) None) empty),
      )

  -- a fault is what all lines come to
  pub ends_refused : (reading : Reading) (error : CheckError) → GoesOn formula readings r lines (reading ∷ rest) → reading_recorded (lines + 1) r reading ≡ Err error → answer_of (verdict_of formula readings) ≡ Err error
  ends_refused (Err fault) error g e =
      let same : errors.Line (lines + 1) fault ≡ error = cc in
      ap answer_of (sym (ap (λ (x : State). closing x.end) g.verdict) ∙ closing-ended (reading_taken (state_at r lines) (Err fault)) (BadLine (lines + 1) fault) rest refl) ∙ ap (λ (x : CheckError). Err x) same
  ends_refused (Ok None) error g e = absurd cc
  ends_refused (Ok (Some step)) error g e =
      let f = step_fault_is r (lines + 1) step error e in
      ap answer_of (sym (ap (λ (x : State). closing x.end) g.verdict)
      ∙ ap (λ o. closing (fold reading_taken (after_step (state_at r lines) step o) rest).end) f.1.0
      ∙ closing-ended (after_step (state_at r lines) step (Some f.0)) (BadStep (lines + 1) f.0) rest refl)
      ∙ ap (λ (x : CheckError). Err x) (sym f.1.1)

-- where no line is left
pub ends_open : (formula : Cnf) (readings : List Reading) (r : Recording) (lines : ℕ) → GoesOn formula readings r lines [] → verdict_of formula readings ≡ NoEmpty
ends_open formula readings r lines g = sym (ap (λ (x : State). closing x.end) g.verdict)

pub steps_in-log : (n : ℕ) (steps : List Step) → steps_in (enumerate_from n steps) ≡ steps
steps_in-log n [] = refl
steps_in-log n (step ∷ steps) = ap (λ (ss : List Step). step ∷ ss) (steps_in-log (n + 1) steps)

-- a log that is accepted has accepted steps
pub accepted_steps : (formula : Cnf) (steps : List Step) → log_verdict formula steps ≡ Accepted → are_accepted (numbered formula.clauses) (steps_in (steps_of_log steps)) ≡ true
accepted_steps formula steps e =
    ap (λ (placed : Placed). are_accepted (numbered formula.clauses) (steps_in placed)) (steps_of_log-readings steps)
    ∙ accepted_readings formula (map reading_of_step steps) (sym (verdict_of-steps formula steps) ∙ e)
