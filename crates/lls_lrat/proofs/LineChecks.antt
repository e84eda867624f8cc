-- What a check of lines comes to, line by line and at its end.
use Rattle.std.proofs.Common.{◌≡◌, ◌≢◌, ℕ, ◌+◌, ◌<◌, true, false, cond, List, [], ◌∷◌, ◌++◌, length, Option, Some, None, refl, sym, ap, ◌∙◌, length-append, arith}
use Rattle.std.specs.Prelude.{Result, Ok, Err, is_some, OnOk, OnErr, IfErr, IsSome}
use Rattle.std.specs.Option.{option_map}
use Rattle.std.specs.Result.{result_err}
use Rattle.std.specs.Str.Lines.{strip_carriage_return}
use Rattle.std.proofs.lemmas.Option.{same_Some}
use Rattle.lls_base.specs.Results.{Gives}
use Rattle.lls_text.specs.Lines.{line_feed}
use Rattle.lls_lit.specs.Formula.{Cnf}
use Rattle.lls_prooflog.specs.declared.step.Step.{Step}
use Rattle.lls_prooflog.specs.declared.line_fault.LineFault.{LineFault}
use Rattle.lls_prooflog.specs.declared.step_fault.StepFault.{StepFault}
use Rattle.lls_prooflog.specs.Line.{step_of_line}
use Rattle.lls_prooflog.specs.Steps.{fault_of, after, is_empty_addition}
use Rattle.lls_prooflog.specs.FirstLine.{has_line, IsFirstLine}
use Rattle.lls_lrat.specs.Checking.{Checking}
use Rattle.lls_lrat.specs.Verdict.{Verdict, Accepted, BadLine, BadStep, NoEmpty, State, after_step, after_reading, line_taken, take_line, closing, verdict, answer_of}
use Rattle.lls_lrat.specs.Feeding.{Feeding, whole_lines, behind_lines, between, lines_taken, run_over, begun, fed, waiting, last_taken, ending, end_answer, piece_answer, last_answer}
use Rattle.lls_lrat.specs.UnderWay.{at_line, unless_ended, or_fault, stopped, answer_at, closing_at}
use Rattle.lls_lrat.specs.declared.checker.Progress.{Progress}
use Rattle.lls_lrat.specs.declared.checker.Progress.TheVariants.{Going}
use Rattle.lls_lrat.specs.declared.error.CheckError.{CheckError}
use Rattle.lls_lrat.specs.declared.error.CheckError.TheVariants as errors
use Rattle.lls_lrat.proofs.Verdicts.{same_state}
use Rattle.lls_lrat.proofs.Feedings.{no_whole_lines, all_behind, whole_lines-first, behind_lines-first, lines_taken-ended, between-ended, last_taken-ended, ending-between, ending_fed}

-- the next line counted, and the fault that ends the check there
abbrev at_fault : State → CheckError → Option State
at_fault state error = stopped (record state { lines = state.lines + 1 }) (Some error)

step_fault : (state : State) (step : Step) (fault : Option StepFault) (error : CheckError) → or_fault (after_step state step fault) ≡ Err error → at_fault state error ≡ Some (after_step state step fault)
step_fault state step (Some fault) error e =
    let same : error ≡ errors.Step (state.lines + 1) fault = cc in ap (at_fault state) same
step_fault state step None error e =
    elim (is_empty_addition step) as (λ b. unless_ended (after_step state step None) (cond b (Some Accepted) None) ≡ Err error → at_fault state error ≡ Some (after_step state step None)) [
      | true ↦ λ h. absurd cc
      | false ↦ λ h. absurd cc
    ] e

reading_fault : (state : State) (reading : Result (Option Step) LineFault) (error : CheckError) → state.end ≡ None → or_fault (after_reading state reading) ≡ Err error → at_fault state error ≡ Some (after_reading state reading)
reading_fault state (Err fault) error going e =
    let same : error ≡ errors.Line (state.lines + 1) fault = cc in ap (at_fault state) same
reading_fault state (Ok None) error going e =
    let none = ap (unless_ended (record state { lines = state.lines + 1 })) going in
    let clash : Ok (record state { lines = state.lines + 1 }) ≡ Err error = sym none ∙ e in
    absurd cc
reading_fault state (Ok (Some step)) error going e = step_fault state step (fault_of state.live step) error e

-- the fault of a line ends the check there
line_fault : (state : State) (line : List ℕ) (error : CheckError) → state.end ≡ None → or_fault (line_taken state line) ≡ Err error → at_fault state error ≡ Some (line_taken state line)
line_fault state line error going e =
    let same : line_taken state line ≡ after_reading state (step_of_line line) = ap (λ o. take_line state o line) going in
    reading_fault state (step_of_line line) error going (ap or_fault (sym same) ∙ e) ∙ ap (λ (s : State). Some s) (sym same)

abbrev no_fault : Option CheckError
no_fault = None

abbrev no_end : Option Verdict
no_end = None

-- a check that goes on had no fault
going_on : (c : Checking) (n : ℕ) (fault : Option CheckError) → answer_at (stopped (at_line c n) fault) ≡ Ok Going → (fault ≡ None) × ((at_line c n).end ≡ None)
going_on c n None e =
    elim c.done as (λ b. end_answer (cond b (Some Accepted) None) ≡ Ok Going → (no_fault ≡ no_fault) × (cond b (Some Accepted) None ≡ no_end)) [
      | true ↦ λ h. absurd cc
      | false ↦ λ h. (refl, refl)
    ] e
going_on c n (Some (errors.Line number fault)) e = absurd cc
going_on c n (Some (errors.Step number fault)) e = absurd cc
going_on c n (Some errors.NoEmpty) e = absurd cc
going_on c n (Some errors.Memory) e = absurd cc

abbrev Lacking : CheckError
Lacking = errors.Memory

error_state : (before : Checking) (n : ℕ) (line : List ℕ) (error : CheckError) → (at_line before n).end ≡ None → (error ≢ Lacking → or_fault (line_taken (at_line before n) line) ≡ Err error) → IsSome (stopped (at_line before (n + 1)) (Some error)) → stopped (at_line before (n + 1)) (Some error) ≡ Some (line_taken (at_line before n) line)
error_state before n line (errors.Line number fault) going gives some = line_fault (at_line before n) line (errors.Line number fault) going (gives (λ e. cc))
error_state before n line (errors.Step number fault) going gives some = line_fault (at_line before n) line (errors.Step number fault) going (gives (λ e. cc))
error_state before n line errors.NoEmpty going gives some = line_fault (at_line before n) line errors.NoEmpty going (gives (λ e. cc))
error_state before n line errors.Memory going gives some = absurd cc

-- the state behind a line, but where memory lacked
taken_state : (before after : Checking) (n : ℕ) (line : List ℕ) (r : Result Progress CheckError) → (at_line before n).end ≡ None → Gives Lacking (λ _. at_line after (n + 1)) r (or_fault (line_taken (at_line before n) line)) → OnErr r (after ≡ before)
    → IsSome (stopped (at_line after (n + 1)) (result_err r)) → stopped (at_line after (n + 1)) (result_err r) ≡ Some (line_taken (at_line before n) line)
taken_state before after n line (Ok progress) going gives kept some =
    let state = line_taken (at_line before n) line in
    ap (λ (s : State). Some s) (sym (same_state state state.end (at_line after (n + 1)) gives))
taken_state before after n line (Err error) going gives kept some =
    let same = ap (λ (c : Checking). stopped (at_line c (n + 1)) (Some error)) kept in
    same ∙ error_state before n line error going gives (ap is_some (sym same) ∙ some)

pub line_state : (before after : Checking) (n : ℕ) (fault fault' : Option CheckError) (old : Option State) (line : List ℕ) (r : Result Progress CheckError) → stopped (at_line before n) fault ≡ old → answer_at old ≡ Ok Going
    → Gives Lacking (λ _. at_line after (n + 1)) r (or_fault (line_taken (at_line before n) line)) → OnErr r (after ≡ before) → fault' ≡ result_err r
    → IsSome (stopped (at_line after (n + 1)) fault') → stopped (at_line after (n + 1)) fault' ≡ option_map (λ s. line_taken s line) old
line_state before after n fault fault' old line r view going gives kept is some =
    let parts = going_on before n fault (ap answer_at view ∙ going) in
    let begins : option_map (λ s. line_taken s line) old ≡ Some (line_taken (at_line before n) line) =
    ap (option_map (λ s. line_taken s line)) (sym view ∙ ap (stopped (at_line before n)) parts.0)
    in let now = ap (stopped (at_line after (n + 1))) is in
    now ∙ taken_state before after n line r parts.1 gives kept (ap is_some (sym now) ∙ some) ∙ sym begins

-- the first of some bytes' lines, taken before the others
run_over-first : (check : State) (bytes line rest : List ℕ) → IsFirstLine bytes line rest → run_over (line_taken check (strip_carriage_return line)) rest ≡ run_over check bytes
run_over-first check bytes line rest h =
    sym (ap (run_over check) h.whole
    ∙ ap (λ (lines : List (List ℕ)). between (lines_taken check lines) (behind_lines (line ++ line_feed ∷ rest))) (whole_lines-first line rest h.one_line)
    ∙ ap (between (lines_taken check (line ∷ whole_lines rest))) (behind_lines-first line rest))

pub runs_over-first : (old new : Option State) (bytes line rest : List ℕ) → IsFirstLine bytes line rest → new ≡ option_map (λ s. line_taken s (strip_carriage_return line)) old
    → option_map (λ s. run_over s rest) new ≡ option_map (λ s. run_over s bytes) old
runs_over-first None new bytes line rest h e = ap (option_map (λ s. run_over s rest)) e
runs_over-first (Some check) new bytes line rest h e = ap (option_map (λ s. run_over s rest)) e ∙ ap Some (run_over-first check bytes line rest h)

-- where no line is whole
pub runs_over-none : (state : Option State) (bytes : List ℕ) → has_line bytes ≡ false → option_map (λ s. between s bytes) state ≡ option_map (λ s. run_over s bytes) state
runs_over-none None bytes none = refl
runs_over-none (Some check) bytes none =
    ap Some (ap (between check) (sym (all_behind bytes none)) ∙ ap (λ (lines : List (List ℕ)). between (lines_taken check lines) (behind_lines bytes)) (sym (no_whole_lines bytes none)))

-- where there is an end
run_over-ended : (check : State) (end : Verdict) (bytes : List ℕ) → check.end ≡ Some end → between check bytes ≡ run_over check bytes
run_over-ended check end bytes e =
    between-ended check end bytes (behind_lines bytes) e ∙ ap (λ (s : State). between s (behind_lines bytes)) (sym (lines_taken-ended check end (whole_lines bytes) e))

pub runs_over-ended : (state : Option State) (answer : Result Progress CheckError) (bytes : List ℕ) → answer ≡ answer_at state → answer ≢ Ok Going → option_map (λ s. between s bytes) state ≡ option_map (λ s. run_over s bytes) state
runs_over-ended None answer bytes is other = refl
runs_over-ended (Some check) answer bytes is other =
    elim check.end as (λ o. check.end ≡ o → answer ≡ end_answer o → Some (between check bytes) ≡ Some (run_over check bytes)) [
      | None ↦ λ _ going. absurd (other going)
      | Some end ↦ λ e _. ap Some (run_over-ended check end bytes e)
    ] refl is

pub shorter : (bytes line rest : List ℕ) → IsFirstLine bytes line rest → length rest < length bytes
shorter bytes line rest h = omega (arith, ap length h.whole, length-append line (line_feed ∷ rest))

-- a check that goes on has a state
pub going_some : (state : Option State) → answer_at state ≡ Ok Going → IsSome state
going_some None e = absurd cc
going_some (Some check) e = refl

ends_at : (state : Option State) (bytes : List ℕ) → last_answer (option_map (λ s. between s bytes) state) ≡ closing_at (option_map (λ s. last_taken s bytes) state)
ends_at None bytes = refl
ends_at (Some check) bytes = ap answer_of (ending-between check bytes)

-- what the last line comes to, but where memory lacked
pub end_gives : {X : Type 0} (state state' : Option State) (bytes : List ℕ) (r : Result X CheckError) → (IsSome state' → state' ≡ option_map (λ s. last_taken s bytes) state) → OnOk r (closing_at state' ≡ Ok tt) → IfErr r (λ error. closing_at state' ≡ Err error)
    → Gives Lacking (λ _. tt) r (last_answer (option_map (λ s. between s bytes) state))
end_gives state None bytes (Ok x) taken ok err = absurd cc
end_gives state None bytes (Err error) taken ok err = λ other. absurd (other (let same : error ≡ Lacking = cc in same))
end_gives state (Some check) bytes (Ok x) taken ok err = ends_at state bytes ∙ ap closing_at (sym (taken refl)) ∙ ok
end_gives state (Some check) bytes (Err error) taken ok err = λ _. ends_at state bytes ∙ ap closing_at (sym (taken refl)) ∙ err

last_taken-some : (check : State) (bytes : List ℕ) → 0 < length bytes → line_taken check (strip_carriage_return bytes) ≡ last_taken check bytes
last_taken-some check [] some = absurd (omega arith)
last_taken-some check (b ∷ bs) some = refl

pub last_some : (state state' : Option State) (bytes : List ℕ) → 0 < length bytes → state' ≡ option_map (λ s. line_taken s (strip_carriage_return bytes)) state → state' ≡ option_map (λ s. last_taken s bytes) state
last_some None state' bytes some e = e
last_some (Some check) state' bytes some e = e ∙ ap Some (last_taken-some check bytes some)

pub last_none : (state : Option State) (bytes : List ℕ) → length bytes ≡ 0 → state ≡ option_map (λ s. last_taken s bytes) state
last_none None bytes none = refl
last_none (Some check) [] none = refl
last_none (Some check) (b ∷ bs) none = absurd (omega arith)

-- at an end a piece changes nothing
pub fed-ended : (state : Option State) (answer : Result Progress CheckError) (bytes piece : List ℕ) → answer ≡ answer_at state → answer ≢ Ok Going
    → option_map (λ s. between s bytes) state ≡ option_map (λ f. fed f piece) (option_map (λ s. between s bytes) state)
fed-ended None answer bytes piece is other = refl
fed-ended (Some check) answer bytes piece is other =
    let all = waiting check.end bytes ++ piece in
    elim check.end as (λ o. check.end ≡ o → answer ≡ end_answer o → Some (between check bytes) ≡ Some (run_over check all)) [
      | None ↦ λ _ going. absurd (other going)
      | Some end ↦ λ e _. ap Some (between-ended check end bytes all e ∙ run_over-ended check end all e)
    ] refl is

end_fault : (end : Option Verdict) (error : CheckError) → Err error ≡ end_answer end → (v : Verdict) × ((end ≡ Some v) × (answer_of v ≡ Err error))
end_fault None error e = absurd cc
end_fault (Some Accepted) error e = absurd cc
end_fault (Some (BadLine number fault)) error e =
    let same : errors.Line number fault ≡ error = cc in (BadLine number fault, (refl, ap (λ (x : CheckError). Err x) same))
end_fault (Some (BadStep number fault)) error e =
    let same : errors.Step number fault ≡ error = cc in (BadStep number fault, (refl, ap (λ (x : CheckError). Err x) same))
end_fault (Some NoEmpty) error e =
    let same : errors.NoEmpty ≡ error = cc in (NoEmpty, (refl, ap (λ (x : CheckError). Err x) same))

-- a fault that a piece is answered is what the proof comes to
ending_fault : (feeding : Feeding) (error : CheckError) → Err error ≡ end_answer feeding.check.end → answer_of (ending feeding) ≡ Err error
ending_fault feeding error e =
    let end = end_fault feeding.check.end error e in
    ap (λ (s : State). answer_of (closing s.end)) (last_taken-ended feeding.check end.0 feeding.rest end.1.0) ∙ ap (λ o. answer_of (closing o)) end.1.0 ∙ end.1.1

pub fault_of_text : (feeding : Option Feeding) (error : CheckError) (formula : Cnf) (text : List ℕ) → Err error ≡ piece_answer feeding → (IsSome feeding → feeding ≡ Some (fed (begun formula) text)) → error ≢ Lacking → answer_of (verdict formula text) ≡ Err error
fault_of_text None error formula text e fed_is other = absurd (other (let same : error ≡ Lacking = cc in same))
fault_of_text (Some feeding) error formula text e fed_is other =
    let same : feeding ≡ fed (begun formula) text = same_Some feeding (fed (begun formula) text) (fed_is refl) in
    ap answer_of (sym (ap ending same ∙ ending_fed formula text)) ∙ ending_fault feeding error e
