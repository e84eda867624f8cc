use Rattle.std.proofs.Common.{◌≡◌, ◌∷◌, List, ℕ, map, length, sym, ap, ◌∙◌, subst, arith}
use Rattle.lls_text.proofs.LineCounts.{length-lines_of}
use Rattle.lls_prooflog.specs.Line.{step_of_line}
use Rattle.lls_prooflog.specs.Log.{read_lines}
use Rattle.lls_lrat.specs.Verdict.{answer_of}
use Rattle.lls_lrat.proofs.Verdicts.{is_going, is_done}
use Rattle.lls_trim.specs.Recording.{recording_of, GoesOn}
use Rattle.lls_trim.proofs.Readings.{verdict_of-lines, goes_on-start, goes_on, ends_accepted, ends_refused, ends_open}
use Rattle.lls_trim.proofs.text.record_text.Goals as goal

pub loop-line-init : goal.loop-line-init
loop-line-init c = record {
  room = rw c.new-lines.ensures (omega (arith, length-lines_of c.args.text.now));
  goes_on = rw c.new-lines.ensures (goes_on-start c.args.formula.now (read_lines c.args.text.now) (recording_of c.in_ok-recorder.recorder) c.in_ok-recorder.ensures.begun);
  numbered = c.in_ok-recorder.ensures.numbered;
}

pub loop-line-preserved : goal.loop-line-preserved
loop-line-preserved c =
    let lines : c.loop-line.lines ≡ c.in-Some.line.now ∷ c.next.new.self = c.in-Some.ensures.steps in
    let readings = read_lines c.args.text.now in
    let rest = map step_of_line c.next.new.self in
    let g = subst (λ (ls : List (List ℕ)). GoesOn c.args.formula.now readings (recording_of c.loop-line.recorder) c.loop-line.count (map step_of_line ls)) lines c.loop-line.invariant.goes_on in
    record {
      room = omega (arith, c.loop-line.invariant.room, ap length lines);
      numbered = c.in-Ok-Going.ensures.numbered;
      goes_on = goes_on c.args.formula.now readings (recording_of c.loop-line.recorder) c.loop-line.count rest (step_of_line c.in-Some.line.now) (recording_of c.take_line.new.recorder) g c.in-Ok-Going.ensures.recorded
          (is_going c.take_line.new.recorder.checker.done (sym c.in-Ok-Going.field-0-is ∙ c.in-Ok-Going.ensures.progress));
    }

pub returns-in-Ok-Done-clause-inferences : goal.returns-in-Ok-Done-clause-inferences
returns-in-Ok-Done-clause-inferences c =
    let lines : c.loop-line.lines ≡ c.in-Some.line.now ∷ c.next.new.self = c.in-Some.ensures.steps in
    let readings = read_lines c.args.text.now in
    let rest = map step_of_line c.next.new.self in
    let g = subst (λ (ls : List (List ℕ)). GoesOn c.args.formula.now readings (recording_of c.loop-line.recorder) c.loop-line.count (map step_of_line ls)) lines c.loop-line.invariant.goes_on in
    let ends = ends_accepted c.args.formula.now readings (recording_of c.loop-line.recorder) c.loop-line.count rest (step_of_line c.in-Some.line.now) (recording_of c.take_line.new.recorder) g c.in-Ok-Done.ensures.recorded
    (is_done c.take_line.new.recorder.checker.done (sym c.in-Ok-Done.field-0-is ∙ c.in-Ok-Done.ensures.progress))
    in c.finish.ensures ∙ ends.0

pub returns-in-Ok-Done-clause-accepted : goal.returns-in-Ok-Done-clause-accepted
returns-in-Ok-Done-clause-accepted c =
    let lines : c.loop-line.lines ≡ c.in-Some.line.now ∷ c.next.new.self = c.in-Some.ensures.steps in
    let readings = read_lines c.args.text.now in
    let rest = map step_of_line c.next.new.self in
    let g = subst (λ (ls : List (List ℕ)). GoesOn c.args.formula.now readings (recording_of c.loop-line.recorder) c.loop-line.count (map step_of_line ls)) lines c.loop-line.invariant.goes_on in
    let ends = ends_accepted c.args.formula.now readings (recording_of c.loop-line.recorder) c.loop-line.count rest (step_of_line c.in-Some.line.now) (recording_of c.take_line.new.recorder) g c.in-Ok-Done.ensures.recorded
    (is_done c.take_line.new.recorder.checker.done (sym c.in-Ok-Done.field-0-is ∙ c.in-Ok-Done.ensures.progress))
    in verdict_of-lines c.args.formula.now c.args.text.now ∙ ends.1

pub returns-in-Err-clause-refused : goal.returns-in-Err-clause-refused
returns-in-Err-clause-refused c =
    let lines : c.loop-line.lines ≡ c.in-Some.line.now ∷ c.next.new.self = c.in-Some.ensures.steps in
    let readings = read_lines c.args.text.now in
    let rest = map step_of_line c.next.new.self in
    let g = subst (λ (ls : List (List ℕ)). GoesOn c.args.formula.now readings (recording_of c.loop-line.recorder) c.loop-line.count (map step_of_line ls)) lines c.loop-line.invariant.goes_on in
    λ other.
    ap answer_of (verdict_of-lines c.args.formula.now c.args.text.now)
    ∙ ends_refused c.args.formula.now readings (recording_of c.loop-line.recorder) c.loop-line.count rest (step_of_line c.in-Some.line.now) c.in-Err.error g (c.in-Err.ensures.recorded other)

pub returns-clause-refused : goal.returns-clause-refused
returns-clause-refused c =
    let readings = read_lines c.args.text.now in
    let g = subst (λ (ls : List (List ℕ)). GoesOn c.args.formula.now readings (recording_of c.loop-line.recorder) c.loop-line.count (map step_of_line ls)) c.in_default.ensures.steps.0 c.loop-line.invariant.goes_on in
    λ _. ap answer_of (verdict_of-lines c.args.formula.now c.args.text.now ∙ ends_open c.args.formula.now readings (recording_of c.loop-line.recorder) c.loop-line.count g)
