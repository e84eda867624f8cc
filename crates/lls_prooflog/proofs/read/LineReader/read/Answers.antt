use Rattle.std.proofs.Common.{◌≡◌, true, false, drop, Some, sym, refl, ◌∙◌}
use Rattle.std.specs.Prelude.{Ok, IfSome}
use Rattle.lls_text.specs.Lines.{begins_with}
use Rattle.lls_prooflog.specs.declared.step.Step.TheVariants.{Add, Del}
use Rattle.lls_prooflog.specs.declared.line_error.LineError.TheVariants.{Fault}
use Rattle.lls_prooflog.specs.Line.{comment, begins_d, step_of_line}
use Rattle.lls_prooflog.specs.Numeral.{first_numeral, addition_from, deletion_from}
use Rattle.lls_prooflog.specs.Range.{IsInRange}
use Rattle.lls_prooflog.specs.Log.{step_of_ref}
use Rattle.lls_prooflog.proofs.InRange.{line_in_range}
use Rattle.lls_prooflog.proofs.Given.{given_fault, given_error, if_error}
use Rattle.lls_prooflog.proofs.ReadSteps.{line_addition, line_deletion, line_fault}
use Rattle.lls_prooflog.proofs.read.LineReader.read.Goals as goal

pub returns-then-take_d : goal.returns-then-take_d
returns-then-take_d c =
    let line = c.args.line.now in
    let words = c.new-numerals.result in
    let none : begins_with comment line ≡ false = sym c.begins_with.ensures ∙ c.if-begins_with.false in
    let first : Ok (Some c.in-Some.first) ≡ first_numeral words = rw (← c.in-Some.is) c.in_ok-first.ensures.numeral in
    let d : begins_d (drop 1 words) ≡ true = rw (← c.in_ok-first.ensures.rest) (sym c.take_d.ensures.found ∙ c.if-take_d.true) in
    let left : c.take_d.new.self ≡ drop 1 (drop 1 words) = rw (c.take_d.ensures.rest, c.if-take_d.true, c.in_ok-first.ensures.rest) refl in
    let read : deletion_from c.in-Some.first (drop 1 (drop 1 words)) ≡ Ok (Some (Del c.deref.result.now)) = rw (← left, c.deref.ensures.value) c.in_ok-read_deletion.ensures in
    let exact : step_of_line line ≡ Ok (Some (Del c.deref.result.now)) = line_deletion line words c.in-Some.first none c.new-numerals.ensures first d ∙ read in
    record { exact = exact; in_range = line_in_range line (Del c.deref.result.now) exact }

pub returns-in_err-read_deletion : goal.returns-in_err-read_deletion
returns-in_err-read_deletion c =
    let line = c.args.line.now in
    let words = c.new-numerals.result in
    let none : begins_with comment line ≡ false = sym c.begins_with.ensures ∙ c.if-begins_with.false in
    let first : Ok (Some c.in-Some.first) ≡ first_numeral words = rw (← c.in-Some.is) c.in_ok-first.ensures.numeral in
    let d : begins_d (drop 1 words) ≡ true = rw (← c.in_ok-first.ensures.rest) (sym c.take_d.ensures.found ∙ c.if-take_d.true) in
    let left : c.take_d.new.self ≡ drop 1 (drop 1 words) = rw (c.take_d.ensures.rest, c.if-take_d.true, c.in_ok-first.ensures.rest) refl in
    record {
      exact = given_error c.from_residual-in_err-read_deletion.result c.in_err-read_deletion.field-0.0 _ _ c.from_residual-in_err-read_deletion.ensures.1 (λ fault is. line_deletion line words c.in-Some.first none c.new-numerals.ensures first d ∙ rw (← left) (c.in_err-read_deletion.ensures fault is));
      in_range = if_error c.from_residual-in_err-read_deletion.result (λ e. e ≡ c.in_err-read_deletion.field-0.0) (λ step. IfSome step (λ s. IsInRange (step_of_ref s))) c.from_residual-in_err-read_deletion.ensures.1;
    }

pub returns-in_err-id : goal.returns-in_err-id
returns-in_err-id c =
    let line = c.args.line.now in
    let words = c.new-numerals.result in
    let none : begins_with comment line ≡ false = sym c.begins_with.ensures ∙ c.if-begins_with.false in
    let first : Ok (Some c.in-Some.first) ≡ first_numeral words = rw (← c.in-Some.is) c.in_ok-first.ensures.numeral in
    let no_d : begins_d (drop 1 words) ≡ false = rw (← c.in_ok-first.ensures.rest) (sym c.take_d.ensures.found ∙ c.if-take_d.false) in
    let left : c.take_d.new.self ≡ drop 1 words = rw (c.take_d.ensures.rest, c.if-take_d.false, c.in_ok-first.ensures.rest) refl in
    record {
      exact = given_error c.from_residual-in_err-id.result c.in_err-id.field-0.0 _ _ c.from_residual-in_err-id.ensures.1 (λ fault is. line_addition line words c.in-Some.first none c.new-numerals.ensures first no_d ∙ rw (← left) (c.in_err-id.ensures fault is));
      in_range = if_error c.from_residual-in_err-id.result (λ e. e ≡ c.in_err-id.field-0.0) (λ step. IfSome step (λ s. IsInRange (step_of_ref s))) c.from_residual-in_err-id.ensures.1;
    }

pub returns : goal.returns
returns c =
    let line = c.args.line.now in
    let words = c.new-numerals.result in
    let none : begins_with comment line ≡ false = sym c.begins_with.ensures ∙ c.if-begins_with.false in
    let first : Ok (Some c.in-Some.first) ≡ first_numeral words = rw (← c.in-Some.is) c.in_ok-first.ensures.numeral in
    let no_d : begins_d (drop 1 words) ≡ false = rw (← c.in_ok-first.ensures.rest) (sym c.take_d.ensures.found ∙ c.if-take_d.false) in
    let left : c.take_d.new.self ≡ drop 1 words = rw (c.take_d.ensures.rest, c.if-take_d.false, c.in_ok-first.ensures.rest) refl in
    let step = Add c.in_ok-id.id c.deref-2.result.now c.deref-3.result.now in
    let read : addition_from c.in-Some.first (drop 1 words) ≡ Ok (Some step) = rw (← left, c.deref-2.ensures.value, c.deref-3.ensures.value) c.in_ok-id.ensures in
    let exact : step_of_line line ≡ Ok (Some step) = line_addition line words c.in-Some.first none c.new-numerals.ensures first no_d ∙ read in
    record { exact = exact; in_range = line_in_range line step exact }

pub returns-in_err-first : goal.returns-in_err-first
returns-in_err-first c =
    let none : begins_with comment c.args.line.now ≡ false = sym c.begins_with.ensures ∙ c.if-begins_with.false in
    let fault = c.in_err-first.field-0.0 in
    record {
      exact = given_fault c.from_residual.result fault _ _ c.from_residual.ensures.1 (line_fault c.args.line.now c.new-numerals.result fault none c.new-numerals.ensures c.in_err-first.ensures.numeral);
      in_range = if_error c.from_residual.result (λ e. e ≡ Fault fault) (λ step. IfSome step (λ s. IsInRange (step_of_ref s))) c.from_residual.ensures.1;
    }
