use Rattle.std.proofs.Common.{◌≡◌, ◌≢◌, List, ℕ, sym, ap, ◌∙◌}
use Rattle.std.specs.Prelude.{Ok, Err}
use Rattle.std.specs.Option.{option_map}
use Rattle.std.specs.Str.Lines.{strip_carriage_return}
use Rattle.lls_lrat.specs.Feeding.{between}
use Rattle.lls_lrat.specs.declared.checker.Progress.TheVariants.{Going, Done}
use Rattle.lls_lrat.proofs.LineChecks.{runs_over-first, runs_over-none, runs_over-ended, going_some, shorter}
use Rattle.lls_lrat.proofs.feed.take_lines.Goals as goal

pub returns-in-Ok-false-clause-taken : goal.returns-in-Ok-false-clause-taken
returns-in-Ok-false-clause-taken c =
    let state = c.loop-check.check.state in
    let none = sym c.in-Ok-false.ensures.found ∙ c.in-Ok-false.field-0-test in
    let same = c.next_line.ensures.none (c.in-Ok-false.is ∙ ap Ok c.in-Ok-false.field-0-test) in
    λ _. ap (λ (bytes : List ℕ). option_map (λ s. between s bytes) state) same ∙ runs_over-none state c.loop-check.lines none ∙ c.loop-check.invariant.taken

pub loop-check-preserved : goal.loop-check-preserved
loop-check-preserved c =
    let line = c.next_line.new.line.items in
    let first = c.next_line.ensures.line (c.in-Ok-true.is ∙ ap Ok c.in-Ok-true.field-0-test) in
    let going = sym c.take.ensures.answer ∙ c.in-Ok-Going.is ∙ ap Ok c.in-Ok-Going.field-0-is in
    let line_is = c.without_return.ensures ∙ ap strip_carriage_return c.deref.ensures.value in
    let taken = rw line_is at c.take.ensures.taken (going_some c.take.new.self.state going) in
    record {
      formula = c.take.ensures.formula ∙ c.loop-check.invariant.formula;
      going = going;
      taken = runs_over-first c.loop-check.check.state c.take.new.self.state c.loop-check.lines line c.next_line.new.lines first taken ∙ c.loop-check.invariant.taken;
    }

pub loop-check-smaller : goal.loop-check-smaller
loop-check-smaller c =
    shorter c.loop-check.lines c.next_line.new.line.items c.next_line.new.lines (c.next_line.ensures.line (c.in-Ok-true.is ∙ ap Ok c.in-Ok-true.field-0-test))

pub returns-in-Ok-Done-clause-taken : goal.returns-in-Ok-Done-clause-taken
returns-in-Ok-Done-clause-taken c =
    let line = c.next_line.new.line.items in
    let first = c.next_line.ensures.line (c.in-Ok-true.is ∙ ap Ok c.in-Ok-true.field-0-test) in
    let line_is = c.without_return.ensures ∙ ap strip_carriage_return c.deref.ensures.value in
    let done : c.take.result ≡ Ok Done = c.in-Ok-Done.is ∙ ap Ok c.in-Ok-Done.field-0-is in
    let ended : c.take.result ≢ Ok Going = λ e. let clash : Ok Done ≡ Ok Going = sym done ∙ e in cc in
    λ some.
    let taken = rw line_is at c.take.ensures.taken some in
    runs_over-ended c.take.new.self.state c.take.result c.next_line.new.lines c.take.ensures.answer ended
    ∙ runs_over-first c.loop-check.check.state c.take.new.self.state c.loop-check.lines line c.next_line.new.lines first taken ∙ c.loop-check.invariant.taken

pub returns-in-Err-take-clause-taken : goal.returns-in-Err-take-clause-taken
returns-in-Err-take-clause-taken c =
    let line = c.next_line.new.line.items in
    let first = c.next_line.ensures.line (c.in-Ok-true.is ∙ ap Ok c.in-Ok-true.field-0-test) in
    let line_is = c.without_return.ensures ∙ ap strip_carriage_return c.deref.ensures.value in
    let ended : c.take.result ≢ Ok Going = λ e. let clash : Err c.in-Err-take.fault ≡ Ok Going = sym c.in-Err-take.is ∙ e in cc in
    λ some.
    let taken = rw line_is at c.take.ensures.taken some in
    runs_over-ended c.take.new.self.state c.take.result c.next_line.new.lines c.take.ensures.answer ended
    ∙ runs_over-first c.loop-check.check.state c.take.new.self.state c.loop-check.lines line c.next_line.new.lines first taken ∙ c.loop-check.invariant.taken
