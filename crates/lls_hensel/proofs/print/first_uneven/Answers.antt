use Rattle.std.proofs.Common.{◌≡◌, ◌∙◌, sym, ap, arith}
use Rattle.lls_rule.specs.Rule.{answer}
use Rattle.lls_hensel.proofs.Uneven.{uneven_from-start, uneven_from-step, uneven_from-here, uneven_from-end, from_beq, from_not_beq}
use Rattle.lls_hensel.proofs.print.first_uneven.Goals as goal

pub loop-nine-init : goal.loop-nine-init
loop-nine-init c = record { least = uneven_from-start c.args.rule.now; whole = λ h. absurd (omega arith) }

pub loop-nine-preserved : goal.loop-nine-preserved
loop-nine-preserved c =
    let same : answer c.args.rule.now c.loop-nine.nine ≡ answer c.args.rule.now c.representative_nine.result =
    sym c.next.ensures.answers ∙ (from_beq c.next.result c.next-in-loop-nine.result c.if-next.false ∙ c.next-in-loop-nine.ensures.answers) in
    record { least = c.loop-nine.invariant.least ∙ uneven_from-step c.args.rule.now c.loop-nine.nine c.loop-nine-test.true (same ∙ ap (answer c.args.rule.now) c.representative_nine.ensures.number); whole = λ _. c.next.ensures.whole }

pub returns-clause-least : goal.returns-clause-least
returns-clause-least c = sym (c.loop-nine.invariant.least ∙ uneven_from-end c.args.rule.now c.loop-nine.nine c.loop-nine-test.false)

pub returns-then-next-clause-least : goal.returns-then-next-clause-least
returns-then-next-clause-least c =
    sym (c.loop-nine.invariant.least ∙ uneven_from-here c.args.rule.now c.loop-nine.nine c.loop-nine-test.true
    (λ e. from_not_beq c.next.result c.next-in-loop-nine.result c.if-next.true
    (c.next.ensures.answers ∙ (e ∙ (ap (answer c.args.rule.now) (sym c.representative_nine.ensures.number) ∙ sym c.next-in-loop-nine.ensures.answers)))))
