use Rattle.std.proofs.Common.{◌∙◌, ◌&&◌, not, refl, sym, ap, ap₂}
use Rattle.lls_rule.specs.Rule.{answer}
use Rattle.lls_hensel.proofs.Crossings.{IsAtMost-first_crossing, crossing_from-start, crossing_from-end, crossing_later, crossing_now}
use Rattle.lls_hensel.proofs.ends.first_crossing.Goals as goal
use Rattle.lls_hensel.proofs.ends.first_crossing.Goals.{else-next-via-then-next+else-not-next, else-next-via-else-next}

pub loop-nine-init : goal.loop-nine-init
loop-nine-init c = crossing_from-start c.args.low.now c.args.high.now

pub returns-then-not-next-clause-least : goal.returns-then-not-next-clause-least
returns-then-not-next-clause-least c =
    crossing_now c.args.low.now c.args.high.now c.loop-nine.nine c.next.result c.next-then-next.result c.loop-nine-test.true c.next.ensures.answers c.next-then-next.ensures.answers
    c.loop-nine.invariant (ap₂ (λ a b. a && not b) c.if-next.true c.if-not-next.true)

pub returns-then-not-next-clause-ordered : goal.returns-then-not-next-clause-ordered
returns-then-not-next-clause-ordered c = IsAtMost-first_crossing c.args.low.now c.args.high.now

pub loop-nine-preserved : goal.loop-nine-preserved
loop-nine-preserved c =
    let low = c.args.low.now in
    let high = c.args.high.now in
    let nine = c.loop-nine.nine in
    elim c.else-next.branch [
      | else-next-via-then-next+else-not-next w ↦ crossing_later low high nine c.next.result w.next-then-next.result c.loop-nine-test.true c.next.ensures.answers w.next-then-next.ensures.answers
          c.loop-nine.invariant (ap₂ (λ a b. a && not b) w.if-next.true w.if-not-next.false)
      | else-next-via-else-next w ↦ crossing_later low high nine c.next.result (answer high nine) c.loop-nine-test.true c.next.ensures.answers refl
          c.loop-nine.invariant (ap (λ a. a && not (answer high nine)) w.if-next.false)
    ]

pub returns-clause-least : goal.returns-clause-least
returns-clause-least c = sym (c.loop-nine.invariant ∙ crossing_from-end c.args.low.now c.args.high.now c.loop-nine.nine c.loop-nine-test.false)

pub returns-clause-ordered : goal.returns-clause-ordered
returns-clause-ordered c = IsAtMost-first_crossing c.args.low.now c.args.high.now
