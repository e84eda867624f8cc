use Rattle.std.proofs.Common.{◌∙◌, sym, ap₂}
use Rattle.lls_hensel.proofs.Crossings.{AgreeWhereUniform-first_loose_background, loose_by, loose_is, loose_dead}
use Rattle.lls_hensel.proofs.ends.first_loose_background.Goals as goal

pub returns-then-next-clause-first : goal.returns-then-next-clause-first
returns-then-next-clause-first c =
    loose_dead c.args.low.now c.args.high.now c.next.result c.next-2.result c.next.ensures.answers c.next-2.ensures.answers c.if-next.true

pub returns-then-next-clause-same : goal.returns-then-next-clause-same
returns-then-next-clause-same c = AgreeWhereUniform-first_loose_background c.args.low.now c.args.high.now

pub returns-then-next-2-clause-first : goal.returns-then-next-2-clause-first
returns-then-next-2-clause-first c =
    sym (loose_is c.args.low.now c.args.high.now _ _ _ _ c.next.ensures.answers c.next-2.ensures.answers c.next-3.ensures.answers c.next-4.ensures.answers
    ∙ ap₂ loose_by c.if-next.false c.if-next-2.true)

pub returns-then-next-2-clause-same : goal.returns-then-next-2-clause-same
returns-then-next-2-clause-same c = AgreeWhereUniform-first_loose_background c.args.low.now c.args.high.now

pub returns-clause-first : goal.returns-clause-first
returns-clause-first c =
    sym (loose_is c.args.low.now c.args.high.now _ _ _ _ c.next.ensures.answers c.next-2.ensures.answers c.next-3.ensures.answers c.next-4.ensures.answers
    ∙ ap₂ loose_by c.if-next.false c.if-next-2.false)

pub returns-clause-same : goal.returns-clause-same
returns-clause-same c = AgreeWhereUniform-first_loose_background c.args.low.now c.args.high.now
