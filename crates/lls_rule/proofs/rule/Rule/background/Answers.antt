use Rattle.std.proofs.Common.{sym, ◌∙◌}
use Rattle.lls_rule.proofs.Background.{background_dead, background_stays, background_blinks}
use Rattle.lls_rule.proofs.rule.Rule.background.Goals as goal

pub returns-then-not-next : goal.returns-then-not-next
returns-then-not-next c = sym (background_dead c.args.self.now (sym c.next.ensures.answers ∙ c.if-not-next.true) c.args.t)

pub returns-then-next : goal.returns-then-next
returns-then-next c =
    sym (background_stays c.args.self.now (sym c.next.ensures.answers ∙ c.if-not-next.false) (sym c.next-2.ensures.answers ∙ c.if-next.true) c.args.t)

pub returns-else-next : goal.returns-else-next
returns-else-next c =
    sym (background_blinks c.args.self.now (sym c.next.ensures.answers ∙ c.if-not-next.false) (sym c.next-2.ensures.answers ∙ c.if-next.false) c.args.t)
