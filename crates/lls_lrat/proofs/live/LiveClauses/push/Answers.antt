use Rattle.std.proofs.Common.{sym, subst}
use Rattle.lls_lrat.specs.Hinted.{LiveParts}
use Rattle.lls_lrat.specs.Occurring.{IsCounted}
use Rattle.lls_lrat.proofs.Occurring.{IsCounted-push}
use Rattle.lls_lrat.proofs.live.LiveClauses.push.Goals as goal

pub invariant_of-self-2 : goal.invariant_of-self-2
invariant_of-self-2 c =
    let l = c.self.inside in
    subst (λ (p : LiveParts). IsCounted p.all c.count_more.new.counts) (sym c.in_ok-push.ensures.ok)
    (IsCounted-push l.stored.all c.args.id c.args.lits.now l.counts c.count_more.new.counts c.self.invariant c.count_more.ensures)
