use Rattle.std.proofs.Common.{subst}
use Rattle.lls_lrat.specs.Hinted.{LiveParts}
use Rattle.lls_lrat.specs.Occurring.{HasCounted}
use Rattle.lls_lrat.proofs.Occurring.{HasCounted-append}
use Rattle.lls_lrat.proofs.stored.Stored.count.Goals as goal

pub returns : goal.returns
returns c =
    let l = c.self.inside in
    subst (λ (p : LiveParts). HasCounted p.all c.args.counts.now c.count-2.new.counts) c.self.view_is
    (HasCounted-append l.given l.added c.args.counts.now c.count.new.counts c.count-2.new.counts c.in_ok-count.ensures c.in_ok-count-2.ensures)
