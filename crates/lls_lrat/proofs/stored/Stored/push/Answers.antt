use Rattle.std.proofs.Common.{ap, ◌∙◌}
use Rattle.lls_prooflog.specs.UnitWalk.{find_clause}
use Rattle.lls_lrat.specs.Hinted.{LiveParts}
use Rattle.lls_lrat.proofs.Found.{find-append_back}
use Rattle.lls_lrat.proofs.stored.Stored.push.Goals as goal

pub push-requires : goal.push-requires
push-requires c =
    let l = c.self.inside in
    find-append_back l.given l.added c.args.id (ap (λ (v : LiveParts). find_clause v.all c.args.id) c.self.view_is ∙ c.requires)
