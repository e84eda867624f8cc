use Rattle.std.proofs.Common.{ap, ◌∙◌}
use Rattle.lls_prooflog.specs.UnitWalk.{is_among}
use Rattle.lls_lrat.specs.Entered.{AssumedState}
use Rattle.lls_lrat.proofs.Entries.{among_entered}
use Rattle.lls_lrat.proofs.assumed.Assumed.has.Goals as goal

pub returns : goal.returns
returns c =
    let a = c.self.inside in
    c.has.ensures ∙ among_entered a.marks a.entries.items c.args.lit c.self.invariant ∙ ap (λ (s : AssumedState). is_among s.lits c.args.lit) c.self.view_is
