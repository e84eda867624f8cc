use Rattle.std.proofs.Common.{take, ap, ◌∙◌}
use Rattle.lls_lrat.specs.Entered.{AssumedState, lits_of}
use Rattle.lls_lrat.proofs.Entries.{same_state, lits_of-take}
use Rattle.lls_lrat.proofs.assumed.Assumed.cut.Goals as goal

pub returns : goal.returns
returns c =
    same_state _ _ (c.take_back.ensures.vars ∙ ap (λ (s : AssumedState). s.vars) c.self.view_is)
    (ap lits_of c.take_back.ensures.entries ∙ lits_of-take c.args.len c.self.inside.entries.items ∙ ap (take c.args.len) (ap (λ (s : AssumedState). s.lits) c.self.view_is))
