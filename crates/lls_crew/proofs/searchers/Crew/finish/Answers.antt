use Rattle.std.proofs.Common.{ap, ◌∙◌}
use Rattle.lls_crew.specs.Crew.{CrewState}
use Rattle.lls_crew.proofs.searchers.Crew.finish.Goals as goal

pub returns-clause-none : goal.returns-clause-none
returns-clause-none c = λ outcome is. c.in_default.not-Ended outcome (ap (λ (crew : CrewState). crew.stage) c.self.view_is ∙ is)
