use Rattle.std.proofs.Common.{subst}
use Rattle.lls_crew.specs.Crew.{IsCrew}
use Rattle.lls_crew.proofs.TurnsTaken.{crew_is}
use Rattle.lls_crew.proofs.searchers.Crew.log.Goals as goal

pub returns-clause-crew : goal.returns-clause-crew
returns-clause-crew c =
    let i = c.self.inside in
    subst IsCrew c.self.view_is (crew_is i.formula.now i.budget i.keep_all i.searchers.items i.log.steps i.live.items i.stage c.self.invariant)
