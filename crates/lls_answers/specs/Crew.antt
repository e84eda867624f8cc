-- Several searchers for one search.
use Rattle.std.specs.Prelude.{◌≤◌}
use Rattle.lls_crew.specs.declared.searchers.TheConstants.{MOST_SEARCHERS}
use Rattle.lls_answers.specs.declared.effort.CrewPlan.{CrewPlan}

-- as many as a crew may have
abbrev pub IsCrew : CrewPlan → Type 0
IsCrew plan = (1 ≤ plan.searchers) × (plan.searchers ≤ MOST_SEARCHERS)
