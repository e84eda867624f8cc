-- A crew that words say is as large as a search's may be.
use Rattle.std.proofs.Common.{◌≡◌, Option, None, Some, refl, subst}
use Rattle.std.specs.Option.{ForSome, option_map}
use Rattle.lls_words.specs.Job as words
use Rattle.lls_words.specs.declared.crew_plan.CrewPlan as said
use Rattle.lls_answers.specs.Crew.{IsCrew}
use Rattle.lls_cli.specs.Task.{crew_said}

pub crew_kept : (crew : Option said.CrewPlan) → ForSome crew words.IsCrew → ForSome (option_map crew_said crew) IsCrew
crew_kept None kept = λ plan is. absurd cc
crew_kept (Some crew) kept = λ plan is. let same : crew_said crew ≡ plan = cc in subst IsCrew same (kept crew refl)
