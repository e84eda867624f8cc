-- In which manner a search is made where nothing is said of it.
use Rattle.std.specs.Prelude.{◌≡◌, ◌≤◌, ◌⊎◌, pos, Option, None, Some}
use Rattle.lls_problem.specs.declared.demands.Demands.{Demands}
use Rattle.lls_problem.specs.declared.demands.Edge.{Edge}
use Rattle.lls_problem.specs.declared.demands.Edge.TheVariants.{Framed, Bare}
use Rattle.lls_problem.specs.declared.demands.Period.{Period}
use Rattle.lls_answers.specs.Subject.{Subject}
use Rattle.lls_answers.specs.Subject as subjects

-- a period of four generations or more, or of three behind which the pattern stands where it stood
abbrev pub IsLong : Period → Type 0
IsLong period = (4 ≤ period.length) ⊎ ((period.length ≡ 3) × (period.dx ≡ pos 0) × (period.dy ≡ pos 0))

abbrev pub IsLongPeriod : Option Period → Type 0
IsLongPeriod (Some period) = IsLong period
IsLongPeriod None = ⊥

-- a long period
abbrev pub AreSteady : Demands → Type 0
AreSteady demands = IsLongPeriod demands.period

-- no period and an open edge, as where generations before a known one are asked for
pub record AreAiming (demands : Demands) : Type 0 where
  pub period : demands.period ≡ None
  pub edge : demands.edge ≡ Bare

-- the demands of a problem by its own rule are. With an open rule, or of a formula, none are looked at
abbrev pub IsSteadySubject : Subject → Type 0
IsSteadySubject (subjects.Problem asked) = AreSteady asked.problem.demands
IsSteadySubject subject = ⊥

abbrev pub IsAimingSubject : Subject → Type 0
IsAimingSubject (subjects.Problem asked) = AreAiming asked.problem.demands
IsAimingSubject subject = ⊥
