-- What a command line asks for, with what several jobs say as one value: the only place that takes a job apart.
use Rattle.std.specs.Prelude.{◌≤◌, ℕ, Bool, false, List, Option, None, Result, Ok, Err}
use Rattle.std.specs.Option.{ForSome, option_map}
use Rattle.lls_hensel.specs.Isotropy.{IsIsotropic}
use Rattle.lls_words.specs.Job.{AreAllowed, AreOpen, AreWithinLimits}
use Rattle.lls_words.specs.Values.{default_budget, most_budget, most_size}
use Rattle.lls_words.specs.declared.crew_plan.CrewPlan as said_crews
use Rattle.lls_words.specs.declared.further.Further as said_furthers
use Rattle.lls_words.specs.declared.further.Manner as said_manners
use Rattle.lls_words.specs.declared.further.Manner.TheVariants as said
use Rattle.lls_solver.specs.declared.manner.Manner.TheVariants as searchers
use Rattle.lls_solver.specs.declared.manner.Manners.{Manners}
use Rattle.lls_solver.specs.declared.manner.Manners.TheVariants.{Alone, Both}
use Rattle.lls_least.specs.declared.extreme.Extreme.TheVariants as extremes
use Rattle.lls_answers.specs.Crew.{IsCrew}
use Rattle.lls_answers.specs.declared.effort.CrewPlan.{CrewPlan}
use Rattle.lls_answers.specs.declared.effort.Further.{Further}
use Rattle.lls_words.specs.declared.job.Job.{Job}
use Rattle.lls_words.specs.declared.job.Job.TheVariants as jobs
use Rattle.lls_words.specs.declared.error.WordsError.{WordsError}
use Rattle.lls_answers.specs.declared.effort.Effort.{Effort}
use Rattle.lls_cli.specs.declared.task.Source.{Source}
use Rattle.lls_cli.specs.declared.task.Source.TheVariants as sources
use Rattle.lls_cli.specs.declared.task.Task.{Task}
use Rattle.lls_cli.specs.declared.task.Task.TheVariants as tasks

abbrev pub effort_of : ℕ → Bool → List ℕ → Effort
effort_of budget keep_all proof = record { budget = budget; keep_all = keep_all; proof = proof }

-- a manner of the words, and a crew
abbrev pub manners_said : said_manners.Manner → Manners
manners_said said.Restless = Alone searchers.Restless
manners_said said.Steady = Alone searchers.Steady
manners_said said.Both = Both

abbrev pub crew_said : said_crews.CrewPlan → CrewPlan
crew_said crew = record { searchers = crew.searchers; seed = crew.seed }

abbrev pub further_of : Bool → Option said_crews.CrewPlan → said_furthers.Further → Further
further_of rle crew said = record { rle = rle; crew = option_map crew_said crew; manners = option_map manners_said said.manner; first = said.first }

-- the task of a job: a check, a search or another
abbrev pub task_of : Job → Task
task_of (jobs.Check problem proof formulation) = tasks.Check (sources.Problem problem formulation) proof
task_of (jobs.LooseCheck problem high proof form) = tasks.Check (sources.Rules problem high form) proof
task_of (jobs.Lrat formula proof) = tasks.Check (sources.Formula formula) proof
task_of (jobs.Search problem proof formulation budget keep_all rle crew further) =
    tasks.Search (sources.Problem problem formulation) (effort_of budget keep_all proof) (further_of rle crew further)
task_of (jobs.Loose problem high proof form budget keep_all rle further) =
    tasks.Search (sources.Rules problem high form) (effort_of budget keep_all proof) (further_of rle None further)
task_of (jobs.Sat formula proof budget keep_all further) = tasks.Search (sources.Formula formula) (effort_of budget keep_all proof) (further_of false None further)
task_of (jobs.Judge problem pattern rle) = tasks.Judge problem pattern rle
task_of (jobs.Cnf problem formulation) = tasks.Encode (sources.Problem problem formulation)
task_of (jobs.Rule rule) = tasks.Print rule
task_of (jobs.Make seed size file proof) = tasks.Make seed size file (effort_of default_budget false proof)
task_of (jobs.Least problem proof formulation budget keep_all rle further) =
    tasks.Extremal extremes.Fewest problem formulation (effort_of budget keep_all proof) (further_of rle None further)
task_of (jobs.Most problem proof formulation budget keep_all rle further) =
    tasks.Extremal extremes.Most problem formulation (effort_of budget keep_all proof) (further_of rle None further)
task_of (jobs.Trim formula proof output) = tasks.Trim formula proof output

abbrev pub tasked : Result Job WordsError → Result Task WordsError
tasked (Ok job) = Ok (task_of job)
tasked (Err error) = Err error

-- what a check or a search is about keeps to the limits of words, and two rules leave a question open
abbrev pub KeepsSource : Source → Type 0
KeepsSource (sources.Problem source formulation) = AreWithinLimits source.demands
KeepsSource (sources.Rules source high form) = AreOpen source.rule high source.demands
KeepsSource (sources.Formula name) = Unit {0}

-- a rule that solutions are printed with can be printed itself
abbrev pub IsPrintable : Source → Type 0
IsPrintable (sources.Problem source formulation) = IsIsotropic source.rule
IsPrintable source = Unit {0}

-- a budget within the limit
abbrev pub IsBudget : Effort → Type 0
IsBudget effort = effort.budget ≤ most_budget

-- what a search keeps
pub record KeepsSearch (source : Source) (effort : Effort) (further : Further) : Type 0 where
  pub limits : KeepsSource source
  pub printable : IsPrintable source
  pub budget : IsBudget effort
  pub crew : ForSome further.crew IsCrew

-- and a task
abbrev pub KeepsTask : Task → Type 0
KeepsTask (tasks.Check source proof) = KeepsSource source
KeepsTask (tasks.Search source effort further) = KeepsSearch source effort further
KeepsTask (tasks.Judge source pattern rle) = AreWithinLimits source.demands
KeepsTask (tasks.Encode source) = KeepsSource source
KeepsTask (tasks.Print rule) = IsIsotropic rule
KeepsTask (tasks.Make seed size file effort) = (1 ≤ size) × (size ≤ most_size) × IsBudget effort
KeepsTask (tasks.Extremal extreme source formulation effort further) = AreAllowed source.rule source.demands effort.budget
KeepsTask (tasks.Trim formula proof output) = Unit {0}
