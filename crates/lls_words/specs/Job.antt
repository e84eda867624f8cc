-- The job of a command line, or its first fault.
use Rattle.std.specs.Prelude.{◌≡◌, ℕ, ◌≤◌, Bool, false, List, [], ◌∷◌, length, All, Option, None, Some, is_some, find, Result, Ok, Err, if◌then◌else◌}
use Rattle.std.specs.Str.{bytes_eq}
use Rattle.std.specs.Option.{ForSome, option_map, option_map_or}
use Rattle.lls_rule.specs.Rule.{table_of, by_counts}
use Rattle.lls_hensel.specs.declared.read.RuleError.{RuleError}
use Rattle.lls_hensel.specs.Isotropy.{IsIsotropic}
use Rattle.lls_hensel.specs.Ends.{AreEnds, first_crossing, first_loose_background}
use Rattle.lls_hensel.specs.Reading.{entries_of}
use Rattle.lls_hensel.specs.Entries.{next_of}
use Rattle.lls_symmetry.specs.Symmetry.{symmetry_of}
use Rattle.lls_problem.specs.declared.demands.Edge.TheVariants.{Framed}
use Rattle.lls_problem.specs.declared.form.Form.TheVariants.{Cover}
use Rattle.lls_problem.specs.declared.form.Images.TheVariants as images
use Rattle.lls_problem.specs.declared.demands.Demands.{Demands}
use Rattle.lls_problem.specs.Bounds.{HasEnds}
use Rattle.lls_problem.specs.Problem.{edge_alone, IsPeriod}
use Rattle.lls_words.specs.declared.command.Command.{Command}
use Rattle.lls_words.specs.declared.command.Command.TheVariants as commands
use Rattle.lls_words.specs.declared.command.Setting.{Setting}
use Rattle.lls_words.specs.declared.command.Setting.TheVariants as settings
use Rattle.lls_words.specs.declared.settings.Settings.{Settings}
use Rattle.lls_words.specs.declared.crew_plan.CrewPlan.{CrewPlan}
use Rattle.lls_words.specs.declared.problem_source.ProblemSource.{ProblemSource}
use Rattle.lls_words.specs.declared.settings.NamedFile.{NamedFile}
use Rattle.lls_words.specs.declared.job.Job.{Job}
use Rattle.lls_words.specs.declared.job.Job.TheVariants as jobs
use Rattle.lls_words.specs.declared.error.WordsError.{WordsError}
use Rattle.lls_words.specs.declared.error.WordsError.TheVariants.{NoCommand, UnknownCommand, BadValue, BadRule, NoPeriod, Operands, SameName, RulesCross, LooseBackground}
use Rattle.lls_words.specs.Command.{command_of, operand_count, same_setting}
use Rattle.lls_base.specs.Results.{and_then}
use Rattle.lls_words.specs.Scan.{Operand, Given, scan}
use Rattle.lls_words.specs.Values.{edge_in, period_in, bounds_in, generations_in, exact_in, budget_in, keep_all_in, manner_in, rle_in, images_in, form_in, seed_in, size_in, searchers_in, most_budget, most_size, most_searchers, default_budget, default_further}

-- a rule text at a place
abbrev pub rule_or : ℕ → Result (List Bool) RuleError → Result (List Bool) WordsError
rule_or place (Ok rule) = Ok rule
rule_or place (Err fault) = Err (BadRule place fault)

-- the rule of a text is by its entries
abbrev pub rule_read : List ℕ → Result (List Bool) RuleError
rule_read text = and_then (entries_of text) (λ entries. Ok (table_of (next_of entries)))

abbrev pub rule_at : ℕ → List ℕ → Result (List Bool) WordsError
rule_at place text = rule_or place (rule_read text)

-- a value, or the fault of the option's
abbrev pub value_or : {X : Type 0} → ℕ → Option X → Result X WordsError
value_or place None = Err (BadValue place)
value_or place (Some value) = Ok value

abbrev pub with_demands : Settings → Demands → Settings
with_demands s demands = record s { demands = demands }

abbrev pub setting_value : Settings → ℕ → List ℕ → Setting → Result Settings WordsError
setting_value s place text settings.Rule = and_then (rule_at place text) (λ rule. Ok (record s { rule = rule }))
setting_value s place text settings.Low = and_then (rule_at place text) (λ rule. Ok (record s { low = rule }))
setting_value s place text settings.High = and_then (rule_at place text) (λ rule. Ok (record s { high = rule }))
setting_value s place text settings.Edge =
    and_then (value_or place (edge_in text)) (λ edge. Ok (with_demands s (record s.demands { edge = edge })))
setting_value s place text settings.Symmetry =
    and_then (value_or place (symmetry_of text)) (λ symmetry. Ok (with_demands s (record s.demands { symmetry = symmetry })))
setting_value s place text settings.Period =
    and_then (value_or place (period_in text)) (λ period. Ok (with_demands s (record s.demands { period = Some period })))
setting_value s place text settings.Exact =
    and_then (value_or place (exact_in text)) (λ exact. Ok (with_demands s (record s.demands { exact = exact })))
setting_value s place text settings.Live =
    and_then (value_or place (bounds_in text)) (λ bounds. Ok (with_demands s (record s.demands { bounds = bounds })))
setting_value s place text settings.Differ =
    and_then (value_or place (generations_in text)) (λ pair. Ok (with_demands s (record s.demands { differ = Some pair })))
setting_value s place text settings.But = Ok (record s { but = Some (record { place = place; file = text }) })
setting_value s place text settings.Budget = and_then (value_or place (budget_in text)) (λ budget. Ok (record s { budget = budget }))
setting_value s place text settings.Keep = and_then (value_or place (keep_all_in text)) (λ keep_all. Ok (record s { keep_all = keep_all }))
setting_value s place text settings.Manner =
    and_then (value_or place (manner_in text)) (λ manner. Ok (record s { further = record s.further { manner = Some manner } }))
setting_value s place text settings.First = and_then (value_or place (seed_in text)) (λ seed. Ok (record s { further = record s.further { first = Some seed } }))
setting_value s place text settings.As = and_then (value_or place (rle_in text)) (λ rle. Ok (record s { rle = rle }))
setting_value s place text settings.Images =
    and_then (value_or place (images_in text)) (λ images. Ok (record s { formulation = record s.formulation { images = images } }))
setting_value s place text settings.Formula =
    and_then (value_or place (form_in text)) (λ form. Ok (record s { formulation = record s.formulation { form = form } }))
setting_value s place text settings.Crew = and_then (value_or place (searchers_in text)) (λ searchers. Ok (record s { crew = Some searchers }))
setting_value s place text settings.Turns = and_then (value_or place (seed_in text)) (λ seed. Ok (record s { turns = seed }))

-- the settings with the value of one option
abbrev pub with_value : Settings → Given → Result Settings WordsError
with_value s given = setting_value s given.place given.value given.setting

-- the settings of the options in their order
abbrev pub gathered : Settings → List Given → Result Settings WordsError
gathered s [] = Ok s
gathered s (given ∷ givens) = and_then (with_value s given) (λ more. gathered more givens)

-- the place of an option, and that of `--exact` where it stands without `--period`
abbrev pub place_of : Setting → List Given → Option ℕ
place_of setting givens = option_map (λ given. given.place) (find (λ given. same_setting given.setting setting) givens)

abbrev pub lone_exact : List Given → Option ℕ
lone_exact givens = if is_some (place_of settings.Period givens) then None else place_of settings.Exact givens

-- those settings, unless it does
abbrev pub settled : Settings → List Given → Result Settings WordsError
settled s givens = and_then (gathered s givens) (λ all. option_map_or (λ place. Err (NoPeriod place)) (lone_exact givens) (Ok all))

-- Life, `B3/S23`
abbrev pub life : List Bool
life = table_of (by_counts 8 12)

-- Life for each rule, under a closed edge, and nothing else demanded; half of the learnt clauses are kept, patterns are
-- rows, and formulas are by cover and leave all solutions; there is no crew, and turns would be drawn from 0; a search is restless
abbrev pub defaults : Settings
defaults = record { rule = life; low = life; high = life; demands = edge_alone Framed; but = None; budget = default_budget; keep_all = false; rle = false; formulation = record { form = Cover; images = images.All }; crew = None; turns = 0; further = default_further }

-- the names of a file and of one that is written later, which have to differ
abbrev pub names_apart : Operand → Operand → Result (List ℕ × List ℕ) WordsError
names_apart file written = if bytes_eq file.word written.word then Err (SameName written.place) else Ok (file.word, written.word)

-- the file of patterns that generation 0 mustn't be isn't the one that is written
abbrev pub list_apart : Option NamedFile → Operand → Result (Unit {0}) WordsError
list_apart None written = Ok tt
list_apart (Some list) written = if bytes_eq list.file written.word then Err (SameName list.place) else Ok tt

-- the names of the files of a search, of which the second is written
abbrev pub search_names : Operand → Operand → Option NamedFile → Result (List ℕ × List ℕ) WordsError
search_names file written list = and_then (names_apart file written) (λ names. and_then (list_apart list written) (λ _. Ok names))

-- a problem by its rule, and what the options demand
abbrev pub source_by : List ℕ → List Bool → Settings → ProblemSource
source_by file rule s = record { file = file; rule = rule; demands = s.demands; but = option_map (λ list. record { file = list.file; rle = s.rle }) s.but }

-- no fault, or the one of a neighbourhood at which two rules cross, or else of a background at which they differ
abbrev pub crossing_or : Option ℕ → Option ℕ → Result (Unit {0}) WordsError
crossing_or (Some nine) _ = Err (RulesCross nine)
crossing_or None (Some nine) = Err (LooseBackground nine)
crossing_or None None = Ok tt

-- two rules, which have to be the ends of rules between
abbrev pub checked_ends : List Bool → List Bool → Result (Unit {0}) WordsError
checked_ends low high = crossing_or (first_crossing low high) (first_loose_background low high)

-- the searchers that take turns, where there are several
abbrev pub crew_of : Settings → Option CrewPlan
crew_of s = option_map (λ searchers. record { searchers = searchers; seed = s.turns }) s.crew

-- the job of a command by its operands, whose number is the first test, and its options
abbrev pub job_with : Command → List Operand → List Given → Result Job WordsError
job_with commands.Check (search_file ∷ proof ∷ []) givens =
    and_then (settled defaults givens) (λ s. Ok (jobs.Check (source_by search_file.word s.rule s) proof.word s.formulation))
job_with commands.Search (search_file ∷ proof ∷ []) givens =
    and_then (settled defaults givens) (λ s.
    and_then (search_names search_file proof s.but) (λ names. Ok (jobs.Search (source_by names.0 s.rule s) names.1 s.formulation s.budget s.keep_all s.rle (crew_of s) s.further)))
job_with commands.Judge (search_file ∷ pattern ∷ []) givens =
    and_then (settled defaults givens) (λ s. Ok (jobs.Judge (source_by search_file.word s.rule s) pattern.word s.rle))
job_with commands.Cnf (search_file ∷ []) givens =
    and_then (settled defaults givens) (λ s. Ok (jobs.Cnf (source_by search_file.word s.rule s) s.formulation))
job_with commands.Sat (formula ∷ proof ∷ []) givens =
    and_then (settled defaults givens) (λ s.
    and_then (search_names formula proof s.but) (λ names. Ok (jobs.Sat names.0 names.1 s.budget s.keep_all s.further)))
job_with commands.Lrat (formula ∷ proof ∷ []) givens = Ok (jobs.Lrat formula.word proof.word)
job_with commands.Rule (text ∷ []) givens = and_then (rule_at text.place text.word) (λ rule. Ok (jobs.Rule rule))
job_with commands.Make (seed ∷ size ∷ search_file ∷ proof ∷ []) givens =
    and_then (value_or seed.place (seed_in seed.word)) (λ number.
    and_then (value_or size.place (size_in size.word)) (λ rows.
    and_then (names_apart search_file proof) (λ names. Ok (jobs.Make number rows names.0 names.1))))
job_with commands.Least (search_file ∷ proof ∷ []) givens =
    and_then (settled defaults givens) (λ s.
    and_then (search_names search_file proof s.but) (λ names. Ok (jobs.Least (source_by names.0 s.rule s) names.1 s.formulation s.budget s.keep_all s.rle s.further)))
job_with commands.Most (search_file ∷ proof ∷ []) givens =
    and_then (settled defaults givens) (λ s.
    and_then (search_names search_file proof s.but) (λ names. Ok (jobs.Most (source_by names.0 s.rule s) names.1 s.formulation s.budget s.keep_all s.rle s.further)))
job_with commands.Open (search_file ∷ proof ∷ []) givens =
    and_then (settled defaults givens) (λ s.
    and_then (search_names search_file proof s.but) (λ names.
    and_then (checked_ends s.low s.high) (λ _. Ok (jobs.Loose (source_by names.0 s.low s) s.high names.1 s.formulation.form s.budget s.keep_all s.rle s.further))))
job_with commands.OpenCheck (search_file ∷ proof ∷ []) givens =
    and_then (settled defaults givens) (λ s.
    and_then (checked_ends s.low s.high) (λ _. Ok (jobs.LooseCheck (source_by search_file.word s.low s) s.high proof.word s.formulation.form)))
job_with commands.Trim (formula ∷ proof ∷ output ∷ []) givens =
    and_then (names_apart formula output) (λ names.
    and_then (names_apart proof output) (λ others. Ok (jobs.Trim names.0 others.0 others.1)))
job_with command operands givens = Err (Operands (operand_count command) (length operands))

abbrev pub job_of_command : Option Command → List (List ℕ) → Result Job WordsError
job_of_command None words = Err UnknownCommand
job_of_command (Some command) words =
    and_then (scan command words) (λ s. job_with command s.operands s.givens)

-- the job of all the words of a command line, without the program's name
abbrev pub job_of : List (List ℕ) → Result Job WordsError
job_of [] = Err NoCommand
job_of (name ∷ words) = job_of_command (command_of name) words

-- a period and bounds within the limits, and no patterns: those stand in a file
pub record AreWithinLimits (demands : Demands) : Type 0 where
  pub period : ForSome demands.period IsPeriod
  pub bounds : All HasEnds demands.bounds
  pub unlisted : demands.listed ≡ []

-- demands and a budget within the limits, and a rule that can be printed
pub record AreAllowed (rule : List Bool) (demands : Demands) (budget : ℕ) : Type 0 where
  pub demanded : AreWithinLimits demands
  pub isotropic : IsIsotropic rule
  pub budgeted : budget ≤ most_budget

-- so many searchers as may take turns
abbrev pub AreSearchers : ℕ → Type 0
AreSearchers searchers = (1 ≤ searchers) × (searchers ≤ most_searchers)

abbrev pub IsCrew : CrewPlan → Type 0
IsCrew plan = AreSearchers plan.searchers

-- demands within the limits, and two rules that leave a question open
pub record AreOpen (low high : List Bool) (demands : Demands) : Type 0 where
  pub demanded : AreWithinLimits demands
  pub ends : AreEnds low high

-- settings within the limits, whose rules can be printed
pub record AreSettled (s : Settings) : Type 0 where
  pub allowed : AreAllowed s.rule s.demands s.budget
  pub low : IsIsotropic s.low
  pub high : IsIsotropic s.high
  pub crew : ForSome s.crew AreSearchers

-- what the words keep: demands, budgets, sizes and numbers of searchers are within the limits, a rule that is to be printed is isotropic, and two
-- rules leave a question open
abbrev pub KeepsLimits : Job → Type 0
KeepsLimits (jobs.Check problem proof formulation) = AreWithinLimits problem.demands
KeepsLimits (jobs.Search problem proof formulation budget keep_all rle crew further) = AreAllowed problem.rule problem.demands budget × ForSome crew IsCrew
KeepsLimits (jobs.Judge problem pattern rle) = AreWithinLimits problem.demands
KeepsLimits (jobs.Cnf problem formulation) = AreWithinLimits problem.demands
KeepsLimits (jobs.Sat formula proof budget keep_all further) = budget ≤ most_budget
KeepsLimits (jobs.Lrat formula proof) = Unit {0}
KeepsLimits (jobs.Rule rule) = IsIsotropic rule
KeepsLimits (jobs.Make seed size search_file proof) = (1 ≤ size) × (size ≤ most_size)
KeepsLimits (jobs.Least problem proof formulation budget keep_all rle further) = AreAllowed problem.rule problem.demands budget
KeepsLimits (jobs.Most problem proof formulation budget keep_all rle further) = AreAllowed problem.rule problem.demands budget
KeepsLimits (jobs.Loose problem high proof form budget keep_all rle further) = AreOpen problem.rule high problem.demands × (budget ≤ most_budget)
KeepsLimits (jobs.LooseCheck problem high proof form) = AreOpen problem.rule high problem.demands
KeepsLimits (jobs.Trim formula proof output) = Unit {0}
