-- A search writes its proof to another file than it reads or writes before.
use Rattle.std.proofs.Common.{Bool, ◌≡◌, ◌≢◌, ℕ, true, false, List, [], ◌∷◌, Option, None, Some, Result, Ok, Err, refl, sym, subst, ◌∙◌}
use Rattle.std.specs.Prelude.{if◌then◌else◌}
use Rattle.std.specs.Option.{ForSome, option_map}
use Rattle.std.specs.Str.{bytes_eq}
use Rattle.std.proofs.lemmas.Slice.Eq.{bytes_eq-Decides}
use Rattle.lls_base.specs.Results.{and_then}
use Rattle.lls_words.specs.declared.command.Command.{Command}
use Rattle.lls_words.specs.declared.command.Command.TheVariants as commands
use Rattle.lls_words.specs.declared.error.WordsError.{WordsError}
use Rattle.lls_words.specs.declared.error.WordsError.TheVariants.{SameName}
use Rattle.lls_words.specs.declared.job.Job.{Job}
use Rattle.lls_words.specs.Command.{command_of}
use Rattle.lls_words.specs.Scan.{Operand, Given, scan}
use Rattle.lls_words.specs.Values.{seed_in, size_in}
use Rattle.lls_words.specs.Job.{checked_ends, defaults, job_of, job_of_command, job_with, list_apart, names_apart, rule_at, search_names, settled, value_or}
use Rattle.lls_words.specs.declared.settings.NamedFile.{NamedFile}
use Rattle.lls_words.specs.declared.problem_source.ListSource.{ListSource}
use Rattle.lls_words.specs.declared.problem_source.ProblemSource.{ProblemSource}
use Rattle.lls_cli.specs.Task.{tasked}
use Rattle.lls_cli.specs.declared.task.Source.{Source}
use Rattle.lls_cli.specs.declared.task.Source.TheVariants as sources
use Rattle.lls_cli.specs.declared.task.Task.{Task}
use Rattle.lls_cli.specs.declared.task.Task.TheVariants as tasks

-- neither a search file nor its list has this name
pub record IsProblemApart (source : ProblemSource) (proof : List ℕ) : Type 0 where
  pub file : source.file ≢ proof
  pub list : ForSome source.but (λ list. list.file ≢ proof)

abbrev pub IsSourceApart : Source → List ℕ → Type 0
IsSourceApart (sources.Problem source formulation) proof = IsProblemApart source proof
IsSourceApart (sources.Rules source high form) proof = IsProblemApart source proof
IsSourceApart (sources.Formula name) proof = name ≢ proof

abbrev pub IsApart : Task → Type 0
IsApart (tasks.Search source effort further) = IsSourceApart source effort.proof
IsApart (tasks.Make seed size file effort) = file ≢ effort.proof
IsApart (tasks.Extremal extreme source formulation effort further) = IsProblemApart source effort.proof
IsApart task = Unit {0}

abbrev pub AreApart : Result Task WordsError → Type 0
AreApart (Ok task) = IsApart task
AreApart (Err error) = Unit {0}

through : {A : Type 0} (part : Result A WordsError) (more : A → Result Job WordsError) → ((x : A) → AreApart (tasked (more x))) → AreApart (tasked (and_then part more))
through (Ok x) more all = all x
through (Err error) more all = tt

different : (a b : Operand) (more : List ℕ × List ℕ → Result Job WordsError) → (a.word ≢ b.word → AreApart (tasked (more (a.word, b.word)))) → AreApart (tasked (and_then (names_apart a b) more))
different a b more all =
    elim (bytes_eq a.word b.word) as (λ test. bytes_eq a.word b.word ≡ test → AreApart (tasked (and_then (if test then Err (SameName b.place) else Ok (a.word, b.word)) more))) [
      | true ↦ λ same. tt
      | false ↦ λ differ. all (λ same. let equal = (bytes_eq-Decides a.word b.word).1 same in cc)
    ] refl

-- the list of a problem, as words name it
abbrev listed : Bool → Option NamedFile → Option ListSource
listed rle list = option_map (λ named. record { file = named.file; rle = rle }) list

-- a list isn't the file that is written
list_differs : (rle : Bool) (list : Option NamedFile) (b : Operand) (more : Unit {0} → Result Job WordsError) → (ForSome (listed rle list) (λ source. source.file ≢ b.word) → AreApart (tasked (more tt)))
    → AreApart (tasked (and_then (list_apart list b) more))
list_differs rle None b more all = all (λ source is. absurd cc)
list_differs rle (Some named) b more all =
    elim (bytes_eq named.file b.word) as (λ test. bytes_eq named.file b.word ≡ test → AreApart (tasked (and_then (if test then Err (SameName named.place) else Ok tt) more))) [
      | true ↦ λ same. tt
      | false ↦ λ differ. all (λ source is again. let own : named.file ≡ source.file = cc in let equal = (bytes_eq-Decides named.file b.word).1 (own ∙ again) in cc)
    ] refl

both_differ : (a b : Operand) (rle : Bool) (list : Option NamedFile) (more : List ℕ × List ℕ → Result Job WordsError)
    → (a.word ≢ b.word → ForSome (listed rle list) (λ source. source.file ≢ b.word) → AreApart (tasked (more (a.word, b.word))))
    → AreApart (tasked (and_then (search_names a b list) more))
both_differ a b rle list more all =
    subst (λ job. AreApart (tasked job)) (sym (behind_both (names_apart a b) (list_apart list b) more))
    (different a b (λ names. and_then (list_apart list b) (λ _. more names)) (λ differ. list_differs rle list b (λ _. more (a.word, b.word)) (λ other. all differ other)))
  where
    behind_both : {N : Type 0} (names : Result N WordsError) (list : Result (Unit {0}) WordsError) (more : N → Result Job WordsError)
        → and_then (and_then names (λ n. and_then list (λ _. Ok n))) more ≡ and_then names (λ n. and_then list (λ _. more n))
    behind_both (Ok n) (Ok tt) more = refl
    behind_both (Ok n) (Err error) more = refl
    behind_both (Err error) list more = refl

apart_with : (command : Command) (operands : List Operand) (givens : List Given) → AreApart (tasked (job_with command operands givens))
apart_with commands.Check [] givens = tt
apart_with commands.Check (a ∷ []) givens = tt
apart_with commands.Check (a ∷ b ∷ []) givens = through (settled defaults givens) _ (λ s. tt)
apart_with commands.Check (a ∷ b ∷ more ∷ rest) givens = tt
apart_with commands.Search [] givens = tt
apart_with commands.Search (a ∷ []) givens = tt
apart_with commands.Search (a ∷ b ∷ []) givens = through (settled defaults givens) _ (λ s. both_differ a b s.rle s.but _ (λ differ other. record { file = differ; list = other }))
apart_with commands.Search (a ∷ b ∷ more ∷ rest) givens = tt
apart_with commands.Judge [] givens = tt
apart_with commands.Judge (a ∷ []) givens = tt
apart_with commands.Judge (a ∷ b ∷ []) givens = through (settled defaults givens) _ (λ s. tt)
apart_with commands.Judge (a ∷ b ∷ more ∷ rest) givens = tt
apart_with commands.Cnf [] givens = tt
apart_with commands.Cnf (a ∷ []) givens = through (settled defaults givens) _ (λ s. tt)
apart_with commands.Cnf (a ∷ b ∷ rest) givens = tt
apart_with commands.Sat [] givens = tt
apart_with commands.Sat (a ∷ []) givens = tt
apart_with commands.Sat (a ∷ b ∷ []) givens = through (settled defaults givens) _ (λ s. both_differ a b s.rle s.but _ (λ differ other. differ))
apart_with commands.Sat (a ∷ b ∷ more ∷ rest) givens = tt
apart_with commands.Lrat [] givens = tt
apart_with commands.Lrat (a ∷ []) givens = tt
apart_with commands.Lrat (a ∷ b ∷ []) givens = tt
apart_with commands.Lrat (a ∷ b ∷ more ∷ rest) givens = tt
apart_with commands.Rule [] givens = tt
apart_with commands.Rule (a ∷ []) givens = through (rule_at a.place a.word) _ (λ rule. tt)
apart_with commands.Rule (a ∷ b ∷ rest) givens = tt
apart_with commands.Make [] givens = tt
apart_with commands.Make (a ∷ []) givens = tt
apart_with commands.Make (a ∷ b ∷ []) givens = tt
apart_with commands.Make (a ∷ b ∷ c ∷ []) givens = tt
apart_with commands.Make (a ∷ b ∷ c ∷ d ∷ []) givens =
    through (value_or a.place (seed_in a.word)) _ (λ seed. through (value_or b.place (size_in b.word)) _ (λ size. different c d _ (λ differ. differ)))
apart_with commands.Make (a ∷ b ∷ c ∷ d ∷ more ∷ rest) givens = tt
apart_with commands.Least [] givens = tt
apart_with commands.Least (a ∷ []) givens = tt
apart_with commands.Least (a ∷ b ∷ []) givens = through (settled defaults givens) _ (λ s. both_differ a b s.rle s.but _ (λ differ other. record { file = differ; list = other }))
apart_with commands.Least (a ∷ b ∷ more ∷ rest) givens = tt
apart_with commands.Most [] givens = tt
apart_with commands.Most (a ∷ []) givens = tt
apart_with commands.Most (a ∷ b ∷ []) givens = through (settled defaults givens) _ (λ s. both_differ a b s.rle s.but _ (λ differ other. record { file = differ; list = other }))
apart_with commands.Most (a ∷ b ∷ more ∷ rest) givens = tt
apart_with commands.Open [] givens = tt
apart_with commands.Open (a ∷ []) givens = tt
apart_with commands.Open (a ∷ b ∷ []) givens =
    through (settled defaults givens) _ (λ s. both_differ a b s.rle s.but _ (λ differ other. through (checked_ends s.low s.high) _ (λ ends. record { file = differ; list = other })))
apart_with commands.Open (a ∷ b ∷ more ∷ rest) givens = tt
apart_with commands.OpenCheck [] givens = tt
apart_with commands.OpenCheck (a ∷ []) givens = tt
apart_with commands.OpenCheck (a ∷ b ∷ []) givens = through (settled defaults givens) _ (λ s. through (checked_ends s.low s.high) _ (λ ends. tt))
apart_with commands.OpenCheck (a ∷ b ∷ more ∷ rest) givens = tt
apart_with commands.Trim [] givens = tt
apart_with commands.Trim (a ∷ []) givens = tt
apart_with commands.Trim (a ∷ b ∷ []) givens = tt
apart_with commands.Trim (a ∷ b ∷ c ∷ []) givens = through (names_apart a c) _ (λ names. through (names_apart b c) _ (λ others. tt))
apart_with commands.Trim (a ∷ b ∷ c ∷ more ∷ rest) givens = tt

apart_command : (command : Option Command) (words : List (List ℕ)) → AreApart (tasked (job_of_command command words))
apart_command None words = tt
apart_command (Some command) words = through (scan command words) _ (λ s. apart_with command s.operands s.givens)

-- the task of any words
pub apart : (words : List (List ℕ)) → AreApart (tasked (job_of words))
apart [] = tt
apart (name ∷ words) = apart_command (command_of name) words
