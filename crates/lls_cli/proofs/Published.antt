-- What a search found to be absent is checked again with the same words.
use Rattle.std.proofs.Common.{◌≡◌, ◌≢◌, ◌≤◌, ℕ, Bool, true, false, List, [], ◌∷◌, Option, None, Some, Result, Ok, Err, refl, sym, ap, subst, ◌∙◌, length}
use Rattle.std.specs.Prelude.{if◌then◌else◌}
use Rattle.std.specs.Option.{ForSome}
use Rattle.std.proofs.lemmas.Bool.{le-ltb}
use Rattle.std.proofs.lemmas.List.Elements.{All-nil, All-cons}
use Rattle.std.specs.FinMap as map
use Rattle.lls_base.specs.Results.{and_then}
use Rattle.lls_base.specs.Shelf.{Files}
use Rattle.lls_search_file.specs.Posed.{PosedFile}
use Rattle.lls_problem.specs.declared.demands.Demands.{Demands}
use Rattle.lls_problem.specs.declared.demands.DemandError.{DemandError}
use Rattle.lls_problem.specs.declared.form.Formulation.{Formulation}
use Rattle.lls_problem.specs.Problem.{Pattern, PosedProblem, but, problem_made}
use Rattle.lls_problem.specs.declared.bounds.Bound.{Bound}
use Rattle.lls_least.specs.declared.extreme.Extreme.{Extreme}
use Rattle.lls_least.specs.Bounded.{bounded}
use Rattle.lls_least.proofs.Solutions.{absent_beyond}
use Rattle.lls_words.specs.declared.error.WordsError.{WordsError}
use Rattle.lls_answers.specs.declared.effort.Effort.{Effort}
use Rattle.lls_answers.specs.declared.effort.Further.{Further}
use Rattle.lls_words.specs.declared.problem_source.ListSource.{ListSource}
use Rattle.lls_words.specs.declared.problem_source.ProblemSource.{ProblemSource}
use Rattle.lls_cli.specs.declared.task.Source.{Source}
use Rattle.lls_cli.specs.declared.task.Source.TheVariants as sources
use Rattle.lls_cli.specs.declared.task.Task.{Task}
use Rattle.lls_cli.specs.declared.task.Task.TheVariants as tasks
use Rattle.lls_answers.specs.Subject.{Subject, asked_with, opened_with}
use Rattle.lls_answers.specs.Subject as subjects
use Rattle.lls_answers.specs.Questions.{Question}
use Rattle.lls_answers.specs.Questions as questions
use Rattle.lls_answers.specs.declared.status.Status.{Status}
use Rattle.lls_answers.specs.declared.status.Status.TheVariants as statuses
use Rattle.lls_cli.specs.declared.fault.Fault.{Fault}
use Rattle.lls_cli.specs.Question.{Asking, come_to, reading, and_ask, made_of, came_to, bare_problem, demanded, formula_in, formula_limit, input_from, input_of, list_in, list_limit, listed_by, problem_asked, problem_in, proof_limit, search_limit, subject_asked, with_few_cells, with_room}
use Rattle.lls_answers.specs.Extremal.{asked_bounded}
use Rattle.lls_answers.specs.Meaning.{certificate_at, log_at}
use Rattle.lls_answers.specs.Answer.{NoneHolds, YesHolds}
use Rattle.lls_cli.specs.Claims.{OfQuestion, LeavesCertificate, LeavesProof, ChangesOnly, IsPublished, Publishes, PublishesExtreme, demands_bounded, source_bounded, outputs_of_words}
use Rattle.lls_cli.proofs.Apart.{AreApart, IsProblemApart, IsSourceApart}
use Rattle.lls_cli.proofs.Asked.{ReadsOnly, ReadsOnly-then, came_to-again, came_to-parts, came_to-then}
use Rattle.lls_cli.proofs.Made.{made_is, made_without_list}

-- a file that is no longer than the limit is an input
input_within : (files : Files) (name bytes : List ℕ) (limit : ℕ) → map.get files name ≡ Some bytes → length bytes ≤ limit → input_of files name limit ≡ Ok bytes
input_within files name bytes limit found fits =
    ap (input_from limit) found ∙ rw (le-ltb limit (length bytes) fits) refl

-- an input that has another name than the one that was written is read as before
read_again : (before after : Files) (proof name : List ℕ) → ChangesOnly (proof ∷ []) (Some before) (Some after) → name ≢ proof → (limit : ℕ) → input_of after name limit ≡ input_of before name limit
read_again before after proof name only apart limit =
    let stays : Some (map.get after name) ≡ Some (map.get before name) = only name (All-cons (λ changed. name ≢ changed) proof [] apart (All-nil (λ changed. name ≢ changed))) in
    let same : map.get after name ≡ map.get before name = cc in
    ap (input_from limit) same

-- so is a problem with its list, and what a check or a search is about
list_read_only : (Kind : List ℕ → Type 0) (list : Option ListSource) (problem : PosedProblem) → ForSome list (λ l. Kind l.file) → ReadsOnly Kind (listed_by list problem)
list_read_only Kind None problem kinds = tt
list_read_only Kind (Some list) problem kinds = (kinds list refl, λ input. tt)

problem_read_only : (Kind : List ℕ → Type 0) (test : PosedProblem → Result PosedProblem Fault) (source : ProblemSource) → Kind source.file → ForSome source.but (λ list. Kind list.file) → ReadsOnly Kind (problem_asked test source)
problem_read_only Kind test source file list =
    ReadsOnly-then Kind (bare_problem source) (λ problem. and_ask (come_to (test problem)) (listed_by source.but)) (file, λ input. tt)
    (λ problem. ReadsOnly-then Kind (come_to (test problem)) (listed_by source.but) tt (λ tested. list_read_only Kind source.but tested list))

subject_read_only : (source : Source) (proof : List ℕ) → IsSourceApart source proof → ReadsOnly (λ name. name ≢ proof) (subject_asked source)
subject_read_only (sources.Problem source formulation) proof apart =
    ReadsOnly-then (λ name. name ≢ proof) (problem_asked Ok source) (λ problem. come_to (Ok (subjects.Problem (asked_with formulation problem)))) (problem_read_only (λ name. name ≢ proof) Ok source apart.file apart.list) (λ problem. tt)
subject_read_only (sources.Rules source high form) proof apart =
    ReadsOnly-then (λ name. name ≢ proof) (problem_asked with_few_cells source) (λ problem. come_to (Ok (subjects.Rules (opened_with high form problem)))) (problem_read_only (λ name. name ≢ proof) with_few_cells source apart.file apart.list) (λ problem. tt)
subject_read_only (sources.Formula name) proof apart =
    ReadsOnly-then (λ name. name ≢ proof) (made_of name formula_limit formula_in) (λ formula. come_to (Ok (subjects.Formula formula))) (apart, λ input. tt) (λ formula. tt)

ReadsOnly-along : {X : Type 0} (One Two : List ℕ → Type 0) (asking : Asking X) → ((name : List ℕ) → One name → Two name) → ReadsOnly One asking → ReadsOnly Two asking
ReadsOnly-along One Two (come_to result) along only = tt
ReadsOnly-along One Two (reading name limit more) along (named, only) = (along name named, λ input. ReadsOnly-along One Two (more input) along (only input))

asked_as_before : {X : Type 0} (before after : Files) (proof : List ℕ) (asking : Asking X) → ChangesOnly (proof ∷ []) (Some before) (Some after) → ReadsOnly (λ name. name ≢ proof) asking
    → came_to (input_of after) asking ≡ came_to (input_of before) asking
asked_as_before before after proof asking only apart =
    came_to-again (input_of after) (input_of before) asking
    (ReadsOnly-along (λ name. name ≢ proof) (λ name. (limit : ℕ) → input_of after name limit ≡ input_of before name limit) asking (λ name differs. read_again before after proof name only differs) apart)

-- what was asked is asked again, and the proof stands whole: so the check asks about both
published : (source : Source) (proof : List ℕ) (subject : Subject) (before after : Files) (bytes : List ℕ)
    → IsSourceApart source proof → ChangesOnly (proof ∷ []) (Some before) (Some after)
    → came_to (input_of before) (subject_asked source) ≡ Ok subject → map.get after proof ≡ Some bytes → YesHolds (questions.Check subject bytes)
    → IsPublished (tasks.Check source proof) (questions.Check subject) proof after
published source proof subject before after bytes apart only made stands holds = record {
  bytes = bytes;
  stands = stands;
  asked = λ fits.
      came_to-then (input_of after) (subject_asked source) (λ s. made_of proof proof_limit (λ text. Ok (questions.Check s text))) subject
      (asked_as_before before after proof (subject_asked source) only (subject_read_only source proof apart) ∙ made)
      ∙ ap (λ second. and_then second (λ text. Ok (questions.Check subject text))) (input_within after proof bytes proof_limit stands fits);
  holds = holds;
}

-- a test leaves a problem as it is
kept_unless : (test : Bool) (fault : Fault) (p q : PosedProblem) → (if test then Err fault else Ok p) ≡ Ok q → p ≡ q
kept_unless true fault p q is = absurd cc
kept_unless false fault p q is = cc

tested_as_is : (read : List ℕ → ℕ → Result (List ℕ) Fault) (test : PosedProblem → Result PosedProblem Fault) (source : ProblemSource) (problem : PosedProblem) → ((p q : PosedProblem) → test p ≡ Ok q → p ≡ q)
    → came_to read (problem_asked test source) ≡ Ok problem → came_to read (problem_asked Ok source) ≡ Ok problem
tested_as_is read test source problem keeps asked =
    let bare = came_to-parts read (bare_problem source) (λ p. and_ask (come_to (test p)) (listed_by source.but)) problem asked in
    let tested = came_to-parts read (come_to (test bare.0)) (listed_by source.but) problem bare.2 in
    came_to-then read (bare_problem source) (listed_by source.but) bare.0 bare.1
    ∙ ap (λ p. came_to read (listed_by source.but p)) (keeps bare.0 tested.0 tested.1) ∙ tested.2

-- a problem that a source's inputs pose is what the source is about
problem_subject : (read : List ℕ → ℕ → Result (List ℕ) Fault) (source : ProblemSource) (formulation : Formulation) (problem : PosedProblem) → came_to read (problem_asked Ok source) ≡ Ok problem
    → came_to read (subject_asked (sources.Problem source formulation)) ≡ Ok (subjects.Problem (asked_with formulation problem))
problem_subject read source formulation problem is = came_to-then read (problem_asked Ok source) (λ p. come_to (Ok (subjects.Problem (asked_with formulation p)))) problem is

-- what was asked once isn't another thing
asked_again : (first second : Question) (answer : Result Question Fault) → answer ≡ Ok first → answer ≡ Ok second → first ≡ second
asked_again first second answer one two = let same : Ok first ≡ Ok second = sym one ∙ two in cc

search_publishes : (source : Source) (effort : Effort) (further : Further) (before after : Files) → IsSourceApart source effort.proof
    → OfQuestion NoneHolds (Ok (tasks.Search source effort further)) (Some before)
    → OfQuestion (LeavesProof (Some after)) (Ok (tasks.Search source effort further)) (Some before)
    → ChangesOnly (effort.proof ∷ []) (Some before) (Some after)
    → Publishes (Ok (tasks.Search source effort further)) (Some before) (Some after)
search_publishes source effort further before after apart nowhere leaves only =
    let read = came_to-parts (input_of before) (subject_asked source) (λ subject. come_to (Ok (questions.Search subject effort further.rle))) leaves.0 leaves.1 in
    let subject = read.0 in
    let is : leaves.0 ≡ questions.Search subject effort further.rle = let value = read.2 in cc in
    let file = subst (LeavesProof (Some after)) is leaves.2 in
    let none = subst NoneHolds (asked_again nowhere.0 leaves.0 _ nowhere.1 leaves.1 ∙ is) nowhere.2 in
    (subject, published source effort.proof subject before after file.0 apart only read.1 file.1 (file.2.accepted, none))

extremal_publishes : (extreme : Extreme) (source : ProblemSource) (formulation : Formulation) (effort : Effort) (further : Further) (before after : Files) → IsProblemApart source effort.proof
    → OfQuestion NoneHolds (Ok (tasks.Extremal extreme source formulation effort further)) (Some before)
    → OfQuestion (LeavesProof (Some after)) (Ok (tasks.Extremal extreme source formulation effort further)) (Some before)
    → ChangesOnly (effort.proof ∷ []) (Some before) (Some after)
    → Publishes (Ok (tasks.Extremal extreme source formulation effort further)) (Some before) (Some after)
extremal_publishes extreme source formulation effort further before after apart nowhere leaves only =
    let read = came_to-parts (input_of before) (problem_asked with_room source) (λ problem. come_to (Ok (questions.Extremal extreme (asked_with formulation problem) effort further.rle))) leaves.0 leaves.1 in
    let about = asked_with formulation read.0 in
    let is : leaves.0 ≡ questions.Extremal extreme about effort further.rle = let value = read.2 in cc in
    let file = subst (LeavesProof (Some after)) is leaves.2 in
    let none = subst NoneHolds (asked_again nowhere.0 leaves.0 _ nowhere.1 leaves.1 ∙ is) nowhere.2 in
    let made = problem_subject (input_of before) source formulation read.0 (tested_as_is (input_of before) with_room source read.0 (λ p q same. kept_unless _ _ p q same) read.1) in
    (about, published (sources.Problem source formulation) effort.proof (subjects.Problem about) before after file.0 apart only made file.1 (file.2.accepted, none))

pub publishes : (task : Result Task WordsError) (before after : Option Files) (status : Status) → status ≡ statuses.NoPattern → AreApart task → OfQuestion NoneHolds task before → OfQuestion (LeavesProof after) task before
    → ChangesOnly (outputs_of_words task status) before after → Publishes task before after
publishes (Ok (tasks.Search source effort further)) (Some before) (Some after) status is apart nowhere leaves only =
    search_publishes source effort further before after apart nowhere leaves (subst (λ s. ChangesOnly (log_at s effort.proof) (Some before) (Some after)) is only)
publishes (Ok (tasks.Search source effort further)) (Some before) None status is apart nowhere leaves only = tt
publishes (Ok (tasks.Search source effort further)) None after status is apart nowhere leaves only = tt
publishes (Ok (tasks.Extremal extreme source formulation effort further)) (Some before) (Some after) status is apart nowhere leaves only =
    extremal_publishes extreme source formulation effort further before after apart nowhere leaves (subst (λ s. ChangesOnly (certificate_at s effort.proof) (Some before) (Some after)) is only)
publishes (Ok (tasks.Extremal extreme source formulation effort further)) (Some before) None status is apart nowhere leaves only = tt
publishes (Ok (tasks.Extremal extreme source formulation effort further)) None after status is apart nowhere leaves only = tt
publishes (Ok (tasks.Check source proof)) before after status is apart nowhere leaves only = tt
publishes (Ok (tasks.Judge source pattern rle)) before after status is apart nowhere leaves only = tt
publishes (Ok (tasks.Encode source)) before after status is apart nowhere leaves only = tt
publishes (Ok (tasks.Print rule)) before after status is apart nowhere leaves only = tt
publishes (Ok (tasks.Make seed size file effort)) before after status is apart nowhere leaves only = tt
publishes (Ok (tasks.Trim formula proof output)) before after status is apart nowhere leaves only = tt
publishes (Err error) before after status is apart nowhere leaves only = tt

demanded-ok : (made : Result PosedProblem DemandError) (problem : PosedProblem) → demanded made ≡ Ok problem → made ≡ Ok problem
demanded-ok (Ok p) problem is = cc
demanded-ok (Err error) problem is = absurd cc

-- with a bound more behind the others the file poses the problem with it
bounded_part : (part : Result PosedFile Fault) (rule : List Bool) (demands : Demands) (problem : PosedProblem) (bound : Bound) → and_then part (λ posed. demanded (problem_made posed rule demands)) ≡ Ok problem
    → problem_made problem.posed problem.rule (bounded problem bound).demands ≡ Ok (bounded problem bound)
    → and_then part (λ posed. demanded (problem_made posed rule (demands_bounded demands bound))) ≡ Ok (bounded problem bound)
bounded_part (Ok posed) rule demands problem bound is asks =
    let same = made_is posed rule demands problem (demanded-ok (problem_made posed rule demands) problem is) in
    let P : PosedProblem → Type 0 = λ p. problem_made p.posed p.rule (bounded p bound).demands ≡ Ok (bounded p bound) in
    ap demanded (subst P same asks) ∙ ap (λ p. Ok (bounded p bound)) (sym same)
bounded_part (Err fault) rule demands problem bound is asks = absurd cc

bounded_problem : (input : Result (List ℕ) Fault) (rule : List Bool) (demands : Demands) (problem : PosedProblem) (bound : Bound) → and_then input (problem_in rule demands) ≡ Ok problem
    → problem_made problem.posed problem.rule (bounded problem bound).demands ≡ Ok (bounded problem bound) → and_then input (problem_in rule (demands_bounded demands bound)) ≡ Ok (bounded problem bound)
bounded_problem (Ok bytes) rule demands problem bound is asks = bounded_part _ rule demands problem bound is asks
bounded_problem (Err fault) rule demands problem bound is asks = absurd cc

-- what a list makes of a problem, and that it makes the same of another of these sizes
pub record AreListed (input : Result (List ℕ) Fault) (read : List ℕ → Result (List Pattern) Fault) (bare problem : PosedProblem) : Type 0 where
  pub patterns : List Pattern
  pub problem_is : problem ≡ but bare patterns
  pub others : (other : PosedProblem) → and_then input (λ bytes. and_then (read bytes) (λ ps. Ok (but other ps))) ≡ Ok (but other patterns)

listed_bytes : (bytes : List ℕ) (part : Result (List Pattern) Fault) (read : List ℕ → Result (List Pattern) Fault) (bare problem : PosedProblem) → read bytes ≡ part → and_then part (λ ps. Ok (but bare ps)) ≡ Ok problem
    → AreListed (Ok bytes) read bare problem
listed_bytes bytes (Ok patterns) read bare problem part is =
    let same : but bare patterns ≡ problem = cc in
    record { patterns = patterns; problem_is = sym same; others = λ other. ap (λ list. and_then list (λ ps. Ok (but other ps))) part }
listed_bytes bytes (Err fault) read bare problem part is = absurd cc

listed_input : (input : Result (List ℕ) Fault) (read : List ℕ → Result (List Pattern) Fault) (bare problem : PosedProblem) → and_then input (λ bytes. and_then (read bytes) (λ ps. Ok (but bare ps))) ≡ Ok problem
    → AreListed input read bare problem
listed_input (Ok bytes) read bare problem is = listed_bytes bytes (read bytes) read bare problem refl is
listed_input (Err fault) read bare problem is = absurd cc

-- the problem with the patterns of its list, and with a bound more the same patterns
pub record KeepsList (read : List ℕ → ℕ → Result (List ℕ) Fault) (list : Option ListSource) (bare problem : PosedProblem) : Type 0 where
  pub patterns : List Pattern
  pub problem_is : problem ≡ but bare patterns
  pub bounded_is : (bound : Bound) → came_to read (listed_by list (bounded bare bound)) ≡ Ok (bounded (but bare patterns) bound)

-- how a list is read goes by the sizes, which a bound more leaves
same_list : (rle : Bool) (input : Result (List ℕ) Fault) (bare : PosedProblem) (bound : Bound) (all : Result PosedProblem Fault)
    → and_then input (λ bytes. and_then (list_in rle bare bytes) (λ ps. Ok (but (bounded bare bound) ps))) ≡ all
    → and_then input (λ bytes. and_then (list_in rle (bounded bare bound) bytes) (λ ps. Ok (but (bounded bare bound) ps))) ≡ all
same_list true input bare bound all is = is
same_list false input bare bound all is = is

keeps_list : (read : List ℕ → ℕ → Result (List ℕ) Fault) (list : Option ListSource) (bare problem : PosedProblem) → came_to read (listed_by list bare) ≡ Ok problem → KeepsList read list bare problem
keeps_list read None bare problem is =
    let same : bare ≡ problem = cc in
    record { patterns = bare.demands.listed; problem_is = sym same; bounded_is = λ bound. refl }
keeps_list read (Some list) bare problem is =
    let listed = listed_input (read list.file list_limit) (list_in list.rle bare) bare problem is in
    record { patterns = listed.patterns; problem_is = listed.problem_is; bounded_is = λ bound. same_list list.rle (read list.file list_limit) bare bound _ (listed.others (bounded bare bound)) }

-- with a bound more behind the others its inputs pose the problem with it
bounded_again : (read : List ℕ → ℕ → Result (List ℕ) Fault) (source : ProblemSource) (problem : PosedProblem) (bound : Bound) → came_to read (problem_asked Ok source) ≡ Ok problem
    → problem_made problem.posed problem.rule (bounded problem bound).demands ≡ Ok (bounded problem bound)
    → came_to read (problem_asked Ok (source_bounded source bound)) ≡ Ok (bounded problem bound)
bounded_again read source problem bound asked made =
    let parts = came_to-parts read (bare_problem source) (listed_by source.but) problem asked in
    let bare = parts.0 in
    let listed = keeps_list read source.but bare problem parts.2 in
    let Poses : PosedProblem → Type 0 = λ p. problem_made p.posed p.rule (bounded p bound).demands ≡ Ok (bounded p bound) in
    let alone = made_without_list bare.posed bare.rule (bounded bare bound).demands listed.patterns (bounded (but bare listed.patterns) bound) (subst Poses listed.problem_is made) in
    came_to-then read (bare_problem (source_bounded source bound)) (listed_by source.but) (bounded bare bound)
    (bounded_problem (read source.file search_limit) source.rule source.demands bare bound parts.1 alone)
    ∙ listed.bounded_is bound ∙ ap (λ p. Ok (bounded p bound)) (sym listed.problem_is)

extreme_publishes : (extreme : Extreme) (source : ProblemSource) (formulation : Formulation) (effort : Effort) (further : Further) (before after : Files) → IsProblemApart source effort.proof
    → OfQuestion (LeavesCertificate (Some after)) (Ok (tasks.Extremal extreme source formulation effort further)) (Some before)
    → ChangesOnly (effort.proof ∷ []) (Some before) (Some after)
    → PublishesExtreme (Ok (tasks.Extremal extreme source formulation effort further)) (Some before) (Some after)
extreme_publishes extreme source formulation effort further before after apart leaves only =
    let read = came_to-parts (input_of before) (problem_asked with_room source) (λ problem. come_to (Ok (questions.Extremal extreme (asked_with formulation problem) effort further.rle))) leaves.0 leaves.1 in
    let about = asked_with formulation read.0 in
    let is : leaves.0 ≡ questions.Extremal extreme about effort further.rle = let value = read.2 in cc in
    let certified = subst (LeavesCertificate (Some after)) is leaves.2 in
    let made = tested_as_is (input_of before) with_room source read.0 (λ p q same. kept_unless _ _ p q same) read.1 in (
      about,
      (
        certified.0,
        certified.1.utmost,
        λ bound asks.
            let own = certified.1.proof bound asks in
            let again = bounded_again (input_of before) source read.0 bound made own.0.posed in
            published (sources.Problem (source_bounded source bound) formulation) effort.proof (subjects.Problem (asked_bounded about bound)) before after own.1.0
            (record { file = apart.file; list = apart.list }) only
            (problem_subject (input_of before) (source_bounded source bound) formulation (bounded read.0 bound) again) own.1.1
            (own.1.2.accepted, absent_beyond extreme about.problem certified.0 bound asks certified.1.utmost.utmost),
      ),
    )

pub publishes_extreme : (task : Result Task WordsError) (before after : Option Files) (status : Status) → status ≡ statuses.Pattern → AreApart task → OfQuestion (LeavesCertificate after) task before
    → ChangesOnly (outputs_of_words task status) before after → PublishesExtreme task before after
publishes_extreme (Ok (tasks.Extremal extreme source formulation effort further)) (Some before) (Some after) status is apart leaves only =
    extreme_publishes extreme source formulation effort further before after apart leaves (subst (λ s. ChangesOnly (certificate_at s effort.proof) (Some before) (Some after)) is only)
publishes_extreme (Ok (tasks.Extremal extreme source formulation effort further)) (Some before) None status is apart leaves only = tt
publishes_extreme (Ok (tasks.Extremal extreme source formulation effort further)) None after status is apart leaves only = tt
publishes_extreme (Ok (tasks.Search source effort further)) before after status is apart leaves only = tt
publishes_extreme (Ok (tasks.Check source proof)) before after status is apart leaves only = tt
publishes_extreme (Ok (tasks.Judge source pattern rle)) before after status is apart leaves only = tt
publishes_extreme (Ok (tasks.Encode source)) before after status is apart leaves only = tt
publishes_extreme (Ok (tasks.Print rule)) before after status is apart leaves only = tt
publishes_extreme (Ok (tasks.Make seed size file effort)) before after status is apart leaves only = tt
publishes_extreme (Ok (tasks.Trim formula proof output)) before after status is apart leaves only = tt
publishes_extreme (Err error) before after status is apart leaves only = tt
