-- What is asked of inputs that are read one after another.
use Rattle.std.proofs.Common.{◌≡◌, ◌∙◌, ℕ, List, Option, None, Some, Result, Ok, Err, refl, sym, ap, subst}
use Rattle.lls_base.specs.Results.{Gives}
use Rattle.lls_base.specs.Faults.{Counts}
use Rattle.lls_base.specs.Shelf.{Files}
use Rattle.lls_answers.specs.Questions.{Question}
use Rattle.lls_answers.specs.declared.answer.Answer.{Answer}
use Rattle.lls_answers.specs.Answer.{IsAnswer, ahead_of}
use Rattle.lls_outside.specs.Moment.{ShelfMoment, files_at}
use Rattle.lls_outside.specs.Kept.{KeepsFiles}
use Rattle.lls_cli.specs.declared.fault.Fault.{Fault}
use Rattle.lls_cli.specs.declared.fault.Fault.TheVariants as faults
use Rattle.lls_cli.specs.declared.task.Task.{Task}
use Rattle.lls_problem.specs.Problem.{PosedProblem}
use Rattle.lls_words.specs.declared.problem_source.ProblemSource.{ProblemSource}
use Rattle.lls_cli.specs.Question.{Asking, come_to, reading, and_ask, bare_problem, listed_by, made_of, problem_asked, came_to, input_of, IsInput, AsksBy, Asks}
use Rattle.lls_cli.specs.Steps.{Reads, ComesTo}
use Rattle.lls_cli.proofs.Stopped.{Stops-along, Stops-from, Stops-content, Stops-given, IsContent}

pub KeepsFiles-both : (before mid after : ShelfMoment) → KeepsFiles before mid → KeepsFiles mid after → KeepsFiles before after
KeepsFiles-both before mid after first second =
    record { files = second.files ∙ first.files; target = second.target ∙ first.target; has_output = second.has_output ∙ first.has_output }

-- what is asked behind what was come to
pub AsksBy-then : {X Y : Type 0} (files : Option Files) (asking : Asking X) (next : X → Asking Y) (x : X) (value : Result Y Fault) → AsksBy files asking (Ok x) → AsksBy files (next x) value
    → AsksBy files (and_ask asking next) value
AsksBy-then files (come_to (Ok y)) next x value first second = let same : x ≡ y = cc in subst (λ z. AsksBy files (next z) value) same second
AsksBy-then files (come_to (Err fault)) next x value first second = absurd cc
AsksBy-then files (reading name limit more) next x value (input, is, first) second = (input, is, AsksBy-then files (more input) next x value first second)

-- a refusal of the first is one of both
pub AsksBy-stopped : {X Y : Type 0} (files : Option Files) (asking : Asking X) (next : X → Asking Y) (fault : Fault) → AsksBy files asking (Err fault) → AsksBy files (and_ask asking next) (Err fault)
AsksBy-stopped files (come_to (Ok y)) next fault first = absurd cc
AsksBy-stopped files (come_to (Err other)) next fault first = let same : fault ≡ other = cc in ap Err same
AsksBy-stopped files (reading name limit more) next fault (input, is, first) = (input, is, AsksBy-stopped files (more input) next fault first)

-- what both come to comes from something that the first comes to
pub AsksBy-parts : {X Y : Type 0} (files : Option Files) (asking : Asking X) (next : X → Asking Y) (y : Y) → AsksBy files (and_ask asking next) (Ok y) → (x : X) × AsksBy files asking (Ok x) × AsksBy files (next x) (Ok y)
AsksBy-parts files (come_to (Ok x)) next y asked = (x, refl, asked)
AsksBy-parts files (come_to (Err fault)) next y asked = absurd cc
AsksBy-parts files (reading name limit more) next y (input, is, asked) = let parts = AsksBy-parts files (more input) next y asked in (parts.0, (input, is, parts.1), parts.2)

-- where the shelf tells its files, it is what these come to
pub came_to-asked : {X : Type 0} (files : Files) (asking : Asking X) (value : Result X Fault) → AsksBy (Some files) asking value → came_to (input_of files) asking ≡ value
came_to-asked files (come_to result) value asked = sym asked
came_to-asked files (reading name limit more) value (input, is, asked) = ap (λ read. came_to (input_of files) (more read)) (sym is) ∙ came_to-asked files (more input) value asked

-- the same of what these files come to
pub came_to-then : {X Y : Type 0} (read : List ℕ → ℕ → Result (List ℕ) Fault) (asking : Asking X) (next : X → Asking Y) (x : X) → came_to read asking ≡ Ok x → came_to read (and_ask asking next) ≡ came_to read (next x)
came_to-then read (come_to (Ok y)) next x first = let same : y ≡ x = cc in ap (λ z. came_to read (next z)) same
came_to-then read (come_to (Err fault)) next x first = absurd cc
came_to-then read (reading name limit more) next x first = came_to-then read (more (read name limit)) next x first

pub came_to-parts : {X Y : Type 0} (read : List ℕ → ℕ → Result (List ℕ) Fault) (asking : Asking X) (next : X → Asking Y) (y : Y) → came_to read (and_ask asking next) ≡ Ok y
    → (x : X) × (came_to read asking ≡ Ok x) × (came_to read (next x) ≡ Ok y)
came_to-parts read (come_to (Ok x)) next y asked = (x, refl, asked)
came_to-parts read (come_to (Err fault)) next y asked = absurd cc
came_to-parts read (reading name limit more) next y asked = came_to-parts read (more (read name limit)) next y asked

-- each input that may be read has a name of this kind
abbrev pub ReadsOnly : {X : Type 0} → (List ℕ → Type 0) → Asking X → Type 0
ReadsOnly Kind (come_to result) = Unit {0}
ReadsOnly Kind (reading name limit more) = Kind name × ((input : Result (List ℕ) Fault) → ReadsOnly Kind (more input))

pub ReadsOnly-then : {X Y : Type 0} (Kind : List ℕ → Type 0) (asking : Asking X) (next : X → Asking Y) → ReadsOnly Kind asking → ((x : X) → ReadsOnly Kind (next x)) → ReadsOnly Kind (and_ask asking next)
ReadsOnly-then Kind (come_to (Ok x)) next first second = second x
ReadsOnly-then Kind (come_to (Err fault)) next first second = tt
ReadsOnly-then Kind (reading name limit more) next (named, first) second = (named, λ input. ReadsOnly-then Kind (more input) next (first input) second)

-- where those are read as before, the same is come to
pub came_to-again : {X : Type 0} (one two : List ℕ → ℕ → Result (List ℕ) Fault) (asking : Asking X) → ReadsOnly (λ name. (limit : ℕ) → one name limit ≡ two name limit) asking → came_to one asking ≡ came_to two asking
came_to-again one two (come_to result) only = refl
came_to-again one two (reading name limit more) (same, only) = ap (λ read. came_to one (more read)) (same limit) ∙ came_to-again one two (more (two name limit)) (only (two name limit))

-- a reading behind another, by what both say
pub Reads-behind : {X Y : Type 0} (First : Result X Fault → Type 0) (Second Both : Result Y Fault → Type 0) (x : X) (result : Result Y Fault) (before mid after : ShelfMoment)
    → ((r : Result Y Fault) → First (Ok x) → Second r → Both r) → Reads First (Ok x) before mid → Reads Second result mid after → Reads Both result before after
Reads-behind First Second Both x (Ok y) before mid after along first second = record {
  kept = KeepsFiles-both before mid after first.kept second.kept;
  counts = subst (λ n. Counts n after.faults) first.ok.1 second.counts;
  ok = (along (Ok y) first.ok.0 second.ok.0, second.ok.1 ∙ first.ok.1);
  err = tt;
}
Reads-behind First Second Both x (Err fault) before mid after along first second = record {
  kept = KeepsFiles-both before mid after first.kept second.kept;
  counts = subst (λ n. Counts n after.faults) first.ok.1 second.counts;
  ok = tt;
  err = Stops-from fault _ before mid after first.ok.1 (Stops-along fault _ _ mid after (along (Err fault) first.ok.0) second.err);
}

-- of two askings
pub Reads-then : {X Y : Type 0} (asking : Asking X) (next : X → Asking Y) (x : X) (result : Result Y Fault) (before mid after : ShelfMoment)
    → Reads (AsksBy (files_at before) asking) (Ok x) before mid → Reads (AsksBy (files_at mid) (next x)) result mid after → Reads (AsksBy (files_at before) (and_ask asking next)) result before after
Reads-then asking next x result before mid after first second =
    Reads-behind (AsksBy (files_at before) asking) (AsksBy (files_at mid) (next x)) (AsksBy (files_at before) (and_ask asking next)) x result before mid after
    (λ r one two. AsksBy-then (files_at before) asking next x r one (subst (λ files. AsksBy files (next x) r) first.kept.files two)) first second

-- a reading that stopped at the first
pub Reads-stopped : {X Y : Type 0} (asking : Asking X) (next : X → Asking Y) (fault : Fault) (before after : ShelfMoment) → Reads (AsksBy (files_at before) asking) (Err fault) before after
    → Reads (AsksBy (files_at before) (and_ask asking next)) (Err fault) before after
Reads-stopped asking next fault before after read = record {
  kept = read.kept;
  counts = read.counts;
  ok = tt;
  err = Stops-along fault _ _ before after (AsksBy-stopped (files_at before) asking next fault) read.err;
}

-- a problem that passed a test, and then its list
pub Reads-tested : (test : PosedProblem → Result PosedProblem Fault) (source : ProblemSource) (problem : PosedProblem) (result : Result PosedProblem Fault) (before mid after : ShelfMoment) → test problem ≡ Ok problem
    → Reads (AsksBy (files_at before) (bare_problem source)) (Ok problem) before mid → Reads (AsksBy (files_at mid) (listed_by source.but problem)) result mid after
    → Reads (AsksBy (files_at before) (problem_asked test source)) result before after
Reads-tested test source problem result before mid after passes first second =
    let Listed : Result PosedProblem Fault → Type 0 = λ tested. Reads (AsksBy (files_at mid) (and_ask (come_to tested) (listed_by source.but))) result mid after in
    Reads-then (bare_problem source) (λ p. and_ask (come_to (test p)) (listed_by source.but)) problem result before mid after first (subst Listed (sym passes) second)

-- what was read says more, and what stopped it doesn't
pub Reads-ok : {X Y : Type 0} (First : Result X Fault → Type 0) (Both : Result Y Fault → Type 0) (x : X) (y : Y) (before after : ShelfMoment) → (First (Ok x) → Both (Ok y)) → Reads First (Ok x) before after
    → Reads Both (Ok y) before after
Reads-ok First Both x y before after along first = record { kept = first.kept; counts = first.counts; ok = (along first.ok.0, first.ok.1); err = tt }

pub Reads-memory : {X Y : Type 0} (First : Result X Fault → Type 0) (Both : Result Y Fault → Type 0) (x : X) (before after : ShelfMoment) → Reads First (Ok x) before after → Reads Both (Err faults.Memory) before after
Reads-memory First Both x before after first = record { kept = first.kept; counts = first.counts; ok = tt; err = first.ok.1 }

pub Reads-refused : {X Y : Type 0} (First : Result X Fault → Type 0) (Both : Result Y Fault → Type 0) (x : X) (fault : Fault) (before after : ShelfMoment) → IsContent fault → (First (Ok x) → Both (Err fault))
    → Reads First (Ok x) before after → Reads Both (Err fault) before after
Reads-refused First Both x fault before after content along first =
    record { kept = first.kept; counts = first.counts; ok = tt; err = Stops-content fault (λ f. Both (Err f)) before after first.ok.1 content (along first.ok.0) }

-- a problem that didn't pass a test
pub Reads-failed : (test : PosedProblem → Result PosedProblem Fault) (source : ProblemSource) (problem : PosedProblem) (fault : Fault) (before after : ShelfMoment) → IsContent fault → test problem ≡ Err fault
    → Reads (AsksBy (files_at before) (bare_problem source)) (Ok problem) before after → Reads (AsksBy (files_at before) (problem_asked test source)) (Err fault) before after
Reads-failed test source problem fault before after content fails first =
    let files = files_at before in
    let next : PosedProblem → Asking PosedProblem = λ p. and_ask (come_to (test p)) (listed_by source.but) in
    let Tested : Result PosedProblem Fault → Type 0 = λ tested. AsksBy files (and_ask (come_to tested) (listed_by source.but)) (Err fault) in
    Reads-refused (AsksBy files (bare_problem source)) (AsksBy files (problem_asked test source)) problem fault before after content
    (λ one. AsksBy-then files (bare_problem source) next problem (Err fault) one (subst Tested (sym fails) refl)) first

-- what the bytes of an input make
pub Reads-made : {X : Type 0} (name : List ℕ) (limit : ℕ) (make : List ℕ → Result X Fault) (bytes : List ℕ) (result : Result X Fault) (before after : ShelfMoment)
    → ((fault : Fault) → make bytes ≡ Err fault → IsContent fault) → Reads (IsInput (files_at before) name limit) (Ok bytes) before after → Gives faults.Memory (λ x. x) result (make bytes)
    → Reads (AsksBy (files_at before) (made_of name limit make)) result before after
Reads-made name limit make bytes (Ok x) before after content read gives =
    record { kept = read.kept; counts = read.counts; ok = ((Ok bytes, read.ok.0, sym gives), read.ok.1); err = tt }
Reads-made name limit make bytes (Err fault) before after content read gives = record {
  kept = read.kept;
  counts = read.counts;
  ok = tt;
  err = Stops-given fault (λ f. AsksBy (files_at before) (made_of name limit make) (Err f)) (make bytes) before after read.ok.1 gives (λ f is. (content f is, (Ok bytes, read.ok.0, sym is)));
}

pub Reads-unread : {X : Type 0} (name : List ℕ) (limit : ℕ) (make : List ℕ → Result X Fault) (fault : Fault) (before after : ShelfMoment)
    → Reads (IsInput (files_at before) name limit) (Err fault) before after → Reads (AsksBy (files_at before) (made_of name limit make)) (Err fault) before after
Reads-unread name limit make fault before after read = record {
  kept = read.kept;
  counts = read.counts;
  ok = tt;
  err = Stops-along fault _ _ before after (λ is. (Err fault, is, refl)) read.err;
}

-- a question was asked, and its answer is right
pub ComesTo-answered : (task : Task) (question : Question) (answer : Answer) (before after : ShelfMoment) → Reads (Asks task (files_at before)) (Ok question) before after → ahead_of question ≡ None
    → IsAnswer question answer → Reads (ComesTo task (files_at before)) (Ok answer) before after
ComesTo-answered task question answer before after read none right =
    Reads-ok (Asks task (files_at before)) (ComesTo task (files_at before)) question answer before after (λ asked. (question, asked, none, right)) read
