-- What a question means: which answers are right, what each status says, and what stands in files then. A question is one of these.
use Rattle.std.specs.Prelude.{◌≡◌, ◌<◌, ◌^◌, ℕ, ◌++◌, true, List, [], ◌∷◌, codes, Option, None, Some}
use Rattle.std.specs.FinMap as map
use Rattle.lls_base.specs.Shelf.{Files}
use Rattle.lls_lit.specs.Formula.{Cnf}
use Rattle.lls_answers.specs.declared.effort.Effort.{Effort}
use Rattle.lls_answers.specs.declared.answer_file.AnswerFile.{AnswerFile}
use Rattle.lls_answers.specs.declared.answer.Answer.{Answer}
use Rattle.lls_answers.specs.declared.status.Status.{Status}
use Rattle.lls_answers.specs.declared.status.Status.TheVariants as statuses
use Rattle.lls_answers.specs.Evidence.{HasProof, HasSpentLog}

-- the file that is written before the answer is looked for; the answers that are right; what is so where one says yes, no, that there is
-- something, that there is nothing, and that a budget was spent; the answer's file where it may have changed; and what stands there
pub record Meaning : Type 1 where
  pub ahead : Option AnswerFile
  pub answers : Answer → Type 0
  pub yes : Type 0
  pub no : Type 0
  pub some : Type 0
  pub none : Type 0
  pub short : Type 0
  pub writes : Status → List (List ℕ)
  pub leaves : Status → Option Files → Type 0

-- a question that leaves no file
abbrev pub leaves_none : Status → Option Files → Type 0
leaves_none statuses.NoPattern files = ⊥
leaves_none statuses.Undecided files = ⊥
leaves_none status files = Unit {0}

-- a question with these answers, of which no status says anything yet
abbrev pub answered_by : (Answer → Type 0) → Meaning
answered_by right = record {
  ahead = None;
  answers = right;
  yes = ⊥;
  no = ⊥;
  some = ⊥;
  none = ⊥;
  short = ⊥;
  writes = λ status. [];
  leaves = leaves_none;
}

-- what a status says
abbrev pub says : Meaning → Status → Type 0
says meaning statuses.Done = meaning.yes
says meaning statuses.Refused = meaning.no
says meaning statuses.Pattern = meaning.some
says meaning statuses.NoPattern = meaning.none
says meaning statuses.Undecided = meaning.short
says meaning status = ⊥

-- a status and a text, and no file
abbrev pub shown : Status → List ℕ → Answer
shown status text = record { status = status; text = text; file = None }

-- a status and a line, and no file
abbrev pub said : Status → List ℕ → Answer
said status text = shown status (text ++ codes "\n")

-- a status and a text, behind a file
abbrev pub shown_behind : AnswerFile → Status → List ℕ → Answer
shown_behind file status text = record (shown status text) { file = Some file }

-- a budget that needn't decide: it is less than 9 to the number of variables, and where no learnt clause is deleted than 3 to it
pub record IsShort (formula : Cnf) (effort : Effort) : Type 0 where
  pub deleting : effort.budget < 9 ^ formula.vars
  pub keeping : effort.keep_all ≡ true → effort.budget < 3 ^ formula.vars

-- the file of a proof or a log, at the statuses at which it may have changed
abbrev pub log_at : Status → List ℕ → List (List ℕ)
log_at statuses.Outside name = name ∷ []
log_at statuses.NoPattern name = name ∷ []
log_at statuses.Undecided name = name ∷ []
log_at status name = []

-- the file of a proof or a log of a search that leaves one where it found something too
abbrev pub certificate_at : Status → List ℕ → List (List ℕ)
certificate_at statuses.Outside name = name ∷ []
certificate_at statuses.Pattern name = name ∷ []
certificate_at statuses.NoPattern name = name ∷ []
certificate_at statuses.Undecided name = name ∷ []
certificate_at status name = []

-- a fact of the file that a name stands for
abbrev pub OfFile : (AnswerFile → Type 0) → List ℕ → Option Files → Type 0
OfFile Fact name None = Unit {0}
OfFile Fact name (Some files) = (bytes : List ℕ) × (map.get files name ≡ Some bytes) × Fact (record { name = name; bytes = bytes })

-- what a search leaves: a proof of the formula where there is nothing, a spent log where it is undecided
abbrev pub leaves_log : Cnf → Effort → Status → Option Files → Type 0
leaves_log formula effort statuses.NoPattern files = OfFile (HasProof formula effort) effort.proof files
leaves_log formula effort statuses.Undecided files = OfFile (HasSpentLog formula effort) effort.proof files
leaves_log formula effort status files = Unit {0}

-- the search file of a made problem, at the statuses at which it may have changed
abbrev pub search_file_at : Status → List ℕ → List (List ℕ)
search_file_at statuses.Outside name = name ∷ []
search_file_at statuses.Memory name = name ∷ []
search_file_at statuses.Pattern name = name ∷ []
search_file_at statuses.Undecided name = name ∷ []
search_file_at status name = []
