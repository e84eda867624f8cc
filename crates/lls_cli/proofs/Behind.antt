-- How questions end behind a file that is written ahead, in one form for all questions.
use Rattle.std.proofs.Common.{◌≡◌, Option, None, Some, Ok, refl, sym, subst, inl, inr, ◌⊎◌}
use Rattle.lls_base.specs.Shelf.{Files}
use Rattle.lls_cli.specs.declared.task.Task.{Task}
use Rattle.lls_answers.specs.Questions.{Question}
use Rattle.lls_answers.specs.declared.answer_file.AnswerFile.{AnswerFile}
use Rattle.lls_answers.specs.declared.status.Status.{Status}
use Rattle.lls_cli.specs.Question.{Asks}
use Rattle.lls_outside.specs.Moment.{ShelfMoment, Moment, with_shelf}
use Rattle.lls_answers.specs.Answer.{ahead_of}
use Rattle.lls_cli.specs.Ends.{LacksMemory, End, refused, lacked, input_failed, ahead_failed, answered, file_failed, output_failed, IsEndOf, IsEndBehind, Ends}
use Rattle.lls_answers.specs.Standing.{WroteFile}

-- the file stands, or there is none and the shelf is as before
abbrev pub WroteAhead : Option AnswerFile → ShelfMoment → ShelfMoment → Type 0
WroteAhead None before after = after ≡ before
WroteAhead (Some file) before after = WroteFile (Some file) before after

pub ahead_faults : (file : Option AnswerFile) (before after : ShelfMoment) → WroteAhead file before after → after.faults ≡ before.faults
ahead_faults None before after same = subst (λ (s : ShelfMoment). s.faults ≡ before.faults) (sym same) refl
ahead_faults (Some file) before after wrote = wrote.faults

-- the ends that have an answer
abbrev pub HasAnswer : End → Type 0
HasAnswer (answered answer) = Unit {0}
HasAnswer (file_failed answer fault) = Unit {0}
HasAnswer (output_failed answer) = Unit {0}
HasAnswer end = ⊥

-- an end with an answer, from where the file stands
pub record Behind (ahead : Option AnswerFile) (question : Question) (before after : Moment) (status : Status) (end : End) : Type 0 where
  pub mid : ShelfMoment
  pub wrote : WroteAhead ahead before.shelf mid
  pub ended : IsEndOf question (with_shelf before mid) after status end

pub behind : (ahead : Option AnswerFile) (question : Question) (before after : Moment) (status : Status) (end : End) → HasAnswer end → IsEndBehind ahead question before after status end
    → Behind ahead question before after status end
behind None question before after status end has ended = record { mid = before.shelf; wrote = refl; ended = ended }
behind (Some file) question before after status (answered answer) has ended = record { mid = ended.0; wrote = ended.1; ended = ended.2 }
behind (Some file) question before after status (file_failed answer fault) has ended = record { mid = ended.0; wrote = ended.1; ended = ended.2 }
behind (Some file) question before after status (output_failed answer) has ended = record { mid = ended.0; wrote = ended.1; ended = ended.2 }
behind (Some file) question before after status lacked has ended = absurd has
behind (Some file) question before after status (refused fault) has ended = absurd has
behind (Some file) question before after status (input_failed fault) has ended = absurd has
behind (Some file) question before after status (ahead_failed fault) has ended = absurd has

-- want of memory behind some file, or none
pub record Lacking (before after : Moment) (status : Status) : Type 0 where
  pub ahead : Option AnswerFile
  pub mid : ShelfMoment
  pub wrote : WroteAhead ahead before.shelf mid
  pub lacks : LacksMemory (with_shelf before mid) after status

lacking_at_once : (before after : Moment) (status : Status) → LacksMemory before after status → Lacking before after status
lacking_at_once before after status lacks = record { ahead = None; mid = before.shelf; wrote = refl; lacks = lacks }

lacking_behind : (ahead : Option AnswerFile) (question : Question) (before after : Moment) (status : Status) → IsEndBehind ahead question before after status lacked → Lacking before after status
lacking_behind None question before after status lacks = lacking_at_once before after status lacks
lacking_behind (Some file) question before after status (inl lacks) = lacking_at_once before after status lacks
lacking_behind (Some file) question before after status (inr behind) = record { ahead = Some file; mid = behind.0; wrote = behind.1; lacks = behind.2 }

pub lacking : (task : Task) (files : Option Files) (before after : Moment) (status : Status)
    → LacksMemory before after status ⊎ ((question : Question) × Asks task files (Ok question) × Ends question before after status lacked) → Lacking before after status
lacking task files before after status (inl lacks) = lacking_at_once before after status lacks
lacking task files before after status (inr ended) = lacking_behind (ahead_of ended.0) ended.0 before after status ended.2

-- the end of what a task asked
pub answer_of : (task : Task) (files : Option Files) (before after : Moment) (status : Status) (end : End) → HasAnswer end
    → (asked : (question : Question) × Asks task files (Ok question) × Ends question before after status end) → Behind (ahead_of asked.0) asked.0 before after status end
answer_of task files before after status end has asked = behind (ahead_of asked.0) asked.0 before after status end has asked.2
