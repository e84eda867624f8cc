-- The file of an answer, as it stands once it is written whole.
use Rattle.std.specs.Prelude.{◌≡◌, true, Option, None, Some}
use Rattle.std.specs.FinMap as map
use Rattle.std.specs.Option.{option_map}
use Rattle.lls_base.specs.Shelf.{Files, known_target}
use Rattle.lls_outside.specs.Moment.{ShelfMoment, files_at}
use Rattle.lls_answers.specs.declared.answer_file.AnswerFile.{AnswerFile}

-- the files with the one of an answer
abbrev pub with_file : Option AnswerFile → Files → Files
with_file None files = files
with_file (Some file) files = map.insert files file.name file.bytes

-- a file is the current output
abbrev pub IsCurrent : AnswerFile → ShelfMoment → Type 0
IsCurrent file after = (known_target after.told ≡ option_map (λ _. Some file.name) after.told) × (after.has_output ≡ true)

-- where an answer has no file, the current output is as before, and else it is that file
abbrev pub KeepsOutput : Option AnswerFile → ShelfMoment → ShelfMoment → Type 0
KeepsOutput None before after = (known_target after.told ≡ known_target before.told) × (after.has_output ≡ before.has_output)
KeepsOutput (Some file) before after = IsCurrent file after

-- the file of an answer stands whole, if it has one
pub record WroteFile (file : Option AnswerFile) (before after : ShelfMoment) : Type 0 where
  pub files : files_at after ≡ option_map (with_file file) (files_at before)
  pub output : KeepsOutput file before after
  pub faults : after.faults ≡ before.faults
