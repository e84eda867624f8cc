-- Which files stand after an answer's file was written.
use Rattle.std.proofs.Common.{◌≡◌, Option, None, Some, refl, ap, ◌∙◌}
use Rattle.std.specs.FinMap as map
use Rattle.std.specs.Option.{option_map}
use Rattle.lls_base.specs.Shelf.{Files}
use Rattle.lls_outside.specs.Moment.{ShelfMoment, files_at}
use Rattle.lls_answers.specs.declared.answer_file.AnswerFile.{AnswerFile}
use Rattle.lls_answers.specs.Standing.{WroteFile, with_file}

pub option_map-none : (files : Option Files) → option_map (with_file None) files ≡ files
option_map-none None = refl
option_map-none (Some files) = refl

pub wrote_none : (file : Option AnswerFile) (before after : ShelfMoment) → file ≡ None → WroteFile file before after → files_at after ≡ files_at before
wrote_none file before after none wrote = wrote.files ∙ ap (λ f. option_map (with_file f) (files_at before)) none ∙ option_map-none (files_at before)

pub wrote_some : (file : Option AnswerFile) (some : AnswerFile) (before after : ShelfMoment) → file ≡ Some some → WroteFile file before after
    → files_at after ≡ option_map (λ files. map.insert files some.name some.bytes) (files_at before)
wrote_some file some before after is wrote = wrote.files ∙ ap (λ f. option_map (with_file f) (files_at before)) is
