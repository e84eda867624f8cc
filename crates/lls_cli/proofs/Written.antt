-- The file of an answer that wasn't written.
use Rattle.std.proofs.Common.{◌≡◌, ◌≤◌, ℕ, List, length, take, Option, None, Some, refl, ap, ◌∙◌}
use Rattle.std.specs.Option.{option_map}
use Rattle.std.specs.FinMap as map
use Rattle.lls_base.specs.Faults.{Counts, Rose}
use Rattle.lls_base.specs.Shelf.{Contents, known_rest}
use Rattle.lls_base.specs.Writing.{with_output, without_output}
use Rattle.lls_base.specs.declared.writing.FileFault.{FileFault}
use Rattle.lls_base.specs.declared.writing.FileFault.TheVariants as writes
use Rattle.lls_answers.specs.declared.answer_file.AnswerFile.{AnswerFile}
use Rattle.lls_outside.specs.Moment.{ShelfMoment}
use Rattle.lls_outside.specs.Kept.{KeepsInput}
use Rattle.lls_cli.specs.Steps.{Unwritten, file_fault}

-- the files where an output was given up, and where it has these bytes
files_at-without_output : (told : Option Contents) → option_map (λ c. c.files) (option_map without_output told) ≡ option_map (λ c. c.files) told
files_at-without_output None = refl
files_at-without_output (Some c) = refl

files_at-with_output : (name bytes : List ℕ) (told : Option Contents)
    → option_map (λ c. c.files) (option_map (with_output name bytes) told) ≡ option_map (λ files. map.insert files name bytes) (option_map (λ c. c.files) told)
files_at-with_output name bytes None = refl
files_at-with_output name bytes (Some c) = refl

pub unwritten : (fault : FileFault) (file : AnswerFile) (before after : ShelfMoment)
    → (fault ≡ writes.CreateFailed → after.told ≡ option_map without_output before.told)
    → (fault ≡ writes.WriteFailed → (n : ℕ) × (n ≤ length file.bytes) × (after.told ≡ option_map (with_output file.name (take n file.bytes)) before.told))
    → Counts before.faults after.faults → Rose before.faults after.faults → Unwritten (Some file) (file_fault fault) before after
unwritten writes.CreateFailed file before after created written counts rose = record {
  file_is = (file, refl, ap (option_map (λ c. c.files)) (created refl) ∙ files_at-without_output before.told);
  counts = counts;
  rose = rose;
}
unwritten writes.WriteFailed file before after created written counts rose =
    let part = written refl in
    record {
      file_is = (file, refl, (part.0, part.1, ap (option_map (λ c. c.files)) part.2 ∙ files_at-with_output file.name (take part.0 file.bytes) before.told));
      counts = counts;
      rose = rose;
    }

-- what is left of the input is the same there
rest-without_output : (told : Option Contents) → known_rest (option_map without_output told) ≡ known_rest told
rest-without_output None = refl
rest-without_output (Some c) = refl

rest-with_output : (name bytes : List ℕ) (told : Option Contents) → known_rest (option_map (with_output name bytes) told) ≡ known_rest told
rest-with_output name bytes None = refl
rest-with_output name bytes (Some c) = refl

pub input_behind_file : (name bytes : List ℕ) (before after : ShelfMoment) → after.told ≡ option_map (with_output name bytes) before.told → after.has_input ≡ before.has_input
    → KeepsInput before after
input_behind_file name bytes before after told input = record { rest = ap known_rest told ∙ rest-with_output name bytes before.told; has_input = input }

pub input_behind_fault : (fault : FileFault) (name bytes : List ℕ) (before after : ShelfMoment)
    → (fault ≡ writes.CreateFailed → after.told ≡ option_map without_output before.told)
    → (fault ≡ writes.WriteFailed → (n : ℕ) × (n ≤ length bytes) × (after.told ≡ option_map (with_output name (take n bytes)) before.told))
    → after.has_input ≡ before.has_input → KeepsInput before after
input_behind_fault writes.CreateFailed name bytes before after created written input =
    record { rest = ap known_rest (created refl) ∙ rest-without_output before.told; has_input = input }
input_behind_fault writes.WriteFailed name bytes before after created written input =
    let part = written refl in input_behind_file name (take part.0 bytes) before after part.2 input
