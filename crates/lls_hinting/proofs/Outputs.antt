-- What a file that wasn't written whole leaves.
use Rattle.std.proofs.Common.{◌≡◌, ◌≤◌, ℕ, List, length, take, Option, None, Some, refl, ap, ◌∙◌, inl, inr}
use Rattle.std.specs.FinMap as map
use Rattle.std.specs.Option.{option_map}
use Rattle.lls_base.specs.Shelf.{Contents, known_files}
use Rattle.lls_base.specs.Writing.{with_output, without_output}
use Rattle.lls_base.specs.declared.writing.FileFault.{FileFault}
use Rattle.lls_base.specs.declared.writing.FileFault.TheVariants as writes
use Rattle.lls_hinting.specs.Ends.{KeepsBut}

files_without : (told : Option Contents) → known_files (option_map without_output told) ≡ known_files told
files_without None = refl
files_without (Some c) = refl

pub files_with : (name bytes : List ℕ) (told : Option Contents)
    → known_files (option_map (with_output name bytes) told) ≡ option_map (λ files. map.insert files name bytes) (known_files told)
files_with name bytes None = refl
files_with name bytes (Some c) = refl

pub keeps_but : (fault : FileFault) (name bytes : List ℕ) (before after : Option Contents)
    → (fault ≡ writes.CreateFailed → after ≡ option_map without_output before)
    → (fault ≡ writes.WriteFailed → (n : ℕ) × (n ≤ length bytes) × (after ≡ option_map (with_output name (take n bytes)) before))
    → KeepsBut name (known_files before) (known_files after)
keeps_but writes.CreateFailed name bytes before after created written = inl (ap known_files (created refl) ∙ files_without before)
keeps_but writes.WriteFailed name bytes before after created written =
    let part = written refl in
    inr (take part.0 bytes, ap known_files part.2 ∙ files_with name (take part.0 bytes) before)
