-- What a shelf tells of its files after whole and partial writes.
use Rattle.std.proofs.Common.{◌≡◌, ℕ, ◌+◌, List, Option, Some, None, Ok, take, drop, refl, sym, ap, ◌∙◌}
use Rattle.std.specs.Option.{option_map}
use Rattle.std.proofs.Math.Seq.{take-add}
use Rattle.std.specs.FinMap as map
use Rattle.lls_base.specs.Shelf.{Contents, Files, after_write, known_files}
use Rattle.lls_base.specs.Writing.{with_output, without_output}
use Rattle.lls_base.proofs.FileMaps.{append_file-insert}

-- one write to the current output
pub after_write-with_output : (told : Option Contents) (name bytes : List ℕ) (n k : ℕ)
    → option_map (after_write (drop n bytes) (Ok k)) (option_map (with_output name (take n bytes)) told) ≡ option_map (with_output name (take (n + k) bytes)) told
after_write-with_output None name bytes n k = refl
after_write-with_output (Some c) name bytes n k =
    let renamed : Files → Option Contents = λ files. Some (record c { files = files; target = Some name }) in
    ap renamed (append_file-insert c.files name (take n bytes) (take k (drop n bytes)) ∙ ap (map.insert c.files name) (sym (take-add n k bytes)))

-- the first n bytes were written, and then k more
pub with_output-more : (before now after : Option Contents) (name bytes : List ℕ) (n k : ℕ) → now ≡ option_map (with_output name (take n bytes)) before
    → after ≡ option_map (after_write (drop n bytes) (Ok k)) now → after ≡ option_map (with_output name (take (n + k) bytes)) before
with_output-more before now after name bytes n k first next =
    next ∙ ap (option_map (after_write (drop n bytes) (Ok k))) first ∙ after_write-with_output before name bytes n k

-- the files after `write_file`
pub known_files-with_output : (told : Option Contents) (name bytes : List ℕ)
    → known_files (option_map (with_output name bytes) told) ≡ option_map (λ files. map.insert files name bytes) (known_files told)
known_files-with_output None name bytes = refl
known_files-with_output (Some c) name bytes = refl

pub known_files-without_output : (told : Option Contents) → known_files (option_map without_output told) ≡ known_files told
known_files-without_output None = refl
known_files-without_output (Some c) = refl
