-- What a whole write of a file leaves.
use Rattle.std.specs.Prelude.{Bool, true, false, List, ℕ, None, Some, Result, Ok, Err, codes}
use Rattle.std.specs.FinMap as map
use Rattle.lls_base.specs.declared.writing.FileFault.{FileFault}
use Rattle.lls_base.specs.declared.writing.FileFault.TheVariants as fault
use Rattle.lls_base.specs.Shelf.{Contents}

-- whether the file was made
abbrev pub was_created : Result (Unit {0}) FileFault → Bool
was_created (Ok done) = true
was_created (Err fault.CreateFailed) = false
was_created (Err fault.WriteFailed) = true

-- the name stands for these bytes and is the current output
abbrev pub with_output : List ℕ → List ℕ → Contents → Contents
with_output name bytes c = record c { files = map.insert c.files name bytes; target = Some name }

-- there is no current output
abbrev pub without_output : Contents → Contents
without_output c = record c { target = None }

-- the name of an answer
abbrev pub file_fault_text : FileFault → List ℕ
file_fault_text fault.CreateFailed = codes "CreateFailed"
file_fault_text fault.WriteFailed = codes "WriteFailed"
