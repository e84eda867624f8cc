-- What a whole read of a file gives.
use Rattle.std.specs.Prelude.{◌≡◌, ◌≤◌, ℕ, Bool, true, false, List, ◌++◌, length, Result, Ok, Err, IsSome, codes, decimal}
use Rattle.std.specs.FinMap as map
use Rattle.lls_base.specs.declared.reading.ReadError.{ReadError}
use Rattle.lls_base.specs.declared.reading.ReadError.TheVariants as error
use Rattle.lls_base.specs.Shelf.{Files, bytes_of}

-- whether a file was opened for reading
abbrev pub was_opened : Result (Unit {0}) ReadError → Bool
was_opened (Ok done) = true
was_opened (Err error.OpenFailed) = false
was_opened (Err error.ReadFailed) = true
was_opened (Err (error.TooLong limit)) = true
was_opened (Err error.Memory) = true
was_opened (Err error.NoFile) = false

-- whether a call of the shelf failed
abbrev pub has_failed : Result (Unit {0}) ReadError → Bool
has_failed (Ok done) = false
has_failed (Err error.OpenFailed) = true
has_failed (Err error.ReadFailed) = true
has_failed (Err (error.TooLong limit)) = false
has_failed (Err error.Memory) = false
has_failed (Err error.NoFile) = false

-- the name of an answer and its number
abbrev pub read_error_text : ReadError → List ℕ
read_error_text error.OpenFailed = codes "OpenFailed"
read_error_text error.ReadFailed = codes "ReadFailed"
read_error_text (error.TooLong limit) = codes "TooLong " ++ decimal limit
read_error_text error.Memory = codes "Memory"
read_error_text error.NoFile = codes "NoFile"

-- a list grew by the bytes of a file, of at most `limit`
pub record GrewByFile (files : Files) (name : List ℕ) (limit : ℕ) (before after : List ℕ) : Type 0 where
  pub stands : IsSome (map.get files name)
  pub whole : after ≡ before ++ bytes_of files name
  pub fits : length (bytes_of files name) ≤ limit

-- a list grew by all that was left of an input, at most `limit` bytes
pub record GrewByAll (limit : ℕ) (before after rest : List ℕ) : Type 0 where
  pub whole : after ≡ before ++ rest
  pub fits : length rest ≤ limit
