-- What a shelf tells, and what each of its calls does to that.
use Rattle.std.specs.Prelude.{◌≡◌, ◌<◌, ◌≤◌, ℕ, Bool, List, [], ◌++◌, length, take, drop, Option, None, Some, Result, Ok, Err, IsSome, IsNone, is_some, unwrap_or, option_and_then}
use Rattle.std.specs.Ordering.{nat_cmp}
use Rattle.std.specs.Option.{option_map}
use Rattle.std.specs.Cmp.Lexicographic.{slice_cmp}
use Rattle.std.specs.FinMap as map
use Rattle.lls_base.specs.declared.sink.Failed.{Failed}
use Rattle.lls_base.specs.declared.shelf.OpenFault.{OpenFault}
use Rattle.lls_base.specs.declared.shelf.OpenFault.TheVariants as fault

-- bytes by name, a name being the bytes of its text
abbrev pub Files : Type 0
Files = map.FinMap (slice_cmp nat_cmp) (List ℕ)

-- the files, what is left of the current input, and the name of the current output
pub record Contents : Type 0 where
  pub files : Files
  pub rest : Option (List ℕ)
  pub target : Option (List ℕ)

-- the bytes of a file are what is left of the input; after a refusal there is no input
abbrev pub after_open : List ℕ → Result (Unit {0}) OpenFault → Contents → Contents
after_open name (Ok done) c = record c { rest = map.get c.files name }
after_open name (Err e) c = record c { rest = None }

-- the file isn't there exactly where the answer says so, failures aside
abbrev pub OpensAsTold : List ℕ → Result (Unit {0}) OpenFault → Contents → Type 0
OpensAsTold name (Ok done) c = IsSome (map.get c.files name)
OpensAsTold name (Err fault.Absent) c = IsNone (map.get c.files name)
OpensAsTold name (Err fault.Failed) c = Unit {0}

-- n bytes of the input were taken
abbrev pub after_read : Result ℕ Failed → Contents → Contents
after_read (Ok n) c = record c { rest = option_map (drop n) c.rest }
after_read (Err e) c = c

-- the first n bytes that are left stand in the front of the buffer, and n is 0 only at the end or with no room
pub record ReadsFront (n : ℕ) (rest buffer : List ℕ) : Type 0 where
  pub no_more : n ≤ length rest
  pub front : take n buffer ≡ take n rest
  pub end : n ≡ 0 → 0 < length buffer → rest ≡ []

-- the name stands for no bytes and is the current output; after a refusal there is no output
abbrev pub after_create : List ℕ → Result (Unit {0}) Failed → Contents → Contents
after_create name (Ok done) c = record c { files = map.insert c.files name []; target = Some name }
after_create name (Err e) c = record c { target = None }

-- the bytes of a file, none where it isn't there
abbrev pub bytes_of : Files → List ℕ → List ℕ
bytes_of files name = unwrap_or (map.get files name) []

-- these bytes at the end of a file
abbrev pub append_file : Files → List ℕ → List ℕ → Files
append_file files name bytes = map.insert files name (bytes_of files name ++ bytes)

-- the bytes that were taken stand at the end of the current output
abbrev pub after_write : List ℕ → Result ℕ Failed → Contents → Contents
after_write piece (Ok n) c = record c { files = unwrap_or (option_map (λ name. append_file c.files name (take n piece)) c.target) c.files }
after_write piece (Err e) c = c

-- whether there is an input and an output is what is told
pub record Agrees (has_input has_output : Bool) (c : Contents) : Type 0 where
  pub input : is_some c.rest ≡ has_input
  pub output : is_some c.target ≡ has_output

-- the files, where the shelf tells them
abbrev pub known_files : Option Contents → Option Files
known_files told = option_map (λ c. c.files) told

-- the output's name, where the shelf tells it
abbrev pub known_target : Option Contents → Option (Option (List ℕ))
known_target told = option_map (λ c. c.target) told

-- what is left of the input, where there is one and the shelf tells it
abbrev pub known_rest : Option Contents → Option (List ℕ)
known_rest told = option_and_then (λ c. c.rest) told
