-- What is seen of the outside at a moment of a run: at its entry, at its exit and between.
use Rattle.std.specs.Prelude.{ℕ, Bool, List, Option}
use Rattle.lls_base.specs.declared.shelf.Shelf as shelves
use Rattle.lls_base.specs.declared.sink.Sink as sinks
use Rattle.lls_base.specs.Shelf.{Contents, Files, known_files, known_rest}

-- what a shelf tells, whether it has a current input and a current output, and how often its calls have failed
pub record ShelfMoment : Type 0 where
  pub told : Option Contents
  pub has_input : Bool
  pub has_output : Bool
  pub faults : ℕ

-- the bytes that a sink has taken, where it tells them, and how often its calls have failed
pub record SinkMoment : Type 0 where
  pub written : Option (List ℕ)
  pub faults : ℕ

-- the shelf, the standard output and the standard error
pub record Moment : Type 0 where
  pub shelf : ShelfMoment
  pub out : SinkMoment
  pub err : SinkMoment

-- what a shelf shows, by what its trait shows of it
abbrev pub shelf_at : {S : Type 0} → shelves.Ghosts S → S → ShelfMoment
shelf_at by shelf =
    record { told = by.told shelf; has_input = by.has_input shelf; has_output = by.has_output shelf; faults = by.faults shelf }

-- and a sink
abbrev pub sink_at : {O : Type 0} → sinks.Ghosts O → O → SinkMoment
sink_at by sink = record { written = by.written sink; faults = by.faults sink }

abbrev pub moment : ShelfMoment → SinkMoment → SinkMoment → Moment
moment shelf out err = record { shelf = shelf; out = out; err = err }

-- a moment with another shelf
abbrev pub with_shelf : Moment → ShelfMoment → Moment
with_shelf before shelf = moment shelf before.out before.err

-- the files, where the shelf tells them
abbrev pub files_at : ShelfMoment → Option Files
files_at shelf = known_files shelf.told

-- what is left of the input, where there is one and the shelf tells it
abbrev pub rest_at : ShelfMoment → Option (List ℕ)
rest_at shelf = known_rest shelf.told

-- the files that a shelf tells
abbrev pub files_of : {S : Type 0} → shelves.Ghosts S → S → Option Files
files_of by shelf = known_files (by.told shelf)

-- the outside, by what the traits of its three show
abbrev pub moment_at : {S O E : Type 0} → shelves.Ghosts S → sinks.Ghosts O → sinks.Ghosts E → S → O → E → Moment
moment_at by_shelf by_out by_err shelf out err = moment (shelf_at by_shelf shelf) (sink_at by_out out) (sink_at by_err err)
