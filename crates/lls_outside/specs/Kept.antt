-- What a shelf keeps between two moments.
use Rattle.std.specs.Prelude.{◌≡◌}
use Rattle.lls_base.specs.Shelf.{known_rest, known_target}
use Rattle.lls_outside.specs.Moment.{ShelfMoment, files_at}

-- the shelf's files and its current output are as before; what is left of an input may differ
pub record KeepsFiles (before after : ShelfMoment) : Type 0 where
  pub files : files_at after ≡ files_at before
  pub target : known_target after.told ≡ known_target before.told
  pub has_output : after.has_output ≡ before.has_output

-- the shelf's current input is as before, and as much of it is left
pub record KeepsInput (before after : ShelfMoment) : Type 0 where
  pub rest : known_rest after.told ≡ known_rest before.told
  pub has_input : after.has_input ≡ before.has_input
