-- For private contracts alone: the outside as one value.
use Rattle.std.specs.Prelude.{◌≡◌}
use Rattle.lls_base.specs.declared.shelf.Shelf as shelves
use Rattle.lls_base.specs.declared.sink.Sink as sinks
use Rattle.lls_outside.specs.declared.outside.Outside.{Outside}
use Rattle.lls_outside.specs.Moment.{Moment, moment_at}

-- what is seen of it, by what the traits of its three show
abbrev pub moment_of : {S O E : Type 0} → shelves.Ghosts S → sinks.Ghosts O → sinks.Ghosts E → Outside S O E → Moment
moment_of by_shelf by_out by_err outside = moment_at by_shelf by_out by_err outside.shelf.now outside.out.now outside.err.now

-- it borrows the same shelf and the same sinks
pub record BorrowsSame {S O E : Type 0} (before after : Outside S O E) : Type 0 where
  pub shelf : after.shelf.ghost_name ≡ before.shelf.ghost_name
  pub out : after.out.ghost_name ≡ before.out.ghost_name
  pub err : after.err.ghost_name ≡ before.err.ghost_name
