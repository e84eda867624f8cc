-- A refusal of a task's inputs.
use Rattle.std.proofs.Common.{Option, Err}
use Rattle.lls_base.specs.Shelf.{Files}
use Rattle.lls_cli.specs.declared.task.Task.{Task}
use Rattle.lls_cli.specs.declared.fault.Fault.{Fault}
use Rattle.lls_cli.specs.Question.{Asks}
use Rattle.lls_outside.specs.Moment.{ShelfMoment}
use Rattle.lls_cli.specs.Steps.{Reads, ComesTo}

-- a refusal of the inputs is what they come to
pub comes_refused : (task : Task) (files : Option Files) (fault : Fault) (before after : ShelfMoment) → Reads (Asks task files) (Err fault) before after → Reads (ComesTo task files) (Err fault) before after
comes_refused task files fault before after read = record { kept = read.kept; counts = read.counts; ok = tt; err = read.err }
