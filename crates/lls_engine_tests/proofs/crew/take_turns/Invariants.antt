use Rattle.std.specs.Prelude.{◌<◌, length}
use Rattle.lls_engine_tests.proofs.crew.take_turns.Given as goal

abbrev pub invariant-loop : goal.invariant-loop
invariant-loop g l = l.k < length l.crew.held
