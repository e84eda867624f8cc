use Rattle.std.proofs.Common.{◌≡◌}
use Rattle.lls_gen.specs.Numbers.{nth, numbers}
use Rattle.lls_gen.proofs.numbers.numbers.Given as goal

abbrev pub invariant-drawn : goal.invariant-drawn
invariant-drawn l = record {
  so_far : l.numbers.items ≡ numbers l.seed l.counter;
  last : l.last ≡ nth l.seed l.counter;
}
