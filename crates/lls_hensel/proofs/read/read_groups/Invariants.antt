use Rattle.std.proofs.Common.{◌≡◌, ◌-◌, ◌≤◌, [], drop, length}
use Rattle.lls_hensel.specs.Reading.{before_digit}
use Rattle.lls_hensel.specs.Sides.{groups_at, table_read}
use Rattle.lls_hensel.proofs.read.read_groups.Given as goal

abbrev pub invariant-loop-at : goal.invariant-loop-at
invariant-loop-at l = record {
  within : l.at ≤ length l.side.bytes.now;
  whole : length l.both ≡ 512;
  at_digit : before_digit (drop l.at l.side.bytes.now) ≡ [];
  reads : table_read l.survival l.fn.rule (groups_at l.side.column l.side.bytes.now 0) ≡ table_read l.survival l.both (groups_at l.side.column l.side.bytes.now l.at);
}

abbrev pub decreases-loop-at : goal.decreases-loop-at
decreases-loop-at l = length l.side.bytes.now - l.at
