use Rattle.std.proofs.Common.{◌≡◌, ℕ, ◌<◌, ◌≤◌, ◌||◌, length}
use Rattle.lls_rule.specs.Rule.{answer}
use Rattle.lls_hensel.specs.Entries.{next_of, entries_of_group}
use Rattle.lls_hensel.specs.Groups.{seen_group}
use Rattle.lls_hensel.proofs.group.Group.beside.Given as goal

abbrev pub invariant-loop-nine : goal.invariant-loop-nine
invariant-loop-nine l = record {
  whole : length l.both ≡ 512;
  done : (n : ℕ) → n < l.nine → answer l.both n ≡ (answer l.fn.rule n || next_of (entries_of_group l.survival (seen_group l.self)) n);
  left : (n : ℕ) → l.nine ≤ n → answer l.both n ≡ answer l.fn.rule n;
}
