-- The reasons before this place are renamed.
use Rattle.std.proofs.Common.{◌≡◌}
use Rattle.lls_store.proofs.Renaming.{renamed_front}
use Rattle.lls_watch.specs.Passed.{live_from}
use Rattle.lls_watch.proofs.compaction.rename_reasons.Given as goal

abbrev pub invariant-loop-k : goal.invariant-loop-k
invariant-loop-k l = l.trail ≡ renamed_front (live_from 0 l.arena.heads) l.initial.trail l.k
