use Rattle.std.proofs.Common.{◌≡◌, map, drop}
use Rattle.lls_words.specs.Job.{gathered, defaults, AreSettled}
use Rattle.lls_words.specs.Seen.{seen_given}
use Rattle.lls_words.proofs.settings.gather.Given as goal

-- what the options left make of the settings is what all make
abbrev pub invariant-loop-given : goal.invariant-loop-given
invariant-loop-given l = record {
  settings : gathered l.settings (map seen_given (drop l.given-index l.givens)) ≡ gathered defaults (map seen_given l.givens);
  allowed : AreSettled l.settings;
}
