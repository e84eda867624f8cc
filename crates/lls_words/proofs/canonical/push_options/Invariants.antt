use Rattle.std.proofs.Common.{◌≡◌, ◌++◌, map, drop, string_bytes}
use Rattle.lls_words.specs.Canonical.{option_words}
use Rattle.lls_words.specs.Seen.{seen_given}
use Rattle.lls_words.proofs.canonical.push_options.Given as goal

-- the words so far with those of the options left are the first words with those of all
abbrev pub invariant-loop-setting : goal.invariant-loop-setting
invariant-loop-setting l =
    map string_bytes l.words.items ++ option_words (map seen_given l.givens) (drop l.setting-index l.settings)
    ≡ map string_bytes l.fn.words.items ++ option_words (map seen_given l.givens) l.settings
