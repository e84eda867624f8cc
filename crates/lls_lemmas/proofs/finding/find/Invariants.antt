use Rattle.std.proofs.Common.{◌≡◌, ℕ, ◌+◌, ◌<◌, length, Some}
use Rattle.std.specs.Prelude.{option_map}
use Rattle.std.specs.Option.{unwrap_or}
use Rattle.lls_lemmas.specs.Finding.{HasLiterals}
use Rattle.lls_lemmas.specs.Indexed.{IsMet}
use Rattle.lls_lemmas.proofs.finding.find.Given as goal

abbrev pub invariant-loop-at : goal.invariant-loop-at
invariant-loop-at g l = record {
  met : (number : ℕ) → HasLiterals (g.S.Store.state l.store).live number l.lits → IsMet l.index.entries.items number l.at;
  within : (place : ℕ) → l.at ≡ Some place → place < length l.index.entries.items;
  vars : l.marks.vars ≡ l.initial.marks.vars;
}

abbrev pub decreases-loop-at : goal.decreases-loop-at
decreases-loop-at g l = unwrap_or (option_map (λ place. place + 1) l.at) 0
