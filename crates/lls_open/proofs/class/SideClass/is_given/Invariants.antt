use Rattle.std.proofs.Common.{◌≡◌, ℕ, ◌<◌, ◌&&◌, false}
use Rattle.lls_rule.specs.Rule.{answer}
use Rattle.lls_open.specs.Classes.{is_of}
use Rattle.lls_open.proofs.class.SideClass.is_given.Given as goal

-- those looked at aren't of the class, or the rule gives 0 there
abbrev pub invariant-loop-nine : goal.invariant-loop-nine
invariant-loop-nine l = (n : ℕ) → n < l.nine → (is_of l.self n && answer l.rule n) ≡ false
