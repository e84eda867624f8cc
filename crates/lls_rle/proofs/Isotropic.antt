-- What is answered for a rule that isn't isotropic.
use Rattle.std.proofs.Common.{◌≡◌, ℕ, Some, Ok, Err, sym, ap, ◌∙◌}
use Rattle.std.specs.Prelude.{Option, Result, IsErrOf, ◌↔◌}
use Rattle.lls_hensel.specs.declared.print.PrintRuleError.{PrintRuleError}
use Rattle.lls_hensel.specs.declared.print.PrintRuleError.TheVariants.{NotIsotropic, Memory}

-- an answer says exactly of a rule with a neighbourhood at fault that it has one
abbrev pub TellsFault : {T : Type 0} → Result T PrintRuleError → Option ℕ → Type 0
TellsFault answer uneven = (nine : ℕ) → IsErrOf answer (NotIsotropic nine) ↔ (uneven ≡ Some nine)

pub fault_handed_on : {T U : Type 0} (first : Result T PrintRuleError) (answer : Result U PrintRuleError) (uneven : Option ℕ) (fault : PrintRuleError)
    → TellsFault first uneven → first ≡ Err fault → answer ≡ Err fault → TellsFault answer uneven
fault_handed_on first answer uneven fault tells is answered = λ nine. (
  (λ h. (tells nine).0 (is ∙ ap Err (same fault (NotIsotropic nine) (sym answered ∙ h)))),
  (λ h. answered ∙ ap Err (same fault (NotIsotropic nine) (sym is ∙ (tells nine).1 h))),
) where
  same : {V : Type 0} (a b : PrintRuleError) → ◌≡◌ {A = Result V PrintRuleError} (Err a) (Err b) → a ≡ b
  same a b e = cc

pub none_at_fault : {T U : Type 0} (first : Result T PrintRuleError) (value : T) (answer : Result U PrintRuleError) (uneven : Option ℕ)
    → TellsFault first uneven → first ≡ Ok value → ((nine : ℕ) → IsErrOf answer (NotIsotropic nine) → ⊥) → TellsFault answer uneven
none_at_fault first value answer uneven tells is other = λ nine. ((λ h. absurd (other nine h)), (λ h. absurd (apart value (NotIsotropic nine) (sym is ∙ (tells nine).1 h)))) where
  apart : {V : Type 0} (v : V) (e : PrintRuleError) → ◌≡◌ {A = Result V PrintRuleError} (Ok v) (Err e) → ⊥
  apart v e h = cc

pub memory_apart : {T : Type 0} (answer : Result T PrintRuleError) → answer ≡ Err Memory → (nine : ℕ) → IsErrOf answer (NotIsotropic nine) → ⊥
memory_apart answer is nine h = apart nine (sym is ∙ h) where
  apart : {V : Type 0} (n : ℕ) → ◌≡◌ {A = Result V PrintRuleError} (Err Memory) (Err (NotIsotropic n)) → ⊥
  apart n e = cc
