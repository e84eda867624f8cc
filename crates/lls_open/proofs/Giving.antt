-- What a rule gives at a class.
use Rattle.std.proofs.Common.{◌≡◌, ℕ, ◌<◌, Bool, true, false, ◌&&◌, List, arith}
use Rattle.std.proofs.lemmas.Bool.{and_from}
use Rattle.lls_rule.specs.Rule.{answer}
use Rattle.lls_open.specs.declared.class.SideClass.{SideClass}
use Rattle.lls_open.specs.Classes.{is_of, gives}
use Rattle.lls_open.proofs.Ranges.{any_none, any_at}

pub gives-at : (rule : List Bool) (class : SideClass) (n : ℕ) → n < 512 → is_of class n ≡ true → answer rule n ≡ true → gives rule class ≡ true
unfolding gives
gives-at rule class n h of given = any_at (λ nine. is_of class nine && answer rule nine) 0 512 n (omega arith) (omega (arith, h)) (and_from _ _ of given)

pub gives-none : (rule : List Bool) (class : SideClass) → ((n : ℕ) → n < 512 → (is_of class n && answer rule n) ≡ false) → gives rule class ≡ false
unfolding gives
gives-none rule class none = any_none (λ nine. is_of class nine && answer rule nine) 0 512 (λ k low high. none k (omega (arith, high)))
