-- A neighbourhood is of the class of its centre and of its eight others, and of no other.
use Rattle.std.proofs.Common.{◌≡◌, ℕ, ◌<◌, nat_eq, ◌&&◌, [], ◌∷◌, ap, ◌∙◌, sym}
use Rattle.std.proofs.Math.Bool.{beq}
use Rattle.lls_rule.specs.Rule.{has_bit, around}
use Rattle.lls_hensel.specs.declared.class.Class.{Class}
use Rattle.lls_hensel.specs.Class.{classes_of, is_of_class, same_letter}
use Rattle.lls_hensel.specs.Entries.{tells}
use Rattle.lls_hensel.specs.Groups.{around_number}
use Rattle.lls_hensel.specs.Numbers.{class_by_number}
use Rattle.lls_hensel.proofs.Classes.{classes_of-class_by_number}
use Rattle.lls_hensel.proofs.Tells.{around_number-lt, around-eight_of, is_of_class-eight_of}
use Rattle.lls_open.specs.declared.class.SideClass.{SideClass}
use Rattle.lls_open.specs.Classes.{is_of}

-- the class of the eight others
abbrev pub own_class : ℕ → Class
own_class n = class_by_number (around_number n)

pub own_class-found : (n : ℕ) (class : Class) → n < 512 → classes_of (around n) ≡ class ∷ [] → own_class n ≡ class
own_class-found n class h found =
    let e = sym (classes_of-class_by_number (around_number n) (around_number-lt n h)) ∙ ap classes_of (sym (around-eight_of n h)) ∙ found in cc

pub is_of-own_class : (class : SideClass) (n : ℕ) → n < 512
    → is_of class n ≡ (beq class.survival (has_bit n 4) && (nat_eq class.class.count (own_class n).count && same_letter (own_class n).letter class.class.letter))
unfolding tells
is_of-own_class class n h =
    ap (λ eight. beq class.survival (has_bit n 4) && is_of_class eight class.class) (around-eight_of n h)
    ∙ ap (λ b. beq class.survival (has_bit n 4) && b) (is_of_class-eight_of (around_number n) class.class (around_number-lt n h))
