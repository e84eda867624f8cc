-- An isotropic rule gives one answer at all neighbourhoods of a class.
use Rattle.std.proofs.Common.{◌≡◌, ℕ, ◌<◌, Bool, true, false, ◌&&◌, List, refl, ap, ◌∙◌, sym}
use Rattle.std.specs.Prelude.{filter}
use Rattle.std.specs.Int.Count.{ones}
use Rattle.std.specs.Cmp.Lexicographic.{pointwise}
use Rattle.std.proofs.Math.Bool.{beq}
use Rattle.std.proofs.lemmas.Bool.{agree_below, agree_below_at, and_parts, eqb-true}
use Rattle.lls_rule.specs.Rule.{answer, has_bit, around}
use Rattle.lls_hensel.specs.declared.class.Class.{Class}
use Rattle.lls_hensel.specs.Class.{pictures, same_letter}
use Rattle.lls_hensel.specs.Isotropy.{IsIsotropic}
use Rattle.lls_hensel.specs.Groups.{around_number}
use Rattle.lls_hensel.specs.Neighbours.{eight_of}
use Rattle.lls_hensel.specs.Numbers.{class_by_number, letter_by_number, representative_by_number, representatives_of, representatives_of_fewer, images_by_number, fewer_of, turned, mirrored, flipped}
use Rattle.lls_hensel.specs.Printing.{number_with, first_eight, representative_eight, representative_nine}
use Rattle.lls_hensel.proofs.Classes.{letter_same}
use Rattle.lls_hensel.proofs.Images.{same_eight}
use Rattle.lls_hensel.proofs.Isotropy.{uneven-IsIsotropic}
use Rattle.lls_hensel.proofs.RoundTrip.{isotropic}
use Rattle.lls_hensel.proofs.Tells.{around_number-lt, around-eight_of}
use Rattle.lls_open.specs.declared.class.SideClass.{SideClass}
use Rattle.lls_open.specs.Classes.{is_of, gives}
use Rattle.lls_open.proofs.Giving.{gives-at, gives-none}
use Rattle.lls_open.proofs.Told.{own_class, is_of-own_class}

-- the eight that stand for a class
abbrev eight_of_class : Class → List Bool
eight_of_class class = first_eight (filter (λ p. same_letter p.letter class.letter) (pictures class.count))

by_class : agree_below (λ n. pointwise beq (representative_eight (eight_of n)) (eight_of_class (class_by_number n))) (λ _. true) 256 ≡ true
unfolding representative_eight class_by_number letter_by_number representative_by_number representatives_of representatives_of_fewer images_by_number fewer_of turned mirrored flipped ones
by_class = refl

eight-by_class : (n : ℕ) → n < 512 → representative_eight (around n) ≡ eight_of_class (own_class n)
eight-by_class n h =
    ap representative_eight (around-eight_of n h)
    ∙ same_eight _ _ (agree_below_at (λ n. pointwise beq (representative_eight (eight_of n)) (eight_of_class (class_by_number n))) (λ _. true) 256 (around_number n) by_class (around_number-lt n h))

same_bits : (a b : Bool) → beq a b ≡ true → a ≡ b
same_bits true true e = refl
same_bits true false e = cc
same_bits false true e = cc
same_bits false false e = refl

-- the side and the class of a neighbourhood
pub is_of-parts : (class : SideClass) (n : ℕ) → n < 512 → is_of class n ≡ true → (class.survival ≡ has_bit n 4) × (own_class n ≡ class.class)
is_of-parts class n h of =
    let parts = and_parts _ _ (sym (is_of-own_class class n h) ∙ of) in
    let both = and_parts _ _ parts.1 in (
      same_bits _ _ parts.0,
      ap (λ k. record { count = k; letter = (own_class n).letter }) (sym (eqb-true _ _ both.0)) ∙ ap (λ l. record { count = class.class.count; letter = l }) (letter_same _ _ both.1),
    )

same_answer : (table : List Bool) (class : SideClass) (m n : ℕ) → IsIsotropic table → m < 512 → n < 512 → is_of class m ≡ true → is_of class n ≡ true → answer table m ≡ answer table n
unfolding representative_nine
same_answer table class m n even m_in n_in of_m of_n =
    let none = (uneven-IsIsotropic table).1 even in
    let one = is_of-parts class m m_in of_m in
    let other = is_of-parts class n n_in of_n in
    let eight : representative_eight (around m) ≡ representative_eight (around n) =
    eight-by_class m m_in ∙ ap eight_of_class (one.1 ∙ sym other.1) ∙ sym (eight-by_class n n_in) in
    isotropic table none m m_in
    ∙ ap (answer table) (ap (λ b. number_with b (representative_eight (around m))) (sym one.0 ∙ other.0) ∙ ap (number_with (has_bit n 4)) eight)
    ∙ sym (isotropic table none n n_in)

unless_of : (b c : Bool) → (b ≡ true → c ≡ false) → (b && c) ≡ false
unless_of true c e = e refl
unless_of false c e = refl

pub gives-answer : (table : List Bool) (class : SideClass) (n : ℕ) → IsIsotropic table → n < 512 → is_of class n ≡ true → gives table class ≡ answer table n
gives-answer table class n even h of =
    elim (answer table n) as (λ b. answer table n ≡ b → gives table class ≡ b) [
      | true ↦ λ given. gives-at table class n h of given
      | false ↦ λ given. gives-none table class (λ m m_in. unless_of (is_of class m) (answer table m) (λ of_m. same_answer table class m n even m_in h of_m of ∙ given))
    ] refl
