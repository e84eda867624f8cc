use Rattle.std.proofs.Common.{◌≡◌, ℕ, ◌/◌, bit_and, nat_eq, ◌&&◌, true, false, Option, Some, None, ◌∙◌, refl, sym, ap, arith}
use Rattle.std.proofs.Math.Bool.{beq}
use Rattle.std.specs.Option.{option_eq}
use Rattle.std.proofs.lemmas.Nat.{and_mask}
use Rattle.std.proofs.lemmas.Bool.{and_left}
use Rattle.std.proofs.lemmas.Bool.Decides.{nat_tests}
use Rattle.lls_rule.specs.Rule.{has_bit}
use Rattle.lls_hensel.specs.declared.class.Class.{Class}
use Rattle.lls_hensel.specs.Class.{same_letter}
use Rattle.lls_open.proofs.Told.{own_class, own_class-found, is_of-own_class}
use Rattle.lls_open.proofs.class.SideClass.contains.Goals as goal

is_live : (nine : ℕ) → nat_eq (bit_and (nine / 16) 1) 1 ≡ has_bit nine 4
is_live nine = ap (λ n. nat_eq n 1) (and_mask (nine / 16) 1)

either_way : (a b : ℕ) → nat_eq a b ≡ nat_eq b a
either_way a b = grind (arith, nat_tests)

same_letters : (a b : Option ℕ) → option_eq nat_eq a b ≡ same_letter b a
same_letters None None = refl
same_letters None (Some b) = refl
same_letters (Some a) None = refl
same_letters (Some a) (Some b) = either_way a b

pub returns-then-self-is_live : goal.returns-then-self-is_live
returns-then-self-is_live c =
    let own : own_class c.args.nine ≡ c.class_at.result = own_class-found c.args.nine c.class_at.result c.requires c.class_at.ensures in
    let class = c.args.self.class in
    let side : beq c.args.self.survival (has_bit c.args.nine 4) ≡ true = ap (beq c.args.self.survival) (sym (is_live c.args.nine)) ∙ c.if-self-is_live.true in
    c.eq.ensures
    ∙ ap (λ b. nat_eq class.count c.class_at.result.count && b) (same_letters class.letter c.class_at.result.letter)
    ∙ ap (λ (k : Class). nat_eq class.count k.count && same_letter k.letter class.letter) (sym own)
    ∙ ap (λ b. b && (nat_eq class.count (own_class c.args.nine).count && same_letter (own_class c.args.nine).letter class.letter)) (sym side)
    ∙ sym (is_of-own_class c.args.self c.args.nine c.requires)

pub returns-else-self-is_live : goal.returns-else-self-is_live
returns-else-self-is_live c =
    let side : beq c.args.self.survival (has_bit c.args.nine 4) ≡ false = ap (beq c.args.self.survival) (sym (is_live c.args.nine)) ∙ c.if-self-is_live.false in
    c.if-self-is_live.false ∙ sym (is_of-own_class c.args.self c.args.nine c.requires ∙ and_left _ _ side)
