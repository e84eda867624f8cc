-- The rule that entries say is isotropic.
use Rattle.std.proofs.Common.{◌≡◌, ℕ, ◌<◌, nat_eq, Bool, true, ◌&&◌, ◌||◌, List, [], ◌∷◌, Result, Ok, Err, IfOk, refl, ap, ◌∙◌, sym, subst}
use Rattle.std.specs.Int.Count.{ones}
use Rattle.std.specs.List.{list_any}
use Rattle.std.proofs.Math.Bool.{beq}
use Rattle.std.proofs.lemmas.Bool.{agree_below, agree_below_at, and_parts}
use Rattle.lls_rule.specs.Rule.{has_bit, table_of, around}
use Rattle.lls_rule.proofs.Tables.{answer-table_of}
use Rattle.lls_hensel.specs.declared.class.Class.{Class}
use Rattle.lls_hensel.specs.declared.read.RuleError.{RuleError}
use Rattle.lls_hensel.specs.Class.{is_of_class, same_letter}
use Rattle.lls_hensel.specs.Entries.{Entry, tells, next_of}
use Rattle.lls_hensel.specs.Isotropy.{IsIsotropic}
use Rattle.lls_hensel.specs.Neighbours.{eight_of, quarter_turn, mirror, are_images}
use Rattle.lls_hensel.specs.Numbers.{class_by_number, letter_by_number, representative_by_number, representatives_of, representatives_of_fewer, images_by_number, fewer_of, turned, mirrored, flipped}
use Rattle.lls_base.specs.Results.{and_then}
use Rattle.lls_hensel.proofs.Classes.{same_class, class_same}
use Rattle.lls_hensel.proofs.Images.{IsKept, quarter_turn-eight_of, mirror-eight_of, same_around}
use Rattle.lls_hensel.proofs.Tells.{is_of_class-eight_of}

classes_kept : agree_below (λ n. same_class (class_by_number (turned n)) (class_by_number n) && same_class (class_by_number (mirrored n)) (class_by_number n)) (λ _. true) 256 ≡ true
unfolding same_class class_by_number letter_by_number representative_by_number representatives_of representatives_of_fewer images_by_number fewer_of turned mirrored flipped ones
classes_kept = refl

class_told : (n : ℕ) → n < 256 → (class_by_number (turned n) ≡ class_by_number n) × (class_by_number (mirrored n) ≡ class_by_number n)
class_told n h =
    let parts = and_parts (same_class (class_by_number (turned n)) (class_by_number n)) (same_class (class_by_number (mirrored n)) (class_by_number n))
    (agree_below_at (λ n. same_class (class_by_number (turned n)) (class_by_number n) && same_class (class_by_number (mirrored n)) (class_by_number n)) (λ _. true) 256 n classes_kept h) in
    (class_same (class_by_number (turned n)) (class_by_number n) parts.0, class_same (class_by_number (mirrored n)) (class_by_number n) parts.1)

-- eight whose number has the class of another number are of the same classes as the other
is_of_class-same : (class : Class) (image : List Bool) (n number : ℕ) → n < 256 → number < 256 → image ≡ eight_of number → class_by_number number ≡ class_by_number n → is_of_class image class ≡ is_of_class (eight_of n) class
is_of_class-same class image n number h below is same =
    ap (λ eight. is_of_class eight class) is ∙ (is_of_class-eight_of number class below ∙
    (ap (λ own. nat_eq class.count own.count && same_letter own.letter class.letter) same ∙ sym (is_of_class-eight_of n class h)))

-- a turn and the mirror keep the classes that eight neighbours are of
class_kept : (class : Class) → IsKept (λ eight. is_of_class eight class)
class_kept class = record {
  by_turn = λ n h. let told = quarter_turn-eight_of n h in is_of_class-same class (quarter_turn (eight_of n)) n (turned n) h told.0 told.1 (class_told n h).0;
  by_mirror = λ n h. let told = mirror-eight_of n h in is_of_class-same class (mirror (eight_of n)) n (mirrored n) h told.0 told.1 (class_told n h).1;
}

-- an entry says the same of neighbourhoods with equal centres and one class
tells-image : (m n : ℕ) (entry : Entry) → m < 512 → has_bit m 4 ≡ has_bit n 4 → are_images (around m) (around n) ≡ true → tells m entry ≡ tells n entry
unfolding tells
tells-image m n entry below centres images =
    ap (λ centre. beq entry.survival centre && is_of_class (around m) entry.class) centres ∙
    ap (λ of. beq entry.survival (has_bit n 4) && of) (same_around (λ eight. is_of_class eight entry.class) m n (class_kept entry.class) below images)

-- entries say the same of them
next_of-image : (m n : ℕ) (entries : List Entry) → m < 512 → has_bit m 4 ≡ has_bit n 4 → are_images (around m) (around n) ≡ true → next_of entries m ≡ next_of entries n
unfolding next_of
next_of-image m n [] below centres images = refl
next_of-image m n (entry ∷ rest) below centres images =
    ap (λ told. told || list_any (tells m) rest) (tells-image m n entry below centres images) ∙
    ap (λ told. tells n entry || told) (next_of-image m n rest below centres images)

-- the rule that entries say is isotropic
pub IsIsotropic-table_of : (entries : List Entry) → IsIsotropic (table_of (next_of entries))
IsIsotropic-table_of entries m n below within centres images =
    answer-table_of (next_of entries) m below ∙ (next_of-image m n entries below centres images ∙ sym (answer-table_of (next_of entries) n within))

-- a rule that is read is isotropic
pub IsIsotropic-read : (result : Result (List Bool) RuleError) (read : Result (List Entry) RuleError) → result ≡ and_then read (λ entries. Ok (table_of (next_of entries))) → IfOk result IsIsotropic
IsIsotropic-read result (Ok entries) e = subst (λ r. IfOk r IsIsotropic) (sym e) (IsIsotropic-table_of entries)
IsIsotropic-read result (Err fault) e = subst (λ r. IfOk r IsIsotropic) (sym e) tt
