-- Of the 51 classes, each of the 256 lists of eight neighbours is in one.
use Rattle.std.proofs.Common.{◌≡◌, ℕ, ◌<◌, ◌∙◌, ap, nat_eq, Bool, true, false, ◌&&◌, List, [], ◌∷◌, Option, Some, None, refl}
use Rattle.std.specs.Int.Count.{ones}
use Rattle.std.proofs.lemmas.Bool.{agree_below, agree_below_at, eqb-true, and_parts}
use Rattle.lls_hensel.specs.declared.class.Class.{Class}
use Rattle.lls_hensel.specs.Class.{classes_of, same_letter}
use Rattle.lls_hensel.specs.Neighbours.{eight_of}
use Rattle.lls_hensel.specs.Numbers.{class_by_number, letter_by_number, representative_by_number, representatives_of, representatives_of_fewer, images_by_number, fewer_of, turned, mirrored, flipped}

-- whether two classes have one count and one letter
unfoldable pub same_class : Class → Class → Bool
same_class a b = nat_eq a.count b.count && same_letter a.letter b.letter

-- whether a list has this class alone
is_only : Class → List Class → Bool
is_only class (first ∷ []) = same_class first class
is_only class _ = false

each_has_one : agree_below (λ n. is_only (class_by_number n) (classes_of (eight_of n))) (λ _. true) 256 ≡ true
unfolding is_only same_class classes_of class_by_number letter_by_number representative_by_number representatives_of representatives_of_fewer images_by_number fewer_of turned mirrored flipped ones
each_has_one = refl

pub letter_same : (a b : Option ℕ) → same_letter a b ≡ true → a ≡ b
letter_same None None h = refl
letter_same None (Some b) h = cc
letter_same (Some a) None h = cc
letter_same (Some a) (Some b) h = ap Some (eqb-true a b h)

pub class_same : (a b : Class) → same_class a b ≡ true → a ≡ b
unfolding same_class
class_same a b h =
    let parts = and_parts (nat_eq a.count b.count) (same_letter a.letter b.letter) h in
    ap (λ n. record { count = n; letter = a.letter }) (eqb-true a.count b.count parts.0) ∙
    ap (λ l. record { count = b.count; letter = l }) (letter_same a.letter b.letter parts.1)

only_is : (class : Class) (found : List Class) → is_only class found ≡ true → found ≡ class ∷ []
unfolding is_only
only_is class [] h = cc
only_is class (first ∷ []) h = ap (λ c. c ∷ []) (class_same first class h)
only_is class (first ∷ second ∷ rest) h = cc

-- eight neighbours are of the class that the code finds, and of no other
pub classes_of-class_by_number : (n : ℕ) → n < 256 → classes_of (eight_of n) ≡ class_by_number n ∷ []
classes_of-class_by_number n h =
    only_is (class_by_number n) (classes_of (eight_of n)) (agree_below_at (λ n. is_only (class_by_number n) (classes_of (eight_of n))) (λ _. true) 256 n each_has_one h)
