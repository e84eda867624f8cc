-- What a group says of a neighbourhood, by the class of the eight round its centre.
use Rattle.std.proofs.Common.{◌≡◌, ℕ, bit_and, ◌<◌, ◌≤◌, ◌∙◌, sym, ap, inl, inr, nat_eq, nat_le, nat_lt, Bool, true, false, cond, not, ◌&&◌, ◌||◌, List, [], ◌∷◌, map, filter, Option, refl, arith, subst}
use Rattle.std.specs.Int.Count.{ones}
use Rattle.std.specs.List.{list_any}
use Rattle.std.specs.Cmp.Lexicographic.{pointwise}
use Rattle.std.specs.Cmp.{booleans_Decides}
use Rattle.std.proofs.Math.Bool.{beq}
use Rattle.std.proofs.lemmas.Bool.{agree_below, agree_below_at, and_parts}
use Rattle.std.proofs.Math.Bool.{or-false, and-true}
use Rattle.std.proofs.lemmas.Bool.{leb-true, ltb-true, lt-leb, ne_eqb, and_left}
use Rattle.std.proofs.lemmas.Bool.Decides.{leb_tells, eqb_tells}
use Rattle.std.proofs.lemmas.Map.Views.{any-filter_same}
use Rattle.std.proofs.lemmas.Slice.Eq.{slice_eq-Decides}
use Rattle.lls_rule.specs.Rule.{has_bit, around}
use Rattle.lls_hensel.specs.declared.class.Class.{Class}
use Rattle.lls_rule.proofs.Counts.{centre_test}
use Rattle.lls_hensel.proofs.Classes.{letter_same, classes_of-class_by_number}
use Rattle.lls_hensel.specs.Class.{classes_of, pictures, same_letter, is_of_class}
use Rattle.lls_hensel.specs.Neighbours.{eight_of, are_images}
use Rattle.lls_hensel.specs.Numbers.{class_by_number, letter_by_number, representative_by_number, representatives_of, representatives_of_fewer, images_by_number, fewer_of, turned, mirrored, flipped}
use Rattle.lls_hensel.specs.Entries.{Entry, Group, tells, next_of, letters_of, stands_for, entries_of_group}
use Rattle.lls_hensel.specs.Groups.{around_number}

-- the letters of a count whose classes eight neighbours are of
letters_found : ℕ → List Bool → List (Option ℕ)
letters_found count eight = map (λ p. p.letter) (filter (λ p. are_images p.eight eight) (pictures count))

-- the letter of a class, where the count is its count
letter_at_count : Class → ℕ → List (Option ℕ)
letter_at_count class count = cond (nat_eq count class.count) (class.letter ∷ []) []

found_at_each : agree_below (λ n. agree_below (λ count. pointwise same_letter (letters_found count (eight_of n)) (letter_at_count (class_by_number n) count)) (λ _. true) 9) (λ _. true) 256 ≡ true
unfolding letters_found letter_at_count class_by_number letter_by_number representative_by_number representatives_of representatives_of_fewer images_by_number fewer_of turned mirrored flipped ones
found_at_each = refl

letters_are_counts : agree_below (λ n. nat_le (class_by_number n).count 8 && list_any (same_letter (class_by_number n).letter) (letters_of (class_by_number n).count)) (λ _. true) 256 ≡ true
unfolding class_by_number letter_by_number representative_by_number representatives_of representatives_of_fewer images_by_number fewer_of turned mirrored flipped ones
letters_are_counts = refl

around_as_number : agree_below (λ n. nat_lt (around_number n) 256 && pointwise beq (around n) (eight_of (around_number n))) (λ _. true) 512 ≡ true
unfolding around_number
around_as_number = refl

letters_same : (xs ys : List (Option ℕ)) → pointwise same_letter xs ys ≡ true → xs ≡ ys
letters_same [] [] h = refl
letters_same [] (y ∷ ys) h = cc
letters_same (x ∷ xs) [] h = cc
letters_same (x ∷ xs) (y ∷ ys) h =
    let parts = and_parts (same_letter x y) (pointwise same_letter xs ys) h in
    ap (λ l. l ∷ xs) (letter_same x y parts.0) ∙ ap (λ ls. y ∷ ls) (letters_same xs ys parts.1)

-- at each count the class's own letter is found, and no letter at another
letters_found-eight_of : (n count : ℕ) → n < 256 → count < 9 → letters_found count (eight_of n) ≡ letter_at_count (class_by_number n) count
letters_found-eight_of n count h g =
    letters_same (letters_found count (eight_of n)) (letter_at_count (class_by_number n) count)
    (agree_below_at (λ count. pointwise same_letter (letters_found count (eight_of n)) (letter_at_count (class_by_number n) count)) (λ _. true) 9 count
    (agree_below_at (λ n. agree_below (λ count. pointwise same_letter (letters_found count (eight_of n)) (letter_at_count (class_by_number n) count)) (λ _. true) 9) (λ _. true) 256 n found_at_each h) g)

pub counts-le : (n : ℕ) → n < 256 → (class_by_number n).count ≤ 8
counts-le n h = leb-true (class_by_number n).count 8 (and_parts _ _ (agree_below_at (λ n. nat_le (class_by_number n).count 8 && list_any (same_letter (class_by_number n).letter) (letters_of (class_by_number n).count)) (λ _. true) 256 n letters_are_counts h)).0

own_letter : (n : ℕ) → n < 256 → list_any (same_letter (class_by_number n).letter) (letters_of (class_by_number n).count) ≡ true
own_letter n h = (and_parts (nat_le (class_by_number n).count 8) _ (agree_below_at (λ n. nat_le (class_by_number n).count 8 && list_any (same_letter (class_by_number n).letter) (letters_of (class_by_number n).count)) (λ _. true) 256 n letters_are_counts h)).1

any_filtered : {X L : Type 0} (keep : X → Bool) (f : X → L) (test : L → Bool) (xs : List X) → list_any (λ x. keep x && test (f x)) xs ≡ list_any test (map f (filter keep xs))
any_filtered keep f test [] = refl
any_filtered keep f test (x ∷ xs) =
    let more = any_filtered keep f test xs in
    elim (keep x) as (λ b. ((b && test (f x)) || list_any (λ x. keep x && test (f x)) xs) ≡ list_any test (map f (cond b (x ∷ filter keep xs) (filter keep xs)))) [
      | true ↦ ap (λ r. test (f x) || r) more
      | false ↦ more
    ]

at_count : (count own : ℕ) (letter other : Option ℕ) → list_any (λ l. same_letter l other) (cond (nat_eq count own) (letter ∷ []) []) ≡ (nat_eq count own && same_letter letter other)
at_count count own letter other =
    elim (nat_eq count own) as (λ b. list_any (λ l. same_letter l other) (cond b (letter ∷ []) []) ≡ (b && same_letter letter other)) [
      | true ↦ or-false (same_letter letter other)
      | false ↦ refl
    ]

pub pictures_none : (count : ℕ) → 8 < count → pictures count ≡ []
pictures_none count h = rw (lt-leb count 4 (omega arith), lt-leb count 8 h) refl

found_by_letter : (n : ℕ) (class : Class) → n < 256 → list_any (λ l. same_letter l class.letter) (letters_found class.count (eight_of n)) ≡ (nat_eq class.count (class_by_number n).count && same_letter (class_by_number n).letter class.letter)
unfolding letters_found letter_at_count
found_by_letter n class h =
    elim (leb_tells class.count 8) [
      | inl t ↦ ap (list_any (λ l. same_letter l class.letter)) (letters_found-eight_of n class.count h (omega (arith, t.1))) ∙ at_count class.count (class_by_number n).count (class_by_number n).letter class.letter
      | inr t ↦ ap (λ ps. list_any (λ l. same_letter l class.letter) (map (λ p. p.letter) (filter (λ p. are_images p.eight (eight_of n)) ps))) (pictures_none class.count t.1) ∙
          sym (and_left (nat_eq class.count (class_by_number n).count) _ (ne_eqb class.count (class_by_number n).count (λ e. absurd (omega (arith, counts-le n h, t.1)))))
    ]

-- eight neighbours are of a class where it is the class that the code finds
pub is_of_class-eight_of : (n : ℕ) (class : Class) → n < 256 → is_of_class (eight_of n) class ≡ (nat_eq class.count (class_by_number n).count && same_letter (class_by_number n).letter class.letter)
unfolding letters_found
is_of_class-eight_of n class h =
    any_filtered (λ p. are_images p.eight (eight_of n)) (λ p. p.letter) (λ l. same_letter l class.letter) (pictures class.count) ∙ found_by_letter n class h

around_told : (n : ℕ) → n < 512 → (nat_lt (around_number n) 256 ≡ true) × (pointwise beq (around n) (eight_of (around_number n)) ≡ true)
around_told n h =
    and_parts (nat_lt (around_number n) 256) (pointwise beq (around n) (eight_of (around_number n)))
    (agree_below_at (λ n. nat_lt (around_number n) 256 && pointwise beq (around n) (eight_of (around_number n))) (λ _. true) 512 n around_as_number h)

pub around_number-lt : (n : ℕ) → n < 512 → around_number n < 256
around_number-lt n h = ltb-true (around_number n) 256 (around_told n h).0

pub around-eight_of : (n : ℕ) → n < 512 → around n ≡ eight_of (around_number n)
around-eight_of n h = (slice_eq-Decides booleans_Decides (around n) (eight_of (around_number n)) true (sym (around_told n h).1)).0 refl

any_congr : {X : Type 0} (f g : X → Bool) → ((x : X) → f x ≡ g x) → (xs : List X) → list_any f xs ≡ list_any g xs
any_congr f g same [] = refl
any_congr f g same (x ∷ xs) = ap (λ b. b || list_any f xs) (same x) ∙ ap (λ b. g x || b) (any_congr f g same xs)

any_map : {X Y : Type 0} (test : Y → Bool) (f : X → Y) (xs : List X) → list_any test (map f xs) ≡ list_any (λ x. test (f x)) xs
any_map test f [] = refl
any_map test f (x ∷ xs) = ap (λ b. test (f x) || b) (any_map test f xs)

none : {X : Type 0} (xs : List X) → list_any (λ _. false) xs ≡ false
none [] = refl
none (x ∷ xs) = none xs

any_const : {X : Type 0} (b : Bool) (f : X → Bool) (xs : List X) → list_any (λ x. b && f x) xs ≡ (b && list_any f xs)
any_const b f xs = elim b as (λ v. list_any (λ x. v && f x) xs ≡ (v && list_any f xs)) [ true ↦ refl | false ↦ none xs ]

own_chosen : (group : Group) (n : ℕ) → n < 256 →
    (nat_eq group.count (class_by_number n).count && list_any (same_letter (class_by_number n).letter) (filter (stands_for group) (letters_of group.count))) ≡
    (nat_eq group.count (class_by_number n).count && stands_for group (class_by_number n).letter)
own_chosen group n h =
    let own = class_by_number n in
    elim (eqb_tells group.count own.count) [
      | inl t ↦ ap (λ b. nat_eq group.count own.count && b)
          (any-filter_same (same_letter own.letter) (stands_for group) (stands_for group own.letter) (λ l e. ap (stands_for group) (sym (letter_same own.letter l e))) (letters_of group.count) ∙
          (ap (λ count. stands_for group own.letter && list_any (same_letter own.letter) (letters_of count)) t.1 ∙
          (ap (λ b. stands_for group own.letter && b) (own_letter n h) ∙ and-true (stands_for group own.letter))))
      | inr t ↦ and_left (nat_eq group.count own.count) _ t.0 ∙ sym (and_left (nat_eq group.count own.count) _ t.0)
    ]

-- what a group says of a neighbourhood, by the class of the eight
pub next_of-entries_of_group : (survival : Bool) (group : Group) (n : ℕ) → n < 512 →
    next_of (entries_of_group survival group) n ≡
    (beq survival (has_bit n 4) && (nat_eq group.count (class_by_number (around_number n)).count && stands_for group (class_by_number (around_number n)).letter))
unfolding next_of entries_of_group tells
next_of-entries_of_group survival group n h =
    let own = class_by_number (around_number n) in
    let within = around_number-lt n h in
    let side = beq survival (has_bit n 4) in
    let make : Option ℕ → Entry = λ letter. record { survival = survival; class = record { count = group.count; letter = letter } } in
    let chosen = filter (stands_for group) (letters_of group.count) in
    any_map (tells n) make chosen ∙
    (any_congr (λ l. tells n (make l)) (λ l. side && (nat_eq group.count own.count && same_letter own.letter l))
    (λ l. ap (λ b. side && b) (ap (λ eight. is_of_class eight (record { count = group.count; letter = l })) (around-eight_of n h) ∙ is_of_class-eight_of (around_number n) (record { count = group.count; letter = l }) within)) chosen ∙
    (any_const side (λ l. nat_eq group.count own.count && same_letter own.letter l) chosen ∙
    ap (λ b. side && b) (any_const (nat_eq group.count own.count) (same_letter own.letter) chosen ∙ own_chosen group (around_number n) within)))

other_side : (h s : Bool) → beq (not h) s ≡ true → beq s h ≡ false
other_side true true e = cc
other_side true false e = refl
other_side false true e = refl
other_side false false e = cc

same_side : (h s : Bool) → beq (not h) s ≡ false → beq s h ≡ true
same_side true true e = refl
same_side true false e = cc
same_side false true e = cc
same_side false false e = refl

-- a group of the other side says nothing
pub next_of-other_side : (survival : Bool) (group : Group) (n : ℕ) → n < 512 → beq (nat_eq (bit_and n 16) 0) survival ≡ true → next_of (entries_of_group survival group) n ≡ false
next_of-other_side survival group n h e =
    next_of-entries_of_group survival group n h ∙
    and_left (beq survival (has_bit n 4)) _ (other_side (has_bit n 4) survival (ap (λ b. beq b survival) (sym (centre_test n h)) ∙ e))

only_class : (n : ℕ) (class : Class) → n < 256 → classes_of (eight_of n) ≡ class ∷ [] → class_by_number n ≡ class
only_class n class h e = let f = sym (classes_of-class_by_number n h) ∙ e in cc

-- a group of the centre's side speaks of the neighbourhoods of its classes
pub next_of-same_side : (survival : Bool) (group : Group) (n number : ℕ) (class : Class) → n < 512 → beq (nat_eq (bit_and n 16) 0) survival ≡ false → number ≡ around_number n → classes_of (eight_of number) ≡ class ∷ [] →
    next_of (entries_of_group survival group) n ≡ (nat_eq group.count class.count && stands_for group class.letter)
next_of-same_side survival group n number class h e is g =
    let own : class_by_number (around_number n) ≡ class = only_class (around_number n) class (around_number-lt n h) (subst (λ m. classes_of (eight_of m) ≡ class ∷ []) is g) in
    next_of-entries_of_group survival group n h ∙
    (ap (λ b. b && (nat_eq group.count (class_by_number (around_number n)).count && stands_for group (class_by_number (around_number n)).letter)) (same_side (has_bit n 4) survival (ap (λ b. beq b survival) (sym (centre_test n h)) ∙ e)) ∙
    ap (λ c. nat_eq group.count c.count && stands_for group c.letter) own)
