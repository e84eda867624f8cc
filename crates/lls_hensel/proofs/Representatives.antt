-- The classes' representatives as the code keeps them, and as the classes have them.
use Rattle.std.proofs.Common.{◌≡◌, ◌⊎◌, inl, inr, bit_and, ℕ, zero, suc, ◌<◌, ◌≤◌, nat_eq, nat_lt, Bool, true, false, cond, not, ◌&&◌, List, [], ◌∷◌, ◌++◌, map, filter, flat_map, Option, Some, None, refl, ap, ◌∙◌, sym, arith}
use Rattle.std.specs.Prelude.{count_ones}
use Rattle.std.specs.Int.Count.{ones}
use Rattle.std.specs.Cmp.Lexicographic.{pointwise}
use Rattle.std.specs.Cmp.{booleans_Decides}
use Rattle.std.proofs.Math.Bool.{beq, not-not}
use Rattle.std.proofs.lemmas.Bool.{agree_below, agree_below_at, and_parts, eqb-true, ltb-true}
use Rattle.std.proofs.lemmas.Slice.Eq.{slice_eq-Decides}
use Rattle.lls_rule.specs.Rule.{answer, has_bit}
use Rattle.lls_hensel.specs.declared.class.Representative.{Representative}
use Rattle.lls_hensel.specs.Class.{pictures}
use Rattle.lls_hensel.specs.Neighbours.{eight_of}
use Rattle.lls_hensel.specs.Groups.{around_number, nine_number}
use Rattle.lls_hensel.specs.Numbers.{live_number, holds_by_number, classes_by_number, letter_text, representative_by_number, representatives_of, representatives_of_fewer, images_by_number, fewer_of, turned, mirrored, flipped}
use Rattle.lls_hensel.specs.Printing.{number_with, named, representative_eight, representative_nine, letters_at}
use Rattle.lls_rule.proofs.Counts.{centre_test}
use Rattle.lls_hensel.proofs.Tells.{around_number-lt, around-eight_of}

-- the eight of a representative, or those at hand where there is none
eight_at : ℕ → Option Representative → ℕ
eight_at few None = few
eight_at few (Some representative) = representative.eight

-- the number of the eight that stand for a class, as the code finds it
stands : ℕ → ℕ
stands eight = live_number (count_ones eight) (eight_at (fewer_of eight) (representative_by_number (count_ones eight) (fewer_of eight)))

stands_below : agree_below (λ n. nat_lt (stands n) 256 && pointwise beq (eight_of (stands n)) (representative_eight (eight_of n))) (λ _. true) 256 ≡ true
unfolding stands eight_at live_number representative_eight representative_by_number representatives_of representatives_of_fewer images_by_number fewer_of turned mirrored flipped ones
stands_below = refl

nines_agree : agree_below (λ n. nat_eq (nine_number true n) (number_with true (eight_of n)) && nat_eq (nine_number false n) (number_with false (eight_of n))) (λ _. true) 256 ≡ true
unfolding nine_number
nines_agree = refl

stands_told : (n : ℕ) → n < 256 → (nat_lt (stands n) 256 ≡ true) × (pointwise beq (eight_of (stands n)) (representative_eight (eight_of n)) ≡ true)
stands_told n h =
    and_parts (nat_lt (stands n) 256) (pointwise beq (eight_of (stands n)) (representative_eight (eight_of n)))
    (agree_below_at (λ n. nat_lt (stands n) 256 && pointwise beq (eight_of (stands n)) (representative_eight (eight_of n))) (λ _. true) 256 n stands_below h)

nines_told : (n : ℕ) → n < 256 → (nat_eq (nine_number true n) (number_with true (eight_of n)) ≡ true) × (nat_eq (nine_number false n) (number_with false (eight_of n)) ≡ true)
nines_told n h =
    and_parts (nat_eq (nine_number true n) (number_with true (eight_of n))) (nat_eq (nine_number false n) (number_with false (eight_of n)))
    (agree_below_at (λ n. nat_eq (nine_number true n) (number_with true (eight_of n)) && nat_eq (nine_number false n) (number_with false (eight_of n))) (λ _. true) 256 n nines_agree h)

nine_number-number_with : (centre : Bool) (n : ℕ) → n < 256 → nine_number centre n ≡ number_with centre (eight_of n)
nine_number-number_with true n h = eqb-true (nine_number true n) (number_with true (eight_of n)) (nines_told n h).0
nine_number-number_with false n h = eqb-true (nine_number false n) (number_with false (eight_of n)) (nines_told n h).1

standing : (n : ℕ) → n < 512 → nine_number (has_bit n 4) (stands (around_number n)) ≡ representative_nine n
unfolding representative_nine
standing n h =
    let e = around_number n in
    let within = around_number-lt n h in
    let told = stands_told e within in
    let same : eight_of (stands e) ≡ representative_eight (eight_of e) =
    (slice_eq-Decides booleans_Decides (eight_of (stands e)) (representative_eight (eight_of e)) true (sym told.1)).0 refl in
    nine_number-number_with (has_bit n 4) (stands e) (ltb-true (stands e) 256 told.0) ∙
    ap (number_with (has_bit n 4)) (same ∙ ap representative_eight (sym (around-eight_of n h)))

eight_some : (few : ℕ) (found : Option Representative) (representative : Representative) → found ≡ Some representative → eight_at few found ≡ representative.eight
unfolding eight_at
eight_some few found representative e = ap (eight_at few) e

eight_none : (few : ℕ) (found : Option Representative) → found ≡ None → eight_at few found ≡ few
unfolding eight_at
eight_none few found e = ap (eight_at few) e

-- the representative's number by the steps of the code
pub representative_nine-steps : (n eight few least : ℕ) (found : Option Representative) → n < 512 → eight ≡ around_number n → few ≡ fewer_of eight → found ≡ representative_by_number (count_ones eight) few →
    ((representative : Representative) × (found ≡ Some representative) × (least ≡ representative.eight)) ⊎ ((found ≡ None) × (least ≡ few)) →
    nine_number (not (nat_eq (bit_and n 16) 0)) (live_number (count_ones eight) least) ≡ representative_nine n
unfolding stands
representative_nine-steps n eight few least found h is is_few is_found picked =
    let chosen : least ≡ eight_at few found = elim picked [
      | inl (r, e, l) ↦ l ∙ sym (eight_some few found r e)
      | inr (e, l) ↦ l ∙ sym (eight_none few found e)
    ] in
    let centre : not (nat_eq (bit_and n 16) 0) ≡ has_bit n 4 = ap not (centre_test n h) ∙ not-not (has_bit n 4) in
    let steps : live_number (count_ones eight) least ≡ stands eight =
    ap (live_number (count_ones eight)) (chosen ∙ (ap (λ m. eight_at m found) is_few ∙ ap (eight_at (fewer_of eight)) (is_found ∙ ap (representative_by_number (count_ones eight)) is_few))) in
    ap (λ b. nine_number b (live_number (count_ones eight) least)) centre ∙ (ap (nine_number (has_bit n 4)) (steps ∙ ap stands is) ∙ standing n h)

-- the letters of a list's elements whose answer is sought
pair_letters : List Bool → Bool → List (Option ℕ × ℕ) → List (Option ℕ)
pair_letters table live pairs = map (λ p. p.0) (filter (λ p. beq (answer table p.1) live) pairs)

by_pairs : {X : Type 0} (table : List Bool) (live : Bool) (letter : X → Option ℕ) (number : X → ℕ) (xs : List X) →
    map letter (filter (λ x. beq (answer table (number x)) live) xs) ≡ pair_letters table live (map (λ x. (letter x, number x)) xs)
unfolding pair_letters
by_pairs table live letter number [] = refl
by_pairs table live letter number (x ∷ xs) =
    let more = by_pairs table live letter number xs in
    elim (beq (answer table (number x)) live) as (λ b. map letter (cond b (x ∷ filter (λ x. beq (answer table (number x)) live) xs) (filter (λ x. beq (answer table (number x)) live) xs)) ≡
    map (λ (p : Option ℕ × ℕ). p.0) (cond b ((letter x, number x) ∷ filter (λ (p : Option ℕ × ℕ). beq (answer table p.1) live) (map {B = Option ℕ × ℕ} (λ x. (letter x, number x)) xs)) (filter (λ (p : Option ℕ × ℕ). beq (answer table p.1) live) (map {B = Option ℕ × ℕ} (λ x. (letter x, number x)) xs)))) [
      | true ↦ ap (λ ls. letter x ∷ ls) more
      | false ↦ more
    ]

same_pairs : (survival : Bool) (count : ℕ) → count ≤ 8 → map {B = Option ℕ × ℕ} (λ p. (p.letter, number_with survival p.eight)) (pictures count) ≡ map {B = Option ℕ × ℕ} (λ r. (r.letter, nine_number survival (live_number count r.eight))) (representatives_of count)
unfolding nine_number live_number flipped representatives_of representatives_of_fewer
same_pairs true zero h = refl
same_pairs true (suc zero) h = refl
same_pairs true (suc (suc zero)) h = refl
same_pairs true (suc (suc (suc zero))) h = refl
same_pairs true (suc (suc (suc (suc zero)))) h = refl
same_pairs true (suc (suc (suc (suc (suc zero))))) h = refl
same_pairs true (suc (suc (suc (suc (suc (suc zero)))))) h = refl
same_pairs true (suc (suc (suc (suc (suc (suc (suc zero))))))) h = refl
same_pairs true (suc (suc (suc (suc (suc (suc (suc (suc zero)))))))) h = refl
same_pairs true (suc (suc (suc (suc (suc (suc (suc (suc (suc n))))))))) h = absurd (omega arith)
same_pairs false zero h = refl
same_pairs false (suc zero) h = refl
same_pairs false (suc (suc zero)) h = refl
same_pairs false (suc (suc (suc zero))) h = refl
same_pairs false (suc (suc (suc (suc zero)))) h = refl
same_pairs false (suc (suc (suc (suc (suc zero))))) h = refl
same_pairs false (suc (suc (suc (suc (suc (suc zero)))))) h = refl
same_pairs false (suc (suc (suc (suc (suc (suc (suc zero))))))) h = refl
same_pairs false (suc (suc (suc (suc (suc (suc (suc (suc zero)))))))) h = refl
same_pairs false (suc (suc (suc (suc (suc (suc (suc (suc (suc n))))))))) h = absurd (omega arith)

-- the letters of a count with an answer, as the code finds them
pub letters_at-classes : (table : List Bool) (survival : Bool) (count : ℕ) (live : Bool) → count ≤ 8 → letters_at table survival count live ≡ map (λ r. r.letter) (classes_by_number table survival count live)
unfolding letters_at classes_by_number holds_by_number
letters_at-classes table survival count live h =
    by_pairs table live (λ p. p.letter) (λ p. number_with survival p.eight) (pictures count) ∙
    (ap (pair_letters table live) (same_pairs survival count h) ∙
    sym (by_pairs table live (λ r. r.letter) (λ r. nine_number survival (live_number count r.eight)) (representatives_of count)))

named_more : (letter : Option ℕ) (rest : List (Option ℕ)) → named (letter ∷ []) ++ named rest ≡ named (letter ∷ rest)
named_more None rest = refl
named_more (Some letter) rest = refl

letter_texts : (table : List Bool) (survival : Bool) (count : ℕ) (live : Bool) (rs : List Representative) →
    flat_map (letter_text table survival count live) rs ≡ named (map (λ r. r.letter) (filter (λ r. beq (holds_by_number table survival count r) live) rs))
unfolding letter_text
letter_texts table survival count live [] = refl
letter_texts table survival count live (r ∷ rs) =
    let more = letter_texts table survival count live rs in
    let rest = filter (λ r. beq (holds_by_number table survival count r) live) rs in
    elim (beq (holds_by_number table survival count r) live) as (λ b. cond b (named (r.letter ∷ [])) [] ++ flat_map (letter_text table survival count live) rs ≡ named (map (λ r. r.letter) (cond b (r ∷ rest) rest))) [
      | true ↦ ap (λ bytes. named (r.letter ∷ []) ++ bytes) more ∙ named_more r.letter (map (λ r. r.letter) rest)
      | false ↦ more
    ]

pub letter_text-classes : (table : List Bool) (survival : Bool) (count : ℕ) (live : Bool) →
    flat_map (letter_text table survival count live) (representatives_of count) ≡ named (map (λ r. r.letter) (classes_by_number table survival count live))
unfolding classes_by_number
letter_text-classes table survival count live = letter_texts table survival count live (representatives_of count)
