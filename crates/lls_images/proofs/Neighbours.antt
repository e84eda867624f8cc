-- Neighbourhoods by their numbers, and what a motion makes of them.
use Rattle.std.proofs.Common.{◌≡◌, ◌<◌, ◌≤◌, ℕ, zero, suc, ◌+◌, ◌-◌, ◌*◌, ◌/◌, ◌%◌, ◌^◌, Bool, true, false, cond, List, [], ◌∷◌, length, map, get_or, bit_and, refl, sym, ap, ◌∙◌, subst, arith, nat_eq}
use Rattle.std.proofs.Math.Bool.{beq}
use Rattle.std.specs.List.{fold, range_with_len}
use Rattle.std.proofs.Math.Nat.{mod-lt, pow-le-pow_right}
use Rattle.std.proofs.lemmas.List.{get_or-map}
use Rattle.std.proofs.lemmas.List.FromFn.{length-map-range_with_len, map-range_with_len_more}
use Rattle.std.proofs.lemmas.Nat.Bits.{shr_and_one, bit_at-suc}
use Rattle.lls_rule.specs.Rule.{number_of, has_bit, answer, successor}
use Rattle.lls_rule.proofs.Numbers.{number_of-append, number_of-lt}
use Rattle.lls_symmetry.specs.declared.motion.Motion.{Motion}
use Rattle.lls_images.specs.Same.{nine_of, ninth, turned, is_answer_kept, keeps_rule}
use Rattle.lls_images.proofs.Tests.{all_each}

abbrev weights : List ℕ
weights = 8 ∷ 7 ∷ 6 ∷ 5 ∷ 4 ∷ 3 ∷ 2 ∷ 1 ∷ 0 ∷ []

weight : (i : ℕ) → i < 9 → get_or weights i 0 ≡ 8 - i
weight zero below = refl
weight (suc zero) below = refl
weight (suc (suc zero)) below = refl
weight (suc (suc (suc zero))) below = refl
weight (suc (suc (suc (suc zero)))) below = refl
weight (suc (suc (suc (suc (suc zero))))) below = refl
weight (suc (suc (suc (suc (suc (suc zero)))))) below = refl
weight (suc (suc (suc (suc (suc (suc (suc zero))))))) below = refl
weight (suc (suc (suc (suc (suc (suc (suc (suc zero)))))))) below = refl
weight (suc (suc (suc (suc (suc (suc (suc (suc (suc i))))))))) below = absurd (omega arith)

-- the cells of a neighbourhood by its number
get_or-nine_of : (n i : ℕ) → i < 9 → get_or (nine_of n) i false ≡ has_bit n (8 - i)
get_or-nine_of n i below = get_or-map (has_bit n) weights i 0 false below ∙ ap (has_bit n) (weight i below)

bit_or_none : (m : ℕ) → m < 2 → m ≡ cond (nat_eq m 1) 1 0
bit_or_none zero below = refl
bit_or_none (suc zero) below = refl
bit_or_none (suc (suc m)) below = absurd (omega arith)

-- the bit of a cell
pub bit_of_nine : (n i : ℕ) → i < 9 → bit_and (n / 2 ^ (8 - i)) 1 ≡ cond (get_or (nine_of n) i false) 1 0
bit_of_nine n i below =
    shr_and_one n (8 - i) ∙ bit_or_none (n / 2 ^ (8 - i) % 2) (mod-lt (n / 2 ^ (8 - i)) (omega arith))
    ∙ ap (λ b. cond b 1 0) (sym (get_or-nine_of n i below))

-- the neighbourhood of the images so far, and one more
abbrev pub so_far : Motion → ℕ → ℕ → List Bool
so_far motion n k = map (λ j. get_or (nine_of n) (ninth motion j) false) (range_with_len 0 k)

pub so_far-more : (motion : Motion) (n k number bit : ℕ) → number ≡ number_of (so_far motion n k) → bit ≡ cond (get_or (nine_of n) (ninth motion k) false) 1 0
    → 2 * number + bit ≡ number_of (so_far motion n (k + 1))
so_far-more motion n k number bit is one =
    ap (λ m. 2 * m + bit) is ∙ ap (λ b. 2 * number_of (so_far motion n k) + b) one
    ∙ sym (number_of-append (so_far motion n k) (get_or (nine_of n) (ninth motion k) false))
    ∙ ap number_of (sym (map-range_with_len_more (λ j. get_or (nine_of n) (ninth motion j) false) 0 k k (omega arith)))

pub so_far-lt : (motion : Motion) (n k number : ℕ) → number ≡ number_of (so_far motion n k) → number < 2 ^ k
so_far-lt motion n k number is =
    subst (λ m. m < 2 ^ k) (sym is) (subst (λ l. number_of (so_far motion n k) < 2 ^ l) (length-map-range_with_len (λ j. get_or (nine_of n) (ninth motion j) false) 0 k) (number_of-lt (so_far motion n k)))

-- of two answers, whether they are one
pub is_answer_kept-by : (motion : Motion) (table : List Bool) (n number : ℕ) (a b r : Bool) → number ≡ number_of (turned motion (nine_of n)) → a ≡ answer table number → b ≡ answer table n
    → beq a b ≡ r → is_answer_kept motion table n ≡ r
is_answer_kept-by motion table n number a b r is first second same =
    ap (λ m. beq (answer table m) (answer table n)) (sym is) ∙ ap (λ x. beq x (answer table n)) (sym first) ∙ ap (beq a) (sym second) ∙ same

-- so many bits have a small number
pub small : (k most number : ℕ) → k ≤ most → number < 2 ^ k → number < 2 ^ most
small k most number low less =
    let more : 2 ^ k ≤ 2 ^ most = pow-le-pow_right (omega arith) low in
    omega (arith, less, more)

lowest : (m : ℕ) (bit : Bool) → has_bit (2 * m + cond bit 1 0) 0 ≡ bit
lowest m true = let odd : (2 * m + 1) / 1 % 2 ≡ 1 = omega arith in rw odd refl
lowest m false = let even : (2 * m + 0) / 1 % 2 ≡ 0 = omega arith in rw even refl

halved : (m : ℕ) (bit : Bool) → (2 * m + cond bit 1 0) / 2 ≡ m
halved m true = omega arith
halved m false = omega arith

-- the bits of a number to which bits were put: those that were there, and those
above : (a : ℕ) (bits : List Bool) (k : ℕ) → has_bit (fold (λ n b. 2 * n + cond b 1 0) a bits) (k + length bits) ≡ has_bit a k
above a [] k = let same : k + 0 ≡ k = omega arith in ap (has_bit a) same
above a (b ∷ bits) k =
    let at : k + suc (length bits) ≡ suc k + length bits = omega arith in
    ap (has_bit (fold (λ n b. 2 * n + cond b 1 0) (2 * a + cond b 1 0) bits)) at
    ∙ above (2 * a + cond b 1 0) bits (suc k)
    ∙ ap (λ n. nat_eq n 1) (bit_at-suc (2 * a + cond b 1 0) k)
    ∙ ap (λ m. has_bit m k) (halved a b)

within : (a : ℕ) (bits : List Bool) (i k : ℕ) → k + suc i ≡ length bits → has_bit (fold (λ n b. 2 * n + cond b 1 0) a bits) k ≡ get_or bits i false
within a [] i k at = absurd (omega arith)
within a (b ∷ bits) zero k at =
    let last : k ≡ 0 + length bits = omega arith in
    ap (has_bit (fold (λ n b. 2 * n + cond b 1 0) (2 * a + cond b 1 0) bits)) last ∙ above (2 * a + cond b 1 0) bits 0 ∙ lowest a b
within a (b ∷ bits) (suc i) k at = within (2 * a + cond b 1 0) bits i k (omega arith)

-- the cells of a neighbourhood are those of its number
nine_of-number_of : (a b c d e f g h i : Bool) → nine_of (number_of (a ∷ b ∷ c ∷ d ∷ e ∷ f ∷ g ∷ h ∷ i ∷ [])) ≡ a ∷ b ∷ c ∷ d ∷ e ∷ f ∷ g ∷ h ∷ i ∷ []
nine_of-number_of a b c d e f g h i =
    let nine : List Bool = a ∷ b ∷ c ∷ d ∷ e ∷ f ∷ g ∷ h ∷ i ∷ [] in
    let bit : (i k : ℕ) → k + suc i ≡ 9 → has_bit (number_of nine) k ≡ get_or nine i false = within 0 nine in
    rw (bit 0 8 refl, bit 1 7 refl, bit 2 6 refl, bit 3 5 refl, bit 4 4 refl, bit 5 3 refl, bit 6 2 refl, bit 7 1 refl, bit 8 0 refl) refl

pub same_bits : (a b : Bool) → beq a b ≡ true → a ≡ b
same_bits true true e = refl
same_bits true false e = cc
same_bits false true e = cc
same_bits false false e = refl

-- a rule that a motion keeps answers a neighbourhood and its image alike
pub successor-turned : (motion : Motion) (table : List Bool) → keeps_rule motion table ≡ true → (a b c d e f g h i : Bool)
    → successor table (turned motion (a ∷ b ∷ c ∷ d ∷ e ∷ f ∷ g ∷ h ∷ i ∷ [])) ≡ successor table (a ∷ b ∷ c ∷ d ∷ e ∷ f ∷ g ∷ h ∷ i ∷ [])
unfolding keeps_rule
successor-turned motion table kept a b c d e f g h i =
    let nine : List Bool = a ∷ b ∷ c ∷ d ∷ e ∷ f ∷ g ∷ h ∷ i ∷ [] in
    ap (λ cells. successor table (turned motion cells)) (sym (nine_of-number_of a b c d e f g h i))
    ∙ same_bits _ _ (all_each (is_answer_kept motion table) 512 (number_of nine) kept (number_of-lt nine))
