-- Bits of words in a table.
use Rattle.std.proofs.Common.{◌≡◌, ◌≢◌, bit_or, bit_and, w64, inl, inr, ℕ, suc, zero, ◌+◌, ◌-◌, ◌*◌, ◌/◌, ◌%◌, ◌^◌, ◌<◌, ◌≤◌, List, [], ◌∷◌, ◌++◌, Bool, true, false, length, refl, ap, ◌∙◌, sym, get_or, set, nat_eq, subst, arith, length-append}
use Rattle.std.proofs.Math.Nat.{mul-suc}
use Rattle.std.proofs.lemmas.List.{set-append_left, set-append_right, get_or_append_left, get_or-append_right, same_lists, length-set}
use Rattle.std.proofs.lemmas.List.{get_or-set_other}
use Rattle.std.proofs.lemmas.Grind.{get_or-set_at}
use Rattle.std.proofs.lemmas.Bool.Decides.{eqb_tells}
use Rattle.std.proofs.lemmas.Nat.Bits.{bit_at-suc, bit_at_set_same, bit_at_set_other, bit_at_clear_same, bit_at_clear_other}
use Rattle.lls_rule.specs.Rule.{has_bit, answer}
use Rattle.lls_rule.specs.Words.{word_bits, bits_in, bits_of_word, table_in, IsEightWords, length-word_bits}

pub get_or-word_bits : (k word i : ℕ) (d : Bool) → i < k → get_or (word_bits k word) i d ≡ has_bit word i
get_or-word_bits zero word i d h = absurd (omega arith)
get_or-word_bits (suc k) word zero d h = refl
get_or-word_bits (suc k) word (suc i) d h =
    get_or-word_bits k (word / 2) i d (omega arith) ∙ ap (λ n. nat_eq n 1) (sym (bit_at-suc word i))

after : (w p q r : ℕ) → p ≡ w * suc q + r → w ≤ p
after w p q r e = omega (arith, mul-suc w q)

before : (w p q r : ℕ) → p ≡ w * suc q + r → p - w ≡ w * q + r
before w p q r e = omega (arith, mul-suc w q)

-- the bit at a place of the words' list, by the word and the place in it
pub get_or-bits_in : (w : ℕ) (words : List ℕ) (q r p : ℕ) (d : Bool) → r < w → q < length words → p ≡ w * q + r → get_or (bits_in w words) p d ≡ has_bit (get_or words q 0) r
get_or-bits_in w [] q r p d h g e = absurd (omega arith)
get_or-bits_in w (word ∷ words) zero r p d h g e =
    let here : p ≡ r = omega arith in
    get_or_append_left (word_bits w word) (bits_in w words) d p (subst (λ n. p < n) (sym (length-word_bits w word)) (omega arith)) ∙ (ap (λ n. get_or (word_bits w word) n d) here ∙ get_or-word_bits w word r d h)
get_or-bits_in w (word ∷ words) (suc q) r p d h g e =
    get_or-append_right (word_bits w word) (bits_in w words) w p d (length-word_bits w word) (after w p q r e) ∙ get_or-bits_in w words q r (p - w) d h (omega arith) (before w p q r e)

-- to change a word is to change the bits that it has in the list
pub bits_in-set : (w : ℕ) (words : List ℕ) (q r p new : ℕ) (bit : Bool) → r < w → q < length words → p ≡ w * q + r → word_bits w new ≡ set (word_bits w (get_or words q 0)) r bit → bits_in w (set words q new) ≡ set (bits_in w words) p bit
bits_in-set w [] q r p new bit h g e same = absurd (omega arith)
bits_in-set w (word ∷ words) zero r p new bit h g e same =
    let here : r ≡ p = omega arith in
    ap (λ bits. bits ++ bits_in w words) (same ∙ ap (λ n. set (word_bits w word) n bit) here) ∙ sym (set-append_left (word_bits w word) (bits_in w words) p bit (subst (λ n. p < n) (sym (length-word_bits w word)) (omega arith)))
bits_in-set w (word ∷ words) (suc q) r p new bit h g e same =
    ap (λ bits. word_bits w word ++ bits) (bits_in-set w words q r (p - w) new bit h (omega arith) (before w p q r e) same) ∙ sym (set-append_right (word_bits w word) (bits_in w words) w p bit (length-word_bits w word) (after w p q r e))

pub length-bits_in : (w : ℕ) (words : List ℕ) → length (bits_in w words) ≡ w * length words
length-bits_in w [] = omega arith
length-bits_in w (word ∷ words) =
    omega (arith, length-append (word_bits w word) (bits_in w words), length-word_bits w word, length-bits_in w words, mul-suc w (length words))

place : (n : ℕ) → n ≡ 64 * (n / 64) + n % 64
place n = omega arith

pub answer-table_in : (words : List ℕ) (n : ℕ) → IsEightWords words → n < 512 → answer (table_in words) n ≡ has_bit (get_or words (n / 64) 0) (n % 64)
unfolding table_in
answer-table_in words n h g =
    get_or-bits_in 64 words (n / 64) (n % 64) n false (omega arith) (omega (arith, h.eight)) (place n)

pub table_in-set : (words : List ℕ) (n new : ℕ) (bit : Bool) → IsEightWords words → n < 512 → bits_of_word new ≡ set (bits_of_word (get_or words (n / 64) 0)) (n % 64) bit → table_in (set words (n / 64) new) ≡ set (table_in words) n bit
unfolding table_in bits_of_word
table_in-set words n new bit h g same =
    bits_in-set 64 words (n / 64) (n % 64) n new bit (omega arith) (omega (arith, h.eight)) (place n) same

pub length-table_in : (words : List ℕ) → IsEightWords words → length (table_in words) ≡ 512
unfolding table_in
length-table_in words h = length-bits_in 64 words ∙ ap (λ n. 64 * n) h.eight

-- the list of a word's bits after one of them was changed
word_bits_changed : (k word new bit : ℕ) (live : Bool) → bit < k → has_bit new bit ≡ live → ((i : ℕ) → i < k → i ≢ bit → has_bit new i ≡ has_bit word i) → word_bits k new ≡ set (word_bits k word) bit live
word_bits_changed k word new bit live h same others =
    same_lists (word_bits k new) (set (word_bits k word) bit live) (length-word_bits k new ∙ sym (length-set (word_bits k word) bit live ∙ length-word_bits k word)) (λ i d g.
    let within : i < k = omega (arith, length-word_bits k new, g) in
    get_or-word_bits k new i d within ∙ (elim (eqb_tells i bit) [
      | inl t ↦ ap (has_bit new) t.1 ∙ (same ∙ sym (get_or-set_at (word_bits k word) bit i live d t.1 (omega (arith, length-word_bits k word))))
      | inr t ↦ others i within t.1 ∙ sym (get_or-set_other (word_bits k word) bit i live d t.1 ∙ get_or-word_bits k word i d within)
    ]))

pub bits_of_word_set : (word bit : ℕ) → bit < 64 → bits_of_word (bit_or word (1 * 2 ^ bit % 2 ^ 64)) ≡ set (bits_of_word word) bit true
unfolding bits_of_word
bits_of_word_set word bit h =
    word_bits_changed 64 word (bit_or word (1 * 2 ^ bit % 2 ^ 64)) bit true h
    (ap (λ n. nat_eq n 1) (bit_at_set_same w64 word bit h))
    (λ i within other. ap (λ n. nat_eq n 1) (bit_at_set_other w64 word bit h i other))

pub bits_of_word_cleared : (word bit : ℕ) → bit < 64 → bits_of_word (bit_and word (2 ^ 64 - 1 - 1 * 2 ^ bit % 2 ^ 64)) ≡ set (bits_of_word word) bit false
unfolding bits_of_word
bits_of_word_cleared word bit h =
    word_bits_changed 64 word (bit_and word (2 ^ 64 - 1 - 1 * 2 ^ bit % 2 ^ 64)) bit false h
    (ap (λ n. nat_eq n 1) (bit_at_clear_same w64 word bit h))
    (λ i within other. ap (λ n. nat_eq n 1) (bit_at_clear_other w64 word bit h i within other))
