-- For private contracts alone: how a rule keeps its answers in words, and gets the words back from the answers.
use Rattle.std.specs.Prelude.{ℕ, ◌+◌, ◌*◌, ◌/◌, ◌^◌, ◌<◌, ◌≡◌, suc, zero, Bool, List, [], ◌∷◌, ◌++◌, take, drop, length, flat_map, refl, if◌then◌else◌}
use Rattle.std.proofs.Common.{get_or, ap, ◌∙◌, arith, subst}
use Rattle.std.proofs.Math.Seq.{take-append_seam, drop-append_seam}
use Rattle.std.proofs.Math.Nat.{pow-suc}
use Rattle.std.proofs.lemmas.Bool.Decides.{nat_tests}
use Rattle.std.proofs.lemmas.Nat.Bits.{bit_at_lowest}
use Rattle.lls_rule.specs.Rule.{has_bit}
use Rattle.lls_rule.specs.declared.rule.TheConstants.{WORDS, WORD_BITS}

-- the lowest k bits of a word, the lowest first
abbrev pub word_bits : ℕ → ℕ → List Bool
word_bits zero word = []
word_bits (suc k) word = has_bit word 0 ∷ word_bits k (word / 2)

-- the word of a list of bits, the lowest first
abbrev pub word_of : List Bool → ℕ
word_of [] = 0
word_of (bit ∷ bits) = (if bit then 1 else 0) + 2 * word_of bits

-- the bits of words of a width, in one list
abbrev pub bits_in : ℕ → List ℕ → List Bool
bits_in width words = flat_map (word_bits width) words

-- the first k words of a width in a list of bits
abbrev pub words_in : ℕ → ℕ → List Bool → List ℕ
words_in width zero bits = []
words_in width (suc k) bits = word_of (take width bits) ∷ words_in width k (drop width bits)

-- the bits of a rule's word, the lowest first
unfoldable pub bits_of_word : ℕ → List Bool
bits_of_word word = word_bits WORD_BITS word

-- the answers that a rule's words hold
unfoldable pub table_in : List ℕ → List Bool
table_in words = bits_in WORD_BITS words

-- the words of a table
unfoldable pub words_of : List Bool → List ℕ
words_of table = words_in WORD_BITS WORDS table

-- as many words as a rule has, each of its bits
pub record IsEightWords (words : List ℕ) : Type 0 where
  pub eight : length words ≡ WORDS
  pub within : (k : ℕ) → get_or words k 0 < 2 ^ WORD_BITS

bit-lowest : (word : ℕ) → (if has_bit word 0 then 1 else 0) + 2 * (word / 2) ≡ word
bit-lowest word = let h = bit_at_lowest word in grind (arith, nat_tests, h)

half-lt : (k word : ℕ) → word < 2 ^ suc k → word / 2 < 2 ^ k
half-lt k word h = omega (arith, pow-suc 2 k)

pub word_of-word_bits : (k word : ℕ) → word < 2 ^ k → word_of (word_bits k word) ≡ word
word_of-word_bits zero word within = omega arith
word_of-word_bits (suc k) word within =
    ap (λ n. (if has_bit word 0 then 1 else 0) + 2 * n) (word_of-word_bits k (word / 2) (half-lt k word within)) ∙ bit-lowest word

pub length-word_bits : (k word : ℕ) → length (word_bits k word) ≡ k
length-word_bits zero word = refl
length-word_bits (suc k) word = ap suc (length-word_bits k (word / 2))

split-take : (n : ℕ) (xs ys : List Bool) → length xs ≡ n → take n (xs ++ ys) ≡ xs
split-take n xs ys e = subst (λ m. take m (xs ++ ys) ≡ xs) e (take-append_seam xs ys)

split-drop : (n : ℕ) (xs ys : List Bool) → length xs ≡ n → drop n (xs ++ ys) ≡ ys
split-drop n xs ys e = subst (λ m. drop m (xs ++ ys) ≡ ys) e (drop-append_seam xs ys)

-- the words are those that their bits give
pub words_in-bits_in : (width : ℕ) (words : List ℕ) → ((k : ℕ) → get_or words k 0 < 2 ^ width) → words_in width (length words) (bits_in width words) ≡ words
words_in-bits_in width [] within = refl
words_in-bits_in width (word ∷ words) within =
    let bits = word_bits width word in
    let rest = bits_in width words in
    let len = length-word_bits width word in
    let first : word_of (take width (bits ++ rest)) ≡ word = ap word_of (split-take width bits rest len) ∙ word_of-word_bits width word (within 0) in
    let others : words_in width (length words) (drop width (bits ++ rest)) ≡ words =
    ap (words_in width (length words)) (split-drop width bits rest len) ∙ words_in-bits_in width words (λ k. within (suc k)) in
    ap (λ n. n ∷ words_in width (length words) (drop width (bits ++ rest))) first ∙ ap (λ ws. word ∷ ws) others

-- a rule's words are those that its table gives
pub words_of-table_in : (words : List ℕ) → IsEightWords words → words_of (table_in words) ≡ words
unfolding words_of table_in
words_of-table_in words h =
    subst (λ n. words_in 64 n (bits_in 64 words) ≡ words) h.eight (words_in-bits_in 64 words h.within)
