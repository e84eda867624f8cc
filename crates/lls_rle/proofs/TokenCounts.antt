-- How many tokens a line has, and how far they reach.
use Rattle.std.proofs.Common.{◌<◌, ◌≤◌, ◌+◌, ℕ, Bool, true, false, cond, List, [], ◌∷◌, length, arith}
use Rattle.std.specs.Prelude.{◌&&◌}
use Rattle.std.specs.Char.{is_ascii_digit}
use Rattle.lls_text.specs.Words.{is_blank}
use Rattle.lls_rle.specs.Tokens.{PlacedToken, begins_digit, before_token, tokens_from}

length-before_token : (line column b : ℕ) (tokens : List PlacedToken) → length (before_token line column b tokens) ≤ 1 + length tokens
length-before_token line column b [] = omega arith
length-before_token line column b (t ∷ ts) = omega arith

pub length-tokens_from : (line column : ℕ) (text : List ℕ) → length (tokens_from line column text) ≤ length text
length-tokens_from line column [] = omega arith
length-tokens_from line column (b ∷ bs) =
    by_tests (is_blank b) (is_ascii_digit b && begins_digit bs) (tokens_from line (column + 1) bs) (length-tokens_from line (column + 1) bs) where
      by_tests : (blank joined : Bool) (tokens : List PlacedToken) → length tokens ≤ length bs
          → length (cond blank tokens (cond joined (before_token line column b tokens) (record { line = line; column = column; text = b ∷ [] } ∷ tokens))) ≤ length (b ∷ bs)
      by_tests true joined tokens few = omega (arith, few)
      by_tests false true tokens few = omega (arith, few, length-before_token line column b tokens)
      by_tests false false tokens few = omega (arith, few)

-- a token that stands between two columns
abbrev pub IsWithin : ℕ → ℕ → PlacedToken → Type 0
IsWithin least most token = (least ≤ token.column) × (token.column + length token.text ≤ most)

abbrev pub AreWithin : ℕ → ℕ → List PlacedToken → Type 0
AreWithin least most [] = Unit {0}
AreWithin least most (token ∷ tokens) = IsWithin least most token × AreWithin least most tokens

within-before_token : (line column b least most : ℕ) (tokens : List PlacedToken) → least ≤ column → column < most → AreWithin (column + 1) most tokens → AreWithin least most tokens
    → AreWithin least most (before_token line column b tokens)
within-before_token line column b least most [] low high near all = ((low, omega (arith, high)), tt)
within-before_token line column b least most (t ∷ ts) low high near all = ((low, omega (arith, near.0.0, near.0.1)), all.1)

pub tokens_from-within : (line column least most : ℕ) (text : List ℕ) → least ≤ column → column + length text ≤ most → AreWithin least most (tokens_from line column text)
tokens_from-within line column least most [] low high = tt
tokens_from-within line column least most (b ∷ bs) low high =
    by_tests (is_blank b) (is_ascii_digit b && begins_digit bs) (tokens_from line (column + 1) bs)
    (tokens_from-within line (column + 1) (column + 1) most bs (omega arith) (omega (arith, high)))
    (tokens_from-within line (column + 1) least most bs (omega (arith, low)) (omega (arith, high))) where
      by_tests : (blank joined : Bool) (tokens : List PlacedToken) → AreWithin (column + 1) most tokens → AreWithin least most tokens
          → AreWithin least most (cond blank tokens (cond joined (before_token line column b tokens) (record { line = line; column = column; text = b ∷ [] } ∷ tokens)))
      by_tests true joined tokens near all = all
      by_tests false true tokens near all = within-before_token line column b least most tokens low (omega (arith, high)) near all
      by_tests false false tokens near all = ((low, omega (arith, high)), all)
