-- Lines that are read, one token after another.
use Rattle.std.proofs.Common.{◌≡◌, ◌<◌, ◌≤◌, ◌+◌, ◌*◌, ◌^◌, ℕ, List, ◌∷◌, ◌++◌, length, refl, ◌∙◌, arith}
use Rattle.lls_rle.specs.declared.reader.Reader.{Reader}
use Rattle.lls_rle.specs.Tokens.{PlacedToken, tokens_of}
use Rattle.lls_rle.specs.Reader.{IsReader, answer_from}
use Rattle.lls_rle.proofs.TokenCounts.{AreWithin, tokens_from-within}

-- what was read of a line so far, and what is left
pub record IsTaking (start : Reader) (number : ℕ) (line : List ℕ) (reader : Reader) (rest : List PlacedToken) : Type 0 where
  pub kept : IsReader reader
  pub answer : (more : List PlacedToken) → answer_from start (tokens_of number line ++ more) ≡ answer_from reader (rest ++ more)
  pub row : reader.row + 999999 * length rest ≤ start.row + 999999 * length (tokens_of number line)
  pub column : reader.column + 999999 * length rest ≤ start.column + 999999 * length (tokens_of number line)
  pub height : reader.height ≡ start.height
  pub width : reader.width ≡ start.width
  pub fit : AreWithin 1 (2 ^ 63) rest

pub IsTaking-none : (start : Reader) (number : ℕ) (line : List ℕ) → IsReader start → length line < 2 ^ 62 → IsTaking start number line start (tokens_of number line)
IsTaking-none start number line kept short = record {
  kept = kept;
  answer = λ more. refl;
  row = omega arith;
  column = omega arith;
  height = refl;
  width = refl;
  fit = tokens_from-within number 1 1 (2 ^ 63) line (omega arith) (omega (arith, short));
}

pub IsTaking-more : (start : Reader) (number : ℕ) (line : List ℕ) (reader new : Reader) (token : PlacedToken) (behind : List PlacedToken) → IsTaking start number line reader (token ∷ behind)
    → ((more : List PlacedToken) → answer_from reader (token ∷ more) ≡ answer_from new more) → IsReader new → new.row ≤ reader.row + 999999 → new.column ≤ reader.column + 999999
    → (new.height ≡ reader.height) × (new.width ≡ reader.width) → IsTaking start number line new behind
IsTaking-more start number line reader new token behind h step kept row column sizes = record {
  kept = kept;
  answer = λ more. h.answer more ∙ step (behind ++ more);
  row = omega (arith, h.row, row);
  column = omega (arith, h.column, column);
  height = sizes.0 ∙ h.height;
  width = sizes.1 ∙ h.width;
  fit = h.fit.1;
}
