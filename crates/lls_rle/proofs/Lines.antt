-- Lines that are read one after another.
use Rattle.std.proofs.Common.{◌≡◌, ◌<◌, ◌≤◌, ◌+◌, ◌*◌, ◌^◌, ℕ, List, ◌∷◌, ◌++◌, length, sym, ◌∙◌, arith}
use Rattle.lls_rle.specs.declared.reader.Reader.{Reader}
use Rattle.lls_rle.specs.Tokens.{PlacedToken}
use Rattle.lls_rle.specs.Reading.{tokens_of_line, tokens_of_lines, body_of}
use Rattle.lls_rle.specs.Reader.{IsReader, answer_from, total}

-- what was read of lines so far, and what is left
pub record AreTaken (start : Reader) (first : ℕ) (lines : List (List ℕ)) (reader : Reader) (number : ℕ) (rest : List (List ℕ)) : Type 0 where
  pub kept : IsReader reader
  pub answer : answer_from reader (tokens_of_lines number rest) ≡ answer_from start (tokens_of_lines first lines)
  pub count : number + length rest < 2 ^ 62
  pub row : reader.row + 999999 * total rest < 2 ^ 62
  pub column : reader.column + 999999 * total rest < 2 ^ 62

pub AreTaken-more : (start : Reader) (first : ℕ) (lines : List (List ℕ)) (reader new : Reader) (number : ℕ) (line : List ℕ) (rest : List (List ℕ)) → AreTaken start first lines reader number (line ∷ rest)
    → ((more : List PlacedToken) → answer_from reader (tokens_of_line number line ++ more) ≡ answer_from new more) → IsReader new
    → new.row ≤ reader.row + 999999 * length line → new.column ≤ reader.column + 999999 * length line → AreTaken start first lines new (number + 1) rest
AreTaken-more start first lines reader new number line rest h step kept row column = record {
  kept = kept;
  answer = sym (step (tokens_of_lines (number + 1) rest)) ∙ h.answer;
  count = omega (arith, h.count);
  row = omega (arith, h.row, row);
  column = omega (arith, h.column, column);
}

-- what was taken before the header
pub record IsBefore (lines : List (List ℕ)) (number : ℕ) (rest : List (List ℕ)) : Type 0 where
  pub count : number + length rest ≡ length lines
  pub bytes : total rest ≤ total lines
  pub body : body_of (number + 1) rest ≡ body_of 1 lines
