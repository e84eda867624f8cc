-- How many lines a text has: no more than bytes.
use Rattle.std.proofs.Common.{◌≤◌, ℕ, ◌+◌, true, false, cond, List, [], ◌∷◌, length, arith}
use Rattle.std.specs.List.{onto_first}
use Rattle.std.specs.Str.Lines.{strip_carriage_return}
use Rattle.std.proofs.lemmas.List.{length-map}
use Rattle.lls_text.specs.Lines.{cut_lines, lines_of, is_line_feed}

length-onto_first : (b : ℕ) (lines : List (List ℕ)) → length (onto_first b lines) ≤ 1 + length lines
length-onto_first b [] = omega arith
length-onto_first b (line ∷ lines) = omega arith

length-cut_lines : (text : List ℕ) → length (cut_lines text) ≤ length text
length-cut_lines [] = omega arith
length-cut_lines (b ∷ bs) =
    elim (is_line_feed b) as (λ v. length (cond v ([] ∷ cut_lines bs) (onto_first b (cut_lines bs))) ≤ length (b ∷ bs)) [
      | true ↦ omega (arith, length-cut_lines bs)
      | false ↦ omega (arith, length-onto_first b (cut_lines bs), length-cut_lines bs)
    ]

pub length-lines_of : (text : List ℕ) → length (lines_of text) ≤ length text
length-lines_of text = omega (arith, length-map (cut_lines text) strip_carriage_return, length-cut_lines text)
