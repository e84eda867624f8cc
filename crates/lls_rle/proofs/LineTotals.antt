-- How many bytes the lines of a text have: no more than the text.
use Rattle.std.proofs.Common.{◌≤◌, ◌+◌, ◌-◌, ℕ, true, false, cond, eqb, get_or, List, [], ◌∷◌, length, map, take, arith, length-take}
use Rattle.std.specs.List.{onto_first}
use Rattle.std.specs.Str.Lines.{strip_carriage_return}
use Rattle.lls_text.specs.Lines.{cut_lines, lines_of, is_line_feed}
use Rattle.lls_rle.specs.Reader.{total}

total-onto_first : (b : ℕ) (lines : List (List ℕ)) → total (onto_first b lines) ≤ 1 + total lines
total-onto_first b [] = omega arith
total-onto_first b (line ∷ lines) = omega arith

total-cut_lines : (text : List ℕ) → total (cut_lines text) ≤ length text
total-cut_lines [] = omega arith
total-cut_lines (b ∷ bs) =
    elim (is_line_feed b) as (λ v. total (cond v ([] ∷ cut_lines bs) (onto_first b (cut_lines bs))) ≤ length (b ∷ bs)) [
      | true ↦ omega (arith, total-cut_lines bs)
      | false ↦ omega (arith, total-onto_first b (cut_lines bs), total-cut_lines bs)
    ]

length-strip : (line : List ℕ) → length (strip_carriage_return line) ≤ length line
length-strip line =
    elim (eqb (get_or line (length line - 1) 0) 13) as (λ v. length (cond v (take (length line - 1) line) line) ≤ length line) [
      | true ↦ omega (arith, length-take (length line - 1) line)
      | false ↦ omega arith
    ]

total-stripped : (lines : List (List ℕ)) → total (map strip_carriage_return lines) ≤ total lines
total-stripped [] = omega arith
total-stripped (line ∷ lines) = omega (arith, length-strip line, total-stripped lines)

pub total-lines_of : (text : List ℕ) → total (lines_of text) ≤ length text
total-lines_of text = omega (arith, total-stripped (cut_lines text), total-cut_lines text)
