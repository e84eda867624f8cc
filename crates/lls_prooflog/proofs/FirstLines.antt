-- The first line of bytes, and what it is to the lines of all.
use Rattle.std.proofs.Common.{◌≡◌, ℕ, true, false, cond, eqb, ◌||◌, List, [], ◌∷◌, ◌++◌, map, refl, ap, ◌∙◌}
use Rattle.std.specs.List.{onto_first}
use Rattle.std.specs.Str.Lines.{strip_carriage_return}
use Rattle.lls_text.specs.Lines.{line_feed, cut_lines, lines_of}
use Rattle.lls_prooflog.specs.FirstLine.{has_line, IsFirstLine}

cut_behind : (line rest : List ℕ) → has_line line ≡ false → cut_lines (line ++ line_feed ∷ rest) ≡ line ∷ cut_lines rest
cut_behind [] rest none = refl
cut_behind (b ∷ bs) rest none =
    elim (eqb b 10) as (λ v. (v || has_line bs) ≡ false → cond v ([] ∷ cut_lines (bs ++ line_feed ∷ rest)) (onto_first b (cut_lines (bs ++ line_feed ∷ rest))) ≡ (b ∷ bs) ∷ cut_lines rest) [
      | true ↦ λ h. absurd cc
      | false ↦ λ h. ap (onto_first b) (cut_behind bs rest h)
    ] none

-- the first line is the first of all lines
pub lines_of-first : (bytes line rest : List ℕ) → IsFirstLine bytes line rest → lines_of bytes ≡ strip_carriage_return line ∷ lines_of rest
lines_of-first bytes line rest h = ap lines_of h.whole ∙ ap (map strip_carriage_return) (cut_behind line rest h.one_line)
