-- How the reading of a text ends.
use Rattle.std.proofs.Common.{◌≡◌, ℕ, ◌+◌, List, [], ◌∷◌, Some, Ok, Err, sym, ap, ◌∙◌}
use Rattle.lls_base.specs.Results.{and_then}
use Rattle.lls_text.specs.Lines.{lines_of}
use Rattle.lls_search_file.specs.declared.cell.Cell.{Cell}
use Rattle.lls_search_file.specs.declared.shape.Shape.{Shape}
use Rattle.lls_search_file.specs.declared.posed_fault.PosedFault.{PosedFault}
use Rattle.lls_search_file.specs.Reading.{names_of, posed_of}
use Rattle.lls_search_file.specs.Counted.{Counts, no_shape, with_end, line_taken, lines_taken, at_end, file_of}
use Rattle.lls_search_file.specs.Kept.{IsNumbered, words_in}
use Rattle.lls_search_file.proofs.Counting.{posed_of-counted}
use Rattle.lls_search_file.proofs.Renumbering.{names_of-words_in, cells_said-words_in}

-- the file that has been read
pub at_end-is : (shape end : Shape) (width height : ℕ) (names : List (List ℕ)) (cells : List Cell) → with_end shape ≡ Ok end → end.width ≡ Some width → end.height ≡ Some height → IsNumbered names cells
    → at_end (record { shape = shape; words = words_in names cells })
    ≡ Ok (record { generations = end.ended; height = height; width = width; cells = cells; names = names })
at_end-is shape end width height names cells ends wide high kept =
    let words = words_in names cells in
    ap (λ read. and_then read (λ s. file_of s.width s.height s.ended words)) ends ∙
    (ap (λ w. file_of w end.height end.ended words) wide ∙
    (ap (λ h. file_of (Some width) h end.ended words) high ∙
    (ap (λ cs. Ok (record { generations = end.ended; height = height; width = width; cells = cs; names = names_of words })) (cells_said-words_in names cells kept) ∙
    ap (λ ns. Ok (record { generations = end.ended; height = height; width = width; cells = cells; names = ns })) (names_of-words_in names cells kept))))

-- the lines left give what all lines give
abbrev Leads : List ℕ → ℕ → List (List ℕ) → Counts → Type 0
Leads bytes number rest counts = lines_taken (number + 1) rest counts ≡ lines_taken 1 (lines_of bytes) (record { shape = no_shape; words = [] })

pub posed_of-fault : (bytes line : List ℕ) (rest behind : List (List ℕ)) (number : ℕ) (counts : Counts) (fault : PosedFault) → Leads bytes number rest counts → rest ≡ line ∷ behind
    → line_taken (number + 1) line counts ≡ Err fault → posed_of bytes ≡ Err fault
posed_of-fault bytes line rest behind number counts fault leads first bad =
    posed_of-counted bytes ∙ ap (λ read. and_then read at_end) (sym leads ∙ (ap (λ lines. lines_taken (number + 1) lines counts) first ∙ ap (λ read. and_then read (lines_taken ((number + 1) + 1) behind)) bad))

pub posed_of-end : (bytes : List ℕ) (rest : List (List ℕ)) (number : ℕ) (counts : Counts) → Leads bytes number rest counts → rest ≡ [] → posed_of bytes ≡ at_end counts
posed_of-end bytes rest number counts leads none =
    posed_of-counted bytes ∙ ap (λ read. and_then read at_end) (sym leads ∙ ap (λ lines. lines_taken (number + 1) lines counts) none)
