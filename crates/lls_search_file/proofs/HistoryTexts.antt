-- The text of a history is that of a posed file, and is read as the history.
use Rattle.std.proofs.Common.{◌≡◌, ◌*◌, Bool, true, false, cond, not, List, [], ◌∷◌, length, map, None, Some, Ok, refl, sym, ap, ◌∙◌, arith}
use Rattle.std.specs.Prelude.{codes}
use Rattle.std.specs.List.{position, position_or_len}
use Rattle.std.proofs.lemmas.List.{length-map}
use Rattle.std.proofs.lemmas.Bool.{le-ltb}
use Rattle.lls_grid.specs.Chunks.{chunked}
use Rattle.lls_grid.specs.History.{History, IsHistory, height_of, width_of, cells_of, folded}
use Rattle.lls_grid.specs.Text.{text_of, digit_word, history_text}
use Rattle.lls_grid.proofs.Chunks.{map-chunked}
use Rattle.lls_grid.proofs.InOrder.{length-cells_of}
use Rattle.lls_grid.proofs.Whole.{chunked-cells_of, folded-cells_of}
use Rattle.lls_search_file.specs.declared.cell.Cell.{Cell}
use Rattle.lls_search_file.specs.declared.cell.Kind.TheVariants.{Dead, Live}
use Rattle.lls_search_file.specs.Posed.{PosedFile, IsPosed, are_numbered}
use Rattle.lls_search_file.specs.Plain.{is_live, is_plain, history_or, plain_read, plain_of}
use Rattle.lls_search_file.specs.Printing.{word_text, posed_text}
use Rattle.lls_search_file.proofs.RoundTrip.{posed_of-posed_text}

fixed : Bool → Cell
fixed live = record { mark = false; kind = cond live Live Dead }

file_of_history : History → PosedFile
file_of_history history = record {
  generations = length history;
  height = height_of history;
  width = width_of history;
  cells = map fixed (cells_of history);
  names = [];
}

none_named : (cells : List Bool) → are_numbered (map fixed cells) 0 (Some 0) ≡ true
unfolding fixed
none_named [] = refl
none_named (true ∷ cells) = none_named cells
none_named (false ∷ cells) = none_named cells

is_posed : (history : History) → IsHistory history → IsPosed (file_of_history history)
unfolding file_of_history
is_posed history whole =
    let count = length-cells_of (length history) (height_of history) (width_of history) history whole.sizes in
    record {
      generations = whole.generations;
      height = whole.height;
      width = whole.width;
      count = length-map (cells_of history) fixed ∙ count;
      most = omega (arith, length-map (cells_of history) fixed, whole.most);
      distinct = refl;
      spelled = refl;
      numbered = none_named (cells_of history);
    }

digits : (cells : List Bool) → map (word_text []) (map fixed cells) ≡ map digit_word cells
unfolding fixed
digits [] = refl
digits (true ∷ cells) = ap (λ words. codes "1" ∷ words) (digits cells)
digits (false ∷ cells) = ap (λ words. codes "0" ∷ words) (digits cells)

same_text_as_file : (history : History) → IsHistory history → history_text history ≡ posed_text (file_of_history history)
unfolding file_of_history
same_text_as_file history whole =
    let generations = length history in
    let height = height_of history in
    let width = width_of history in
    let cells = cells_of history in
    sym (ap (λ words. text_of (chunked height generations (chunked width (height * generations) words))) (digits cells)
    ∙ (ap (λ rows. text_of (chunked height generations rows)) (sym (map-chunked digit_word width (height * generations) cells))
    ∙ (ap text_of (sym (map-chunked (map digit_word) height generations (chunked width (height * generations) cells)))
    ∙ ap history_text (chunked-cells_of generations height width history whole.sizes))))

lives_back : (cells : List Bool) → map (λ cell. is_live cell.kind) (map fixed cells) ≡ cells
unfolding fixed
lives_back [] = refl
lives_back (true ∷ cells) = ap (λ more. true ∷ more) (lives_back cells)
lives_back (false ∷ cells) = ap (λ more. false ∷ more) (lives_back cells)

plain_front : (cells : List Bool) → position_or_len (λ cell. not (is_plain cell)) (map fixed cells) ≡ length (map fixed cells)
unfolding fixed
plain_front [] = refl
plain_front (true ∷ cells) = rw (plain_front cells) (omega arith)
plain_front (false ∷ cells) = rw (plain_front cells) (omega arith)

all_plain : (cells : List Bool) → position (λ cell. not (is_plain cell)) (map fixed cells) ≡ None
all_plain cells =
    let none = le-ltb (length (map fixed cells)) (length (map fixed cells)) (omega arith) in
    rw (plain_front cells, none) refl

pub plain_of-history_text : (history : History) → IsHistory history → plain_of (history_text history) ≡ Ok history
unfolding file_of_history
plain_of-history_text history whole =
    let cells = cells_of history in
    ap plain_of (same_text_as_file history whole)
    ∙ (ap plain_read (posed_of-posed_text (file_of_history history) (is_posed history whole))
    ∙ (ap (history_or (file_of_history history)) (all_plain cells)
    ∙ (ap (λ live. Ok (folded (length history) (height_of history) (width_of history) live)) (lives_back cells)
    ∙ ap Ok (folded-cells_of (length history) (height_of history) (width_of history) history whole.sizes))))
