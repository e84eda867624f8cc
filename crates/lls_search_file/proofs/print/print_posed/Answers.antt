use Rattle.std.proofs.Common.{◌≡◌, ◌<◌, ◌≤◌, ◌∙◌, ◌+◌, ◌*◌, ◌++◌, inl, inr, ℕ, List, [], length, map, take, drop, get_or, ap, sym, arith, length-drop, take_all, Some, Ok, true}
use Rattle.std.specs.List.{list_all}
use Rattle.std.proofs.lemmas.List.{drop-drop, drop-map}
use Rattle.lls_grid.specs.Chunks.{chunked}
use Rattle.lls_grid.specs.Text.{line_feed, text_of, rows_text}
use Rattle.lls_grid.proofs.Joins.{word_more}
use Rattle.lls_grid.proofs.Chunks.{get_or-chunked_twice, length-chunked, generation-le, map-chunked, chunked-take}
use Rattle.lls_search_file.specs.declared.cell.Cell.{Cell}
use Rattle.lls_search_file.specs.Posed.{PosedFile}
use Rattle.lls_search_file.specs.Reading.{posed_of}
use Rattle.lls_search_file.specs.Kept.{is_named_within}
use Rattle.lls_search_file.specs.Printing.{word_text, posed_text}
use Rattle.lls_search_file.proofs.AllItems.{all_take, all_drop}
use Rattle.lls_search_file.proofs.Numbering.{all_named_within}
use Rattle.lls_search_file.proofs.RoundTrip.{posed_of-posed_text}
use Rattle.lls_search_file.proofs.print.print_posed.Goals as goal
use Rattle.lls_search_file.proofs.print.print_posed.Goals.{then-t-gt0+in_ok-push, else-t-gt0}

-- the rows of a generation as they are printed
rows_of_generation : (generations height width t : ℕ) (word : Cell → List ℕ) (cells : List Cell) → t < generations
    → map (map word) (chunked width height (take (width * height) (drop (width * (height * t)) cells)))
    ≡ get_or (chunked height generations (chunked width (height * generations) (map word cells))) t []
rows_of_generation generations height width t word cells t_in =
    let rest = drop (width * (height * t)) cells in
    ap (map (map word)) (chunked-take width height rest) ∙
    (map-chunked word width height rest ∙
    (ap (chunked width height) (sym (drop-map word (width * (height * t)) cells)) ∙
    sym (get_or-chunked_twice generations height width t (map word cells) t_in)))

pub loop-t-init : goal.loop-t-init
loop-t-init c =
    let none : c.posed.inside.width * (c.posed.inside.height * 0) ≡ 0 = omega arith in
    record {
      text = c.new-text.ensures.items;
      rest = c.items-rest.ensures ∙ sym (ap (λ n. drop n c.posed.inside.cells) none);
    }

pub split_at-requires : goal.split_at-requires
split_at-requires c =
    let file = c.posed.inside in
    let before = file.width * (file.height * c.loop-t.t) in
    omega (arith, ap length c.loop-t.invariant.rest, length-drop before file.cells, generation-le file.generations file.height file.width c.loop-t.t c.loop-t-test.true, c.posed.invariant.count)

pub push_rows-requires-clause-named : goal.push_rows-requires-clause-named
push_rows-requires-clause-named c =
    let file = c.posed.inside in
    let test = is_named_within (length file.names) in
    let all : list_all test file.cells ≡ true = all_named_within file.cells (length file.names) (Some 0) c.posed.invariant.numbered in
    let rest : list_all test c.loop-t.rest.now ≡ true = rw c.loop-t.invariant.rest (all_drop test (file.width * (file.height * c.loop-t.t)) file.cells all) in
    rw (c.items.ensures, c.split_at.ensures.front) (all_take test (file.width * file.height) c.loop-t.rest.now rest)

pub loop-t-preserved : goal.loop-t-preserved
loop-t-preserved c =
    let file = c.posed.inside in
    let word : Cell → List ℕ = word_text file.names in
    let t = c.loop-t.t in
    let before = file.width * (file.height * t) in
    let generations = chunked file.height file.generations (chunked file.width (file.height * file.generations) (map word file.cells)) in
    let t_in : t < length generations = omega (arith, length-chunked file.height file.generations (chunked file.width (file.height * file.generations) (map word file.cells)), c.loop-t-test.true) in
    let cells : c.split_at.result.0.now ≡ take (file.width * file.height) (drop before file.cells) = c.split_at.ensures.front ∙ ap (take (file.width * file.height)) c.loop-t.invariant.rest in
    let after : before + file.width * file.height ≡ file.width * (file.height * (t + 1)) = omega arith in
    let printed : c.push_rows.new.text.items ≡ c.if-t-gt0.text.items ++ rows_text (get_or generations t []) =
    c.in_ok-push_rows.ensures ∙
    rw (c.items.ensures, cells) (ap (λ rows. c.if-t-gt0.text.items ++ rows_text rows) (rows_of_generation file.generations file.height file.width t word file.cells c.loop-t-test.true)) in
    record {
      text = word_more line_feed rows_text generations t [] [] c.loop-t.text.items c.if-t-gt0.text.items c.push_rows.new.text.items t_in c.loop-t.invariant.text
          (elim c.if-t-gt0.branch [
            | then-t-gt0+in_ok-push w ↦ inl (w.if-t-gt0.true, ap (λ text. text.items) w.text-is ∙ w.in_ok-push.ensures.items)
            | else-t-gt0 w ↦ inr (omega (arith, w.if-t-gt0.false), ap (λ text. text.items) w.text-is)
          ])
          printed;
      rest = c.split_at.ensures.back ∙
          (ap (drop (file.width * file.height)) c.loop-t.invariant.rest ∙
          (drop-drop (file.width * file.height) before file.cells ∙ ap (λ n. drop n file.cells) after));
    }

pub returns-clause-text : goal.returns-clause-text
returns-clause-text c =
    let file = c.posed.inside in
    let rows = chunked file.width (file.height * file.generations) (map (word_text file.names) file.cells) in
    let all : length (chunked file.height file.generations rows) ≤ c.loop-t.t = omega (arith, length-chunked file.height file.generations rows, c.loop-t-test.false) in
    c.loop-t.invariant.text ∙ (ap text_of (take_all c.loop-t.t (chunked file.height file.generations rows) all) ∙ ap posed_text c.posed.view_is)

pub returns-clause-read_back : goal.returns-clause-read_back
returns-clause-read_back c =
    let file = c.posed.inside in
    let rows = chunked file.width (file.height * file.generations) (map (word_text file.names) file.cells) in
    let all : length (chunked file.height file.generations rows) ≤ c.loop-t.t = omega (arith, length-chunked file.height file.generations rows, c.loop-t-test.false) in
    let value : PosedFile = record { generations = file.generations; height = file.height; width = file.width; cells = file.cells; names = file.names } in
    let printed : c.loop-t.text.items ≡ posed_text value = c.loop-t.invariant.text ∙ ap text_of (take_all c.loop-t.t (chunked file.height file.generations rows) all) in
    ap posed_of printed ∙ (posed_of-posed_text value c.posed.invariant ∙ ap Ok c.posed.view_is)
