use Rattle.std.proofs.Common.{◌≡◌, ◌≤◌, ◌∙◌, ◌+◌, ◌-◌, ◌*◌, ◌++◌, ℕ, suc, List, length, map, take, drop, ap, sym, arith, length-drop, append_assoc, append-nil}
use Rattle.lls_grid.specs.Chunks.{chunked}
use Rattle.lls_grid.specs.Text.{row_text, rows_text}
use Rattle.lls_search_file.specs.declared.cell.Cell.{Cell}
use Rattle.lls_search_file.specs.Printing.{word_text}
use Rattle.lls_search_file.specs.Kept.{is_named_within}
use Rattle.lls_search_file.proofs.AllItems.{all_take, all_drop}
use Rattle.lls_search_file.proofs.print.push_rows.Goals as goal

-- the rows left, with the first apart
first_row : (names : List (List ℕ)) (text : List ℕ) (width left : ℕ) (rest : List Cell)
    → text ++ rows_text (map (map (word_text names)) (chunked width (suc left) rest)) ≡ (text ++ row_text (map (word_text names) (take width rest))) ++ rows_text (map (map (word_text names)) (chunked width left (drop width rest)))
first_row names text width left rest = sym (append_assoc text (row_text (map (word_text names) (take width rest))) (rows_text (map (map (word_text names)) (chunked width left (drop width rest)))))

at_least_one : (width left rows : ℕ) → left ≡ suc rows → width ≤ width * left
at_least_one width left rows e = rw e (omega arith)

pub split_at-requires : goal.split_at-requires
split_at-requires c =
    let left : c.args.height - c.rows.counter ≡ suc (c.args.height - (c.rows.counter + 1)) = omega (arith, c.rows-test.true) in
    omega (arith, c.rows.invariant.count, at_least_one c.args.width (c.args.height - c.rows.counter) (c.args.height - (c.rows.counter + 1)) left)

pub push_row-requires : goal.push_row-requires
push_row-requires c =
    rw c.split_at.ensures.front (all_take (is_named_within (length c.args.names.now)) c.args.width c.rows.rest.now c.rows.invariant.named)

pub rows-preserved : goal.rows-preserved
rows-preserved c =
    let width = c.args.width in
    let after = c.args.height - (c.rows.counter + 1) in
    let rest = c.rows.rest.now in
    let left : c.args.height - c.rows.counter ≡ suc after = omega (arith, c.rows-test.true) in
    let more : width * suc after ≡ width + width * after = omega arith in
    let count : length rest ≡ width * suc after = c.rows.invariant.count ∙ ap (λ n. width * n) left in
    rw (c.split_at.ensures.back, c.in_ok-push_row.ensures, c.split_at.ensures.front) (record {
      text = sym (first_row c.args.names.now c.rows.text.items width after rest) ∙ (ap (λ n. c.rows.text.items ++ rows_text (map (map (word_text c.args.names.now)) (chunked width n rest))) (sym left) ∙ c.rows.invariant.text);
      named = all_drop (is_named_within (length c.args.names.now)) width rest c.rows.invariant.named;
      count = omega (arith, length-drop width rest, count, more);
    })

pub returns : goal.returns
returns c =
    let none : c.args.height - c.rows.counter ≡ 0 = omega (arith, c.rows-test.false) in
    let all : c.rows.text.items ++ rows_text (map (map (word_text c.args.names.now)) (chunked c.args.width (c.args.height - c.rows.counter) c.rows.rest.now)) ≡ c.rows.text.items =
    ap (λ n. c.rows.text.items ++ rows_text (map (map (word_text c.args.names.now)) (chunked c.args.width n c.rows.rest.now))) none ∙ append-nil c.rows.text.items in
    sym all ∙ c.rows.invariant.text
