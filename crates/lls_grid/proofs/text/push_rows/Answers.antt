use Rattle.std.proofs.Common.{◌≡◌, ◌≤◌, ◌∙◌, ◌+◌, ◌-◌, ◌*◌, ◌++◌, ℕ, suc, List, Bool, length, map, take, drop, ap, sym, arith, length-drop, append_assoc, append-nil}
use Rattle.lls_grid.specs.Chunks.{chunked}
use Rattle.lls_grid.specs.Text.{digit_word, row_text, rows_text}
use Rattle.lls_grid.proofs.text.push_rows.Goals as goal

-- the rows left, with the first apart
first_row : (text : List ℕ) (width left : ℕ) (rest : List Bool)
    → text ++ rows_text (map (map digit_word) (chunked width (suc left) rest)) ≡ (text ++ row_text (map digit_word (take width rest))) ++ rows_text (map (map digit_word) (chunked width left (drop width rest)))
first_row text width left rest = sym (append_assoc text (row_text (map digit_word (take width rest))) (rows_text (map (map digit_word) (chunked width left (drop width rest)))))

at_least_one : (width left rows : ℕ) → left ≡ suc rows → width ≤ width * left
at_least_one width left rows e = rw e (omega arith)

pub split_at-requires : goal.split_at-requires
split_at-requires c =
    let left : c.args.height - c.rows.counter ≡ suc (c.args.height - (c.rows.counter + 1)) = omega (arith, c.rows-test.true) in
    omega (arith, c.rows.invariant.count, at_least_one c.args.width (c.args.height - c.rows.counter) (c.args.height - (c.rows.counter + 1)) left)

pub rows-preserved : goal.rows-preserved
rows-preserved c =
    let width = c.args.width in
    let after = c.args.height - (c.rows.counter + 1) in
    let rest = c.rows.rest.now in
    let left : c.args.height - c.rows.counter ≡ suc after = omega (arith, c.rows-test.true) in
    let more : width * suc after ≡ width + width * after = omega arith in
    let count : length rest ≡ width * suc after = c.rows.invariant.count ∙ ap (λ n. width * n) left in
    rw (c.split_at.ensures.back, c.in_ok-push_row.ensures, c.split_at.ensures.front) (record {
      text = sym (first_row c.rows.text.items width after rest) ∙ (ap (λ n. c.rows.text.items ++ rows_text (map (map digit_word) (chunked width n rest))) (sym left) ∙ c.rows.invariant.text);
      count = omega (arith, length-drop width rest, count, more);
    })

pub returns : goal.returns
returns c =
    let none : c.args.height - c.rows.counter ≡ 0 = omega (arith, c.rows-test.false) in
    let all : c.rows.text.items ++ rows_text (map (map digit_word) (chunked c.args.width (c.args.height - c.rows.counter) c.rows.rest.now)) ≡ c.rows.text.items =
    ap (λ n. c.rows.text.items ++ rows_text (map (map digit_word) (chunked c.args.width n c.rows.rest.now))) none ∙ append-nil c.rows.text.items in
    sym all ∙ c.rows.invariant.text
