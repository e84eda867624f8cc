use Rattle.std.proofs.Common.{ℕ, List, Bool, ◌≡◌, ◌*◌, ◌∙◌, sym, ap, length, arith}
use Rattle.lls_cube.specs.Words.{table_in}
use Rattle.lls_cube.proofs.Bits.{length-table_in}
use Rattle.lls_cube.proofs.Covered.{between_none, all_words, word_failed, word_passed, word_outside}
use Rattle.lls_cube.proofs.table.Table.forbids_all.Goals as goal
use Rattle.lls_cube.proofs.table.Table.forbids_all.Goals.{else-has_rows_in-via-then-has_rows_in+else-not-forbids_all_in, else-has_rows_in-via-else-has_rows_in}

-- how many rows the words of a table have
size : (words : List ℕ) (table : List Bool) (count : ℕ) → table_in words ≡ table → length words ≡ count → length table ≡ 64 * count
size words table count is all = sym (ap length is) ∙ length-table_in words ∙ ap (λ n. 64 * n) all

pub loop-word-init : goal.loop-word-init
loop-word-init g c = between_none c.args.self.now c.args.cube 0

pub returns-then-not-forbids_all_in : goal.returns-then-not-forbids_all_in
returns-then-not-forbids_all_in g c =
    word_failed c.args.self.now c.args.cube c.loop-word.word
    (omega (arith, size c.self.inside.words c.args.self.now g.row.W c.self.view_is c.self.invariant.words_are, c.loop-word-test.true))
    (sym c.forbids_all_in.ensures ∙ c.if-not-forbids_all_in.true)

pub loop-word-preserved : goal.loop-word-preserved
loop-word-preserved g c =
    word_passed c.args.self.now c.args.cube c.loop-word.word c.loop-word.invariant (elim c.else-has_rows_in.branch [
      | else-has_rows_in-via-then-has_rows_in+else-not-forbids_all_in w ↦ sym w.forbids_all_in.ensures ∙ w.if-not-forbids_all_in.false
      | else-has_rows_in-via-else-has_rows_in w ↦ word_outside c.args.self.now c.args.cube c.loop-word.word (sym c.has_rows_in.ensures ∙ w.if-has_rows_in.false)
    ])

pub returns : goal.returns
returns g c =
    all_words c.args.self.now c.args.cube c.loop-word.word
    (omega (arith, size c.self.inside.words c.args.self.now g.row.W c.self.view_is c.self.invariant.words_are, c.loop-word-test.false, c.loop-word.auto.word-end))
    c.loop-word.invariant
