use Rattle.std.proofs.Common.{◌∙◌, ◌++◌, inl, inr, ap, arith}
use Rattle.lls_grid.specs.Text.{blank, digit_word}
use Rattle.lls_grid.proofs.Joins.{word_more}
use Rattle.lls_grid.proofs.text.push_row.Goals as goal
use Rattle.lls_grid.proofs.text.push_row.Goals.{then-x-gt0+in_ok-push, else-x-gt0}

pub loop-x-preserved : goal.loop-x-preserved
loop-x-preserved c =
    word_more blank digit_word c.args.row.now c.loop-x.x _ c.args.text.now.items c.loop-x.text.items c.if-x-gt0.text.items c.extend_from_slice.new.self.items c.loop-x-test.true c.loop-x.invariant
    (elim c.if-x-gt0.branch [
      | then-x-gt0+in_ok-push w ↦ inl (w.if-x-gt0.true, ap (λ text. text.items) w.text-is ∙ w.in_ok-push.ensures.items)
      | else-x-gt0 w ↦ inr (omega (arith, w.if-x-gt0.false), ap (λ text. text.items) w.text-is)
    ])
    (c.in_ok-extend_from_slice.ensures.items ∙ ap (λ word. c.if-x-gt0.text.items ++ word) c.digit.ensures)
