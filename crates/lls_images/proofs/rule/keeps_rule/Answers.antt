use Rattle.std.proofs.Common.{sym}
use Rattle.lls_images.specs.Same.{is_answer_kept, keeps_rule}
use Rattle.lls_images.proofs.Tests.{all_more, all_fails, all_ends, where_apart, where_same}
use Rattle.lls_images.proofs.Neighbours.{is_answer_kept-by}
use Rattle.lls_images.proofs.rule.keeps_rule.Goals as goal

pub returns-then-next : goal.returns-then-next
unfolding keeps_rule
returns-then-next c =
    sym (all_fails (is_answer_kept c.args.motion c.args.rule.now) 512 c.loop-nine.nine c.loop-nine-test.true
    (is_answer_kept-by c.args.motion c.args.rule.now c.loop-nine.nine _ _ _ _ c.turned.ensures.number c.next.ensures.answers c.next-in-loop-nine.ensures.answers (where_apart _ c.if-next.true)))

pub loop-nine-preserved : goal.loop-nine-preserved
loop-nine-preserved c =
    all_more (is_answer_kept c.args.motion c.args.rule.now) c.loop-nine.nine c.loop-nine.invariant
    (is_answer_kept-by c.args.motion c.args.rule.now c.loop-nine.nine _ _ _ _ c.turned.ensures.number c.next.ensures.answers c.next-in-loop-nine.ensures.answers (where_same _ c.if-next.false))

pub returns : goal.returns
unfolding keeps_rule
returns c = sym (all_ends (is_answer_kept c.args.motion c.args.rule.now) 512 c.loop-nine.nine c.loop-nine-test.false c.loop-nine.auto.nine-end c.loop-nine.invariant)
