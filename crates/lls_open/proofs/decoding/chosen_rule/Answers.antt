use Rattle.std.proofs.Common.{◌||◌, ◌∙◌, ap, arith, below_more, length}
use Rattle.lls_rule.specs.Rule.{answer}
use Rattle.lls_rule.proofs.Tables.{length-table_of, same_table_of, answer-set_same, answer-set_other}
use Rattle.lls_open.specs.Decoding.{is_chosen, rule_with}
use Rattle.lls_open.proofs.decoding.chosen_rule.Goals as goal

pub loop-nine-init : goal.loop-nine-init
loop-nine-init c = (ap length c.dead-rule.ensures ∙ length-table_of _, λ n h. absurd (omega arith))

pub loop-nine-preserved : goal.loop-nine-preserved
loop-nine-preserved c = (
  c.set.ensures.whole,
  below_more _ _
      (λ n h. ap (λ table. answer table n) c.set.ensures.sets ∙ (answer-set_other c.loop-nine.rule c.loop-nine.nine n c.is_given.result (λ e. absurd (omega arith)) ∙ c.loop-nine.invariant.1 n h))
      (ap (λ table. answer table c.loop-nine.nine) c.set.ensures.sets ∙ (answer-set_same c.loop-nine.rule c.loop-nine.nine c.is_given.result (omega (arith, c.loop-nine.invariant.0)) ∙ c.is_given.ensures)),
)

pub returns : goal.returns
unfolding rule_with
returns c =
    same_table_of c.loop-nine.rule (λ nine. answer c.args.problem.now.rule nine || is_chosen c.args.problem.now c.args.classes.now c.args.values.now nine) c.loop-nine.invariant.0
    (λ n h. c.loop-nine.invariant.1 n (omega (arith, h, c.loop-nine-test.false)))
