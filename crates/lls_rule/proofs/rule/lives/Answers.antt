use Rattle.std.proofs.Common.{◌≡◌, Bool, ◌∙◌, sym, ap, nat_eq, bit_and, cond, true, false, arith, not}
use Rattle.std.specs.Prelude.{count_ones}
use Rattle.std.proofs.lemmas.Nat.Bits.{shr_and_one}
use Rattle.std.proofs.lemmas.Bool.Decides.{nat_tests}
use Rattle.std.proofs.lemmas.Bool.{eq-eqb, ne_eqb}
use Rattle.lls_rule.specs.Rule.{has_bit, live_neighbours}
use Rattle.lls_rule.proofs.Counts.{count_ones-around, live_neighbours-le, centre_test}
use Rattle.lls_rule.proofs.rule.lives.Goals as goal
use Rattle.lls_rule.proofs.rule.lives.Goals.{then-nine-eq0, else-nine-eq0}

pub overflow_shr-result : goal.overflow_shr-result
overflow_shr-result c = omega (arith, count_ones-around c.args.nine c.requires.nine_in, live_neighbours-le c.args.nine)

from_not : (b v : Bool) → not b ≡ v → b ≡ not v
from_not b v e = grind (arith, nat_tests)

pub returns : goal.returns
returns c =
    let chosen : c.if-nine-eq0.counts ≡ cond (has_bit c.args.nine 4) c.args.survive c.args.birth =
    elim c.if-nine-eq0.branch [
      | then-nine-eq0 w ↦ w.counts-is ∙ sym (ap (λ b. cond b c.args.survive c.args.birth) (from_not _ true (sym (centre_test c.args.nine c.requires.nine_in) ∙ eq-eqb _ _ w.if-nine-eq0.true)))
      | else-nine-eq0 w ↦ w.counts-is ∙ sym (ap (λ b. cond b c.args.survive c.args.birth) (from_not _ false (sym (centre_test c.args.nine c.requires.nine_in) ∙ ne_eqb _ _ w.if-nine-eq0.false)))
    ] in
    ap (λ n. nat_eq n 1) (shr_and_one c.if-nine-eq0.counts (count_ones (bit_and c.args.nine 495))) ∙
    (ap (λ k. has_bit c.if-nine-eq0.counts k) (count_ones-around c.args.nine c.requires.nine_in) ∙ ap (λ n. has_bit n (live_neighbours c.args.nine)) chosen)
