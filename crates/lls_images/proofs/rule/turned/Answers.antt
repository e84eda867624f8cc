use Rattle.std.proofs.Common.{◌<◌, ◌*◌, ◌+◌, ℕ, cond, get_or, false, true, Bool, Fits, w16, ap, ◌∙◌, arith}
use Rattle.lls_images.specs.Same.{nine_of}
use Rattle.lls_images.proofs.Neighbours.{bit_of_nine, so_far-more, so_far-lt, small}
use Rattle.lls_images.proofs.rule.turned.Goals as goal

pub overflow_mul-number : goal.overflow_mul-number
overflow_mul-number c =
    let few : c.loop-k.number < 256 = small c.loop-k.k 8 c.loop-k.number (omega (arith, c.loop-k-test.true)) (so_far-lt c.args.motion c.args.nine c.loop-k.k c.loop-k.number c.loop-k.invariant) in
    omega (arith, few)

pub overflow_add-number : goal.overflow_add-number
overflow_add-number c =
    let few : c.loop-k.number < 256 = small c.loop-k.k 8 c.loop-k.number (omega (arith, c.loop-k-test.true)) (so_far-lt c.args.motion c.args.nine c.loop-k.k c.loop-k.number c.loop-k.invariant) in
    let bit = bit_of_nine c.args.nine c.ninth.result c.ninth.ensures.within in
    rw bit (with_bit c.loop-k.number (get_or (nine_of c.args.nine) c.ninth.result false) few)
  where
    with_bit : (number : ℕ) (b : Bool) → number < 256 → Fits w16 (2 * number + cond b 1 0)
    with_bit number true few = omega (arith, few)
    with_bit number false few = omega (arith, few)

pub loop-k-preserved : goal.loop-k-preserved
loop-k-preserved c =
    so_far-more c.args.motion c.args.nine c.loop-k.k c.loop-k.number _ c.loop-k.invariant
    (bit_of_nine c.args.nine c.ninth.result c.ninth.ensures.within ∙ ap (λ i. cond (get_or (nine_of c.args.nine) i false) 1 0) c.ninth.ensures.place)

pub returns-clause-within : goal.returns-clause-within
returns-clause-within c =
    small c.loop-k.k 9 c.loop-k.number c.loop-k.auto.k-end (so_far-lt c.args.motion c.args.nine c.loop-k.k c.loop-k.number c.loop-k.invariant)
