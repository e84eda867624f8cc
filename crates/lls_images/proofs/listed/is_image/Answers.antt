use Rattle.std.proofs.Common.{◌<◌, ◌≤◌, sym, ap, ◌∙◌, subst, get_or, false}
use Rattle.std.proofs.Math.Bool.{beq}
use Rattle.lls_search_file.specs.Posed.{sizes_of}
use Rattle.lls_problem.specs.Bounds.{grid_size}
use Rattle.lls_images.specs.Same.{is_image_at}
use Rattle.lls_images.proofs.Tests.{all_more, all_fails, all_ends, where_apart, where_same}
use Rattle.lls_images.proofs.listed.is_image.Goals as goal

pub returns-then-pattern-k : goal.returns-then-pattern-k
returns-then-pattern-k c =
    sym (all_fails (is_image_at c.args.motion (sizes_of c.args.posed.now) c.args.pattern.now c.args.other.now) (grid_size c.args.posed.now) c.loop-k.k
    (subst (λ n. c.loop-k.k < n) c.grid_size-k-end.ensures.size c.loop-k-test.true)
    (ap (λ i. beq (get_or c.args.pattern.now c.loop-k.k false) (get_or c.args.other.now i false)) (sym c.image_index.ensures.index) ∙ where_apart _ c.if-pattern-k.true))

pub loop-k-preserved : goal.loop-k-preserved
loop-k-preserved c =
    all_more (is_image_at c.args.motion (sizes_of c.args.posed.now) c.args.pattern.now c.args.other.now) c.loop-k.k c.loop-k.invariant
    (ap (λ i. beq (get_or c.args.pattern.now c.loop-k.k false) (get_or c.args.other.now i false)) (sym c.image_index.ensures.index) ∙ where_same _ c.if-pattern-k.false)

pub returns : goal.returns
returns c =
    sym (all_ends (is_image_at c.args.motion (sizes_of c.args.posed.now) c.args.pattern.now c.args.other.now) (grid_size c.args.posed.now) c.loop-k.k
    (subst (λ n. n ≤ c.loop-k.k) c.grid_size-k-end.ensures.size c.loop-k-test.false) (subst (λ n. c.loop-k.k ≤ n) c.grid_size-k-end.ensures.size c.loop-k.auto.k-end) c.loop-k.invariant)
