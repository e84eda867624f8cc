use Rattle.std.proofs.Common.{◌≡◌, ◌<◌, ◌∙◌, ℕ, List, Some, ap, arith, length, sym, subst, ◌+◌}
use Rattle.lls_arena.specs.Arena.{HeadState}
use Rattle.lls_watch.proofs.Numbers.{AreMoved, moved_dead, moved_live, stands_as}
use Rattle.lls_watch.proofs.compaction.move_live.Goals as goal
use Rattle.lls_watch.proofs.compaction.move_live.Goals.{then-live, else-live}

pub live-requires : goal.live-requires
live-requires c =
    let within : c.loop-k.k < length c.args.numbers.now = omega (arith, c.loop-k-test.true, c.loop-k.auto.numbers) in
    subst (λ n. n < length c.args.arena.now.heads) (sym (stands_as c.loop-k.numbers c.args.numbers.now c.loop-k.k c.loop-k.invariant.1.1)) (c.requires.there c.loop-k.k 0 within)

-- by the names of the loop's variables
moved : (heads : List HeadState) (old now last : List ℕ) (k kept count : ℕ) → now ≡ last → kept ≡ count → AreMoved heads old last count (k + 1) → AreMoved heads old now kept (k + 1)
moved heads old now last k kept count same more it = subst (λ xs. AreMoved heads old xs kept (k + 1)) (sym same) (subst (λ n. AreMoved heads old last n (k + 1)) (sym more) it)

pub loop-k-preserved : goal.loop-k-preserved
loop-k-preserved c =
    let heads = c.args.arena.now.heads in
    let old = c.args.numbers.now in
    let now = c.loop-k.numbers in
    let so_far : AreMoved heads old now c.loop-k.kept c.loop-k.k = record { low = c.loop-k.invariant.0; front = c.loop-k.invariant.1.0; rest = c.loop-k.invariant.1.1 } in
    let within : c.loop-k.k < length now = omega (arith, c.loop-k-test.true, c.loop-k.auto.numbers) in
    let same : length now ≡ length old = c.loop-k.auto.numbers in
    let it : AreMoved heads old c.if-live.numbers c.if-live.kept (c.loop-k.k + 1) =
    elim c.if-live.branch [
      | then-live w ↦
          moved heads old c.if-live.numbers _ c.loop-k.k c.if-live.kept (c.loop-k.kept + 1) w.numbers-is w.kept-is
          (moved_live heads old now c.loop-k.kept c.loop-k.k w.moved_to.result so_far within same (c.live.ensures ∙ ap Some w.if-live.true) w.moved_to.ensures)
      | else-live w ↦
          moved heads old c.if-live.numbers now c.loop-k.k c.if-live.kept c.loop-k.kept w.numbers-is w.kept-is (moved_dead heads old now c.loop-k.kept c.loop-k.k so_far within same (c.live.ensures ∙ ap Some w.if-live.false))
    ] in
    (it.low, (it.front, it.rest))
