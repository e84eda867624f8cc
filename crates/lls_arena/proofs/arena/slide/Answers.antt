use Rattle.std.proofs.Common.{◌≡◌, ◌-◌, arith}
use Rattle.lls_arena.proofs.Sliding.{slice_range-moved}
use Rattle.lls_arena.proofs.arena.slide.Goals as goal

pub returns-clause-moved : goal.returns-clause-moved
returns-clause-moved c =
    let whole : c.loop-k.k ≡ c.args.end - c.args.start = omega (arith, c.loop-k-test.false, c.loop-k.auto.k-end) in
    slice_range-moved c.args.lits.now c.loop-k.lits c.args.start c.args.end c.args.to c.loop-k.k c.loop-k.invariant.outside.length_same c.requires.down c.requires.straight c.requires.within whole c.loop-k.invariant.moved
