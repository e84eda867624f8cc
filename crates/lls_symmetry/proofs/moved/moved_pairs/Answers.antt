use Rattle.std.proofs.Common.{◌≡◌, ap, ◌∙◌, arith, w32, to_z, of_z, to_z-of_z}
use Rattle.lls_symmetry.specs.Moved.{moved_pairs_of}
use Rattle.lls_symmetry.proofs.Shifted.{IsMoved-by_pairs, generation_more, all_generations}
use Rattle.lls_symmetry.proofs.moved.moved_pairs.Goals as goal

pub loop-t-preserved : goal.loop-t-preserved
loop-t-preserved c =
    generation_more c.args.height c.args.width c.args.period c.loop-t.t (to_z w32 (of_z w32 c.args.dx)) (to_z w32 (of_z w32 c.args.dy))
    c.loop-t.moved.items c.push_leaving.new.moved.items c.push_entering.new.moved.items c.loop-t.invariant (c.in_ok-push_leaving.ensures) (c.in_ok-push_entering.ensures)

pub returns-clause-pairs : goal.returns-clause-pairs
returns-clause-pairs c =
    let columns : to_z w32 (of_z w32 c.args.dx) ≡ c.args.dx = to_z-of_z c.ranges.dx in
    let rows : to_z w32 (of_z w32 c.args.dy) ≡ c.args.dy = to_z-of_z c.ranges.dy in
    all_generations c.args.generations c.args.height c.args.width c.args.period c.loop-t.t _ _ c.loop-t.moved.items c.loop-t.invariant (omega (arith, c.saturating_sub-t-end.ensures))
    ∙ ap (λ dx. moved_pairs_of c.args.generations c.args.height c.args.width c.args.period dx (to_z w32 (of_z w32 c.args.dy))) columns
    ∙ ap (moved_pairs_of c.args.generations c.args.height c.args.width c.args.period c.args.dx) rows

pub returns-clause-moved : goal.returns-clause-moved
returns-clause-moved c =
    IsMoved-by_pairs c.args.generations c.args.height c.args.width c.args.period c.args.dx c.args.dy c.loop-t.moved.items c.requires.rows (returns-clause-pairs c)
