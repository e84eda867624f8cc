use Rattle.std.proofs.Common.{refl}
use Rattle.lls_cardinality.specs.Counter.{place_clauses}
use Rattle.lls_cardinality.proofs.Steps.{pushed_more, HasRoom-after}
use Rattle.lls_cardinality.proofs.Bounds.{length-place_clauses}
use Rattle.lls_cardinality.proofs.counter.push_row.Goals as goal

pub push_place-requires-clause-room : goal.push_place-requires-clause-room
push_place-requires-clause-room c =
    HasRoom-after _ _ (place_clauses c.args.counter.base c.args.counter.top c.args.cell c.args.k) 4 c.loop-j.j c.args.counter.top
    (length-place_clauses c.args.counter.base c.args.counter.top c.args.cell c.args.k) c.loop-j.invariant c.loop-j-test.true c.requires.room

pub loop-j-preserved : goal.loop-j-preserved
loop-j-preserved c =
    pushed_more _ _ _ (place_clauses c.args.counter.base c.args.counter.top c.args.cell c.args.k) c.loop-j.j _ c.loop-j.invariant c.in_ok-push_place.ensures.ok refl
