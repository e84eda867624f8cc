use Rattle.std.proofs.Common.{◌*◌, ◌∙◌, ap, length, pos, arith}
use Rattle.std.specs.List.{flat_map, range_with_len}
use Rattle.std.proofs.lemmas.List.{get_or_default}
use Rattle.lls_cardinality.specs.Counter.{place_clauses, row_clauses, counter_clauses}
use Rattle.lls_cardinality.proofs.Steps.{pushed_more, pushed_all, HasRoom-after}
use Rattle.lls_cardinality.proofs.Bounds.{length-row_clauses}
use Rattle.lls_cardinality.proofs.counter.push_rows.Goals as goal

pub push_row-requires-clause-room : goal.push_row-requires-clause-room
push_row-requires-clause-room c =
    HasRoom-after _ _ (row_clauses c.args.counter.base c.args.counter.top c.args.cells.now) (4 * c.args.counter.top) c.loop-k.k (length c.args.cells.now)
    (length-row_clauses c.args.counter.base c.args.counter.top c.args.cells.now) c.loop-k.invariant c.loop-k-test.true c.requires.room

pub loop-k-preserved : goal.loop-k-preserved
loop-k-preserved c =
    pushed_more _ _ _ (row_clauses c.args.counter.base c.args.counter.top c.args.cells.now) c.loop-k.k _ c.loop-k.invariant c.in_ok-push_row.ensures.ok
    (ap (λ cell. flat_map (place_clauses c.args.counter.base c.args.counter.top cell c.loop-k.k) (range_with_len 0 c.args.counter.top)) (c.index-cells-k.is ∙ get_or_default c.args.cells.now c.loop-k.k c.index-cells-k.result (pos 0) c.loop-k-test.true))

pub returns-clause-ok : goal.returns-clause-ok
unfolding counter_clauses
returns-clause-ok c =
    pushed_all _ _ (row_clauses c.args.counter.base c.args.counter.top c.args.cells.now) c.loop-k.k _ c.loop-k.invariant (omega arith)
