use Rattle.std.proofs.Common.{◌∙◌, ap, sym, arith}
use Rattle.lls_cube.specs.Cube.{row_cube}
use Rattle.lls_cube.specs.Cover.{after_input}
use Rattle.lls_cube.proofs.Covered.{fold_more, without_made, input_dropped, input_kept, widest_made}
use Rattle.lls_cube.proofs.covering.widest.Goals as goal
use Rattle.lls_cube.proofs.covering.widest.Goals.{then-forbids_all, else-forbids_all}

pub loop-input-preserved : goal.loop-input-preserved
loop-input-preserved g c =
    let table = c.args.table.now in
    let wider = without_made g.row.K c.loop-input.input c.all_but.result c.loop-input.cube c.within-wider.result c.within-wider.ensures c.all_but.ensures in
    let before = ap (λ cube. after_input table g.row.K cube c.loop-input.input) c.loop-input.invariant
    ∙ sym (fold_more (after_input table g.row.K) c.loop-input.input (row_cube g.row.K c.args.row)) in
    elim c.if-forbids_all.branch [
      | then-forbids_all w ↦ rw w.cube-is (input_dropped table g.row.K c.loop-input.input c.loop-input.cube c.within-wider.result wider (sym c.forbids_all.ensures ∙ w.if-forbids_all.true) ∙ before)
      | else-forbids_all w ↦ rw w.cube-is (input_kept table g.row.K c.loop-input.input c.loop-input.cube c.within-wider.result wider (sym c.forbids_all.ensures ∙ w.if-forbids_all.false) ∙ before)
    ]

pub returns : goal.returns
returns g c = widest_made c.args.table.now g.row.K c.args.row c.loop-input.input c.loop-input.cube (omega arith) c.loop-input.invariant
