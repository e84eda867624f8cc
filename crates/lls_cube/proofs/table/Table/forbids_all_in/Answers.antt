use Rattle.std.proofs.Common.{◌*◌, ◌+◌, ◌∙◌, sym, refl, true≢false, arith}
use Rattle.lls_cube.proofs.Covered.{between_none, not_between, row_passed}
use Rattle.lls_cube.proofs.table.Table.forbids_all_in.Goals as goal
use Rattle.lls_cube.proofs.table.Table.forbids_all_in.Goals.{else-contains-via-then-contains+else-not-forbidden, else-contains-via-else-contains}

pub loop-low-init : goal.loop-low-init
loop-low-init g c = between_none c.args.self.now c.args.cube (64 * c.args.word)

pub returns-then-not-forbidden : goal.returns-then-not-forbidden
returns-then-not-forbidden g c =
    not_between c.args.self.now c.args.cube (64 * c.args.word) 64 (64 * c.args.word + c.loop-low.low) (omega arith) (omega (arith, c.loop-low-test.true))
    (sym c.contains.ensures ∙ c.if-contains.true) (sym c.forbidden.ensures ∙ c.if-not-forbidden.true)

pub loop-low-preserved : goal.loop-low-preserved
loop-low-preserved g c =
    row_passed c.args.self.now c.args.cube (64 * c.args.word) c.loop-low.low (64 * c.args.word + c.loop-low.low) refl c.loop-low.invariant (elim c.else-contains.branch [
      | else-contains-via-then-contains+else-not-forbidden w ↦ λ inside. sym w.forbidden.ensures ∙ w.if-not-forbidden.false
      | else-contains-via-else-contains w ↦ λ inside. absurd (true≢false (sym inside ∙ sym c.contains.ensures ∙ w.if-contains.false))
    ])
