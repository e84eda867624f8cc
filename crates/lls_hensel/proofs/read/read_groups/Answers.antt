use Rattle.std.proofs.Common.{◌∙◌, sym, ap, length, ◌+◌}
use Rattle.std.proofs.lemmas.Result.{err_from_is_err_and}
use Rattle.lls_hensel.specs.Groups.{seen_group}
use Rattle.lls_hensel.specs.Sides.{table_read, groups_at}
use Rattle.lls_hensel.proofs.Sides.{table_read-fault, table_read-group, table_read-end}
use Rattle.lls_hensel.proofs.With.{length-with_entries}
use Rattle.lls_hensel.proofs.read.read_groups.Goals as goal

pub returns-in_err-group : goal.returns-in_err-group
returns-in_err-group c =
    let p = err_from_is_err_and c.from_residual.result c.from_residual.ensures.1 in
    rw (p.1, p.2) (sym (c.loop-at.invariant.reads ∙ table_read-fault c.args.survival c.loop-at.both c.args.side.column c.args.side.bytes.now c.loop-at.at c.in_err-group.field-0.0 c.loop-at-test.true c.loop-at.invariant.at_digit (sym c.in_err-group.ensures)))

pub loop-at-preserved : goal.loop-at-preserved
loop-at-preserved c =
    let side = c.args.side.bytes.now in
    let group = seen_group c.in_ok-group.group in
    let step = table_read-group c.args.survival c.loop-at.both c.args.side.column side c.loop-at.at group c.len-at.result c.loop-at-test.true c.loop-at.invariant.at_digit (sym c.in_ok-group.ensures) c.len-at.ensures in
    record {
      within = step.0;
      whole = ap length c.beside-both.ensures ∙ length-with_entries c.loop-at.both _;
      at_digit = step.1;
      reads = c.loop-at.invariant.reads ∙ (step.2 ∙ ap (λ table. table_read c.args.survival table (groups_at c.args.side.column side (c.loop-at.at + c.len-at.result))) (sym c.beside-both.ensures));
    }

pub returns : goal.returns
returns c =
    sym (c.loop-at.invariant.reads ∙ table_read-end c.args.survival c.loop-at.both c.args.side.column c.args.side.bytes.now c.loop-at.at c.loop-at.invariant.whole c.loop-at-test.false)
