use Rattle.std.proofs.Common.{◌≡◌, ◌-◌, suc, sym, ap, ◌∙◌, arith}
use Rattle.lls_trim.specs.Buffers.{none_yet, ends_before}
use Rattle.lls_trim.proofs.Buffers.{ends_before-next}
use Rattle.lls_trim.proofs.inferences.start.Goals as goal

pub returns-else-k-eq0 : goal.returns-else-k-eq0
returns-else-k-eq0 c =
    let at : suc (c.args.k - 1) ≡ c.args.k = omega (arith, c.if-k-eq0.false) in
    sym (ends_before-next none_yet c.args.entries.now (c.args.k - 1) _ (omega (arith, c.requires, at))) ∙ ap (ends_before none_yet c.args.entries.now) at
