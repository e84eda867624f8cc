use Rattle.std.proofs.Common.{Some, ap, sym, ◌∙◌}
use Rattle.lls_base.proofs.NamedBytes.{get-first, get-nowhere, bytes_at-get_or}
use Rattle.lls_base.proofs.files.stored.Goals as goal

pub returns-in_err-at : goal.returns-in_err-at
returns-in_err-at c = rw c.from_residual.ensures (sym (get-nowhere _ _ c.in_err-at.ensures.nowhere))

pub returns : goal.returns
returns c =
    let first = c.in_ok-at.ensures.first in
    ap Some (c.deref.ensures.value ∙ bytes_at-get_or c.args.files.now c.in_ok-at.at c.index-files-at.result first.within)
    ∙ sym (get-first _ _ _ first)
