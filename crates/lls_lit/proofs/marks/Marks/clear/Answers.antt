use Rattle.std.proofs.Common.{◌≡◌, ◌∙◌, length}
use Rattle.std.proofs.lemmas.List.{with_items_is}
use Rattle.lls_lit.proofs.Stamps.{marked-newer}
use Rattle.lls_lit.proofs.marks.Marks.clear.Goals as goal

pub returns : goal.returns
returns c =
    let m = c.self.inside in
    let r = c.renewed-self-inside in
    let kept : length r.new.stamps ≡ m.stamps.len = r.ensures.len ∙ c.deref_mut.ensures.len in
    rw (with_items_is m.stamps r.new.stamps kept, ← c.self.view_is) (marked-newer m.vars r.new.stamps r.result r.ensures.newer)
