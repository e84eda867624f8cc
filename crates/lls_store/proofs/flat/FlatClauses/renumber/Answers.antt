use Rattle.std.proofs.Common.{◌∙◌}
use Rattle.std.proofs.lemmas.List.{with_items_is}
use Rattle.lls_store.proofs.Buffer.{AreHeads-numbered, kept_in-numbered}
use Rattle.lls_store.proofs.flat.FlatClauses.renumber.Goals as goal

pub invariant_of-self : goal.invariant_of-self
invariant_of-self c =
    let f = c.self.inside in
    let new = c.number_heads.new.heads in
    rw (with_items_is f.heads new (c.number_heads.auto.heads ∙ c.deref_mut.ensures.len))
    (AreHeads-numbered f.heads.items new f.tail _ (rw c.deref_mut.ensures.value at c.number_heads.ensures) c.self.invariant)

pub returns-clause-clauses : goal.returns-clause-clauses
returns-clause-clauses c =
    let f = c.self.inside in
    let new = c.number_heads.new.heads in
    rw (with_items_is f.heads new (c.number_heads.auto.heads ∙ c.deref_mut.ensures.len), ← c.self.view_is)
    (kept_in-numbered f.lits.items f.heads.items new (rw c.deref_mut.ensures.value at c.number_heads.ensures))
