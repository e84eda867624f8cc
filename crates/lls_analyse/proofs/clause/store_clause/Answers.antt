use Rattle.std.proofs.Common.{ap, sym, ◌∙◌, subst}
use Rattle.std.specs.Prelude.{◌==◌}
use Rattle.std.specs.List.{list_any}
use Rattle.lls_lit.specs.Literal.{variable_of}
use Rattle.lls_store.specs.Store.{StoreState}
use Rattle.lls_store.specs.Sound.{IsSound}
use Rattle.lls_analyse.proofs.Clauses.{new_variable}
use Rattle.lls_analyse.proofs.clause.store_clause.Goals as goal

pub push_learnt-requires-clause-new : goal.push_learnt-requires-clause-new
push_learnt-requires-clause-new g c =
    ap (λ (s : StoreState). list_any (λ m. variable_of m == variable_of c.lit-item.result) s.tail) c.loop-lit.invariant.0
    ∙ new_variable c.args.clause.now c.loop-lit.lit-index c.lit-item.result c.requires.once c.loop-lit-test.true c.lit-item.is

pub seal_learnt-requires-clause-sound : goal.seal_learnt-requires-clause-sound
seal_learnt-requires-clause-sound g c =
    let P : StoreState → Type 0 = λ s. IsSound s.live c.args.trail.now in
    subst P (sym c.loop-lit.invariant.0) c.requires.sound
