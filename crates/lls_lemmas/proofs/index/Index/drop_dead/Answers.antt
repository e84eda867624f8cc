use Rattle.std.proofs.Common.{ℕ, List, Vec, Global, sym, ap, subst}
use Rattle.std.specs.Prelude.{Contains}
use Rattle.lls_lemmas.proofs.index.Index.drop_dead.Goals as goal

pub returns-clause-keeps : goal.returns-clause-keeps
returns-clause-keeps g c = λ vars clause inside i.
    let P : List ℕ → Type 0 = λ ns. Contains ns clause.number in
    let is = ap (λ (v : Vec ℕ Global). v.items) c.swap.ensures.x_after in
    record { met = i.met; listed = subst P (sym is) (c.in_ok-take_live.ensures.all clause inside (subst P (sym c.as_slice.ensures.value) i.listed)) }
