use Rattle.std.proofs.Common.{◌≡◌, ◌≢◌, ℕ, List, Option, Some, None, sym, subst}
use Rattle.std.specs.Prelude.{All, IfNone, IfSome, slice_get}
use Rattle.std.proofs.lemmas.List.Elements.{All-map}
use Rattle.lls_store.specs.declared.flat.Head.{Head}
use Rattle.lls_store.specs.Flat.{KeptClause, kept_at, kept_in}
use Rattle.lls_store.proofs.Buffer.{numbers_of}
use Rattle.lls_store.proofs.flat.FlatClauses.place.Goals as goal

pub returns-clause-found : goal.returns-clause-found
returns-clause-found c =
    let f = c.self.inside in
    let P : List ℕ → Type 0 = λ numbers. IfSome c.place_of.result (λ k. slice_get numbers k ≡ Some c.args.number) in
    rw (← c.self.view_is) (subst P (sym (numbers_of f.lits.items f.heads.items)) (rw c.deref.ensures.value at c.place_of.ensures.found))

none_at : (o : Option ℕ) (P Q : Type 0) → (P → Q) → IfNone o P → IfNone o Q
none_at None P Q weaker is = weaker is
none_at (Some k) P Q weaker is = tt

pub returns-clause-none : goal.returns-clause-none
returns-clause-none c =
    let f = c.self.inside in
    rw (← c.self.view_is)
    (none_at c.place_of.result (All (λ (head : Head). head.number ≢ c.args.number) f.heads.items) (All (λ (clause : KeptClause). clause.number ≢ c.args.number) (kept_in f.lits.items f.heads.items))
    (All-map (λ (clause : KeptClause). clause.number ≢ c.args.number) (kept_at f.lits.items) f.heads.items)
    (rw c.deref.ensures.value at c.place_of.ensures.none))
