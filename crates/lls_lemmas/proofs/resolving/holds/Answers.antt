use Rattle.std.proofs.Common.{◌≡◌, ℕ, false, true, List, sym, ap, ◌∙◌, subst}
use Rattle.std.specs.Prelude.{ℤ}
use Rattle.std.specs.FinSet as set
use Rattle.std.proofs.lemmas.Option.{same_Some}
use Rattle.lls_store.specs.Clauses.{LiveClause, Literals, IsIn}
use Rattle.lls_store.specs.Store.{StoreState}
use Rattle.lls_store.proofs.Sets.{Contains-from_IsIn, IsIn-from_Contains}
use Rattle.lls_analyse.proofs.LiveClauses.{IsTold, told}
use Rattle.lls_lemmas.specs.Pivot.{HoldsLit}
use Rattle.lls_lemmas.proofs.Listing.{Contains-from_among, among-from_Contains}
use Rattle.lls_lemmas.proofs.resolving.holds.Goals as goal

-- the told literals are those of the clause
told_holds : (store : StoreState) (number : ℕ) (lits : List ℤ) (l : ℤ) → (is : IsTold store number lits) → HoldsLit store.live number l → IsIn is.clause.lits l
told_holds store number lits l is h = subst (λ (c : LiveClause). IsIn c.lits l) (same_Some h.clause is.clause (sym h.is_live ∙ is.is_live)) h.inside

pub returns-clause-holds : goal.returns-clause-holds
returns-clause-holds g c = λ is_true.
    let is = told (g.S.Store.state c.args.store.now) c.args.number c.lits.result.now c.requires.live (sym c.if-not-live.ensures) c.lits.ensures in
    let there = Contains-from_among c.lits.result.now c.args.lit (sym c.is_among.ensures ∙ is_true) in
    record { clause = is.clause; is_live = is.is_live; inside = ap (λ (ls : Literals). set.contains ls c.args.lit) (sym is.spelled) ∙ IsIn-from_Contains c.lits.result.now c.args.lit there }

pub returns-clause-none : goal.returns-clause-none
returns-clause-none g c = λ is_false h.
    let is = told (g.S.Store.state c.args.store.now) c.args.number c.lits.result.now c.requires.live (sym c.if-not-live.ensures) c.lits.ensures in
    let inside = told_holds (g.S.Store.state c.args.store.now) c.args.number c.lits.result.now c.args.lit is h in
    let there = among-from_Contains c.lits.result.now c.args.lit (Contains-from_IsIn c.lits.result.now c.args.lit (ap (λ (ls : Literals). set.contains ls c.args.lit) is.spelled ∙ inside)) in
    let clash : false ≡ true = sym is_false ∙ c.is_among.ensures ∙ there in
    absurd cc
