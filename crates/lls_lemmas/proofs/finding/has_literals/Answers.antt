use Rattle.std.proofs.Common.{ℕ, ◌<◌, List, sym, ap, ◌∙◌, arith}
use Rattle.std.specs.Prelude.{ℤ}
use Rattle.lls_lit.specs.Formula.{is_within}
use Rattle.lls_store.specs.Clauses.{clause_numbered}
use Rattle.lls_store.specs.Store.{StoreState, AreLive}
use Rattle.lls_analyse.proofs.LiveClauses.{IsSome-from, number_given, told}
use Rattle.lls_lemmas.specs.Finding.{HasLiterals}
use Rattle.lls_lemmas.proofs.finding.has_literals.Goals as goal

-- the number of a live clause was given
given : (store : StoreState) (number : ℕ) (lits : List ℤ) → AreLive store → HasLiterals store.live number lits → number < store.count
given store number lits live h = number_given store number live (IsSome-from (clause_numbered store.live number) h.clause h.is_live)

pub returns-then-number-count-clause-lacks : goal.returns-then-number-count-clause-lacks
returns-then-number-count-clause-lacks g c = λ _ h. absurd (omega (arith, given (g.S.Store.state c.args.store.now) c.args.number c.args.lits.now c.count.ensures.live h, c.count.ensures.count, c.if-number-count.true))

pub are_same-requires-clause-b : goal.are_same-requires-clause-b
are_same-requires-clause-b g c =
    let is = told (g.S.Store.state c.args.store.now) c.args.number c.lits.result.now c.count.ensures.live (sym c.if-not-live.ensures) c.lits.ensures in
    ap (λ n. is_within n c.lits.result.now) (sym c.requires.vars) ∙ is.within

pub returns-clause-has : goal.returns-clause-has
returns-clause-has g c =
    let is = told (g.S.Store.state c.args.store.now) c.args.number c.lits.result.now c.count.ensures.live (sym c.if-not-live.ensures) c.lits.ensures in
    λ same. record { clause = is.clause; is_live = is.is_live; same = c.are_same.ensures.same same ∙ is.spelled }
