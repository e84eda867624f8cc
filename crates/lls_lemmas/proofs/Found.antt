-- Clauses that are live behind a log, and live in the store.
use Rattle.std.proofs.Common.{ℕ, List, sym, ◌∙◌}
use Rattle.std.specs.Prelude.{ℤ}
use Rattle.lls_lit.specs.Formula.{Cnf}
use Rattle.lls_prooflog.specs.Spent.{live_after}
use Rattle.lls_prooflog.specs.declared.step.Step.{Step}
use Rattle.lls_store.specs.Store.{StoreState, AreLive}
use Rattle.lls_store.proofs.Live.{clause_numbered-contained}
use Rattle.lls_analyse.proofs.Walk.{spelled}
use Rattle.lls_lemmas.specs.Behind.{HoldsLive}
use Rattle.lls_lemmas.specs.Finding.{HasLiterals}
use Rattle.lls_lemmas.specs.Lemmas.{HasClause}
use Rattle.lls_lemmas.proofs.Open.{found_of}

module _ (formula : Cnf) (steps : List Step) (store : StoreState) (last : ℕ) (lits : List ℤ) (holds : HoldsLive formula steps store last) (live : AreLive store) where
  -- what is live behind the log is live in the store
  pub in_store : HasClause formula steps lits → (number : ℕ) × HasLiterals store.live number lits
  in_store h =
      let o = found_of store.live (live_after formula steps) h.id h.clause holds.spelled h.found in
      (o.clause.number, record { clause = o.clause; is_live = clause_numbered-contained store.live o.clause live.numbers o.is_live; same = sym h.same_literals ∙ o.same })

  -- and what is live in the store is live behind the log
  pub in_log : (number : ℕ) → HasLiterals store.live number lits → HasClause formula steps lits
  in_log number h =
      let s = spelled store.live (live_after formula steps) number h.clause holds.spelled live.ids h.is_live in
      record { id = h.clause.id; clause = s.lits; found = s.found; same_literals = s.same ∙ sym h.same }
