-- The clauses that are live behind a log stay satisfiable where the formula is.
use Rattle.std.proofs.Common.{◌≡◌, ◌≢◌, ℕ, suc, true, List, [], ◌∷◌, ◌++◌, None, is_none, refl, sym, ap, subst, ◌∙◌, arith}
use Rattle.std.specs.Prelude.{AllPairs, Contains, nat_le}
use Rattle.std.specs.List.{list_all}
use Rattle.std.specs.Cmp.Derive.{both_true}
use Rattle.std.proofs.lemmas.Bool.{and_parts}
use Rattle.std.proofs.lemmas.List.Elements.{All-contains}
use Rattle.lls_lit.specs.Literal.{variable_of}
use Rattle.lls_lit.specs.Formula.{Clause, Cnf, is_literal_of, is_within}
use Rattle.lls_prooflog.specs.UnitWalk.{Live}
use Rattle.lls_prooflog.specs.Steps.{AreProper, KeepsSatisfiable, are_literals, clauses_of, fault_of, has_literals, ids_differ}
use Rattle.lls_prooflog.specs.Spent.{live_after}
use Rattle.lls_prooflog.specs.declared.step.Step.{Step}
use Rattle.lls_prooflog.proofs.Soundness.{KeepsSatisfiable-after}
use Rattle.lls_store.specs.Clauses.{LiveClause, Literals}
use Rattle.lls_store.specs.Store.{StoreState, AreLive, AreWithin}
use Rattle.lls_store.proofs.Sets.{is_within-from_AreWithin}
use Rattle.lls_analyse.specs.Spelled.{Spells}
use Rattle.lls_analyse.proofs.Gathering.{later}
use Rattle.lls_lemmas.specs.Behind.{HoldsLive}
use Rattle.lls_lemmas.proofs.Logs.{live_after-push, new_id}

ids_apart : (live : List LiveClause) (pairs : Live) → AllPairs (λ (a b : LiveClause). a.id ≢ b.id) live → Spells live pairs → ids_differ pairs ≡ true
ids_apart [] [] ids spells = refl
ids_apart [] (p ∷ ps) ids spells = absurd spells
ids_apart (c ∷ cs) [] ids spells = absurd spells
ids_apart (c ∷ cs) (p ∷ ps) ids spells =
    let differs : (x : LiveClause) → Contains cs x → x.id ≢ p.0 = λ x inside same. (let (k, lt, at) = inside in ids 0 (suc k) x (omega arith) (omega (arith, lt)) (sym (same ∙ spells.0) ∙ ap (λ (y : LiveClause). y.id) (sym at))) in
    both_true (ap is_none (new_id cs ps p.0 spells.1.1 differs)) (ids_apart cs ps (λ i j d lt within. ids (suc i) (suc j) d (omega (arith, lt)) (omega (arith, within))) spells.1.1)

-- literals of some variables are literals
pub literals_within : (vars : ℕ) (lits : Clause) → is_within vars lits ≡ true → are_literals lits ≡ true
literals_within vars [] all = refl
literals_within vars (l ∷ ls) all =
    let parts = and_parts (is_literal_of vars l) (is_within vars ls) all in
    both_true (and_parts (nat_le 1 (variable_of l)) (nat_le (variable_of l) vars) parts.0).0 (literals_within vars ls parts.1)

all_literals : (vars : ℕ) (live : List LiveClause) (pairs : Live) → ((c : LiveClause) → Contains live c → AreWithin vars c.lits) → Spells live pairs → list_all are_literals (clauses_of pairs) ≡ true
all_literals vars [] [] within spells = refl
all_literals vars [] (p ∷ ps) within spells = absurd spells
all_literals vars (c ∷ cs) [] within spells = absurd spells
all_literals vars (c ∷ cs) (p ∷ ps) within spells =
    let P : Literals → Type 0 = λ ls. AreWithin vars ls in
    both_true (literals_within vars p.1 (is_within-from_AreWithin vars p.1 (subst P (sym spells.1.0) (within c (0, omega arith, refl))))) (all_literals vars cs ps (λ x inside. within x (later c cs x inside)) spells.1.1)

-- clauses that a store holds have ids of their own, and no literal 0
pub proper_of : (store : StoreState) (pairs : Live) → AreLive store → Spells store.live pairs → AreProper pairs
proper_of store pairs live spells = record {
  apart = ids_apart store.live pairs live.ids spells;
  literals = all_literals store.vars store.live pairs (λ c inside. All-contains (λ (x : LiveClause). AreWithin store.vars x.lits) store.live c live.within inside) spells;
}

-- so a step that is good keeps them satisfiable
pub kept_push : (formula : Cnf) (steps : List Step) (store : StoreState) (last : ℕ) (step : Step) → HoldsLive formula steps store last → AreLive store → has_literals step ≡ true → fault_of (live_after formula steps) step ≡ None → KeepsSatisfiable formula (live_after formula (steps ++ step ∷ []))
kept_push formula steps store last step holds live literals good =
    subst (KeepsSatisfiable formula) (sym (live_after-push formula steps step)) (KeepsSatisfiable-after formula (live_after formula steps) step (proper_of store (live_after formula steps) live holds.spelled) literals holds.kept good)
