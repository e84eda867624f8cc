-- Live clauses with ids of their own and without the literal 0: at the start, and behind a good step.
use Rattle.std.proofs.Common.{◌≡◌, ◌≢◌, ℕ, ◌+◌, ◌<◌, Bool, true, false, cond, List, [], ◌∷◌, ◌++◌, Option, Some, None, refl, sym, ap, ◌∙◌, inl, inr, arith, eqb}
use Rattle.std.specs.Prelude.{filter, is_some, is_none}
use Rattle.std.specs.List.{list_all, enumerate_from}
use Rattle.std.proofs.lemmas.Bool.{and_parts, and_from}
use Rattle.std.proofs.lemmas.Bool.Decides.{eqb_tells}
use Rattle.std.proofs.lemmas.List.{map-append}
use Rattle.std.proofs.lemmas.List.Folds.{list_all-append}
use Rattle.lls_lit.specs.Formula.{Clause, Cnf}
use Rattle.lls_prooflog.specs.declared.step.Step.{Step}
use Rattle.lls_prooflog.specs.declared.step.Step.TheVariants.{Add, Del}
use Rattle.lls_prooflog.specs.declared.step_fault.StepFault.{StepFault}
use Rattle.lls_prooflog.specs.declared.step_fault.StepFault.TheVariants.{IdLive}
use Rattle.lls_prooflog.specs.UnitWalk.{Live, numbered, find_clause}
use Rattle.lls_prooflog.specs.Steps.{fault_of, after, clauses_of, ids_differ, are_literals, has_literals, AreProper}

-- each of these clauses is the one that its id finds among all
abbrev pub EachFound : Live → Live → Type 0
EachFound live [] = Unit {0}
EachFound live (pair ∷ rest) = (find_clause live pair.0 ≡ Some pair.1) × EachFound live rest

none_is : (o : Option Clause) → is_none o ≡ true → o ≡ None
none_is None e = refl
none_is (Some clause) e = absurd cc

-- one more clause in front, under an id of its own, hides none
found_behind : (pair : ℕ × Clause) (live rest : Live) → find_clause live pair.0 ≡ None → EachFound live rest → EachFound (pair ∷ live) rest
found_behind pair live [] new each = tt
found_behind pair live (other ∷ rest) new each = (
  elim (eqb_tells pair.0 other.0) [
    | inl same ↦ let clash : None ≡ Some other.1 = sym new ∙ ap (find_clause live) same.1 ∙ each.0 in absurd cc
    | inr apart ↦ rw apart.0 each.0
  ],
  found_behind pair live rest new each.1,
)

pub each_found : (live : Live) → ids_differ live ≡ true → EachFound live live
each_found [] e = tt
each_found (pair ∷ rest) e =
    let parts = and_parts (is_none (find_clause rest pair.0)) (ids_differ rest) e in
    let itself : eqb pair.0 pair.0 ≡ true = elim (eqb_tells pair.0 pair.0) [ inl h ↦ h.0 | inr h ↦ absurd (h.1 refl) ] in
    (rw itself refl, found_behind pair rest rest (none_is (find_clause rest pair.0) parts.0) (each_found rest parts.1))

-- ids from a number on find nothing under a lesser one
below_numbered : (n id : ℕ) (clauses : List Clause) → id < n → find_clause (enumerate_from n clauses) id ≡ None
below_numbered n id [] lt = refl
below_numbered n id (c ∷ cs) lt =
    elim (eqb_tells n id) [
      | inl same ↦ let clash : n ≡ id = same.1 in absurd (omega (arith, lt, clash))
      | inr apart ↦ rw apart.0 (below_numbered (n + 1) id cs (omega (arith, lt)))
    ]

ids_differ-numbered : (n : ℕ) (clauses : List Clause) → ids_differ (enumerate_from n clauses) ≡ true
ids_differ-numbered n [] = refl
ids_differ-numbered n (c ∷ cs) = rw (below_numbered (n + 1) n cs (omega arith), ids_differ-numbered (n + 1) cs) refl

pub clauses_of-numbered : (n : ℕ) (clauses : List Clause) → clauses_of (enumerate_from n clauses) ≡ clauses
clauses_of-numbered n [] = refl
clauses_of-numbered n (c ∷ cs) = ap (λ (l : List Clause). c ∷ l) (clauses_of-numbered (n + 1) cs)

pub AreProper-numbered : (formula : Cnf) → list_all are_literals formula.clauses ≡ true → AreProper (numbered formula.clauses)
AreProper-numbered formula ok = record {
  apart = ids_differ-numbered 1 formula.clauses;
  literals = ap (list_all are_literals) (clauses_of-numbered 1 formula.clauses) ∙ ok;
}

find_clause-push : (live : Live) (id other : ℕ) (lits : Clause) → find_clause live other ≡ None → id ≢ other → find_clause (live ++ (id, lits) ∷ []) other ≡ None
find_clause-push [] id other lits none apart = elim (eqb_tells id other) [ inl same ↦ absurd (apart same.1) | inr h ↦ rw h.0 refl ]
find_clause-push (pair ∷ rest) id other lits none apart =
    elim (eqb pair.0 other) as (λ b. cond b (Some pair.1) (find_clause rest other) ≡ None → cond b (Some pair.1) (find_clause (rest ++ (id, lits) ∷ []) other) ≡ None) [
      | true ↦ λ h. absurd cc
      | false ↦ λ h. find_clause-push rest id other lits h apart
    ] none

ids_differ-push : (live : Live) (id : ℕ) (lits : Clause) → ids_differ live ≡ true → find_clause live id ≡ None → ids_differ (live ++ (id, lits) ∷ []) ≡ true
ids_differ-push [] id lits e new = refl
ids_differ-push (pair ∷ rest) id lits e new =
    let parts = and_parts (is_none (find_clause rest pair.0)) (ids_differ rest) e in
    elim (eqb_tells pair.0 id) [
      | inl same ↦ let clash : Some pair.1 ≡ None = sym (ap (λ b. cond b (Some pair.1) (find_clause rest id)) same.0) ∙ new in absurd cc
      | inr apart ↦
          let behind : find_clause rest id ≡ None = rw apart.0 at new in
          rw (find_clause-push rest id pair.0 lits (none_is (find_clause rest pair.0) parts.0) (λ e. apart.1 (sym e)), ids_differ-push rest id lits parts.1 behind) refl
    ]

-- clauses that are kept by their ids
find_clause-kept : (keep : ℕ × Clause → Bool) (live : Live) (id : ℕ) → find_clause live id ≡ None → find_clause (filter keep live) id ≡ None
find_clause-kept keep [] id none = refl
find_clause-kept keep (pair ∷ rest) id none =
    elim (eqb pair.0 id) as (λ b. eqb pair.0 id ≡ b → cond b (Some pair.1) (find_clause rest id) ≡ None → find_clause (cond (keep pair) (pair ∷ filter keep rest) (filter keep rest)) id ≡ None) [
      | true ↦ λ _ h. absurd cc
      | false ↦ λ other h.
          let behind = find_clause-kept keep rest id h in
          elim (keep pair) as (λ k. find_clause (cond k (pair ∷ filter keep rest) (filter keep rest)) id ≡ None) [ true ↦ rw other behind | false ↦ behind ]
    ] refl none

ids_differ-kept : (keep : ℕ × Clause → Bool) (live : Live) → ids_differ live ≡ true → ids_differ (filter keep live) ≡ true
ids_differ-kept keep [] e = refl
ids_differ-kept keep (pair ∷ rest) e =
    let parts = and_parts (is_none (find_clause rest pair.0)) (ids_differ rest) e in
    let others = ids_differ-kept keep rest parts.1 in
    elim (keep pair) as (λ b. ids_differ (cond b (pair ∷ filter keep rest) (filter keep rest)) ≡ true) [
      | true ↦ rw (find_clause-kept keep rest pair.0 (none_is (find_clause rest pair.0) parts.0), others) refl
      | false ↦ others
    ]

pub clauses_pass-kept : (test : Clause → Bool) (keep : ℕ × Clause → Bool) (live : Live) → list_all test (clauses_of live) ≡ true → list_all test (clauses_of (filter keep live)) ≡ true
clauses_pass-kept test keep [] all = refl
clauses_pass-kept test keep (pair ∷ rest) all =
    let parts = and_parts (test pair.1) (list_all test (clauses_of rest)) all in
    let others = clauses_pass-kept test keep rest parts.1 in
    elim (keep pair) as (λ b. list_all test (clauses_of (cond b (pair ∷ filter keep rest) (filter keep rest))) ≡ true) [
      | true ↦ and_from (test pair.1) (list_all test (clauses_of (filter keep rest))) parts.0 others
      | false ↦ others
    ]

new_id : (live : Live) (id : ℕ) (walk : Option StepFault) → cond (is_some (find_clause live id)) (Some (IdLive id)) walk ≡ None → find_clause live id ≡ None
new_id live id walk e = elim (find_clause live id) as (λ o. cond (is_some o) (Some (IdLive id)) walk ≡ None → o ≡ None) [ None ↦ λ _. refl | Some clause ↦ λ h. absurd cc ] e

pub AreProper-after : (live : Live) (step : Step) → AreProper live → has_literals step ≡ true → fault_of live step ≡ None → AreProper (after live step)
AreProper-after live (Add id lits hints) proper ok good = record {
  apart = ids_differ-push live id lits proper.apart (new_id live id _ good);
  literals = rw (map-append (λ (pair : ℕ × Clause). pair.1) live ((id, lits) ∷ []), list_all-append are_literals (clauses_of live) (lits ∷ []), proper.literals, ok) refl;
}
AreProper-after live (Del ids) proper ok good = record { apart = ids_differ-kept _ live proper.apart; literals = clauses_pass-kept are_literals _ live proper.literals }
