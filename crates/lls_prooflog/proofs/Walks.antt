-- Walks along hints over clauses that bits satisfy: what is taken as false on the way is false.
use Rattle.std.proofs.Common.{◌≡◌, ℕ, zero, suc, Bool, true, false, not, ◌&&◌, ◌||◌, cond, List, [], ◌∷◌, ◌++◌, Option, Some, None, refl, sym, ap, ◌∙◌, arith, add-one, eqb}
use Rattle.std.specs.Prelude.{ℤ, pos, negsuc}
use Rattle.std.specs.List.{list_all}
use Rattle.std.specs.Ordering.{int_eq}
use Rattle.std.proofs.lemmas.Bool.{and_parts, not-true}
use Rattle.std.proofs.lemmas.List.Folds.{list_all-append}
use Rattle.lls_lit.specs.Literal.{negation}
use Rattle.lls_lit.specs.Formula.{Clause, is_true, value_at, satisfies_clause, satisfies}
use Rattle.lls_prooflog.specs.declared.step_fault.StepFault.{StepFault}
use Rattle.lls_prooflog.specs.declared.step_fault.StepFault.TheVariants.{NotUnit, NoConflict}
use Rattle.lls_prooflog.specs.UnitWalk.{Live, find_clause, is_among, remaining, at_clause, at_hint, walk_on, unit_walk}
use Rattle.lls_prooflog.specs.Steps.{clauses_of}
use Rattle.lls_prooflog.proofs.LiteralLists.{passes_among, any_kept, true_alone}

-- every one of these literals is false
abbrev pub are_false : List Bool → List ℤ → Bool
are_false values lits = list_all (λ l. not (is_true values l)) lits

-- a clause that is found passes what all pass
pub found_passes : (test : Clause → Bool) (live : Live) (id : ℕ) (clause : Clause) → list_all test (clauses_of live) ≡ true → find_clause live id ≡ Some clause → test clause ≡ true
found_passes test [] id clause all e = absurd cc
found_passes test (pair ∷ rest) id clause all e =
    let both = and_parts (test pair.1) (list_all test (clauses_of rest)) all in
    elim (eqb pair.0 id) as (λ b. cond b (Some pair.1) (find_clause rest id) ≡ Some clause → test clause ≡ true) [
      | true ↦ λ h. let same : pair.1 ≡ clause = grind arith in rw (← same) both.0
      | false ↦ λ h. found_passes test rest id clause both.1 h
    ] e

-- among false literals, each is false
pub among_false : (values : List Bool) (assumed : List ℤ) (l : ℤ) → are_false values assumed ≡ true → is_among assumed l ≡ true → is_true values l ≡ false
among_false values assumed l all among = not-true (is_true values l) (passes_among (λ m. not (is_true values m)) assumed l all among)

-- a satisfied clause has a true literal that remains
remaining_satisfied : (values : List Bool) (assumed : List ℤ) (clause : Clause) → are_false values assumed ≡ true → satisfies_clause values clause ≡ true → satisfies_clause values (remaining assumed clause) ≡ true
remaining_satisfied values assumed clause all e = any_kept (is_true values) (λ l. not (is_among assumed l)) clause kept e where
  kept : (l : ℤ) → is_true values l ≡ true → not (is_among assumed l) ≡ true
  kept l is = elim (is_among assumed l) as (λ b. is_among assumed l ≡ b → not b ≡ true) [
    | true ↦ λ among. let clash : true ≡ false = sym is ∙ among_false values assumed l all among in absurd cc
    | false ↦ λ _. refl
  ] refl

negation_false : (values : List Bool) (l : ℤ) → is_true values l ≡ true → is_true values (negation l) ≡ false
negation_false values (pos zero) e = absurd cc
negation_false values (pos (suc n)) e = ap not e
negation_false values (negsuc n) e = rw add-one (not-true (value_at values n) e)

clause_ends : (G : Type 0) (values : List Bool) (hint : ℤ) (lits : List ℤ) (goes_on : ℤ → Option StepFault) → satisfies_clause values lits ≡ true → at_clause hint lits goes_on ≡ None → ((l : ℤ) → is_true values l ≡ true → goes_on l ≡ None → G) → G
clause_ends G values hint [] goes_on one e next = absurd cc
clause_ends G values hint (l ∷ ls) goes_on one e next =
    elim (list_all (int_eq l) ls) as (λ b. list_all (int_eq l) ls ≡ b → cond b (goes_on l) (Some (NotUnit hint)) ≡ None → G) [
      | true ↦ λ same h. next l (true_alone (is_true values) l ls same one) h
      | false ↦ λ _ h. absurd cc
    ] refl e

-- where a walk over satisfied clauses ends well: with literals that are false, as those that were assumed
pub record EndsFalse (values : List Bool) (at_end : List ℤ → Option StepFault) : Type 0 where
  pub assumed : List ℤ
  pub all_false : are_false values assumed ≡ true
  pub ends : at_end assumed ≡ None

pub walk_ends : (values : List Bool) (live : Live) (at_end : List ℤ → Option StepFault) (assumed hints : List ℤ) → satisfies values (clauses_of live) ≡ true → are_false values assumed ≡ true → walk_on live at_end assumed hints ≡ None → EndsFalse values at_end
walk_ends values live at_end assumed [] all none e = record { assumed = assumed; all_false = none; ends = e }
walk_ends values live at_end assumed (pos id ∷ hints) all none e =
    elim (find_clause live id) as (λ o. find_clause live id ≡ o → at_hint (pos id) assumed o (λ l. walk_on live at_end (assumed ++ negation l ∷ []) hints) ≡ None → EndsFalse values at_end) [
      | None ↦ λ _ h. absurd cc
      | Some clause ↦ λ found h.
          clause_ends (EndsFalse values at_end) values (pos id) (remaining assumed clause) (λ l. walk_on live at_end (assumed ++ negation l ∷ []) hints)
          (remaining_satisfied values assumed clause none (found_passes (satisfies_clause values) live id clause all found))
          h
          (λ l is next. walk_ends values live at_end (assumed ++ negation l ∷ []) hints all (rw (list_all-append (λ m. not (is_true values m)) assumed (negation l ∷ []), none, negation_false values l is) refl) next)
    ] refl e
walk_ends values live at_end assumed (negsuc n ∷ hints) all none e = record { assumed = assumed; all_false = none; ends = e }

-- no assignment satisfies the live clauses with the assumed literals false, where the hints lead to a conflict
pub walk_refutes : (values : List Bool) (live : Live) (assumed hints : List ℤ) → satisfies values (clauses_of live) ≡ true → are_false values assumed ≡ true → unit_walk live assumed hints ≡ None → ⊥
walk_refutes values live assumed hints all none e =
    let clash : Some NoConflict ≡ None = (walk_ends values live (λ _. Some NoConflict) assumed hints all none e).ends in cc

clause_closes : (hint : ℤ) (lits : List ℤ) (one other : ℤ → Option StepFault) → ((l : ℤ) → one l ≡ None → other l ≡ None) → at_clause hint lits one ≡ None → at_clause hint lits other ≡ None
clause_closes hint [] one other each h = refl
clause_closes hint (l ∷ ls) one other each h = elim (list_all (int_eq l) ls) as (λ b. cond b (one l) (Some (NotUnit hint)) ≡ None → cond b (other l) (Some (NotUnit hint)) ≡ None) [
  | true ↦ each l
  | false ↦ λ k. absurd cc
] h

-- where the walk comes to a conflict nothing is said of its end
pub walk_closes : (live : Live) (at_end : List ℤ → Option StepFault) (assumed hints : List ℤ) → unit_walk live assumed hints ≡ None → walk_on live at_end assumed hints ≡ None
walk_closes live at_end assumed [] e = absurd cc
walk_closes live at_end assumed (pos id ∷ hints) e =
    elim (find_clause live id) as (λ o. at_hint (pos id) assumed o (λ l. unit_walk live (assumed ++ negation l ∷ []) hints) ≡ None → at_hint (pos id) assumed o (λ l. walk_on live at_end (assumed ++ negation l ∷ []) hints) ≡ None) [
      | None ↦ λ h. absurd cc
      | Some clause ↦ clause_closes (pos id) (remaining assumed clause) (λ l. unit_walk live (assumed ++ negation l ∷ []) hints) (λ l. walk_on live at_end (assumed ++ negation l ∷ []) hints) (λ l h. walk_closes live at_end (assumed ++ negation l ∷ []) hints h)
    ] e
walk_closes live at_end assumed (negsuc n ∷ hints) e = absurd cc

pub none_true : (values : List Bool) (lits : List ℤ) → satisfies_clause values lits ≡ false → are_false values lits ≡ true
none_true values [] e = refl
none_true values (l ∷ ls) e =
    elim (is_true values l) as (λ t. (t || satisfies_clause values ls) ≡ false → (not t && are_false values ls) ≡ true) [
      | true ↦ λ h. absurd cc
      | false ↦ λ h. none_true values ls h
    ] e
