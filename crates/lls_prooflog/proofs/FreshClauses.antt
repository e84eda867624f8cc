-- What fresh clauses exclude: weaker clauses, and a refutation by unit propagation.
use Rattle.std.proofs.Common.{◌≡◌, Bool, true, false, not, ◌||◌, cond, List, [], ◌∷◌, ◌++◌, get_or, Option, Some, None, refl, sym, ap, ◌∙◌}
use Rattle.std.specs.Prelude.{ℤ, pos, negsuc, filter}
use Rattle.std.specs.List.{list_all, list_any}
use Rattle.std.specs.Ordering.{int_eq}
use Rattle.std.proofs.lemmas.Bool.{and_parts}
use Rattle.std.proofs.lemmas.Bool.Decides.{Decides-int_eq}
use Rattle.std.proofs.lemmas.List.Folds.{list_all-append, list_all_at}
use Rattle.lls_lit.specs.Literal.{negation}
use Rattle.lls_lit.specs.Formula.{Clause}
use Rattle.lls_prooflog.specs.declared.step_fault.StepFault.{StepFault}
use Rattle.lls_prooflog.specs.declared.step_fault.StepFault.TheVariants.{NotUnit}
use Rattle.lls_prooflog.specs.UnitWalk.{Live, find_clause, is_among, remaining, at_clause, at_hint, unit_walk}
use Rattle.lls_prooflog.specs.Steps.{clauses_of}
use Rattle.lls_prooflog.proofs.LiteralLists.{same_literal, passes_among, none_passes, all_from, filter_passes, any_kept, any_of_more, true_alone, negation-negation}
use Rattle.lls_prooflog.proofs.Walks.{found_passes}
use Rattle.lls_prooflog.specs.Fresh.{is_not_false, is_consistent, has_two, is_settled, is_closed, ShowsFresh, NoWeakerClauseIsFresh, NoHintsRefuteWhereFresh}

-- equal literals are no two
one_alone : (unset : ℤ) (lits : List ℤ) → list_all (λ l. int_eq l unset) lits ≡ true → has_two lits ≡ false
one_alone unset [] all = refl
one_alone unset (l ∷ ls) all =
    let parts = and_parts (int_eq l unset) (list_all (λ m. int_eq m unset) ls) all in
    rw (same_literal l unset parts.0, same_rest ls parts.1) (one_alone unset ls parts.1)
  where
    same_rest : (ms : List ℤ) → list_all (λ m. int_eq m unset) ms ≡ true → list_any (λ m. not (int_eq unset m)) ms ≡ false
    same_rest [] e = refl
    same_rest (m ∷ ms) e =
        let both = and_parts (int_eq m unset) (list_all (λ k. int_eq k unset) ms) e in
        rw ((Decides-int_eq unset m).1 (sym (same_literal m unset both.0))) (same_rest ms both.1)

-- no literal of the clause is true, and none but the unset one isn't false, so none of its parts is settled
module _ (clauses : List Clause) (clause : Clause) (unset : ℤ) (trues : List ℤ) (shown : ShowsFresh clauses clause unset trues) where
  false_or_unset : (l : ℤ) → is_among clause l ≡ true → (int_eq l unset || is_among trues (negation l)) ≡ true
  false_or_unset l among = passes_among (λ m. int_eq m unset || is_among trues (negation m)) clause l shown.others_false among

  not_true : (l : ℤ) → is_among clause l ≡ true → not (is_among trues l) ≡ true
  not_true l among =
      elim (int_eq l unset) as (λ b. int_eq l unset ≡ b → (b || is_among trues (negation l)) ≡ true → not (is_among trues l) ≡ true) [
        | true ↦ λ is _. rw (same_literal l unset is, shown.unset_not_true) refl
        | false ↦ λ _ h. elim (is_among trues l) as (λ b. is_among trues l ≡ b → not b ≡ true) [
          | true ↦ λ yes_true. let clash : not true ≡ true = rw h at (passes_among (is_not_false trues) trues l shown.consistent yes_true) in absurd cc
          | false ↦ λ _. refl
        ] refl
      ] refl (false_or_unset l among)

  false_unless_unset : (l : ℤ) → is_among clause l ≡ true → (not (is_not_false trues l) || int_eq l unset) ≡ true
  false_unless_unset l among = turned (int_eq l unset) (is_among trues (negation l)) (false_or_unset l among) where
    turned : (a b : Bool) → (a || b) ≡ true → (not (not b) || a) ≡ true
    turned true true e = refl
    turned true false e = refl
    turned false true e = refl
    turned false false e = e

  part_unsettled : (part : Clause) → list_all (is_among clause) part ≡ true → is_settled trues part ≡ false
  part_unsettled part within =
      let none : list_any (is_among trues) part ≡ false = none_passes (is_among trues) part (all_from (λ l. not (is_among trues l)) clause part within not_true) in
      let alone : has_two (filter (is_not_false trues) part) ≡ false = one_alone unset (filter (is_not_false trues) part) (filter_passes (is_not_false trues) (λ l. int_eq l unset) part (all_from (λ l. not (is_not_false trues l) || int_eq l unset) clause part within false_unless_unset)) in
      rw (none, alone) refl

pub no_weaker_clause : NoWeakerClauseIsFresh
no_weaker_clause clauses clause part (k, lt, is) within (unset, (trues, shown)) =
    let unsettled : is_settled trues (get_or clauses k part) ≡ false = ap (is_settled trues) is ∙ part_unsettled clauses clause unset trues shown part within in
    let clash : true ≡ false = sym shown.closed ∙ list_all_at (is_settled trues) clauses k part lt unsettled in
    absurd cc

two_of_more : (keep more : ℤ → Bool) (lits : List ℤ) → ((l : ℤ) → keep l ≡ true → more l ≡ true) → has_two (filter keep lits) ≡ true → has_two (filter more lits) ≡ true
two_of_more keep more [] each e = e
two_of_more keep more (l ∷ ls) each e =
    let differs : ℤ → Bool = λ m. not (int_eq l m) in
    elim (keep l) as (λ b. keep l ≡ b → has_two (cond b (l ∷ filter keep ls) (filter keep ls)) ≡ true → has_two (cond (more l) (l ∷ filter more ls) (filter more ls)) ≡ true) [
      | true ↦ λ is h. rw (each l is) (elim (list_any differs (filter keep ls)) as (λ t. list_any differs (filter keep ls) ≡ t → (t || has_two (filter keep ls)) ≡ true → (list_any differs (filter more ls) || has_two (filter more ls)) ≡ true) [
        | true ↦ λ some _. rw (any_of_more differs keep more ls each some) refl
        | false ↦ λ _ k. either (list_any differs (filter more ls)) (two_of_more keep more ls each k)
      ] refl h)
      | false ↦ λ _ h. let rest = two_of_more keep more ls each h in
          elim (more l) as (λ b. has_two (cond b (l ∷ filter more ls) (filter more ls)) ≡ true) [
            | true ↦ either (list_any differs (filter more ls)) rest
            | false ↦ rest
          ]
    ] refl e
  where
    either : (a : Bool) {b : Bool} → b ≡ true → (a || b) ≡ true
    either true e = refl
    either false e = e

equal_alone : (l : ℤ) (ls : List ℤ) → list_all (int_eq l) ls ≡ true → has_two (l ∷ ls) ≡ false
equal_alone l ls same = one_alone l (l ∷ ls) (rw ((Decides-int_eq l l).1 refl) (turned ls same)) where
  turned : (ms : List ℤ) → list_all (int_eq l) ms ≡ true → list_all (λ m. int_eq m l) ms ≡ true
  turned [] e = refl
  turned (m ∷ ms) e =
      let both = and_parts (int_eq l m) (list_all (int_eq l) ms) e in
      rw ((Decides-int_eq m l).1 (sym (same_literal l m both.0)), turned ms both.1) refl

-- a list of literals taken as true, over which unit propagation has nothing to do, is never left by it
module _ (trues : List ℤ) (consistent : is_consistent trues ≡ true) where
  are_false : List ℤ → Bool
  are_false assumed = list_all (λ l. is_among trues (negation l)) assumed

  true_not_false : (l : ℤ) → is_among trues l ≡ true → is_not_false trues l ≡ true
  true_not_false l among = passes_among (is_not_false trues) trues l consistent among

  remains : (assumed : List ℤ) → are_false assumed ≡ true → (l : ℤ) → is_not_false trues l ≡ true → not (is_among assumed l) ≡ true
  unfolding are_false
  remains assumed all l open_ =
      elim (is_among assumed l) as (λ b. is_among assumed l ≡ b → not b ≡ true) [
        | true ↦ λ among. let clash : not true ≡ true = rw (passes_among (λ m. is_among trues (negation m)) assumed l all among) at open_ in absurd cc
        | false ↦ λ _. refl
      ] refl

  goes_on_true : (hint : ℤ) (left : List ℤ) (goes_on : ℤ → Option StepFault) → (list_any (is_among trues) left || has_two left) ≡ true → at_clause hint left goes_on ≡ None → (l : ℤ) × ((is_among trues l ≡ true) × (goes_on l ≡ None))
  goes_on_true hint [] goes_on some e = absurd cc
  goes_on_true hint (l ∷ ls) goes_on some e =
      elim (list_all (int_eq l) ls) as (λ b. list_all (int_eq l) ls ≡ b → cond b (goes_on l) (Some (NotUnit hint)) ≡ None → (m : ℤ) × ((is_among trues m ≡ true) × (goes_on m ≡ None))) [
        | true ↦ λ same h. (l, (true_alone (is_among trues) l ls same (first (list_any (is_among trues) (l ∷ ls)) (has_two (l ∷ ls)) some (equal_alone l ls same)), h))
        | false ↦ λ _ h. absurd cc
      ] refl e
    where
      first : (a b : Bool) → (a || b) ≡ true → b ≡ false → a ≡ true
      first true b e h = refl
      first false b e h = absurd cc

  settled_remains : (assumed : List ℤ) (clause : Clause) → are_false assumed ≡ true → is_settled trues clause ≡ true → (list_any (is_among trues) (remaining assumed clause) || has_two (remaining assumed clause)) ≡ true
  settled_remains assumed clause all settled =
      let keep : ℤ → Bool = λ l. not (is_among assumed l) in
      elim (list_any (is_among trues) clause) as (λ t. list_any (is_among trues) clause ≡ t → (t || has_two (filter (is_not_false trues) clause)) ≡ true → (list_any (is_among trues) (filter keep clause) || has_two (filter keep clause)) ≡ true) [
        | true ↦ λ some _. rw (any_kept (is_among trues) keep clause (λ l among. remains assumed all l (true_not_false l among)) some) refl
        | false ↦ λ _ h. second (list_any (is_among trues) (filter keep clause)) (two_of_more (is_not_false trues) keep clause (remains assumed all) h)
      ] refl settled
    where
      second : (a : Bool) {b : Bool} → b ≡ true → (a || b) ≡ true
      second true e = refl
      second false e = e

  never_refuted : (live : Live) (assumed hints : List ℤ) → is_closed trues (clauses_of live) ≡ true → are_false assumed ≡ true → unit_walk live assumed hints ≡ None → ⊥
  unfolding are_false
  never_refuted live assumed [] closed all e = cc
  never_refuted live assumed (pos id ∷ hints) closed all e =
      let next : ℤ → Option StepFault = λ l. unit_walk live (assumed ++ negation l ∷ []) hints in
      elim (find_clause live id) as (λ o. find_clause live id ≡ o → at_hint (pos id) assumed o next ≡ None → ⊥) [
        | None ↦ λ _ h. cc
        | Some clause ↦ λ found h.
            let settled = found_passes (is_settled trues) live id clause closed found in
            let on = goes_on_true (pos id) (remaining assumed clause) next (settled_remains assumed clause all settled) h in
            let false_ : is_among trues (negation (negation on.0)) ≡ true = rw (negation-negation on.0) on.1.0 in
            never_refuted live (assumed ++ negation on.0 ∷ []) hints closed (rw (list_all-append (λ l. is_among trues (negation l)) assumed (negation on.0 ∷ []), all, false_) refl) on.1.1
      ] refl e
  never_refuted live assumed (negsuc n ∷ hints) closed all e = cc

-- no hints lead from the live clauses alone to a conflict where such a list is known
pub closed_not_refuted : (trues : List ℤ) (live : Live) (hints : List ℤ) → is_consistent trues ≡ true → is_closed trues (clauses_of live) ≡ true → unit_walk live [] hints ≡ None → ⊥
unfolding are_false
closed_not_refuted trues live hints consistent closed e = never_refuted trues consistent live [] hints closed refl e

pub no_hints_refute : NoHintsRefuteWhereFresh
no_hints_refute live clause hints (unset, (trues, shown)) e = closed_not_refuted trues live hints shown.consistent shown.closed e
