-- The worked clauses that are fresh or not, and the worked logs that are spent or not.
use Rattle.std.proofs.Common.{◌≡◌, ℕ, ◌≤◌, ◌∷◌, ◌++◌, ◌&&◌, ◌||◌, Bool, true, false, not, cond, List, [], refl, sym, ◌∙◌, arith}
use Rattle.std.specs.Prelude.{ℤ, pos, negsuc, count_by}
use Rattle.std.specs.Ordering.{int_eq}
use Rattle.std.proofs.lemmas.Bool.{and_parts}
use Rattle.std.proofs.lemmas.Bool.Decides.{Decides-int_eq}
use Rattle.lls_lit.specs.Literal.{negation}
use Rattle.lls_prooflog.specs.declared.step.Step.TheVariants.{Add, Del}
use Rattle.lls_prooflog.specs.UnitWalk.{is_among}
use Rattle.lls_prooflog.specs.Steps.{clauses_of}
use Rattle.lls_prooflog.specs.Fresh.{is_not_false, is_consistent, has_two, is_settled, IsFresh}
use Rattle.lls_prooflog.specs.Spent.{is_addition, IsSpent, live_after, IsUnrefuted, SomeCanBeLearnt}
use Rattle.lls_prooflog.specs.Worked.{refuted, searched, one_learnt}
use Rattle.lls_prooflog.proofs.LiteralLists.{passes_among}
use Rattle.lls_prooflog.proofs.FreshClauses.{no_weaker_clause, closed_not_refuted}

-- 1 2: where 2 is false, 1 stays unset
pub first_fresh : IsFresh searched.clauses (pos 1 ∷ pos 2 ∷ [])
first_fresh = (pos 1, (negsuc 1 ∷ [], record { in_clause = refl; consistent = refl; others_false = refl; unset_not_true = refl; unset_not_false = refl; closed = refl }))

-- then 1: it stays unset where nothing is false, and hints lead to it over the learnt clause
further : SomeCanBeLearnt 3 (live_after searched one_learnt)
further = (
  pos 1 ∷ [],
  (
    pos 5 ∷ pos 3 ∷ pos 4 ∷ [],
    record {
      fresh = (pos 1, ([], record { in_clause = refl; consistent = refl; others_false = refl; unset_not_true = refl; unset_not_false = refl; closed = refl }));
      once = refl;
      within = refl;
      positive = refl;
      closes = refl;
    },
  ),
)

unrefuted : IsUnrefuted (live_after searched one_learnt)
unrefuted hints positive e = closed_not_refuted [] (live_after searched one_learnt) hints refl refl e

pub one_learnt_spent : IsSpent searched one_learnt 1
one_learnt_spent = record {
  budgeted = refl;
  good = (record { positive = refl; good = refl }, tt);
  additions = (record { fresh = first_fresh; some = omega arith; once = refl; within = refl }, tt);
  deletions = (tt, tt);
  further = further;
  unrefuted = unrefuted;
}

pub another_budget : ¬ IsSpent searched one_learnt 2
another_budget spent = apart (count_by is_addition one_learnt) refl spent.budgeted where
  apart : (n : ℕ) → n ≡ 1 → n ≡ 2 → ⊥
  apart n one two = omega arith

pub weaker_copy : ¬ IsSpent searched (one_learnt ++ Add 6 (pos 1 ∷ pos 2 ∷ pos 3 ∷ []) (pos 5 ∷ []) ∷ []) 2
weaker_copy spent =
    no_weaker_clause (clauses_of (live_after searched one_learnt)) (pos 1 ∷ pos 2 ∷ pos 3 ∷ []) (pos 1 ∷ pos 2 ∷ []) (4, omega arith, refl) refl spent.additions.1.0.fresh

pub deleted_early : ¬ IsSpent searched (one_learnt ++ Del (5 ∷ []) ∷ []) 1
deleted_early spent = let late : 64 ≤ 1 = spent.deletions.1.0.late in absurd (omega arith)

pub without_propagation : ¬ IsSpent refuted [] 0
without_propagation spent = spent.unrefuted (pos 1 ∷ pos 2 ∷ pos 4 ∷ []) refl refl

-- the resolvent of 1 2 and -2 3 has no fresh literal: unit propagation from the one's negation gives the other
module _ (trues : List ℤ) (consistent : is_consistent trues ≡ true) where
  not_both : (l : ℤ) → is_among trues (negation l) ≡ true → is_among trues l ≡ false
  not_both l e = elim (is_among trues l) as (λ b. is_among trues l ≡ b → b ≡ false) [
    | true ↦ λ is. let clash : not true ≡ true = rw e at (passes_among (is_not_false trues) trues l consistent is) in absurd cc
    | false ↦ λ _. refl
  ] refl

  alone : (a : Bool) (l : ℤ) → has_two (cond a (l ∷ []) []) ≡ false
  alone true l = refl
  alone false l = refl

  first_false : (l m : ℤ) → is_settled trues (l ∷ m ∷ []) ≡ true → is_among trues (negation l) ≡ true → is_among trues m ≡ true
  first_false l m settled e = elim (is_among trues m) as (λ b. is_among trues m ≡ b → b ≡ true) [
    | true ↦ λ _. refl
    | false ↦ λ none. let unsettled : is_settled trues (l ∷ m ∷ []) ≡ false = rw (not_both l e, none, e) (alone (is_not_false trues m) m) in let clash : true ≡ false = sym settled ∙ unsettled in absurd cc
  ] refl

  second_false : (l m : ℤ) → is_settled trues (l ∷ m ∷ []) ≡ true → is_among trues (negation m) ≡ true → is_among trues l ≡ true
  second_false l m settled e = elim (is_among trues l) as (λ b. is_among trues l ≡ b → b ≡ true) [
    | true ↦ λ _. refl
    | false ↦ λ none. let unsettled : is_settled trues (l ∷ m ∷ []) ≡ false = rw (none, not_both m e, e) (alone (is_not_false trues l) l) in let clash : true ≡ false = sym settled ∙ unsettled in absurd cc
  ] refl

pub resolvent_not_fresh : ¬ IsFresh ((pos 1 ∷ pos 2 ∷ []) ∷ (negsuc 1 ∷ pos 3 ∷ []) ∷ []) (pos 1 ∷ pos 3 ∷ [])
resolvent_not_fresh (unset, (trues, shown)) =
    let closed = and_parts (is_settled trues (pos 1 ∷ pos 2 ∷ [])) (is_settled trues (negsuc 1 ∷ pos 3 ∷ []) && true) shown.closed in
    let second = and_parts (is_settled trues (negsuc 1 ∷ pos 3 ∷ [])) true closed.1 in
    elim (int_eq unset (pos 1)) as (λ b. int_eq unset (pos 1) ≡ b → (b || (int_eq unset (pos 3) || false)) ≡ true → ⊥) [
      | true ↦ λ is _.
          let one : unset ≡ pos 1 = (Decides-int_eq unset (pos 1)).0 is in
          let three : is_among trues (negsuc 2) ≡ true = (and_parts (is_among trues (negsuc 2)) true (rw one at shown.others_false)).0 in
          let two : is_among trues (negsuc 1) ≡ true = second_false trues shown.consistent (negsuc 1) (pos 3) second.0 three in
          let true_ : is_among trues (pos 1) ≡ true = second_false trues shown.consistent (pos 1) (pos 2) closed.0 two in
          let clash : true ≡ false = sym true_ ∙ (rw one at shown.unset_not_true) in cc
      | false ↦ λ _ h.
          let three : unset ≡ pos 3 = (Decides-int_eq unset (pos 3)).0 (only (int_eq unset (pos 3)) h) in
          let one : is_among trues (negsuc 0) ≡ true = (and_parts (is_among trues (negsuc 0)) true (rw three at shown.others_false)).0 in
          let two : is_among trues (pos 2) ≡ true = first_false trues shown.consistent (pos 1) (pos 2) closed.0 one in
          let true_ : is_among trues (pos 3) ≡ true = first_false trues shown.consistent (negsuc 1) (pos 3) second.0 two in
          let clash : true ≡ false = sym true_ ∙ (rw three at shown.unset_not_true) in cc
    ] refl shown.in_clause
  where
    only : (b : Bool) → (b || false) ≡ true → b ≡ true
    only true e = refl
    only false e = e
