-- From a set of false literals no two sets are reached.
use Rattle.std.proofs.Common.{◌≡◌, Bool, true, ◌||◌, List, [], ◌∷◌, ◌++◌, Some, refl, sym, ap, subst, ◌∙◌, inl, inr, arith}
use Rattle.std.specs.Prelude.{ℤ, ◌⊎◌}
use Rattle.std.specs.Ordering.{int_eq}
use Rattle.std.proofs.lemmas.Bool.Decides.{Decides-int_eq}
use Rattle.lls_lit.specs.Literal.{negation}
use Rattle.lls_lit.proofs.Flipped.{negation_twice}
use Rattle.lls_store.specs.Trail.{Entry, TrailState, has, Has}
use Rattle.lls_store.specs.Clauses.{LiveClause, Literals, clause_numbered}
use Rattle.lls_store.specs.Uip.{HasOneCurrent, HasTwoCurrent, IsLast, resolved_on, LeadsTo, HasOnePoint}
use Rattle.lls_store.specs.Uip.LeadsTo.{reached, resolved}
use Rattle.lls_store.proofs.Reasons.{heads}

-- not both one and two
one_or_two : (trail : TrailState) (lits : Literals) → HasOneCurrent trail lits → HasTwoCurrent trail lits → ⊥
one_or_two trail lits one two = two.apart (one.alone two.first two.first_current ∙ sym (one.alone two.second two.second_current))

or_true : (b c : Bool) → c ≡ true → (b || c) ≡ true
or_true b c is = grind (arith)

has_inside : (before after : List Entry) (e : Entry) → has (before ++ e ∷ after) e.lit ≡ true
has_inside [] after e = ap (λ b. b || has after e.lit) ((Decides-int_eq e.lit e.lit).1 refl)
has_inside (x ∷ before) after e = or_true (int_eq x.lit e.lit) (has (before ++ e ∷ after) e.lit) (has_inside before after e)

-- of two places of one list one stands behind the other, or they are the same
compared : (before before' after after' : List Entry) (e e' : Entry) → before ++ e ∷ after ≡ before' ++ e' ∷ after' → (e ≡ e') ⊎ (Has after e'.lit ⊎ Has after' e.lit)
compared [] [] after after' e e' same = inl (heads e e' after after' same).0
compared [] (y ∷ before') after after' e e' same = inr (inl (ap (λ es. has es e'.lit) (heads e y after (before' ++ e' ∷ after') same).1 ∙ has_inside before' after' e'))
compared (x ∷ before) [] after after' e e' same = inr (inr (ap (λ es. has es e.lit) (sym (heads x e' (before ++ e ∷ after) after' same).1) ∙ has_inside before after e))
compared (x ∷ before) (y ∷ before') after after' e e' same = compared before before' after after' e e' (heads x y (before ++ e ∷ after) (before' ++ e' ∷ after') same).1

same_value : {X : Type 0} → (x y : X) → Some x ≡ Some y → x ≡ y
same_value x y h = cc

-- one literal's negation stands last, and one clause forced it
same_entry : (live : List LiveClause) (trail : TrailState) (lits : Literals) (l m : ℤ) (clause other : LiveClause) → (a : IsLast live trail lits l clause) → (b : IsLast live trail lits m other) → a.entry ≡ b.entry
same_entry live trail lits l m clause other a b = elim (compared a.before b.before a.after b.after a.entry b.entry (sym a.stands ∙ b.stands)) [
  | inl same ↦ same
  | inr (inl later) ↦ absurd (a.none_later m b.is_in (ap (has a.after) (sym b.negated) ∙ later))
  | inr (inr later) ↦ absurd (b.none_later l a.is_in (ap (has b.after) (sym a.negated) ∙ later))
]

same_literal : (live : List LiveClause) (trail : TrailState) (lits : Literals) (l m : ℤ) (clause other : LiveClause) → IsLast live trail lits l clause → IsLast live trail lits m other → l ≡ m
same_literal live trail lits l m clause other a b =
    let negations : negation l ≡ negation m = sym a.negated ∙ ap (λ (e : Entry). e.lit) (same_entry live trail lits l m clause other a b) ∙ b.negated in
    sym (negation_twice l) ∙ ap negation negations ∙ negation_twice m

same_clause : (live : List LiveClause) (trail : TrailState) (lits : Literals) (l m : ℤ) (clause other : LiveClause) → IsLast live trail lits l clause → IsLast live trail lits m other → clause ≡ other
same_clause live trail lits l m clause other a b =
    let reasons : a.reason ≡ b.reason = same_value a.reason b.reason (sym a.has_reason ∙ ap (λ (e : Entry). e.reason) (same_entry live trail lits l m clause other a b) ∙ b.has_reason) in
    same_value clause other (sym a.is_live ∙ ap (clause_numbered live) reasons ∙ b.is_live)

leads_to_one : (live : List LiveClause) (trail : TrailState) (lits first second : Literals) → LeadsTo live trail lits first → LeadsTo live trail lits second → first ≡ second
leads_to_one live trail lits first second (reached _ one) (reached _ one') = refl
leads_to_one live trail lits first second (reached _ one) (resolved _ _ l clause two last rest) = absurd (one_or_two trail lits one two)
leads_to_one live trail lits first second (resolved _ _ l clause two last rest) (reached _ one) = absurd (one_or_two trail lits one two)
leads_to_one live trail lits first second (resolved _ _ l clause two last rest) (resolved _ _ m other two' last' rest') =
    let at_l = sym (same_literal live trail lits l m clause other last last') in
    let with_clause = sym (same_clause live trail lits l m clause other last last') in
    let P : Literals → Type 0 = λ s. LeadsTo live trail s second in
    leads_to_one live trail (resolved_on lits l clause) first second rest (subst P (ap (λ k. resolved_on lits k other) at_l ∙ ap (resolved_on lits l) with_clause) rest')

pub has_one_point : HasOnePoint
has_one_point live trail lits first second a b = leads_to_one live trail lits first second a.leads b.leads
