-- The literals of a resolvent.
use Rattle.std.proofs.Common.{◌≡◌, ◌≢◌, Bool, true, false, not, ◌&&◌, ◌||◌, refl, sym, ap, ◌∙◌, inl, inr}
use Rattle.std.specs.Prelude.{ℤ, ◌⊎◌}
use Rattle.std.specs.Ordering.{int_eq}
use Rattle.std.specs.FinSet as set
use Rattle.std.proofs.lemmas.Cmp.{int_cmp_total}
use Rattle.std.proofs.lemmas.Bool.Decides.{Decides-int_eq}
use Rattle.lls_lit.specs.Literal.{negation}
use Rattle.lls_store.specs.Clauses.{LiveClause, Literals, IsIn}
use Rattle.lls_store.specs.Uip.{resolved_on}

contains-resolved : (lits : Literals) (l : ℤ) (clause : LiveClause) (m : ℤ) → set.contains (resolved_on lits l clause) m ≡ ((not (int_eq m l) && set.contains lits m) || (not (int_eq m (negation l)) && set.contains clause.lits m))
contains-resolved lits l clause m =
    set.contains-union int_cmp_total (set.remove lits l) (set.remove clause.lits (negation l)) m
    ∙ ap (λ b. b || set.contains (set.remove clause.lits (negation l)) m) (set.contains-remove int_cmp_total lits l m)
    ∙ ap (λ b. (not (int_eq m l) && set.contains lits m) || b) (set.contains-remove int_cmp_total clause.lits (negation l) m)

one_of : (a b c d : Bool) → ((not a && b) || (not c && d)) ≡ true → ((a ≡ false) × (b ≡ true)) ⊎ ((c ≡ false) × (d ≡ true))
one_of false true c d is = inl (refl, refl)
one_of false false false true is = inr (refl, refl)
one_of false false false false is = absurd cc
one_of false false true d is = absurd cc
one_of true b false true is = inr (refl, refl)
one_of true b false false is = absurd cc
one_of true b true d is = absurd cc

first_of_two : (a b c d : Bool) → a ≡ false → b ≡ true → ((not a && b) || (not c && d)) ≡ true
first_of_two false true c d n y = refl
first_of_two false false c d n y = absurd cc
first_of_two true b c d n y = absurd cc

second_of_two : (a b c d : Bool) → c ≡ false → d ≡ true → ((not a && b) || (not c && d)) ≡ true
second_of_two false true false true n y = refl
second_of_two false false false true n y = refl
second_of_two true b false true n y = refl
second_of_two a b false false n y = absurd cc
second_of_two a b true d n y = absurd cc

differ : (a b : ℤ) → a ≢ b → int_eq a b ≡ false
differ a b other = elim (int_eq a b) as (λ t. int_eq a b ≡ t → t ≡ false) [ true ↦ λ same. absurd (other ((Decides-int_eq a b).0 same)) | false ↦ λ _. refl ] refl

differs : (a b : ℤ) → int_eq a b ≡ false → a ≢ b
differs a b n same = clash ((Decides-int_eq a b).1 same) n where
  clash : {t : Bool} → t ≡ true → t ≡ false → ⊥
  clash x y = cc

pub of_resolvent : (lits : Literals) (l : ℤ) (clause : LiveClause) (m : ℤ) → IsIn (resolved_on lits l clause) m → (IsIn lits m × (m ≢ l)) ⊎ (IsIn clause.lits m × (m ≢ negation l))
of_resolvent lits l clause m inside = elim (one_of (int_eq m l) (set.contains lits m) (int_eq m (negation l)) (set.contains clause.lits m) (sym (contains-resolved lits l clause m) ∙ inside)) [
  | inl t ↦ inl (t.1, differs m l t.0)
  | inr t ↦ inr (t.1, differs m (negation l) t.0)
]

pub resolvent_keeps : (lits : Literals) (l : ℤ) (clause : LiveClause) (m : ℤ) → IsIn lits m → m ≢ l → IsIn (resolved_on lits l clause) m
resolvent_keeps lits l clause m inside other = contains-resolved lits l clause m ∙ first_of_two (int_eq m l) (set.contains lits m) (int_eq m (negation l)) (set.contains clause.lits m) (differ m l other) inside

pub resolvent_gains : (lits : Literals) (l : ℤ) (clause : LiveClause) (m : ℤ) → IsIn clause.lits m → m ≢ negation l → IsIn (resolved_on lits l clause) m
resolvent_gains lits l clause m inside other = contains-resolved lits l clause m ∙ second_of_two (int_eq m l) (set.contains lits m) (int_eq m (negation l)) (set.contains clause.lits m) (differ m (negation l) other) inside
