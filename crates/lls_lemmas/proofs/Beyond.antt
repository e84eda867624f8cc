-- Literals that are taken as false one after another, and what is taken back.
use Rattle.std.proofs.Common.{◌≡◌, ℕ, ◌+◌, ◌≤◌, Bool, true, false, cond, ◌||◌, List, [], ◌∷◌, ◌++◌, Option, None, is_some, refl, sym, ap, subst, ◌∙◌, inl, inr, arith, append_assoc}
use Rattle.std.specs.Prelude.{ℤ, Contains, IsSome, nat_le, take_while}
use Rattle.std.specs.Ordering.{int_eq}
use Rattle.std.proofs.lemmas.Bool.Decides.{nat_tests, Decides-int_eq}
use Rattle.std.proofs.lemmas.List.{append-nil}
use Rattle.std.proofs.lemmas.List.Folds.{list_any-append}
use Rattle.std.proofs.lemmas.List.Sums.{take_while-cons}
use Rattle.std.proofs.lemmas.List.Elements.{All-contains, Contains-append_cases}
use Rattle.lls_lit.specs.Literal.{negation}
use Rattle.lls_lit.proofs.Flipped.{negation_twice}
use Rattle.lls_store.specs.Trail.{Entry, TrailState, has, Has, HasNegated, IsTrail}
use Rattle.lls_store.specs.Changes.{cut_to, decided, entries_up_to}
use Rattle.lls_store.specs.Store.{GoesOn}
use Rattle.lls_store.proofs.Cut.{cut_all}
use Rattle.lls_analyse.proofs.Gathering.{first_or_later, nothing_there}
use Rattle.lls_lemmas.specs.Assumed.{Assumes}

pub assumes_none : (t : TrailState) (lits : List ℤ) → Assumes t lits t
assumes_none t lits = record { more = []; same_vars = refl; goes_on = sym (append-nil t.entries); above = λ e inside. absurd (nothing_there e inside); decided = λ e inside none. absurd (nothing_there e inside) }

not_both : {o : Option ℕ} → IsSome o → o ≡ None → ⊥
not_both some none = let clash : false ≡ true = sym (ap is_some none) ∙ some in absurd cc

-- a literal is decided as false, and others follow
pub assumes_one : (t new : TrailState) (l : ℤ) → GoesOn (decided t (negation l)) new → Assumes t (l ∷ []) new
assumes_one t new l g =
    let e : Entry = record { lit = negation l; level = t.current + 1; reason = None } in
    record {
      more = e ∷ g.added;
      same_vars = ap (λ (x : TrailState). x.vars) g.grown;
      goes_on = ap (λ (x : TrailState). x.entries) g.grown ∙ append_assoc t.entries (e ∷ []) g.added;
      above = λ x inside. elim (first_or_later e g.added x inside) [
        | inl same ↦ omega (arith, ap (λ (y : Entry). y.level) same)
        | inr there ↦ omega (arith, All-contains (λ (y : Entry). y.level ≡ t.current + 1) g.added x g.of_level there)
      ];
      decided = λ x inside none. elim (first_or_later e g.added x inside) [
        | inl same ↦ (0, omega arith, sym (ap (λ (y : Entry). negation y.lit) (sym same) ∙ negation_twice l))
        | inr there ↦ absurd (not_both (All-contains (λ (y : Entry). IsSome y.reason) g.added x g.are_forced there) none)
      ];
    }

-- it is false then
pub decided_false : (t new : TrailState) (l : ℤ) → GoesOn (decided t (negation l)) new → HasNegated new.entries l
decided_false t new l g =
    let e : Entry = record { lit = negation l; level = t.current + 1; reason = None } in
    ap (λ (x : TrailState). has x.entries (negation l)) g.grown
    ∙ ap (λ (xs : List Entry). has xs (negation l)) (append_assoc t.entries (e ∷ []) g.added)
    ∙ list_any-append (λ (x : Entry). int_eq x.lit (negation l)) t.entries (e ∷ g.added)
    ∙ either (has t.entries (negation l)) (ap (λ b. b || has g.added (negation l)) ((Decides-int_eq (negation l) (negation l)).1 refl))
  where
    either : (a : Bool) {b : Bool} → b ≡ true → (a || b) ≡ true
    either true is = refl
    either false is = is

-- what is true stays so
pub stays_true : (base t : TrailState) (lits : List ℤ) (l : ℤ) → Assumes base lits t → Has base.entries l → Has t.entries l
stays_true base t lits l a is = ap (λ (xs : List Entry). has xs l) a.goes_on ∙ list_any-append (λ (x : Entry). int_eq x.lit l) base.entries a.more ∙ ap (λ b. b || has a.more l) is

pub assumes_then : (base t new : TrailState) (lits : List ℤ) (l : ℤ) → Assumes base lits t → Assumes t (l ∷ []) new → Contains lits l → Assumes base lits new
assumes_then base t new lits l first second inside = record {
  more = first.more ++ second.more;
  same_vars = second.same_vars ∙ first.same_vars;
  goes_on = second.goes_on ∙ ap (λ (xs : List Entry). xs ++ second.more) first.goes_on ∙ append_assoc base.entries first.more second.more;
  above = λ e there. elim (Contains-append_cases first.more second.more e there) [ inl x ↦ first.above e x | inr x ↦ second.above e x ];
  decided = λ e there none. elim (Contains-append_cases first.more second.more e there) [
    | inl x ↦ first.decided e x none
    | inr x ↦ (
        let P : ℤ → Type 0 = λ m. Contains lits m in
        elim (first_or_later l [] (negation e.lit) (second.decided e x none)) [
          | inl same ↦ subst P same inside
          | inr none' ↦ absurd (nothing_there (negation e.lit) none')
        ])
  ];
}

up_to-above : (es more : List Entry) → ((e : Entry) → Contains more e → 1 ≤ e.level) → entries_up_to 0 (es ++ more) ≡ entries_up_to 0 es
up_to-above [] [] above = refl
up_to-above [] (m ∷ more) above =
    let high : nat_le m.level 0 ≡ false = not_zero m.level (above m (0, omega arith, refl)) in
    take_while-cons (λ (x : Entry). nat_le x.level 0) m more ∙ ap (λ b. cond b (m ∷ take_while (λ (x : Entry). nat_le x.level 0) more) []) high
  where
    not_zero : (n : ℕ) → 1 ≤ n → nat_le n 0 ≡ false
    not_zero n low = grind (arith, nat_tests)
up_to-above (e ∷ es) more above =
    take_while-cons (λ (x : Entry). nat_le x.level 0) e (es ++ more)
    ∙ ap (λ (ys : List Entry). cond (nat_le e.level 0) (e ∷ ys) []) (up_to-above es more above)
    ∙ sym (take_while-cons (λ (x : Entry). nat_le x.level 0) e es)

-- back at level 0 the trail is as it was
pub cut_back : (base t : TrailState) (lits : List ℤ) → IsTrail base → base.current ≡ 0 → Assumes base lits t → cut_to t 0 ≡ base
cut_back base t lits kept level a =
    let entries : entries_up_to 0 t.entries ≡ base.entries = ap (entries_up_to 0) a.goes_on ∙ up_to-above base.entries a.more a.above ∙ cut_all base 0 kept (omega (arith, level)) in
    ap (λ (es : List Entry). record { vars = t.vars; current = 0; entries = es }) entries
    ∙ ap (λ (n : ℕ). record { vars = n; current = 0; entries = base.entries }) a.same_vars
    ∙ ap (λ (n : ℕ). record { vars = base.vars; current = n; entries = base.entries }) (sym level)
