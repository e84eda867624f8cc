-- The resolvent of a lemma with a clause that holds the negation of its pivot.
use Rattle.std.proofs.Common.{◌≡◌, ℕ, true, false, not, Bool, cond, List, [], ◌∷◌, ◌++◌, None, refl, sym, ap, subst, ◌∙◌, inl, inr}
use Rattle.std.specs.Prelude.{ℤ, ◌⊎◌, Contains}
use Rattle.std.specs.FinSet as set
use Rattle.std.specs.Ordering.{int_eq}
use Rattle.std.specs.Cmp.Derive.{both_true}
use Rattle.std.proofs.lemmas.Bool.{and_parts}
use Rattle.std.proofs.lemmas.List.Elements.{Contains-append_cases, Contains-append_left, Contains-append_right}
use Rattle.std.proofs.lemmas.List.Folds.{list_all-append}
use Rattle.lls_lit.specs.Literal.{negation}
use Rattle.lls_lit.specs.Formula.{Clause, is_literal_of, is_within}
use Rattle.lls_lit.proofs.Flipped.{negation_twice}
use Rattle.lls_prooflog.specs.Rat.{has_true, others}
use Rattle.lls_prooflog.specs.UnitWalk.{is_among, unit_walk}
use Rattle.lls_store.specs.Clauses.{LiveClause, Literals, IsIn}
use Rattle.lls_store.proofs.Sets.{Contains-from_IsIn, IsIn-from_Contains}
use Rattle.lls_lemmas.specs.Assumed.{CanBeFalse}
use Rattle.lls_lemmas.specs.Behind.{GivesClause}
use Rattle.lls_lemmas.specs.Lemmas.{is_tautology}
use Rattle.lls_lemmas.specs.Pivot.{IsUnresolved, ResolvesBy}
use Rattle.lls_lemmas.proofs.Groups.{closes_before}
use Rattle.lls_lemmas.proofs.Listing.{among-from_Contains}
use Rattle.lls_lemmas.proofs.Opposed.{has_true-from, in_others, of_others, true_lit}
use Rattle.lls_lemmas.proofs.Tautologies.{both_there, none_beside}

-- lists of the same literals
same_literals : (a b : Clause) (lits : Literals) (l : ℤ) → set.from_list a ≡ lits → set.from_list b ≡ lits → Contains a l → Contains b l
same_literals a b lits l same same' inside = Contains-from_IsIn b l (ap (λ (ls : Literals). set.contains ls l) (same' ∙ sym same) ∙ IsIn-from_Contains a l inside)

others_same : (left_out : ℤ) (a b : Clause) (lits : Literals) (l : ℤ) → set.from_list a ≡ lits → set.from_list b ≡ lits → Contains (others left_out a) l → Contains (others left_out b) l
others_same x a b lits l same same' inside = let r = of_others x a l inside in in_others x b l (same_literals a b lits l same same' r.0) r.1

module _ (live : List LiveClause) (pivot : ℤ) (lits : List ℤ) (clause : LiveClause) (told : Clause) (is : set.from_list told ≡ clause.lits) where
  -- where it has a true literal, no hints are needed
  pub resolves_true : (hints : List ℤ) → has_true lits (others (negation pivot) told) ≡ true → ResolvesBy live pivot lits clause hints
  resolves_true hints some pairs spelled more spells same =
      let t = true_lit lits (others (negation pivot) told) some in
      let there = has_true-from lits (others (negation pivot) spelled) t.lit (others_same (negation pivot) told spelled clause.lits t.lit is same t.inside) t.negated in
      ap (λ b. cond b None (unit_walk pairs (lits ++ others (negation pivot) spelled) (hints ++ more))) there

  -- else those that lead to it
  pub resolves_given : (hints : List ℤ) → GivesClause live (lits ++ others (negation pivot) told) hints → ResolvesBy live pivot lits clause hints
  resolves_given hints gives pairs spelled more spells same =
      let rest = others (negation pivot) spelled in
      let among : (l : ℤ) → Contains (lits ++ others (negation pivot) told) l → is_among (lits ++ rest) l ≡ true = λ l inside. among-from_Contains (lits ++ rest) l (elim (Contains-append_cases lits (others (negation pivot) told) l inside) [
        | inl early ↦ Contains-append_left lits rest l early
        | inr late ↦ Contains-append_right lits rest l (others_same (negation pivot) told spelled clause.lits l is same late)
      ]) in
      by_test (has_true lits rest) (closes_before pairs (lits ++ rest) hints more (gives pairs (lits ++ rest) spells among)) where
        by_test : (b : Bool) → unit_walk pairs (lits ++ others (negation pivot) spelled) (hints ++ more) ≡ None → cond b None (unit_walk pairs (lits ++ others (negation pivot) spelled) (hints ++ more)) ≡ None
        by_test true walk = refl
        by_test false walk = walk

  -- literals that can be false leave it open
  pub unresolved : Contains live clause → IsIn clause.lits (negation pivot) → CanBeFalse live (lits ++ others (negation pivot) told) → IsUnresolved live pivot lits
  unresolved inside opposes f = record {
    clause = clause;
    trail = f.trail;
    is_live = inside;
    opposes = opposes;
    is_trail = f.is_trail;
    closed = f.is_open.closed;
    lits_false = λ l there. f.is_open.all_false l (Contains-append_left lits (others (negation pivot) told) l there);
    others_false = λ l there other. f.is_open.all_false l (Contains-append_right lits (others (negation pivot) told) l (in_others (negation pivot) told l (Contains-from_IsIn told l (ap (λ (ls : Literals). set.contains ls l) is ∙ there)) other));
  }

-- neither has it
pub no_tautology : (left_out : ℤ) (lits told : List ℤ) → is_tautology lits ≡ false → is_tautology told ≡ false → has_true lits (others left_out told) ≡ false → is_tautology (lits ++ others left_out told) ≡ false
no_tautology x lits told none none' none_true = none_beside (lits ++ rest) (λ l inside negated. by l (Contains-append_cases lits rest l inside) (Contains-append_cases lits rest (negation l) negated)) where
  rest : List ℤ
  rest = others x told

  clash : {b : Bool} → b ≡ false → b ≡ true → ⊥
  clash is_false is_true = let c : false ≡ true = sym is_false ∙ is_true in absurd cc

  by : (l : ℤ) → Contains lits l ⊎ Contains (others x told) l → Contains lits (negation l) ⊎ Contains (others x told) (negation l) → ⊥
  by l (inl a) (inl b) = clash none (both_there lits l a b)
  by l (inl a) (inr b) = clash none_true (has_true-from lits (others x told) (negation l) b (let P : ℤ → Type 0 = λ m. Contains lits m in subst P (sym (negation_twice l)) a))
  by l (inr a) (inl b) = clash none_true (has_true-from lits (others x told) l a b)
  by l (inr a) (inr b) = clash none' (both_there told l (of_others x told l a).0 (of_others x told (negation l) b).0)

pub others_within : (vars : ℕ) (left_out : ℤ) (told : Clause) → is_within vars told ≡ true → is_within vars (others left_out told) ≡ true
others_within vars x [] all = refl
others_within vars x (l ∷ ls) all =
    let parts = and_parts (is_literal_of vars l) (is_within vars ls) all in
    by_test (int_eq x l) parts.0 (others_within vars x ls parts.1) where
      by_test : (b : Bool) → is_literal_of vars l ≡ true → is_within vars (others x ls) ≡ true → is_within vars (cond (not b) (l ∷ others x ls) (others x ls)) ≡ true
      by_test true one rest = rest
      by_test false one rest = both_true one rest

pub within_both : (vars : ℕ) (lits rest : List ℤ) → is_within vars lits ≡ true → is_within vars rest ≡ true → is_within vars (lits ++ rest) ≡ true
within_both vars lits rest a b = list_all-append (is_literal_of vars) lits rest ∙ both_true a b
