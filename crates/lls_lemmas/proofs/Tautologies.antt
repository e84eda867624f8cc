-- Clauses in which a literal stands beside its negation.
use Rattle.std.proofs.Common.{◌≡◌, ℕ, zero, suc, ◌+◌, ◌<◌, ◌≤◌, Bool, true, false, ◌||◌, List, [], ◌∷◌, ◌++◌, length, take, drop, get_or, refl, sym, ap, subst, ◌∙◌, inl, inr, arith}
use Rattle.std.specs.Prelude.{ℤ, pos, negsuc, ◌⊎◌, Contains}
use Rattle.std.specs.List.{list_any}
use Rattle.std.specs.FinSet as set
use Rattle.std.specs.Ordering.{int_cmp}
use Rattle.std.proofs.lemmas.List.{take_more, take_all, take-append-drop}
use Rattle.std.proofs.lemmas.List.Elements.{Contains-append_left, Contains-push}
use Rattle.std.proofs.lemmas.List.Folds.{list_any_at}
use Rattle.lls_lit.specs.Literal.{variable_of, negation}
use Rattle.lls_lit.proofs.Flipped.{negation_twice}
use Rattle.lls_prooflog.specs.UnitWalk.{is_among}
use Rattle.lls_store.specs.Clauses.{Literals, IsIn}
use Rattle.lls_store.proofs.Sets.{Contains-from_IsIn, IsIn-from_Contains}
use Rattle.lls_lemmas.specs.Indexed.{IsPlain}
use Rattle.lls_lemmas.specs.Lemmas.{is_tautology}
use Rattle.lls_lemmas.proofs.Listing.{Contains-from_among, among-from_Contains, inserted, marked_more, Contains-take_more}
use Rattle.lls_analyse.proofs.Gathering.{later, nothing_there}

pub both_there : (lits : List ℤ) (l : ℤ) → Contains lits l → Contains lits (negation l) → is_tautology lits ≡ true
both_there lits l (k, lt, at) negated =
    let test : ℤ → Bool = λ m. is_among lits (negation m) in
    list_any_at test lits k l lt (ap test at ∙ among-from_Contains lits (negation l) negated)

-- where no literal stands beside its negation
pub none_beside : (lits : List ℤ) → ((l : ℤ) → Contains lits l → Contains lits (negation l) → ⊥) → is_tautology lits ≡ false
none_beside lits none = over lits (λ l inside. inside) where
  over : (ls : List ℤ) → ((l : ℤ) → Contains ls l → Contains lits l) → list_any (λ l. is_among lits (negation l)) ls ≡ false
  over [] within = refl
  over (l ∷ ls) within = by_test (is_among lits (negation l)) refl (over ls (λ m inside. within m (later l ls m inside))) where
    by_test : (b : Bool) → is_among lits (negation l) ≡ b → list_any (λ m. is_among lits (negation m)) ls ≡ false → (b || list_any (λ m. is_among lits (negation m)) ls) ≡ false
    by_test true is rest = absurd (none l (within l (0, omega arith, refl)) (Contains-from_among lits (negation l) is))
    by_test false is rest = rest

pub unlike : (l : ℤ) → 1 ≤ variable_of l → negation l ≡ l → ⊥
unlike (pos zero) low same = omega (arith, low)
unlike (pos (suc n)) low same = cc
unlike (negsuc n) low same = cc

-- the literals before a place are those that are marked, and none of them stands beside its negation
pub record AreApart (lits : List ℤ) (k : ℕ) (marked : Literals) : Type 0 where
  pub marks : (l : ℤ) → Contains (take k lits) l → IsIn marked l
  pub of : (l : ℤ) → IsIn marked l → Contains (take k lits) l
  pub apart : (l : ℤ) → Contains (take k lits) l → Contains (take k lits) (negation l) → ⊥

pub apart_start : (lits : List ℤ) → AreApart lits 0 set.empty
apart_start lits = record {
  marks = λ l inside. absurd (nothing_there l (start lits l inside));
  of = λ l inside. (let clash : false ≡ true = sym (set.contains-empty int_cmp l) ∙ inside in absurd cc);
  apart = λ l inside negated. nothing_there l (start lits l inside);
} where
  start : (ls : List ℤ) (l : ℤ) → Contains (take 0 ls) l → Contains [] l
  start [] l inside = inside
  start (x ∷ xs) l inside = inside

pub apart_more : (lits : List ℤ) (k : ℕ) (x : ℤ) (marked : Literals) → k < length lits → x ≡ get_or lits k x → 1 ≤ variable_of x → set.contains marked (negation x) ≡ false → AreApart lits k marked → AreApart lits (k + 1) (set.insert marked x)
apart_more lits k x marked lt is low none h = record {
  marks = λ l inside. marked_more lits k x l marked lt is h.marks inside;
  of = λ l inside. elim (inserted marked x l inside) [
    | inl same ↦ (let P : ℤ → Type 0 = λ m. Contains (take (k + 1) lits) m in subst P (sym same) (in_more x (inr refl)))
    | inr old ↦ in_more l (inl (h.of l old))
  ];
  apart = λ l inside negated. by l (Contains-take_more lits k x l lt is inside) (Contains-take_more lits k x (negation l) lt is negated);
} where
  in_more : (l : ℤ) → Contains (take k lits) l ⊎ (x ≡ l) → Contains (take (k + 1) lits) l
  in_more l there =
      let P : List ℤ → Type 0 = λ ys. Contains ys l in
      subst P (sym (take_more lits k x lt ∙ ap (λ y. take k lits ++ y ∷ []) (sym is))) (elim there [
        | inl old ↦ Contains-append_left (take k lits) (x ∷ []) l old
        | inr same ↦ (let Q : ℤ → Type 0 = λ m. Contains (take k lits ++ x ∷ []) m in subst Q same (Contains-push (take k lits) x))
      ])

  not_old : Contains (take k lits) (negation x) → ⊥
  not_old inside = let clash : false ≡ true = sym none ∙ h.marks (negation x) inside in absurd cc

  by : (l : ℤ) → Contains (take k lits) l ⊎ (x ≡ l) → Contains (take k lits) (negation l) ⊎ (x ≡ negation l) → ⊥
  by l (inl old) (inl old') = h.apart l old old'
  by l (inl old) (inr same) = not_old (let P : ℤ → Type 0 = λ m. Contains (take k lits) m in subst P (sym (ap negation same ∙ negation_twice l)) old)
  by l (inr same) (inl old') = not_old (let P : ℤ → Type 0 = λ m. Contains (take k lits) (negation m) in subst P (sym same) old')
  by l (inr same) (inr same') = unlike x low (ap negation same ∙ sym same')

-- a literal whose negation is marked stands beside it
pub beside : (lits : List ℤ) (k : ℕ) (x : ℤ) (marked : Literals) → k < length lits → x ≡ get_or lits k x → IsIn marked (negation x) → AreApart lits k marked → is_tautology lits ≡ true
beside lits k x marked lt is inside h = both_there lits x (k, lt, sym is) (front lits k (negation x) (h.of (negation x) inside)) where
  front : (ls : List ℤ) (n : ℕ) (l : ℤ) → Contains (take n ls) l → Contains ls l
  front ls n l there = let P : List ℤ → Type 0 = λ ys. Contains ys l in subst P (take-append-drop n ls) (Contains-append_left (take n ls) (drop n ls) l there)

pub none_apart : (lits : List ℤ) (k : ℕ) (marked : Literals) → length lits ≤ k → AreApart lits k marked → is_tautology lits ≡ false
none_apart lits k marked all h =
    let P : List ℤ → Type 0 = λ ys. (l : ℤ) → Contains ys l → Contains ys (negation l) → ⊥ in
    none_beside lits (subst P (take_all k lits all) h.apart)

-- a clause of the literals of a set in which none stands beside its negation
pub plain_told : (lits : List ℤ) (told : Literals) → set.from_list lits ≡ told → IsPlain told → is_tautology lits ≡ false
plain_told lits told same plain = none_beside lits (λ l inside negated. plain l (there l inside) (there (negation l) negated)) where
  there : (l : ℤ) → Contains lits l → IsIn told l
  there l inside = ap (λ (ls : Literals). set.contains ls l) (sym same) ∙ IsIn-from_Contains lits l inside

-- and a set of the literals of a clause
pub plain_set : (lits : List ℤ) (told : Literals) → set.from_list lits ≡ told → is_tautology lits ≡ false → IsPlain told
plain_set lits told same none l inside negated = let clash : false ≡ true = sym none ∙ both_there lits l (there l inside) (there (negation l) negated) in absurd cc where
  there : (m : ℤ) → IsIn told m → Contains lits m
  there m is = Contains-from_IsIn lits m (ap (λ (ls : Literals). set.contains ls m) same ∙ is)

-- literals in any order have it or not
pub same_tautology : (a b : List ℤ) → set.from_list {R = int_cmp} a ≡ set.from_list b → is_tautology a ≡ true → is_tautology b ≡ true
same_tautology a b same is = elim (is_tautology b) as (λ x. is_tautology b ≡ x → x ≡ true) [
  | true ↦ λ _. refl
  | false ↦ λ none. (let clash : false ≡ true = sym (plain_told a (set.from_list b) same (plain_set b (set.from_list b) refl none)) ∙ is in absurd cc)
] refl
