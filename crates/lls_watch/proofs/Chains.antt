-- Segments of chains: what keeps them, and how they are put together.
use Rattle.std.proofs.Common.{◌≡◌, ℕ, Bool, true, false, ◌||◌, List, [], ◌∷◌, ◌++◌, Option, Some, refl, sym, ap, ◌∙◌, subst}
use Rattle.std.specs.Prelude.{ℤ, ◌==◌}
use Rattle.std.proofs.lemmas.Bool.{eq-eqb, eqb-true}
use Rattle.lls_arena.specs.Arena.{HeadState, link_of}
use Rattle.lls_watch.specs.Watches.{LeadsOn, IsSegment, IsOnce, has, side_of}

pub has_first : (c : ℕ) (cs : List ℕ) → has (c ∷ cs) c ≡ true
has_first c cs = rw (eq-eqb c c refl) refl

pub has_later : (c k : ℕ) (cs : List ℕ) → has cs k ≡ true → has (c ∷ cs) k ≡ true
has_later c k cs among = either (c == k) among
  where
    either : (a : Bool) {b : Bool} → b ≡ true → (a || b) ≡ true
    either true e = refl
    either false e = e

pub segment_kept : (heads new : List HeadState) (lit : ℤ) (start : Option ℕ) (cs : List ℕ) (end : Option ℕ)
    → ((c : ℕ) (next : Option ℕ) → has cs c ≡ true → LeadsOn heads lit c next → LeadsOn new lit c next)
    → IsSegment heads lit start cs end → IsSegment new lit start cs end
segment_kept heads new lit start [] end each chain = chain
segment_kept heads new lit start (c ∷ cs) end each chain =
    let next = chain.1.0 in
    (chain.0, (next, (each c next (has_first c cs) chain.1.1.0, segment_kept heads new lit next cs end (λ k n among. each k n (has_later c k cs among)) chain.1.1.1)))

pub segment_append : (heads : List HeadState) (lit : ℤ) (start mid end : Option ℕ) (xs ys : List ℕ)
    → IsSegment heads lit start xs mid → IsSegment heads lit mid ys end → IsSegment heads lit start (xs ++ ys) end
segment_append heads lit start mid end [] ys first second = subst (λ s. IsSegment heads lit s ys end) (sym first) second
segment_append heads lit start mid end (x ∷ xs) ys first second =
    (first.0, (first.1.0, (first.1.1.0, segment_append heads lit first.1.0 mid end xs ys first.1.1.1 second)))

pub segment_split : (heads : List HeadState) (lit : ℤ) (start end : Option ℕ) (xs ys : List ℕ)
    → IsSegment heads lit start (xs ++ ys) end → (mid : Option ℕ) × (IsSegment heads lit start xs mid × IsSegment heads lit mid ys end)
segment_split heads lit start end [] ys whole = (start, (refl, whole))
segment_split heads lit start end (x ∷ xs) ys whole =
    let rest = segment_split heads lit whole.1.0 end xs ys whole.1.1.1 in
    (rest.0, ((whole.0, (whole.1.0, (whole.1.1.0, rest.1.0))), rest.1.1))

-- a clause's edge leads to one place alone
pub leads_to_one : (heads : List HeadState) (lit : ℤ) (c : ℕ) (a b : Option ℕ) → LeadsOn heads lit c a → LeadsOn heads lit c b → a ≡ b
leads_to_one heads lit c a b one other =
    let same : one.head ≡ other.head = some_same one.head other.head (sym one.is_head ∙ other.is_head) in
    sym one.next_is ∙ ap (λ h. link_of (side_of h lit) h) same ∙ other.next_is
  where
    some_same : (x y : HeadState) → Some x ≡ Some y → x ≡ y
    some_same x y e = cc

pub has_append : (xs ys : List ℕ) (k : ℕ) → has (xs ++ ys) k ≡ (has xs k || has ys k)
has_append [] ys k = refl
has_append (x ∷ xs) ys k = rw (has_append xs ys k) (or_assoc (x == k) (has xs k) (has ys k))
  where
    or_assoc : (a b c : Bool) → (a || (b || c)) ≡ ((a || b) || c)
    or_assoc true b c = refl
    or_assoc false b c = refl

-- what stands once isn't before its place, nor behind it
pub once_split : (xs : List ℕ) (c : ℕ) (ys : List ℕ) → IsOnce (xs ++ c ∷ ys) → (has xs c ≡ false) × (has ys c ≡ false)
once_split [] c ys once = (refl, once.0)
once_split (x ∷ xs) c ys once =
    let rest = once_split xs c ys once.1 in (
      elim (x == c) as (λ b. (x == c) ≡ b → (b || has xs c) ≡ false) [
        | true ↦ λ is.
            let there : has (xs ++ c ∷ ys) c ≡ true = has_append xs (c ∷ ys) c ∙ ap (λ b. has xs c || b) (has_first c ys) ∙ or_true (has xs c) in
            let clash : true ≡ false = sym there ∙ ap (has (xs ++ c ∷ ys)) (sym (eqb-true x c is)) ∙ once.0 in
            absurd cc
        | false ↦ λ _. rest.0
      ] refl,
      rest.1,
    )
  where
    or_true : (a : Bool) → (a || true) ≡ true
    or_true true = refl
    or_true false = refl

-- without one of them they stand once too
pub once_without : (xs : List ℕ) (c : ℕ) (ys : List ℕ) → IsOnce (xs ++ c ∷ ys) → IsOnce (xs ++ ys)
once_without [] c ys once = once.1
once_without (x ∷ xs) c ys once =
    (has_append xs ys x ∙ fewer (has xs x) (c == x) (has ys x) (sym (has_append xs (c ∷ ys) x) ∙ once.0), once_without xs c ys once.1)
  where
    fewer : (a b d : Bool) → (a || (b || d)) ≡ false → (a || d) ≡ false
    fewer true b d e = e
    fewer false true d e = absurd cc
    fewer false false d e = e
