-- A proof that is read lemma by lemma.
use Rattle.std.proofs.Common.{◌≡◌, List, [], ◌∷◌, ◌++◌, Option, None, Some, IfSome, refl, sym, ap, subst, ◌∙◌, append_assoc}
use Rattle.lls_drat.specs.Lemma.{NumberedLemma}
use Rattle.lls_drat.specs.Proof.{Proof}
use Rattle.lls_hinting.specs.Place.{Passed, Passes, Place, to_come_at, with_front}

-- a fact of what may be known
pub known : {A : Type 0} (P : A → Type 0) (o : Option A) → ((x : A) → o ≡ Some x → P x) → IfSome o P
known P None fact = tt
known P (Some x) fact = fact x refl

pub at : {A : Type 0} (P : A → Type 0) (o : Option A) (x : A) → o ≡ Some x → IfSome o P → P x
at P None x is fact = absurd cc
at P (Some y) x is fact = let same : y ≡ x = cc in subst P same fact

front_front : (one two : List NumberedLemma) (proof : Proof) → with_front one (with_front two proof) ≡ with_front (one ++ two) proof
front_front one two proof = ap (λ (ls : List NumberedLemma). record proof { lemmas = ls }) (sym (append_assoc one two proof.lemmas))

-- nothing was read
pub passes_none : (place : Place) → Passes [] place place
passes_none place = known (Passed [] place place) place.rest (λ left is. record {
  left_then = record { bytes = left; rest = is; same_length = refl };
  lemmas = refl;
})

-- one lemma more
pub passes_more : (a b c : Place) (front : List NumberedLemma) (l : NumberedLemma) → Passes front a b → Passes (l ∷ []) b c → Passes (front ++ l ∷ []) a c
passes_more a b c front l first next = known (Passed (front ++ l ∷ []) a c) a.rest (λ left is.
    let p = at (Passed front a b) a.rest left is first in
    let q = at (Passed (l ∷ []) b c) b.rest p.left_then.bytes p.left_then.rest next in
    record {
      left_then = record { bytes = q.left_then.bytes; rest = q.left_then.rest; same_length = q.left_then.same_length ∙ p.left_then.same_length };
      lemmas = p.lemmas ∙ ap (with_front front) q.lemmas ∙ front_front front (l ∷ []) (to_come_at c q.left_then.bytes);
    })
