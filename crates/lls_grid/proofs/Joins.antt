-- Texts joined by a byte.
use Rattle.std.proofs.Common.{◌≡◌, ◌<◌, ◌+◌, ◌⊎◌, inl, inr, ℕ, suc, eqb, cond, List, [], ◌∷◌, ◌++◌, length, get_or, take, map, refl, sym, ap, ◌∙◌, arith, append_assoc, length-take}
use Rattle.std.proofs.lemmas.List.{take_more, map-append, length-map}
use Rattle.std.specs.List.{join_with_byte}
use Rattle.std.proofs.lemmas.Bool.{ne_eqb}

-- one more text at the end
pub joined_more : (c : ℕ) (texts : List (List ℕ)) (text : List ℕ) → join_with_byte c (texts ++ text ∷ []) ≡ cond (eqb (length texts) 0) text (join_with_byte c texts ++ (c ∷ text))
joined_more c [] text = refl
joined_more c (first ∷ texts) text = behind first texts text (joined_more c texts text)
  where
    behind : (first : List ℕ) (texts : List (List ℕ)) (text : List ℕ) → join_with_byte c (texts ++ text ∷ []) ≡ cond (eqb (length texts) 0) text (join_with_byte c texts ++ (c ∷ text))
        → join_with_byte c (first ∷ (texts ++ text ∷ [])) ≡ cond (eqb (length (first ∷ texts)) 0) text (join_with_byte c (first ∷ texts) ++ (c ∷ text))
    behind first [] text more = refl
    behind first (second ∷ texts) text more =
        let some = ne_eqb (suc (length texts)) 0 (λ e. absurd (omega (arith, e))) in
        let others = ne_eqb (suc (suc (length texts))) 0 (λ e. absurd (omega (arith, e))) in
        let later : join_with_byte c (second ∷ (texts ++ text ∷ [])) ≡ join_with_byte c (second ∷ texts) ++ (c ∷ text) =
        more ∙ ap (λ b. cond b text (join_with_byte c (second ∷ texts) ++ (c ∷ text))) some in
        rw others (ap (λ rest. first ++ (c ∷ rest)) later ∙ sym (append_assoc first (c ∷ join_with_byte c (second ∷ texts)) (c ∷ text)))

-- one more text behind others, with the byte between them where there are others
pub separated : (c : ℕ) (done : List (List ℕ)) (text : List ℕ) (old before middle after : List ℕ) → before ≡ old ++ join_with_byte c done
    → ((0 < length done) × (middle ≡ before ++ c ∷ [])) ⊎ ((length done ≡ 0) × (middle ≡ before)) → after ≡ middle ++ text
    → after ≡ old ++ join_with_byte c (done ++ text ∷ [])
separated c done text old before middle after so_far (inl some) end =
    let others = ne_eqb (length done) 0 (λ e. absurd (omega (arith, e, some.0))) in
    let joined : join_with_byte c (done ++ text ∷ []) ≡ join_with_byte c done ++ (c ∷ text) =
    joined_more c done text ∙ ap (λ b. cond b text (join_with_byte c done ++ (c ∷ text))) others in
    end ∙ rw (some.1, so_far, joined) (append_assoc (old ++ join_with_byte c done) (c ∷ []) text ∙ append_assoc old (join_with_byte c done) (c ∷ text))
separated c [] text old before middle after so_far (inr none) end =
    end ∙ rw (none.1, so_far) (append_assoc old [] text)
separated c (first ∷ done) text old before middle after so_far (inr none) end = absurd (omega (arith, none.0))

-- one more word of a row
pub word_more : {X : Type 0} (c : ℕ) (word : X → List ℕ) (row : List X) (x : ℕ) (d : X) (old before middle after : List ℕ) → x < length row
    → before ≡ old ++ join_with_byte c (map word (take x row)) → ((0 < x) × (middle ≡ before ++ c ∷ [])) ⊎ ((x ≡ 0) × (middle ≡ before))
    → after ≡ middle ++ word (get_or row x d) → after ≡ old ++ join_with_byte c (map word (take (x + 1) row))
word_more c word row x d old before middle after within so_far between end =
    let done = map word (take x row) in
    let count : length done ≡ x = omega (arith, length-map (take x row) word, length-take x row, within) in
    let more : map word (take (x + 1) row) ≡ done ++ word (get_or row x d) ∷ [] =
    ap (map word) (take_more row x d within) ∙ map-append word (take x row) (get_or row x d ∷ []) in
    rw more (separated c done (word (get_or row x d)) old before middle after so_far
    (elim between [
      | inl some ↦ inl (omega (arith, count, some.0), some.1)
      | inr none ↦ inr (omega (arith, count, none.0), none.1)
    ]) end)
