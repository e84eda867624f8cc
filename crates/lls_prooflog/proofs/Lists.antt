-- The list that words begin with, as a loop reads it.
use Rattle.std.proofs.Common.{◌≡◌, ◌<◌, true, false, cond, List, [], ◌∷◌, ◌++◌, length, map, drop, Some, None, refl, sym, ap, ◌∙◌, append_assoc, arith}
use Rattle.std.specs.Prelude.{Result, Ok, Err}
use Rattle.std.specs.List.{list_any}
use Rattle.lls_base.specs.Results.{and_then}
use Rattle.lls_text.specs.Words.{PlacedWord}
use Rattle.lls_prooflog.specs.declared.line_fault.LineFault.{LineFault}
use Rattle.lls_prooflog.specs.Line.{is_end, before_end, behind_end, all_of, if_ended, listed}
use Rattle.lls_prooflog.specs.Numeral.{next_item}
use Rattle.lls_prooflog.proofs.PrintedLists.{listed-end, behind-end, listed-item, behind-item}

-- the items before those that are still read
abbrev pub with_front : {X : Type 0} → List X → Result (List X) LineFault → Result (List X) LineFault
with_front front rest = and_then rest (λ items. Ok (front ++ items))

module _ {X : Type 0} (item_of : PlacedWord → Result X LineFault) where
  -- an item more
  pub listed-next : (words : List PlacedWord) (x : X) → Ok (Some x) ≡ next_item item_of words → (listed item_of words ≡ and_then (listed item_of (drop 1 words)) (λ xs. Ok (x ∷ xs))) × (behind_end words ≡ behind_end (drop 1 words))
  listed-next [] x e = absurd cc
  listed-next (word ∷ words) x e = elim (is_end word) as (λ b. is_end word ≡ b → Ok (Some x) ≡ cond b (Ok None) (and_then (item_of word) (λ y. Ok (Some y))) → (listed item_of (word ∷ words) ≡ and_then (listed item_of words) (λ xs. Ok (x ∷ xs))) × (behind_end (word ∷ words) ≡ behind_end words)) [
    | true ↦ λ _ h. absurd cc
    | false ↦ λ goes_on h. (listed-item item_of word words x goes_on (item (item_of word) h), behind-item item_of word words goes_on)
  ] refl e
    where
      item : (r : Result X LineFault) → Ok (Some x) ≡ and_then r (λ y. Ok (Some y)) → r ≡ Ok x
      item (Ok y) h = cc
      item (Err fault) h = absurd cc

  -- the end
  pub listed-done : (words : List PlacedWord) → Ok None ≡ next_item item_of words → (listed item_of words ≡ Ok []) × (behind_end words ≡ drop 1 words)
  listed-done [] e = absurd cc
  listed-done (word ∷ words) e = elim (is_end word) as (λ b. is_end word ≡ b → Ok None ≡ cond b (Ok None) (and_then (item_of word) (λ y. Ok (Some y))) → (listed item_of (word ∷ words) ≡ Ok []) × (behind_end (word ∷ words) ≡ words)) [
    | true ↦ λ is _. (listed-end item_of word words is, behind-end item_of word words is)
    | false ↦ λ _ h. absurd (no_item (item_of word) h)
  ] refl e
    where
      no_item : (r : Result X LineFault) → Ok None ≡ and_then r (λ y. Ok (Some y)) → ⊥
      no_item (Ok y) h = cc
      no_item (Err fault) h = cc

  -- a fault
  pub listed-fault : (words : List PlacedWord) (fault : LineFault) → Err fault ≡ next_item item_of words → listed item_of words ≡ Err fault
  listed-fault [] fault e = cc
  listed-fault (word ∷ words) fault e = elim (is_end word) as (λ b. Err fault ≡ cond b (Ok None) (and_then (item_of word) (λ y. Ok (Some y))) → and_then (all_of (map item_of (cond b [] (word ∷ before_end words)))) (if_ended (list_any is_end (word ∷ words))) ≡ Err fault) [
    | true ↦ λ h. absurd cc
    | false ↦ λ h. ap (λ r. and_then (and_then r (λ value. and_then (all_of (map item_of (before_end words))) (λ values. Ok (value ∷ values)))) (if_ended (list_any is_end (word ∷ words)))) (same (item_of word) h)
  ] e
    where
      same : (r : Result X LineFault) → Err fault ≡ and_then r (λ y. Ok (Some y)) → r ≡ Err fault
      same (Ok y) h = absurd cc
      same (Err other) h = cc

  -- a word was taken
  pub shorter : (words : List PlacedWord) (x : X) → Ok (Some x) ≡ next_item item_of words → length (drop 1 words) < length words
  shorter [] x e = absurd cc
  shorter (word ∷ words) x e = omega arith

with_front-push : {X : Type 0} (front : List X) (x : X) (rest : Result (List X) LineFault) → with_front (front ++ x ∷ []) rest ≡ with_front front (and_then rest (λ xs. Ok (x ∷ xs)))
with_front-push front x (Ok xs) = ap Ok (append_assoc front (x ∷ []) xs)
with_front-push front x (Err fault) = refl

-- a loop's step: the items so far, and one more
pub listed-step : {X : Type 0} (item_of : PlacedWord → Result X LineFault) (words : List PlacedWord) (front : List X) (x : X) → Ok (Some x) ≡ next_item item_of words → with_front (front ++ x ∷ []) (listed item_of (drop 1 words)) ≡ with_front front (listed item_of words)
listed-step item_of words front x e = with_front-push front x (listed item_of (drop 1 words)) ∙ ap (with_front front) (sym (listed-next item_of words x e).0)

-- a loop's fault
pub listed-ended : {X : Type 0} (item_of : PlacedWord → Result X LineFault) (words : List PlacedWord) (front : List X) (fault : LineFault) → Err fault ≡ next_item item_of words → with_front front (listed item_of words) ≡ Err fault
listed-ended item_of words front fault e = ap (with_front front) (listed-fault item_of words fault e)
