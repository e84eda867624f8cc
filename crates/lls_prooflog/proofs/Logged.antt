-- The steps of a log, whose numbers stand in buffers: how many there are, the one at a place, and one more.
use Rattle.std.proofs.Common.{◌≡◌, ℕ, zero, suc, ◌+◌, List, [], ◌∷◌, ◌++◌, All, length, get_or, cond, Some, refl, sym, ap, ◌∙◌, arith, subst}
use Rattle.std.specs.Prelude.{ℤ, slice_get, count_by}
use Rattle.std.proofs.lemmas.List.{map-append, length-map}
use Rattle.std.proofs.lemmas.List.Elements.{All-append, All-from_recursion, recursion_from_All}
use Rattle.std.proofs.lemmas.List.Sums.{sum_by-append, sum_by-cons}
use Rattle.std.proofs.lemmas.Option.{slice_get_within, same_Some, get_or_from_slice_get}
use Rattle.lls_prooflog.specs.declared.step.Step.{Step}
use Rattle.lls_prooflog.specs.declared.log.Head.{Head}
use Rattle.lls_prooflog.specs.declared.log.Head.TheVariants as heads
use Rattle.lls_prooflog.specs.Range.{IsInRange}
use Rattle.lls_prooflog.specs.Spent.{is_addition}
use Rattle.lls_prooflog.specs.Pieces.{Begins, Hinted, Named}
use Rattle.lls_prooflog.specs.Heads.{step_at, steps_in, IsHead, IsLaid}
use Rattle.lls_prooflog.proofs.Pieces.{begins_same, kept_piece, span_more, place_more, hints_kept, ids_kept}

pub length-steps_in : (lits : List ℤ) (hints : Hinted) (ids : Named) (hs : List Head) → length (steps_in lits hints ids hs) ≡ length hs
length-steps_in lits hints ids hs = length-map hs (step_at lits hints ids)

pub slice_get-steps_in : (lits : List ℤ) (hints : Hinted) (ids : Named) (hs : List Head) (k : ℕ) (head : Head) → slice_get hs k ≡ Some head → slice_get (steps_in lits hints ids hs) k ≡ Some (step_at lits hints ids head)
slice_get-steps_in lits hints ids [] k head e = absurd cc
slice_get-steps_in lits hints ids (x ∷ xs) zero head e = ap (λ (h : Head). Some (step_at lits hints ids h)) (same_Some x head e)
slice_get-steps_in lits hints ids (x ∷ xs) (suc k) head e = slice_get-steps_in lits hints ids xs k head e

-- buffers that begin with others
pub record HintsGrow (old new : Hinted) : Type 0 where
  pub narrow : Begins old.narrow new.narrow
  pub wide : Begins old.wide new.wide

pub record IdsGrow (old new : Named) : Type 0 where
  pub narrow : Begins old.narrow new.narrow
  pub wide : Begins old.wide new.wide

pub hints_same : (hints : Hinted) → HintsGrow hints hints
hints_same hints = record { narrow = begins_same hints.narrow; wide = begins_same hints.wide }

pub ids_same : (ids : Named) → IdsGrow ids ids
ids_same ids = record { narrow = begins_same ids.narrow; wide = begins_same ids.wide }

module _ (lits lits2 : List ℤ) (hints hints2 : Hinted) (ids ids2 : Named) (more_lits : Begins lits lits2) (more_hints : HintsGrow hints hints2) (more_ids : IdsGrow ids ids2) where
  step_at-kept : (head : Head) → IsHead (length lits) hints ids head → step_at lits2 hints2 ids2 head ≡ step_at lits hints ids head
  step_at-kept (heads.Add id clause chain) h =
      rw (kept_piece clause lits lits2 h.0 more_lits, hints_kept chain hints.narrow hints2.narrow hints.wide hints2.wide h.1 more_hints.narrow more_hints.wide) refl
  step_at-kept (heads.Del named) h = rw (ids_kept named ids.narrow ids2.narrow ids.wide ids2.wide h more_ids.narrow more_ids.wide) refl

  head_more : (head : Head) → IsHead (length lits) hints ids head → IsHead (length lits2) hints2 ids2 head
  head_more (heads.Add id clause chain) h = (span_more clause lits lits2 h.0 more_lits, place_more chain hints.narrow hints2.narrow hints.wide hints2.wide h.1 more_hints.narrow more_hints.wide)
  head_more (heads.Del named) h = place_more named ids.narrow ids2.narrow ids.wide ids2.wide h more_ids.narrow more_ids.wide

  steps_in-kept : (hs : List Head) → All (IsHead (length lits) hints ids) hs → steps_in lits2 hints2 ids2 hs ≡ steps_in lits hints ids hs
  steps_in-kept [] all = refl
  steps_in-kept (x ∷ xs) all =
      let parts = recursion_from_All (IsHead (length lits) hints ids) (x ∷ xs) all in
      rw (step_at-kept x parts.0, steps_in-kept xs (All-from_recursion (IsHead (length lits) hints ids) xs parts.1)) refl

  -- one more step
  pub steps_in-push : (hs : List Head) (head : Head) (step : Step) → All (IsHead (length lits) hints ids) hs → step_at lits2 hints2 ids2 head ≡ step → steps_in lits2 hints2 ids2 (hs ++ head ∷ []) ≡ steps_in lits hints ids hs ++ step ∷ []
  steps_in-push hs head step all is = rw (map-append (step_at lits2 hints2 ids2) hs (head ∷ []), steps_in-kept hs all, is) refl

  pub laid-push : (hs : List Head) (head : Head) (step : Step) (n m : ℕ) → IsLaid lits hints ids hs n → IsHead (length lits2) hints2 ids2 head → step_at lits2 hints2 ids2 head ≡ step → IsInRange step → m ≡ n + cond (is_addition step) 1 0 → IsLaid lits2 hints2 ids2 (hs ++ head ∷ []) m
  laid-push hs head step n m h placed is range more =
      let steps = steps_in lits hints ids hs in
      let pushed = steps_in-push hs head step h.are_heads is in
      record {
        are_heads = All-append (IsHead (length lits2) hints2 ids2) hs (head ∷ []) (λ k d lt. head_more (get_or hs k d) (h.are_heads k d lt)) (All-from_recursion (IsHead (length lits2) hints2 ids2) (head ∷ []) (placed, tt));
        in_range = rw pushed (All-append IsInRange steps (step ∷ []) h.in_range (All-from_recursion IsInRange (step ∷ []) (range, tt)));
        counted = rw pushed (more ∙ ap (λ k. k + cond (is_addition step) 1 0) h.counted ∙ sym (sum_by-append (λ s. cond (is_addition s) 1 0) steps (step ∷ []) ∙ ap (λ k. count_by is_addition steps + k) (one step)));
      }
    where
      one : (s : Step) → count_by is_addition (s ∷ []) ≡ cond (is_addition s) 1 0
      one s = sum_by-cons (λ x. cond (is_addition x) 1 0) s [] ∙ omega arith

-- what is true of each element is true of the one at a place
pub All-at : {X : Type 0} (P : X → Type 0) (xs : List X) (k : ℕ) (x : X) → All P xs → slice_get xs k ≡ Some x → P x
All-at P xs k x all e = subst P (get_or_from_slice_get xs k x x e) (all k x (slice_get_within xs k x e))
