-- A store's live clauses stay where a clause's links or the order of its literals change.
use Rattle.std.proofs.Common.{◌≡◌, ◌<◌, zero, suc, ℕ, ℤ, Bool, true, false, cond, List, [], ◌∷◌, Option, Some, refl, sym, ap, ◌∙◌, length}
use Rattle.std.specs.Prelude.{slice_get}
use Rattle.std.specs.List.{swap}
use Rattle.std.specs.FinSet as set
use Rattle.std.specs.Ordering.{int_cmp, eq_by_cmp}
use Rattle.std.proofs.lemmas.Cmp.{int_cmp_total}
use Rattle.std.proofs.lemmas.List.Sorted.{IsPermutation-swap, list_any-IsPermutation}
use Rattle.lls_store.specs.Clauses.{LiveClause, Literals}
use Rattle.lls_arena.specs.Arena.{HeadState, changed_at, swapped, with_link}
use Rattle.lls_watch.specs.Passed.{live_from}

-- what a store sees of a clause is the same
pub record LooksTheSame (f : HeadState → HeadState) (h : HeadState) : Type 0 where
  pub live : (f h).live ≡ h.live
  pub id : (f h).id ≡ h.id
  pub lits : set.from_list {R = int_cmp} (f h).lits ≡ set.from_list {R = int_cmp} h.lits

abbrev live_with : ℕ → List LiveClause → Bool → ℕ → Literals → List LiveClause
live_with n rest live id lits = cond live (record { number = n; id = id; lits = lits } ∷ rest) rest

pub live_from_same : (f : HeadState → HeadState) (c n : ℕ) (heads : List HeadState) → ((h : HeadState) → slice_get heads c ≡ Some h → LooksTheSame f h) → live_from n (changed_at f c heads) ≡ live_from n heads
live_from_same f c n [] same = refl
live_from_same f zero n (h ∷ hs) same =
    let it = same h refl in
    ap (λ b. live_with n (live_from (suc n) hs) b (f h).id (set.from_list (f h).lits)) it.live
    ∙ ap (λ i. live_with n (live_from (suc n) hs) h.live i (set.from_list (f h).lits)) it.id
    ∙ ap (λ s. live_with n (live_from (suc n) hs) h.live h.id s) it.lits
live_from_same f (suc c) n (h ∷ hs) same = ap (λ rest. live_with n rest h.live h.id (set.from_list h.lits)) (live_from_same f c (suc n) hs same)

pub live_from_linked : (w : Bool) (next : Option ℕ) (c n : ℕ) (heads : List HeadState) → live_from n (changed_at (with_link w next) c heads) ≡ live_from n heads
live_from_linked w next c n heads = live_from_same (with_link w next) c n heads (λ h _. by_side w h)
  where
    by_side : (w : Bool) (h : HeadState) → LooksTheSame (with_link w next) h
    by_side true h = record { live = refl; id = refl; lits = refl }
    by_side false h = record { live = refl; id = refl; lits = refl }

pub from_list_swap : (lits : List ℤ) (i j : ℕ) → i < length lits → j < length lits → set.from_list {R = int_cmp} (swap lits i j) ≡ set.from_list {R = int_cmp} lits
from_list_swap lits i j first second =
    set.same_set int_cmp_total set.int_cmp-IsAntisymmetric (set.from_list (swap lits i j)) (set.from_list lits) (λ q.
    set.contains-from_list int_cmp_total (swap lits i j) q
    ∙ sym (list_any-IsPermutation (eq_by_cmp int_cmp q) lits (swap lits i j) (IsPermutation-swap lits (swap lits i j) i j first second refl))
    ∙ sym (set.contains-from_list int_cmp_total lits q))

pub live_from_swapped : (i j c n : ℕ) (heads : List HeadState) → ((h : HeadState) → slice_get heads c ≡ Some h → (i < length h.lits) × (j < length h.lits))
    → live_from n (changed_at (swapped i j) c heads) ≡ live_from n heads
live_from_swapped i j c n heads within =
    live_from_same (swapped i j) c n heads (λ h found. record { live = refl; id = refl; lits = from_list_swap h.lits i j (within h found).0 (within h found).1 })
