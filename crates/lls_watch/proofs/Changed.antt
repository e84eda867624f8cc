-- What was passed stays so where one clause is changed, or one more comes.
use Rattle.std.proofs.Common.{◌≡◌, ◌≤◌, ◌<◌, zero, suc, ℕ, pos, Bool, true, false, not, List, [], ◌∷◌, ◌++◌, Option, Some, refl, sym, ap, ◌∙◌, subst, arith, length, ◌⊎◌, inl, inr, ⊎_elim}
use Rattle.std.specs.Prelude.{◌≢◌, slice_get, slice_index_or}
use Rattle.lls_lit.specs.Literal.{negation}
use Rattle.lls_store.specs.Trail.{Entry, Has, HasNegated, IsConsistent}
use Rattle.lls_arena.specs.Arena.{HeadState, changed_at, killed, place_of, swapped, with_link}
use Rattle.lls_watch.specs.Watches.{IsWatching, watched}
use Rattle.lls_watch.specs.declared.progress.Progress.{Progress}
use Rattle.lls_watch.specs.Passed.{IsOffset, ArePassed}
use Rattle.lls_watch.proofs.Changes.{IsRewatched, rewatched}
use Rattle.lls_watch.proofs.Passed.{has_at}

-- a clause of the changed ones: the one that was changed, or another
pub data IsChanged (f : HeadState → HeadState) (c : ℕ) (heads : List HeadState) (k : ℕ) (new : HeadState) : Type 0 where
  same : (h : HeadState) → k ≡ c → slice_get heads k ≡ Some h → f h ≡ new → IsChanged f c heads k new
  other : k ≢ c → slice_get heads k ≡ Some new → IsChanged f c heads k new

pub changed_found : (f : HeadState → HeadState) (c : ℕ) (heads : List HeadState) (k : ℕ) (new : HeadState) → slice_get (changed_at f c heads) k ≡ Some new → IsChanged f c heads k new
changed_found f c [] k new found = absurd cc
changed_found f zero (h ∷ hs) zero new found = IsChanged.same h refl refl cc
changed_found f zero (h ∷ hs) (suc k) new found = IsChanged.other (λ e. omega (arith, e)) found
changed_found f (suc c) (h ∷ hs) zero new found = IsChanged.other (λ e. omega (arith, e)) found
changed_found f (suc c) (h ∷ hs) (suc k) new found = later (changed_found f c hs k new found)
  where
    later : IsChanged f c hs k new → IsChanged f (suc c) (h ∷ hs) (suc k) new
    later (IsChanged.same g e there is) = IsChanged.same g (ap suc e) there is
    later (IsChanged.other differ there) = IsChanged.other (λ e. differ (omega (arith, e))) there

-- a change that keeps literals, and makes nothing live
pub record KeepsWatched (f : HeadState → HeadState) : Type 0 where
  pub live : (h : HeadState) → (f h).live ≡ true → h.live ≡ true
  pub watching : (h : HeadState) → IsWatching (f h) → IsWatching h
  pub lits : (h : HeadState) → (f h).lits ≡ h.lits

pub passed_changed : (f : HeadState → HeadState) (c : ℕ) (heads : List HeadState) (es : List Entry) (progress : Progress) → KeepsWatched f
    → ArePassed heads es progress → ArePassed (changed_at f c heads) es progress
passed_changed f c heads es progress keeps passed k new w place entry found live watching before there is = by_clause (changed_found f c heads k new found)
  where
    by_clause : IsChanged f c heads k new → IsOffset es progress.mark place entry.level (watched (not w) new)
    by_clause (IsChanged.same h e was to) =
        let seen : (b : Bool) → watched b new ≡ watched b h = λ b. ap (watched b) (sym to) ∙ ap (λ ls. slice_index_or ls (place_of b) (pos 0)) (keeps.lits h) in
        subst (IsOffset es progress.mark place entry.level) (sym (seen (not w)))
        (passed k h w place entry was (keeps.live h (ap (λ (g : HeadState). g.live) to ∙ live)) (keeps.watching h (subst IsWatching (sym to) watching)) before there (is ∙ ap negation (seen w)))
    by_clause (IsChanged.other differ was) = passed k new w place entry was live watching before there is

pub killed_keeps : KeepsWatched killed
killed_keeps = record { live = λ h e. absurd cc; watching = λ h it. record { long = it.long; differ = it.differ }; lits = λ h. refl }

-- a clause is dead
pub passed_killed : (c : ℕ) (heads : List HeadState) (es : List Entry) (progress : Progress) → ArePassed heads es progress → ArePassed (changed_at killed c heads) es progress
passed_killed c heads es progress passed = passed_changed killed c heads es progress killed_keeps passed

pub link_keeps : (w : Bool) (next : Option ℕ) → KeepsWatched (with_link w next)
link_keeps true next = record { live = λ h e. e; watching = λ h it. record { long = it.long; differ = it.differ }; lits = λ h. refl }
link_keeps false next = record { live = λ h e. e; watching = λ h it. record { long = it.long; differ = it.differ }; lits = λ h. refl }

-- a link leads elsewhere
pub passed_linked : (w : Bool) (next : Option ℕ) (c : ℕ) (heads : List HeadState) (es : List Entry) (progress : Progress) → ArePassed heads es progress
    → ArePassed (changed_at (with_link w next) c heads) es progress
passed_linked w next c heads es progress passed = passed_changed (with_link w next) c heads es progress (link_keeps w next) passed

pub some_same : (a b : HeadState) → Some a ≡ Some b → a ≡ b
some_same a b e = cc

not_not : (w : Bool) → not (not w) ≡ w
not_not true = refl
not_not false = refl

pub same_or_not : (w b : Bool) → (b ≡ w) ⊎ (b ≡ not w)
same_or_not true true = inl refl
same_or_not true false = inr refl
same_or_not false true = inr refl
same_or_not false false = inl refl

-- a false watched literal gives way to one that isn't false
pub record CanGiveWay (es : List Entry) (heads : List HeadState) (c : ℕ) (w : Bool) (n : ℕ) (h : HeadState) : Type 0 where
  pub is_head : slice_get heads c ≡ Some h
  pub live : h.live ≡ true
  pub watching : IsWatching h
  pub behind : 1 < n
  pub inside : n < length h.lits
  pub differ : slice_index_or h.lits n (pos 0) ≢ watched (not w) h
  pub was_false : HasNegated es (watched w h)
  pub not_false : ¬ HasNegated es (slice_index_or h.lits n (pos 0))

pub passed_rewatched : (c : ℕ) (w : Bool) (n : ℕ) (h : HeadState) (heads : List HeadState) (es : List Entry) (progress : Progress) → IsConsistent es → CanGiveWay es heads c w n h
    → ArePassed heads es progress → ArePassed (changed_at (swapped (place_of w) n) c heads) es progress
passed_rewatched c w n h heads es progress consistent gives passed k new b place entry found live watching before there is =
    by_clause (changed_found (swapped (place_of w) n) c heads k new found)
  where
    moved : IsRewatched w n h
    moved = rewatched w n h gives.watching gives.behind gives.inside gives.differ

    now_true : Has es entry.lit
    now_true = has_at es place entry there

    here : k ≡ c → swapped (place_of w) n h ≡ new → (b ≡ w) ⊎ (b ≡ not w) → IsOffset es progress.mark place entry.level (watched (not b) new)
    here e to which =
        let old_true : b ≡ not w → Has es (watched w h) = λ opposite.
        let seen : watched b new ≡ watched (not w) h = ap (λ v. watched v new) opposite ∙ ap (watched (not w)) (sym to) ∙ moved.other in
        let was : slice_get heads k ≡ Some h = ap (slice_get heads) e ∙ gives.is_head in
        let it = passed k h (not w) place entry was gives.live gives.watching before there (is ∙ ap negation seen) in
        subst (Has es) (it.is_true ∙ ap (λ v. watched v h) (not_not w)) (has_at es it.at it.entry it.found) in
        ⊎_elim
        (λ same. absurd (gives.not_false (subst (Has es) (is ∙ ap negation (ap (λ v. watched v new) same ∙ ap (watched w) (sym to) ∙ moved.taken)) now_true)))
        (λ opposite. absurd (consistent (watched w h) (old_true opposite) gives.was_false))
        which

    by_clause : IsChanged (swapped (place_of w) n) c heads k new → IsOffset es progress.mark place entry.level (watched (not b) new)
    by_clause (IsChanged.same g e was to) =
        let one : g ≡ h = some_same g h (sym was ∙ ap (slice_get heads) e ∙ gives.is_head) in
        here e (ap (swapped (place_of w) n) (sym one) ∙ to) (same_or_not w b)
    by_clause (IsChanged.other differ was) = passed k new b place entry was live watching before there is

found_more : (heads : List HeadState) (head : HeadState) (k : ℕ) (h : HeadState) → slice_get (heads ++ head ∷ []) k ≡ Some h → (slice_get heads k ≡ Some h) ⊎ (head ≡ h)
found_more [] head zero h found = inr cc
found_more [] head (suc k) h found = absurd cc
found_more (x ∷ xs) head zero h found = inl found
found_more (x ∷ xs) head (suc k) h found = found_more xs head k h found

-- one clause more, of which no watched literal was passed as false
pub passed_more : (heads : List HeadState) (head : HeadState) (es : List Entry) (old new : Progress) → new.passed ≤ old.passed → new.mark ≡ old.mark
    → ((w : Bool) (place : ℕ) (entry : Entry) → IsWatching head → place < new.passed → slice_get es place ≡ Some entry → entry.lit ≢ negation (watched w head))
    → ArePassed heads es old → ArePassed (heads ++ head ∷ []) es new
passed_more heads head es old new fewer mark apart passed k h w place entry found live watching before there is =
    ⊎_elim
    (λ was. subst (λ m. IsOffset es m place entry.level (watched (not w) h)) (sym mark) (passed k h w place entry was live watching (omega (arith, before, fewer)) there is))
    (λ e. absurd (apart w place entry (subst IsWatching (sym e) watching) before there (is ∙ ap (λ g. negation (watched w g)) (sym e))))
    (found_more heads head k h found)
