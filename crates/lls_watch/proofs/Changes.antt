-- The clauses of an arena of which one is changed.
use Rattle.std.proofs.Common.{map, ◌≡◌, zero, suc, ℕ, Bool, true, false, List, [], ◌∷◌, ◌++◌, get_or, Option, Some, None, refl, sym, ap, ◌∙◌, subst, arith}
use Rattle.std.specs.Prelude.{◌≢◌, ◌<◌, ℤ, pos, not, slice_get, slice_index_or, length}
use Rattle.std.proofs.Math.Dec.{eqb}
use Rattle.std.specs.Ordering.{int_eq}
use Rattle.std.specs.List.{swap}
use Rattle.std.proofs.lemmas.List.Edits.{length-swap, swapped_from_swap}
use Rattle.std.proofs.lemmas.Bool.{eqb-true, eqb-false}
use Rattle.std.proofs.lemmas.Bool.Decides.{Decides-int_eq}
use Rattle.lls_arena.specs.Arena.{HeadState, changed_at, with_link, link_of, killed, swapped, place_of}
use Rattle.lls_lit.specs.Literal.{index_of}
use Rattle.lls_watch.specs.Watches.{LeadsOn, IsWatching, WatchState, WatchesAt, watched, side_of}

pub slice_get-changed_other : (f : HeadState → HeadState) (c k : ℕ) (heads : List HeadState) → k ≢ c → slice_get (changed_at f c heads) k ≡ slice_get heads k
slice_get-changed_other f c k [] other = refl
slice_get-changed_other f zero zero (h ∷ hs) other = absurd (other refl)
slice_get-changed_other f zero (suc k) (h ∷ hs) other = refl
slice_get-changed_other f (suc c) zero (h ∷ hs) other = refl
slice_get-changed_other f (suc c) (suc k) (h ∷ hs) other = slice_get-changed_other f c k hs (λ e. other (ap suc e))

abbrev map_some : (HeadState → HeadState) → Option HeadState → Option HeadState
map_some g (Some x) = Some (g x)
map_some g None = None

pub slice_get-changed_same : (f : HeadState → HeadState) (c : ℕ) (heads : List HeadState) (h : HeadState) → slice_get heads c ≡ Some h → slice_get (changed_at f c heads) c ≡ Some (f h)
slice_get-changed_same f c [] h e = absurd cc
slice_get-changed_same f zero (k ∷ ks) h e = ap (map_some f) e
slice_get-changed_same f (suc c) (k ∷ ks) h e = slice_get-changed_same f c ks h e

-- an edge leads on as before where another edge is changed: of another clause, or with another literal
pub leads_on_kept : (heads : List HeadState) (c k : ℕ) (w : Bool) (other next : Option ℕ) (lit : ℤ)
    → ((h : HeadState) → k ≡ c → slice_get heads c ≡ Some h → watched w h ≢ lit)
    → LeadsOn heads lit k next → LeadsOn (changed_at (with_link w other) c heads) lit k next
leads_on_kept heads c k w other next lit apart leads =
    elim (eqb k c) as (λ b. eqb k c ≡ b → LeadsOn (changed_at (with_link w other) c heads) lit k next) [
      | true ↦ λ is.
          let same : k ≡ c = eqb-true k c is in
          let here : slice_get heads c ≡ Some leads.head = ap (slice_get heads) (sym same) ∙ leads.is_head in
          record {
            head = with_link w other leads.head;
            is_head = ap (slice_get (changed_at (with_link w other) c heads)) same ∙ slice_get-changed_same (with_link w other) c heads leads.head here;
            watching = watching w leads.head leads.watching;
            has = has w leads.head leads.has;
            next_is = linked w leads.head leads.has (apart leads.head same here) ∙ leads.next_is;
          }
      | false ↦ λ isnt. record {
        head = leads.head;
        is_head = slice_get-changed_other (with_link w other) c k heads (λ e. eqb-false k c isnt e) ∙ leads.is_head;
        watching = leads.watching;
        has = leads.has;
        next_is = leads.next_is;
      }
    ] refl
  where
    watching : (w : Bool) (h : HeadState) → IsWatching h → IsWatching (with_link w other h)
    watching false h is = record { long = is.long; differ = is.differ }
    watching true h is = record { long = is.long; differ = is.differ }

    has : (w : Bool) (h : HeadState) → watched (side_of h lit) h ≡ lit → watched (side_of (with_link w other h) lit) (with_link w other h) ≡ lit
    has false h is = is
    has true h is = is

    linked : (w : Bool) (h : HeadState) → watched (side_of h lit) h ≡ lit → watched w h ≢ lit → link_of (side_of (with_link w other h) lit) (with_link w other h) ≡ link_of (side_of h lit) h
    linked false h is differ = elim (side_of h lit) as (λ b. watched b h ≡ lit → link_of b (with_link false other h) ≡ link_of b h) [ true ↦ λ _. refl | false ↦ λ e. absurd (differ e) ] is
    linked true h is differ = elim (side_of h lit) as (λ b. watched b h ≡ lit → link_of b (with_link true other h) ≡ link_of b h) [ true ↦ λ e. absurd (differ e) | false ↦ λ _. refl ] is

-- an edge with a changed link leads where that says
pub leads_on_changed : (heads : List HeadState) (c : ℕ) (w : Bool) (next : Option ℕ) (h : HeadState) → slice_get heads c ≡ Some h → IsWatching h
    → LeadsOn (changed_at (with_link w next) c heads) (watched w h) c next
leads_on_changed heads c w next h is watching = record {
  head = with_link w next h;
  is_head = slice_get-changed_same (with_link w next) c heads h is;
  watching = long w;
  has = has w;
  next_is = linked w;
}
  where
    long : (w : Bool) → IsWatching (with_link w next h)
    long false = record { long = watching.long; differ = watching.differ }
    long true = record { long = watching.long; differ = watching.differ }

    side : (w : Bool) → side_of h (watched w h) ≡ w
    side true = (Decides-int_eq (watched true h) (watched true h)).1 refl
    side false =
        elim (int_eq (watched true h) (watched false h)) as (λ b. int_eq (watched true h) (watched false h) ≡ b → b ≡ false) [
          | true ↦ λ is. absurd (watching.differ (sym ((Decides-int_eq (watched true h) (watched false h)).0 is)))
          | false ↦ λ _. refl
        ] refl

    has : (w : Bool) → watched (side_of (with_link w next h) (watched w h)) (with_link w next h) ≡ watched w h
    has false = ap (λ b. watched b h) (side false)
    has true = ap (λ b. watched b h) (side true)

    linked : (w : Bool) → link_of (side_of (with_link w next h) (watched w h)) (with_link w next h) ≡ next
    linked false = ap (λ b. link_of b (with_link false next h)) (side false)
    linked true = ap (λ b. link_of b (with_link true next h)) (side true)

-- a change that keeps literals and links keeps where edges lead
pub leads_on_same : (change : HeadState → HeadState) (heads : List HeadState) (c k : ℕ) (lit : ℤ) (next : Option ℕ)
    → ((h : HeadState) → k ≡ c → slice_get heads c ≡ Some h → IsWatching h → watched (side_of h lit) h ≡ lit
    → (IsWatching (change h)) × ((watched (side_of (change h) lit) (change h) ≡ lit) × (link_of (side_of (change h) lit) (change h) ≡ link_of (side_of h lit) h)))
    → LeadsOn heads lit k next → LeadsOn (changed_at change c heads) lit k next
leads_on_same change heads c k lit next keeps leads =
    elim (eqb k c) as (λ b. eqb k c ≡ b → LeadsOn (changed_at change c heads) lit k next) [
      | true ↦ λ is.
          let same : k ≡ c = eqb-true k c is in
          let here : slice_get heads c ≡ Some leads.head = ap (slice_get heads) (sym same) ∙ leads.is_head in
          let kept = keeps leads.head same here leads.watching leads.has in
          record {
            head = change leads.head;
            is_head = ap (slice_get (changed_at change c heads)) same ∙ slice_get-changed_same change c heads leads.head here;
            watching = kept.0;
            has = kept.1.0;
            next_is = kept.1.1 ∙ leads.next_is;
          }
      | false ↦ λ isnt. record {
        head = leads.head;
        is_head = slice_get-changed_other change c k heads (λ e. eqb-false k c isnt e) ∙ leads.is_head;
        watching = leads.watching;
        has = leads.has;
        next_is = leads.next_is;
      }
    ] refl

pub leads_on_killed : (heads : List HeadState) (c k : ℕ) (lit : ℤ) (next : Option ℕ) → LeadsOn heads lit k next → LeadsOn (changed_at killed c heads) lit k next
leads_on_killed heads c k lit next leads =
    leads_on_same killed heads c k lit next (λ h _ _ is watches. (record { long = is.long; differ = is.differ }, (seen (side_of h lit) h watches, linked (side_of h lit) h))) leads
  where
    seen : (b : Bool) (h : HeadState) → watched b h ≡ lit → watched b (killed h) ≡ lit
    seen b h e = e

    linked : (b : Bool) (h : HeadState) → link_of b (killed h) ≡ link_of b h
    linked true h = refl
    linked false h = refl

slice_get-more : (heads : List HeadState) (more : List HeadState) (k : ℕ) (h : HeadState) → slice_get heads k ≡ Some h → slice_get (heads ++ more) k ≡ Some h
slice_get-more [] more k h e = absurd cc
slice_get-more (x ∷ xs) more zero h e = e
slice_get-more (x ∷ xs) more (suc k) h e = slice_get-more xs more k h e

pub leads_on_more : (heads more : List HeadState) (k : ℕ) (lit : ℤ) (next : Option ℕ) → LeadsOn heads lit k next → LeadsOn (heads ++ more) lit k next
leads_on_more heads more k lit next leads =
    record { head = leads.head; is_head = slice_get-more heads more k leads.head leads.is_head; watching = leads.watching; has = leads.has; next_is = leads.next_is }

-- which edge has a literal
pub side_from : (h : HeadState) (b : Bool) → IsWatching h → side_of h (watched b h) ≡ b
side_from h true watching = (Decides-int_eq (watched true h) (watched true h)).1 refl
side_from h false watching =
    elim (int_eq (watched true h) (watched false h)) as (λ b. int_eq (watched true h) (watched false h) ≡ b → b ≡ false) [
      | true ↦ λ is. absurd (watching.differ (sym ((Decides-int_eq (watched true h) (watched false h)).0 is)))
      | false ↦ λ _. refl
    ] refl

-- a clause of which a literal behind the first two takes the place of a watched one
pub record IsRewatched (w : Bool) (n : ℕ) (h : HeadState) : Type 0 where
  pub watching : IsWatching (swapped (place_of w) n h)
  pub taken : watched w (swapped (place_of w) n h) ≡ slice_index_or h.lits n (pos 0)
  pub other : watched (not w) (swapped (place_of w) n h) ≡ watched (not w) h

pub rewatched : (w : Bool) (n : ℕ) (h : HeadState) → IsWatching h → 1 < n → n < length h.lits → slice_index_or h.lits n (pos 0) ≢ watched (not w) h → IsRewatched w n h
rewatched true n h watching behind within differ =
    let long = watching.long in
    let sw = swapped_from_swap h.lits (swap h.lits 1 n) 1 n (pos 0) long within refl in
    let other : get_or (swap h.lits 1 n) 0 (pos 0) ≡ get_or h.lits 0 (pos 0) = sw.2 0 (λ e. absurd (omega (arith, e))) (λ e. absurd (omega (arith, e, behind))) in
    record {
      watching = record { long = rw (length-swap h.lits 1 n) long; differ = λ e. differ (sym sw.0 ∙ sym e ∙ other) };
      taken = sw.0;
      other = other;
    }
rewatched false n h watching behind within differ =
    let long = watching.long in
    let sw = swapped_from_swap h.lits (swap h.lits 0 n) 0 n (pos 0) (omega (arith, long)) within refl in
    let other : get_or (swap h.lits 0 n) 1 (pos 0) ≡ get_or h.lits 1 (pos 0) = sw.2 1 (λ e. absurd (omega (arith, e))) (λ e. absurd (omega (arith, e, behind))) in
    record {
      watching = record { long = rw (length-swap h.lits 0 n) long; differ = λ e. differ (sym sw.0 ∙ e ∙ other) };
      taken = sw.0;
      other = other;
    }

link_swapped : (b : Bool) (i j : ℕ) (h : HeadState) → link_of b (swapped i j h) ≡ link_of b h
link_swapped true i j h = refl
link_swapped false i j h = refl

-- an edge with another literal doesn't see it
pub leads_on_rewatched : (heads : List HeadState) (c k n : ℕ) (w : Bool) (lit : ℤ) (next : Option ℕ)
    → ((h : HeadState) → k ≡ c → slice_get heads c ≡ Some h → (watched w h ≢ lit) × ((1 < n) × ((n < length h.lits) × (slice_index_or h.lits n (pos 0) ≢ watched (not w) h))))
    → LeadsOn heads lit k next → LeadsOn (changed_at (swapped (place_of w) n) c heads) lit k next
leads_on_rewatched heads c k n w lit next apart leads =
    leads_on_same (swapped (place_of w) n) heads c k lit next
    (λ h e is watching watches. let a = apart h e is in kept h watching watches a.0 (rewatched w n h watching a.1.0 a.1.1.0 a.1.1.1)) leads
  where
    which : (w b : Bool) (h : HeadState) → watched b h ≡ lit → watched w h ≢ lit → b ≡ not w
    which true true h e differ = absurd (differ e)
    which true false h e differ = refl
    which false true h e differ = refl
    which false false h e differ = absurd (differ e)

    kept : (h : HeadState) → IsWatching h → watched (side_of h lit) h ≡ lit → watched w h ≢ lit → IsRewatched w n h
        → (IsWatching (swapped (place_of w) n h)) × ((watched (side_of (swapped (place_of w) n h) lit) (swapped (place_of w) n h) ≡ lit)
        × (link_of (side_of (swapped (place_of w) n h) lit) (swapped (place_of w) n h) ≡ link_of (side_of h lit) h))
    kept h watching watches differ is =
        let new = swapped (place_of w) n h in
        let side : side_of h lit ≡ not w = which w (side_of h lit) h watches differ in
        let seen : watched (not w) new ≡ lit = is.other ∙ subst (λ b. watched b h ≡ lit) side watches in
        let new_side : side_of new lit ≡ not w = ap (side_of new) (sym seen) ∙ side_from new (not w) is.watching in
        (is.watching, (ap (λ b. watched b new) new_side ∙ seen, ap (λ b. link_of b new) new_side ∙ link_swapped (not w) (place_of w) n h ∙ ap (λ b. link_of b h) (sym side)))

pub read_some : (xs : List ℤ) (k : ℕ) (x : ℤ) → slice_get xs k ≡ Some x → slice_index_or xs k (pos 0) ≡ x
read_some [] k x e = absurd cc
read_some (y ∷ ys) zero x e = cc
read_some (y ∷ ys) (suc k) x e = read_some ys k x e

-- what is read of a clause is of one that is there
pub mapped_some : {Y : Type 0} (f : HeadState → Y) (heads : List HeadState) (k : ℕ) (y : Y) → slice_get (map f heads) k ≡ Some y → (h : HeadState) × ((slice_get heads k ≡ Some h) × (f h ≡ y))
mapped_some f [] k y e = absurd cc
mapped_some f (h ∷ hs) zero y e = (h, (refl, cc))
mapped_some f (h ∷ hs) (suc k) y e = mapped_some f hs k y e

-- a clause whose literals were read and found to be two different ones
pub watches_from : (state : WatchState) (c : ℕ) (w : Bool) (lits : List ℤ) → slice_get (map (λ (h : HeadState). h.lits) state.arena.heads) c ≡ Some lits → 1 < length lits
    → int_eq (slice_index_or lits 0 (pos 0)) (slice_index_or lits 1 (pos 0)) ≡ false → index_of (slice_index_or lits (place_of w) (pos 0)) < length state.first → WatchesAt state c w
watches_from state c w lits read long differ within =
    let found = mapped_some (λ (h : HeadState). h.lits) state.arena.heads c lits read in
    record {
      head = found.0;
      is_head = found.1.0;
      watching = record {
        long = subst (λ ls. 1 < length ls) (sym found.1.1) long;
        differ = λ e. clash (ap (λ ls. slice_index_or ls 0 (pos 0)) (sym found.1.1) ∙ e ∙ ap (λ ls. slice_index_or ls 1 (pos 0)) found.1.1);
      };
      within = subst (λ ls. index_of (slice_index_or ls (place_of w) (pos 0)) < length state.first) (sym found.1.1) within;
    }
  where
    clash : slice_index_or lits 0 (pos 0) ≡ slice_index_or lits 1 (pos 0) → ⊥
    clash e = let both : true ≡ false = sym ((Decides-int_eq (slice_index_or lits 0 (pos 0)) (slice_index_or lits 1 (pos 0))).1 e) ∙ differ in absurd cc
