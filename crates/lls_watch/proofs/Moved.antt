-- A clause moves to another list on the way along one.
use Rattle.std.proofs.Common.{◌≡◌, ℕ, ℤ, Bool, true, false, List, Option, Some, refl, sym, ap, ◌∙◌}
use Rattle.std.specs.Prelude.{slice_get}
use Rattle.std.proofs.Math.Dec.{eqb}
use Rattle.std.proofs.lemmas.Bool.{eqb-true, eqb-false}
use Rattle.lls_store.specs.Trail.{Entry, IsConsistent}
use Rattle.lls_arena.specs.Arena.{HeadState, changed_at, place_of, swapped, with_link}
use Rattle.lls_watch.specs.declared.progress.Progress.{Progress}
use Rattle.lls_watch.specs.Watches.{Lists, IsWatching, has}
use Rattle.lls_watch.specs.Passed.{ArePassed, AreListed}
use Rattle.lls_watch.specs.Visiting.{AreVisited}
use Rattle.lls_watch.proofs.Changed.{CanGiveWay, link_keeps, passed_linked, passed_rewatched}
use Rattle.lls_watch.proofs.Changes.{slice_get-changed_other, slice_get-changed_same}
use Rattle.lls_watch.proofs.Listed.{listed_changed}
use Rattle.lls_watch.proofs.Walks.{visited_apart, visited_changed}

-- the clauses, of which one has another literal in the place of a watched one, and another link there
abbrev pub moved_heads : ℕ → Bool → ℕ → Option ℕ → List HeadState → List HeadState
moved_heads c w n next heads = changed_at (with_link w next) c (changed_at (swapped (place_of w) n) c heads)

pub passed_moved : (c : ℕ) (w : Bool) (n : ℕ) (next : Option ℕ) (h : HeadState) (heads : List HeadState) (es : List Entry) (progress : Progress) → IsConsistent es → CanGiveWay es heads c w n h
    → ArePassed heads es progress → ArePassed (moved_heads c w n next heads) es progress
passed_moved c w n next h heads es progress consistent gives passed =
    passed_linked w next c (changed_at (swapped (place_of w) n) c heads) es progress (passed_rewatched c w n h heads es progress consistent gives passed)

pub listed_further : (c : ℕ) (w : Bool) (n : ℕ) (next : Option ℕ) (heads : List HeadState) (others : Lists) → AreListed (changed_at (swapped (place_of w) n) c heads) others
    → AreListed (moved_heads c w n next heads) others
listed_further c w n next heads others listed = listed_changed (with_link w next) c (changed_at (swapped (place_of w) n) c heads) others (link_keeps w next) listed

pub visited_moved : (c : ℕ) (w : Bool) (n : ℕ) (next : Option ℕ) (heads : List HeadState) (es : List Entry) (progress : Progress) (level : ℕ) (lit : ℤ) (kept : List ℕ) → has kept c ≡ false
    → AreVisited heads es progress level lit kept → AreVisited (moved_heads c w n next heads) es progress level lit kept
visited_moved c w n next heads es progress level lit kept absent visited =
    visited_changed (with_link w next) c (changed_at (swapped (place_of w) n) c heads) es progress level lit kept (link_keeps w next)
    (visited_apart (swapped (place_of w) n) c heads es progress level lit kept absent visited)

-- a clause of which a link may have changed
pub record IsRelinked (heads : List HeadState) (c : ℕ) (h : HeadState) : Type 0 where
  pub head : HeadState
  pub found : slice_get heads c ≡ Some head
  pub live : head.live ≡ h.live
  pub lits : head.lits ≡ h.lits
  pub watching : IsWatching head

pub relinked : (w : Bool) (next : Option ℕ) (p c : ℕ) (heads : List HeadState) (h : HeadState) → slice_get heads c ≡ Some h → IsWatching h → IsRelinked (changed_at (with_link w next) p heads) c h
relinked w next p c heads h found watching =
    elim (eqb c p) as (λ b. eqb c p ≡ b → IsRelinked (changed_at (with_link w next) p heads) c h) [
      | true ↦ λ is.
          let same : c ≡ p = eqb-true c p is in
          record {
            head = with_link w next h;
            found = ap (slice_get (changed_at (with_link w next) p heads)) same ∙ slice_get-changed_same (with_link w next) p heads h (ap (slice_get heads) (sym same) ∙ found);
            live = live_linked w h;
            lits = (link_keeps w next).lits h;
            watching = watching_linked w h watching;
          }
      | false ↦ λ isnt. record {
        head = h;
        found = slice_get-changed_other (with_link w next) p c heads (λ e. eqb-false c p isnt e) ∙ found;
        live = refl;
        lits = refl;
        watching = watching;
      }
    ] refl
  where
    live_linked : (w : Bool) (g : HeadState) → (with_link w next g).live ≡ g.live
    live_linked true g = refl
    live_linked false g = refl

    watching_linked : (w : Bool) (g : HeadState) → IsWatching g → IsWatching (with_link w next g)
    watching_linked true g it = record { long = it.long; differ = it.differ }
    watching_linked false g it = record { long = it.long; differ = it.differ }
