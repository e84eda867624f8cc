-- A clause that is dead is taken out of a list on the way along it.
use Rattle.std.proofs.Common.{◌≡◌, ◌<◌, zero, suc, ℕ, ℤ, pos, Bool, true, false, ◌||◌, cond, List, [], ◌∷◌, ◌++◌, Option, Some, None, refl, sym, ap, ◌∙◌, subst, length, map}
use Rattle.std.specs.Prelude.{◌≢◌, slice_get, slice_index_or, ◌==◌}
use Rattle.std.proofs.lemmas.List.{length-set}
use Rattle.std.proofs.lemmas.Bool.{eq-eqb, eqb-true}
use Rattle.lls_lit.specs.Literal.{IsLiteral, index_of}
use Rattle.lls_store.specs.Trail.{TrailState}
use Rattle.lls_store.specs.Sound.{IsSound}
use Rattle.lls_arena.specs.Arena.{HeadState, changed_at, with_link}
use Rattle.lls_watch.specs.declared.progress.Progress.{Progress}
use Rattle.lls_watch.specs.Watches.{WatchState, Lists, IsThreaded, IsWatching, LeadsOn, has, with_list}
use Rattle.lls_watch.specs.Passed.{ArePassed, AreListed}
use Rattle.lls_watch.specs.Visiting.{AreVisited, IsLast, IsWalk, edge_of, leading_on}
use Rattle.lls_watch.specs.Propagating.{Fits, IsOnItsWay, LookAlike, WatchesTwo}
use Rattle.lls_watch.proofs.Chains.{has_append, leads_to_one}
use Rattle.lls_watch.proofs.Changed.{IsChanged, changed_found, link_keeps, passed_linked}
use Rattle.lls_watch.proofs.Listed.{AllBut, listed_changed, listed_without}
use Rattle.lls_watch.proofs.Stays.{live_from_linked}
use Rattle.lls_watch.proofs.Steps.{ahead}
use Rattle.lls_watch.proofs.Walks.{visited_changed, walk_drops}

-- what is so of the clauses, and where one of their links is changed, is so where one leads on
pub led_heads : (P : List HeadState → Type 0) (last : Option ℕ) (lit : ℤ) (next : Option ℕ) (state : WatchState) → P state.arena.heads → ((w : Bool) (p : ℕ) → P (changed_at (with_link w next) p state.arena.heads))
    → P (leading_on last lit next state).arena.heads
led_heads P None lit next state same each = same
led_heads P (Some p) lit next state same each = each (edge_of state lit p) p

pub length_changed : (f : HeadState → HeadState) (c : ℕ) (heads : List HeadState) → length (changed_at f c heads) ≡ length heads
length_changed f c [] = refl
length_changed f zero (h ∷ hs) = refl
length_changed f (suc c) (h ∷ hs) = ap suc (length_changed f c hs)

pub lits_changed : (f : HeadState → HeadState) (c : ℕ) (heads : List HeadState) → ((h : HeadState) → (f h).lits ≡ h.lits) → map (λ (h : HeadState). h.lits) (changed_at f c heads) ≡ map (λ (h : HeadState). h.lits) heads
lits_changed f c [] same = refl
lits_changed f zero (h ∷ hs) same = ap (λ ls. ls ∷ map (λ (h : HeadState). h.lits) hs) (same h)
lits_changed f (suc c) (h ∷ hs) same = ap (λ ls. h.lits ∷ ls) (lits_changed f c hs same)

-- a clause watches two literals whatever its links
pub watching_linked : (w : Bool) (next : Option ℕ) (p c : ℕ) (heads : List HeadState) → WatchesTwo heads c → WatchesTwo (changed_at (with_link w next) p heads) c
watching_linked w next p c heads watching head found = by_clause (changed_found (with_link w next) p heads c head found)
  where
    by_clause : IsChanged (with_link w next) p heads c head → IsWatching head
    by_clause (IsChanged.same g e was to) =
        subst IsWatching to (same_lits g (with_link w next g) (sym ((link_keeps w next).lits g)) (watching g was))
      where
        same_lits : (a b : HeadState) → a.lits ≡ b.lits → IsWatching a → IsWatching b
        same_lits a b same two =
            record { long = subst (λ ls. 1 < length ls) same two.long; differ = subst (λ ls. slice_index_or ls 0 (pos 0) ≢ slice_index_or ls 1 (pos 0)) same two.differ }
    by_clause (IsChanged.other differ was) = watching head was

pub alike_led : (last : Option ℕ) (lit : ℤ) (next : Option ℕ) (state : WatchState) → LookAlike state (leading_on last lit next state)
alike_led None lit next state = record { live = refl; count = refl; tail = refl; spare_heads = refl; spare_lits = refl; watching = λ _ watching. watching }
alike_led (Some p) lit next state = record {
  live = live_from_linked (edge_of state lit p) next p 0 state.arena.heads;
  count = length_changed (with_link (edge_of state lit p) next) p state.arena.heads;
  tail = refl;
  spare_heads = refl;
  spare_lits = refl;
  watching = λ c watching. watching_linked (edge_of state lit p) next p c state.arena.heads watching;
}

pub alike_further : (a b c : WatchState) → LookAlike a b → LookAlike b c → LookAlike a c
alike_further a b c first second = record {
  live = second.live ∙ first.live;
  count = second.count ∙ first.count;
  tail = second.tail ∙ first.tail;
  spare_heads = second.spare_heads ∙ first.spare_heads;
  spare_lits = second.spare_lits ∙ first.spare_lits;
  watching = λ k watching. second.watching k (first.watching k watching);
}

pub length_first_led : (last : Option ℕ) (lit : ℤ) (next : Option ℕ) (state : WatchState) → length (leading_on last lit next state).first ≡ length state.first
length_first_led None lit next state = length-set state.first (index_of lit) next
length_first_led (Some p) lit next state = refl

pub fits_led : (last : Option ℕ) (lit : ℤ) (next : Option ℕ) (state : WatchState) (vars : ℕ) → Fits state vars → Fits (leading_on last lit next state) vars
fits_led last lit next state vars fits = record {
  lists = length_first_led last lit next state ∙ fits.lists;
  within = λ c lits found. fits.within c lits (sym (ap (λ all. slice_get all c) (lits_led last)) ∙ found);
}
  where
    lits_led : (last : Option ℕ) → map (λ (h : HeadState). h.lits) (leading_on last lit next state).arena.heads ≡ map (λ (h : HeadState). h.lits) state.arena.heads
    lits_led None = refl
    lits_led (Some p) = lits_changed (with_link (edge_of state lit p) next) p state.arena.heads ((link_keeps (edge_of state lit p) next).lits)

-- all but one of two lists around it
pub all_but_one : (kept rest : List ℕ) (c : ℕ) → AllBut c (kept ++ c ∷ rest) (kept ++ rest)
all_but_one kept rest c k differ among =
    let both : (has kept k || ((c == k) || has rest k)) ≡ true = sym (has_append kept (c ∷ rest) k) ∙ among in
    has_append kept rest k ∙ without (has kept k) (c == k) (has rest k) (λ e. differ (sym (eqb-true c k e))) both
  where
    without : (a b d : Bool) → (b ≡ true → ⊥) → (a || (b || d)) ≡ true → (a || d) ≡ true
    without true b d apart e = refl
    without false true d apart e = absurd (apart refl)
    without false false d apart e = e

-- a dead clause is left out
pub way_drops : (before now : WatchState) (start trail : TrailState) (progress : Progress) (lit : ℤ) (last : Option ℕ) (c : ℕ) (next : Option ℕ) → IsLiteral lit → index_of lit < length now.first
    → (way : IsOnItsWay before now start trail progress lit last (Some c)) → LeadsOn now.arena.heads lit c next → ((h : HeadState) → slice_get now.arena.heads c ≡ Some h → h.live ≢ true)
    → ((lists : Lists) (kept rest : List ℕ) → IsThreaded now lists → lists (index_of lit) ≡ kept ++ c ∷ rest → IsLast kept last
    → IsThreaded (leading_on last lit next now) (with_list (index_of lit) (kept ++ rest) lists))
    → (on : IsOnItsWay before (leading_on last lit next now) start trail progress lit last next) × (way.rest ≡ c ∷ on.rest)
way_drops before now start trail progress lit last c next literal within way leads dead threads =
    let new = leading_on last lit next now in
    let heads = now.arena.heads in
    let it = ahead now way.lists trail.entries progress way.entry.level lit way.kept way.rest c way.walk in
    let left = way.kept ++ it.behind in
    let others : Lists = with_list (index_of lit) left way.lists in
    let listed : AreListed heads others =
    listed_without heads way.lists (index_of lit) c left (subst (λ cs. AllBut c cs left) (sym it.walk.list_is) (all_but_one way.kept it.behind c)) dead it.walk.listed in
    let walk : IsWalk new others trail.entries progress way.entry.level lit way.kept it.behind it.walk.leads.1.0 =
    walk_drops now new way.lists others trail.entries progress way.entry.level lit way.kept it.behind c (Some c) literal
    (subst (λ n. index_of lit < n) (sym (length_first_led last lit next now)) within) it.walk
    (threads way.lists way.kept it.behind it.walk.threaded it.walk.list_is way.is_last)
    (ap (λ b. cond b left (way.lists (index_of lit))) (eq-eqb (index_of lit) (index_of lit) refl))
    (led_heads (λ hs. ArePassed hs trail.entries progress) last lit next now it.walk.passed (λ w p. passed_linked w next p heads trail.entries progress it.walk.passed))
    (led_heads (λ hs. AreListed hs others) last lit next now listed (λ w p. listed_changed (with_link w next) p heads others (link_keeps w next) listed))
    (led_heads (λ hs. AreVisited hs trail.entries progress way.entry.level lit way.kept) last lit next now it.walk.visited
    (λ w p. visited_changed (with_link w next) p heads trail.entries progress way.entry.level lit way.kept (link_keeps w next) it.walk.visited)) in (
      record {
        lists = others;
        kept = way.kept;
        rest = it.behind;
        entry = way.entry;
        found = way.found;
        is_false = way.is_false;
        walk = subst (IsWalk new others trail.entries progress way.entry.level lit way.kept it.behind) (leads_to_one heads lit c it.walk.leads.1.0 next it.walk.leads.1.1.0 leads) walk;
        is_last = way.is_last;
        fits = fits_led last lit next now trail.vars way.fits;
        sound = subst (λ live. IsSound live trail) (sym (alike_led last lit next now).live) way.sound;
        alike = alike_further before now new way.alike (alike_led last lit next now);
        grown = way.grown;
      },
      it.rest_is,
    )
