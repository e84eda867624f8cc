-- A walk along a list, from which a clause moves to another one.
use Rattle.std.proofs.Common.{◌≡◌, ◌<◌, ℕ, ℤ, pos, Bool, true, false, not, cond, List, ◌∷◌, ◌++◌, Option, Some, None, refl, sym, ap, ◌∙◌, subst, length, map, arith}
use Rattle.std.specs.Prelude.{◌≢◌, slice_get, slice_index_or}
use Rattle.std.specs.List.{swap}
use Rattle.std.specs.Option.{option_map}
use Rattle.std.proofs.lemmas.Option.{slice_get-map}
use Rattle.std.proofs.lemmas.List.{length-set}
use Rattle.std.proofs.lemmas.Bool.{eq-eqb}
use Rattle.lls_lit.specs.Literal.{IsLiteral, index_of, literal_at}
use Rattle.lls_lit.specs.Indices.{literal_at-index_of}
use Rattle.lls_lit.specs.Formula.{is_within}
use Rattle.lls_store.specs.Trail.{TrailState, HasNegated, IsConsistent}
use Rattle.lls_store.specs.Sound.{IsSound}
use Rattle.lls_store.specs.Store.{AreWithin}
use Rattle.lls_store.proofs.Sets.{AreWithin-from_list, is_within-from_AreWithin}
use Rattle.lls_arena.specs.Arena.{HeadState, changed_at, place_of, swapped, with_link}
use Rattle.lls_watch.specs.declared.progress.Progress.{Progress}
use Rattle.lls_watch.specs.Watches.{WatchState, IsWatching, Lists, AttachedAt, IsNotIn, IsThreaded, list_of, swapped_at, watched, with_attached, with_list}
use Rattle.lls_watch.specs.Passed.{ArePassed, AreListed, live_from}
use Rattle.lls_watch.specs.Visiting.{AreVisited, IsLast, IsWalk, leading_on}
use Rattle.lls_watch.specs.Propagating.{IsOnItsWay, LookAlike, WatchesTwo}
use Rattle.lls_watch.proofs.Chains.{leads_to_one}
use Rattle.lls_watch.proofs.Changed.{IsChanged, changed_found, link_keeps, passed_linked, some_same}
use Rattle.lls_watch.proofs.Changes.{mapped_some, rewatched, slice_get-changed_same}
use Rattle.lls_watch.proofs.Led.{alike_further, alike_led, all_but_one, fits_led, led_heads, length_changed, length_first_led, lits_changed, watching_linked}
use Rattle.lls_watch.proofs.Listed.{AllBut, Moves, listed_changed, listed_moved}
use Rattle.lls_watch.proofs.Lists.{by_list}
use Rattle.lls_watch.proofs.Moved.{listed_further, moved_heads, passed_moved, visited_moved}
use Rattle.lls_watch.proofs.Moving.{IsMoving, gives_way, is_out, list_read, relinked_led, stands_once, watches_lit}
use Rattle.lls_watch.proofs.Stays.{from_list_swap, live_from_linked, live_from_swapped}
use Rattle.lls_watch.proofs.Steps.{ahead}
use Rattle.lls_watch.proofs.Walks.{visited_changed, walk_drops}

-- literals stay within the variables where two change places
pub within_swapped : (vars : ℕ) (lits : List ℤ) (i j : ℕ) → i < length lits → j < length lits → is_within vars lits ≡ true → is_within vars (swap lits i j) ≡ true
within_swapped vars lits i j first second within =
    is_within-from_AreWithin vars (swap lits i j) (subst (AreWithin vars) (sym (from_list_swap lits i j first second)) (AreWithin-from_list vars lits within))

-- the literals that a clause watches or can watch are in it
place_inside : (w : Bool) (h : HeadState) → 1 < length h.lits → place_of w < length h.lits
place_inside true h long = long
place_inside false h long = omega (arith, long)

-- clauses of which one was moved have literals within the variables
fits_moved : (vars c : ℕ) (w : Bool) (n : ℕ) (next : Option ℕ) (heads : List HeadState) (g : HeadState) → slice_get heads c ≡ Some g → 1 < length g.lits → n < length g.lits
    → ((k : ℕ) (lits : List ℤ) → slice_get (map (λ (h : HeadState). h.lits) heads) k ≡ Some lits → is_within vars lits ≡ true)
    → (k : ℕ) (lits : List ℤ) → slice_get (map (λ (h : HeadState). h.lits) (moved_heads c w n next heads)) k ≡ Some lits → is_within vars lits ≡ true
fits_moved vars c w n next heads g found long inside within k lits read =
    by_clause it.0 it.1.1 (changed_found (swapped (place_of w) n) c heads k it.0 it.1.0)
  where
    it : (h : HeadState) × ((slice_get (changed_at (swapped (place_of w) n) c heads) k ≡ Some h) × (h.lits ≡ lits))
    it =
        mapped_some (λ (h : HeadState). h.lits) (changed_at (swapped (place_of w) n) c heads) k lits
        (sym (ap (λ all. slice_get all k) (lits_changed (with_link w next) c (changed_at (swapped (place_of w) n) c heads) ((link_keeps w next).lits))) ∙ read)

    of_head : (h : HeadState) → slice_get heads k ≡ Some h → is_within vars h.lits ≡ true
    of_head h there = within k h.lits (slice_get-map (λ (x : HeadState). x.lits) heads k ∙ ap (option_map (λ (x : HeadState). x.lits)) there)

    by_clause : (h : HeadState) → h.lits ≡ lits → IsChanged (swapped (place_of w) n) c heads k h → is_within vars lits ≡ true
    by_clause h is (IsChanged.same h0 e was to) =
        let one : h0 ≡ g = some_same h0 g (sym was ∙ ap (slice_get heads) e ∙ found) in
        let first : place_of w < length h0.lits = subst (λ (x : HeadState). place_of w < length x.lits) (sym one) (place_inside w g long) in
        let second : n < length h0.lits = subst (λ (x : HeadState). n < length x.lits) (sym one) inside in
        subst (λ ls. is_within vars ls ≡ true) (ap (λ (x : HeadState). x.lits) to ∙ is) (within_swapped vars h0.lits (place_of w) n first second (of_head h0 was))
    by_clause h is (IsChanged.other differ was) = subst (λ ls. is_within vars ls ≡ true) is (of_head h was)

-- a store sees the same where a clause was moved
alike_moved : (mid new : WatchState) (c : ℕ) (w : Bool) (n : ℕ) (g : HeadState) → slice_get mid.arena.heads c ≡ Some g → 1 < length g.lits → n < length g.lits → IsWatching (swapped (place_of w) n g)
    → AttachedAt c w (swapped_at mid c w n) new → LookAlike mid new
alike_moved mid new c w n g found long inside two attached =
    let heads = mid.arena.heads in
    let link = slice_index_or mid.first (list_of (swapped_at mid c w n) c w) None in
    let new_heads : new.arena.heads ≡ moved_heads c w n link heads = ap (λ (s : WatchState). s.arena.heads) attached in
    record {
      live = ap (live_from 0) new_heads ∙ live_from_linked w link c 0 (changed_at (swapped (place_of w) n) c heads) ∙ live_from_swapped (place_of w) n c 0 heads bounds;
      count = ap length new_heads ∙ length_changed (with_link w link) c (changed_at (swapped (place_of w) n) c heads) ∙ length_changed (swapped (place_of w) n) c heads;
      tail = ap (λ (s : WatchState). s.arena.tail) attached;
      spare_heads = ap (λ (s : WatchState). s.arena.spare_heads) attached;
      spare_lits = ap (λ (s : WatchState). s.arena.spare_lits) attached;
      watching = λ k watching.
          subst (λ hs. WatchesTwo hs k) (sym new_heads) (watching_linked w link c k (changed_at (swapped (place_of w) n) c heads) (watching_swapped k watching));
    }
  where
    watching_swapped : (k : ℕ) → WatchesTwo mid.arena.heads k → WatchesTwo (changed_at (swapped (place_of w) n) c mid.arena.heads) k
    watching_swapped k watching head there = by_clause head (changed_found (swapped (place_of w) n) c mid.arena.heads k head there)
      where
        by_clause : (h : HeadState) → IsChanged (swapped (place_of w) n) c mid.arena.heads k h → IsWatching h
        by_clause h (IsChanged.same h0 e was to) =
            let one : g ≡ h0 = some_same g h0 (sym found ∙ sym (ap (slice_get mid.arena.heads) e) ∙ was) in
            subst IsWatching (ap (swapped (place_of w) n) one ∙ to) two
        by_clause h (IsChanged.other differ was) = watching h was

    bounds : (h : HeadState) → slice_get mid.arena.heads c ≡ Some h → (place_of w < length h.lits) × (n < length h.lits)
    bounds h there =
        let one : g ≡ h = some_same g h (sym found ∙ there) in
        (subst (λ (x : HeadState). place_of w < length x.lits) one (place_inside w g long), subst (λ (x : HeadState). n < length x.lits) one inside)

length_first_moved : (mid new : WatchState) (c : ℕ) (w : Bool) (n : ℕ) → AttachedAt c w (swapped_at mid c w n) new → length new.first ≡ length mid.first
length_first_moved mid new c w n attached =
    ap (λ (s : WatchState). length s.first) attached ∙ length-set mid.first (list_of (swapped_at mid c w n) c w) (Some c)

-- a clause moves to the list of another of its literals
pub way_moves : (before now new : WatchState) (start trail : TrailState) (progress : Progress) (lit : ℤ) (last : Option ℕ) (c : ℕ) (next : Option ℕ) (w : Bool) (n : ℕ)
    → index_of lit < length now.first → IsConsistent trail.entries
    → (way : IsOnItsWay before now start trail progress lit last (Some c)) → IsMoving now trail.entries lit c next w n
    → ((lists : Lists) (kept rest : List ℕ) → IsThreaded now lists → lists (index_of lit) ≡ kept ++ c ∷ rest → IsLast kept last
    → IsThreaded (leading_on last lit next now) (with_list (index_of lit) (kept ++ rest) lists))
    → AttachedAt c w (swapped_at (leading_on last lit next now) c w n) new
    → ((lists : Lists) → IsThreaded (leading_on last lit next now) lists → IsNotIn lists (leading_on last lit next now) c w
    → IsThreaded new (with_attached lists (swapped_at (leading_on last lit next now) c w n) c w))
    → (on : IsOnItsWay before new start trail progress lit last next) × (way.rest ≡ c ∷ on.rest)
way_moves before now new start trail progress lit last c next w n within consistent way it threads attached rethreads =
    let es = trail.entries in
    let h = it.leads.head in
    let heads = now.arena.heads in
    let mid = leading_on last lit next now in
    let i = index_of lit in
    let at = ahead now way.lists es progress way.entry.level lit way.kept way.rest c way.walk in
    let left = way.kept ++ at.behind in
    let dropped : Lists = with_list i left way.lists in
    let now_is = relinked_led last lit next now c h it.leads.is_head it.leads.watching in
    let g = now_is.head in
    let watches : watched w h ≡ lit = watches_lit now es lit c next w n it in
    let gives = gives_way es mid.arena.heads c w n h now_is it.live it.can (subst (HasNegated es) (sym watches) it.is_false) in
    let moved = rewatched w n g gives.watching gives.behind gives.inside gives.differ in
    let m = list_of (swapped_at mid c w n) c w in
    let m_is : m ≡ index_of (slice_index_or g.lits n (pos 0)) =
    list_read (swapped_at mid c w n) c w (swapped (place_of w) n g) (slice_get-changed_same (swapped (place_of w) n) c mid.arena.heads g now_is.found) ∙ ap index_of moved.taken in
    let m_new : m ≡ index_of (slice_index_or h.lits n (pos 0)) = m_is ∙ ap (λ ls. index_of (slice_index_or ls n (pos 0))) now_is.lits in
    let elsewhere : i ≢ m = λ e.
    it.can.not_false (subst (HasNegated es) (sym (literal_at-index_of lit it.literal) ∙ ap literal_at (e ∙ m_new) ∙ literal_at-index_of (slice_index_or h.lits n (pos 0)) it.new_literal) it.is_false) in
    let link = slice_index_or mid.first m None in
    let new_heads : new.arena.heads ≡ moved_heads c w n link mid.arena.heads = ap (λ (s : WatchState). s.arena.heads) attached in
    let others : Lists = with_attached dropped (swapped_at mid c w n) c w in
    let list_is : others i ≡ left =
    by_list (λ j list. j ≢ m → list ≡ dropped j) dropped m (c ∷ dropped m) i (λ differ. absurd (differ refl)) (λ _ _. refl) elsewhere
    ∙ ap (λ b. cond b left (way.lists i)) (eq-eqb i i refl) in
    let apart = stands_once now way.lists i way.kept at.behind c at.walk.threaded within at.walk.list_is in
    let list_w : index_of (watched w g) ≡ i = ap index_of (ap (λ ls. slice_index_or ls (place_of w) (pos 0)) now_is.lits ∙ watches) in
    let moves : Moves mid.arena.heads way.lists c w n left g = record {
      is_head = now_is.found;
      live = gives.live;
      watching = gives.watching;
      behind = gives.behind;
      inside = gives.inside;
      differ = gives.differ;
      is_literal = subst IsLiteral (sym (ap (λ ls. slice_index_or ls (place_of w) (pos 0)) now_is.lits ∙ watches)) it.literal;
      other_literal = subst IsLiteral (sym (ap (λ ls. slice_index_or ls (place_of (not w)) (pos 0)) now_is.lits)) it.other_literal;
      rest = subst (λ j. AllBut c (way.lists j) left) (sym list_w) (subst (λ cs. AllBut c cs left) (sym at.walk.list_is) (all_but_one way.kept at.behind c));
    } in
    let listed_mid : AreListed mid.arena.heads way.lists =
    led_heads (λ hs. AreListed hs way.lists) last lit next now at.walk.listed (λ v p. listed_changed (with_link v next) p heads way.lists (link_keeps v next) at.walk.listed) in
    let passed_mid : ArePassed mid.arena.heads es progress =
    led_heads (λ hs. ArePassed hs es progress) last lit next now at.walk.passed (λ v p. passed_linked v next p heads es progress at.walk.passed) in
    let visited_mid : AreVisited mid.arena.heads es progress way.entry.level lit way.kept =
    led_heads (λ hs. AreVisited hs es progress way.entry.level lit way.kept) last lit next now at.walk.visited
    (λ v p. visited_changed (with_link v next) p heads es progress way.entry.level lit way.kept (link_keeps v next) at.walk.visited) in
    let alike_new = alike_moved mid new c w n g now_is.found gives.watching.long gives.inside moved.watching attached in
    let alike_all = alike_further now mid new (alike_led last lit next now) alike_new in
    let first_same : length new.first ≡ length now.first = length_first_moved mid new c w n attached ∙ length_first_led last lit next now in
    let walk : IsWalk new others es progress way.entry.level lit way.kept at.behind at.walk.leads.1.0 =
    walk_drops now new way.lists others es progress way.entry.level lit way.kept at.behind c (Some c) it.literal (subst (λ k. i < k) (sym first_same) within) at.walk
    (rethreads dropped (threads way.lists way.kept at.behind at.walk.threaded at.walk.list_is way.is_last) (is_out now es way.lists lit last c next w n way.kept at.behind it at.walk.threaded within at.walk.list_is))
    list_is
    (subst (λ hs. ArePassed hs es progress) (sym new_heads) (passed_moved c w n link g mid.arena.heads es progress consistent gives passed_mid))
    (subst (λ hs. AreListed hs others) (sym new_heads)
    (listed_further c w n link mid.arena.heads others (listed_moved mid.arena.heads way.lists c w n left g moves listed_mid dropped (ap (λ j. with_list j left way.lists) (sym list_w)) m m_is)))
    (subst (λ hs. AreVisited hs es progress way.entry.level lit way.kept) (sym new_heads) (visited_moved c w n link mid.arena.heads es progress way.entry.level lit way.kept apart.0 visited_mid)) in (
      record {
        lists = others;
        kept = way.kept;
        rest = at.behind;
        entry = way.entry;
        found = way.found;
        is_false = way.is_false;
        walk = subst (IsWalk new others es progress way.entry.level lit way.kept at.behind) (leads_to_one heads lit c at.walk.leads.1.0 next at.walk.leads.1.1.0 it.leads) walk;
        is_last = way.is_last;
        fits = record {
          lists = first_same ∙ way.fits.lists;
          within = λ k lits read. fits_moved trail.vars c w n link mid.arena.heads g now_is.found gives.watching.long gives.inside (fits_led last lit next now trail.vars way.fits).within k lits (sym (ap (λ hs. slice_get (map (λ (x : HeadState). x.lits) hs) k) new_heads) ∙ read);
        };
        sound = subst (λ live. IsSound live trail) (sym alike_all.live) way.sound;
        alike = alike_further before now new way.alike alike_all;
        grown = way.grown;
      },
      at.rest_is,
    )
