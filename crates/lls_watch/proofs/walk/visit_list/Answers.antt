use Rattle.std.proofs.Common.{zero, suc, None, ◌++◌, ◌≡◌, ◌≤◌, ◌<◌, ℕ, Bool, true, false, not, length, List, Option, Some, None, sym, ◌∙◌, subst, arith, ◌∷◌, [], ◌⊎◌}
use Rattle.std.specs.Prelude.{◌≢◌, slice_get, slice_index_or, map}
use Rattle.std.proofs.lemmas.Option.{slice_get_within}
use Rattle.lls_lit.specs.Literal.{IsLiteral, index_of, variable_of}
use Rattle.lls_store.specs.Trail.{Entry, TrailState, HasNegated}
use Rattle.lls_arena.specs.Arena.{ArenaState, HeadState, IsLive, link_of, place_of}
use Rattle.lls_arena.specs.Links.{link_in, side_in}
use Rattle.lls_lit.proofs.Stamps.{index_within}
use Rattle.lls_store.specs.Changes.{forced}
use Rattle.lls_store.proofs.Tabled.{variable_bounds}
use Rattle.lls_watch.specs.Passed.{IsMarked, IsOffset}
use Rattle.lls_watch.specs.Visit.{CanBeVisited}
use Rattle.lls_watch.proofs.Kept.{get_in_front}
use Rattle.lls_watch.specs.Watches.{HasEdgeOf, side_of, IsWatching, AttachedAt, CanRewatch, IsNotIn, IsThreaded, Lists, WatchState, swapped_at, watched, with_attached, with_list}
use Rattle.lls_watch.specs.Visiting.{leading_on}
use Rattle.lls_watch.specs.Propagating.{IsOnItsWay}
use Rattle.lls_watch.proofs.Followed.{followed}
use Rattle.lls_watch.proofs.Led.{length_first_led, way_drops}
use Rattle.lls_watch.proofs.Meeting.{HasCome, comes, dropped_shorter, kept_shorter, meets, met_edge, met_visitable, way_edge}
use Rattle.lls_watch.proofs.Moving.{can_rewatch}
use Rattle.lls_watch.proofs.OnItsWay.{way_moves}
use Rattle.lls_watch.proofs.Steps.{way_begins, way_ends, way_marked}
use Rattle.lls_watch.proofs.Turns.{has_list, moving_live, offset_forced, stands_false, turn_forces, turn_keeps, turn_moves, way_false, within_at}
use Rattle.lls_watch.proofs.Visited.{conflict_at, offset_here}
use Rattle.lls_watch.proofs.walk.visit_list.Goals as goal

pub first-next-requires : goal.first-next-requires
first-next-requires c =
    let false_at = stands_false c.args.trail.now c.args.progress.now.passed c.args.lit c.current-level.ensures.kept c.requires.lit in
    let literal : IsLiteral c.args.lit = c.lower_if_late.ensures.literal in
    subst (λ n. index_of c.args.lit < n) (sym c.requires.ready.fits.lists) (index_within c.args.lit c.args.trail.now.vars literal false_at.within)

pub loop-c-init : goal.loop-c-init
loop-c-init c =
    let false_at = stands_false c.args.trail.now c.args.progress.now.passed c.args.lit c.current-level.ensures.kept c.requires.lit in
    let literal : IsLiteral c.args.lit = c.lower_if_late.ensures.literal in
    let within : index_of c.args.lit < length c.args.watches.now.first = subst (λ n. index_of c.args.lit < n) (sym c.requires.ready.fits.lists) (index_within c.args.lit c.args.trail.now.vars literal false_at.within) in
    let begun = way_begins c.args.watches.now c.args.trail.now c.args.progress.now c.args.lit false_at.entry c.requires.ready literal within false_at.found false_at.is_false in
    let first : slice_index_or c.args.watches.now.first (index_of c.args.lit) None ≡ link_in c.first-next.result = read_first c.args.watches.now.first (index_of c.args.lit) (link_in c.first-next.result) c.first-next.ensures in
    let new = c.lower_if_late.new.progress in
    let passed = c.lower_if_late.ensures.passed in
    let low = way_marked c.args.watches.now c.args.watches.now c.args.trail.now c.args.trail.now c.args.progress.now c.args.lit None (link_in c.first-next.result) new.mark c.lower_if_late.ensures.kept
    (subst (IsOnItsWay c.args.watches.now c.args.watches.now c.args.trail.now c.args.trail.now c.args.progress.now c.args.lit None) first begun) in
    let lowered = subst (λ k. IsOnItsWay c.args.watches.now c.args.watches.now c.args.trail.now c.args.trail.now (record { passed = k; mark = new.mark }) c.args.lit None (link_in c.first-next.result)) (sym passed) low in (
      subst (λ o. IsOnItsWay c.args.watches.now c.args.watches.now c.args.trail.now c.args.trail.now new c.args.lit o (link_in c.first-next.result)) (sym c.nowhere-last.ensures) lowered,
      λ e found.
          subst (λ k. (c.args.trail.now.current ≤ e.level) ⊎ IsMarked new.mark k) (sym passed)
          (c.lower_if_late.ensures.in_time e (subst (λ k. slice_get c.args.trail.now.entries k ≡ Some e) passed found)),
    )
  where
    read_first : (xs : List (Option ℕ)) (k : ℕ) (x : Option ℕ) → slice_get xs k ≡ Some x → slice_index_or xs k None ≡ x
    read_first [] k x found = absurd cc
    read_first (y ∷ ys) zero x found = cc
    read_first (y ∷ ys) (suc k) x found = read_first ys k x found

pub meet-met-requires-clause-edge : goal.meet-met-requires-clause-edge
meet-met-requires-clause-edge c =
    let way = subst (λ o. IsOnItsWay c.args.watches.now c.loop-c.watches c.args.trail.now c.loop-c.trail c.lower_if_late.new.progress c.args.lit (link_in c.loop-c.last) o) (sym c.clause.ensures ∙ c.in-Some.is) c.loop-c.invariant.0 in
    let met = meets c.args.watches.now c.loop-c.watches c.args.trail.now c.loop-c.trail c.lower_if_late.new.progress c.args.lit (link_in c.loop-c.last) c.in-Some.c way in
    subst (λ (a : ArenaState). HasEdgeOf a.heads c.args.lit c.in-Some.c) (sym c.arena.ensures) (met_edge c.loop-c.watches c.loop-c.trail.vars c.args.lit c.in-Some.c met)

pub visit_clause-requires-clause-clause : goal.visit_clause-requires-clause-clause
visit_clause-requires-clause-clause c =
    let way = subst (λ o. IsOnItsWay c.args.watches.now c.loop-c.watches c.args.trail.now c.loop-c.trail c.lower_if_late.new.progress c.args.lit (link_in c.loop-c.last) o) (sym c.clause.ensures ∙ c.in-Some.is) c.loop-c.invariant.0 in
    let met = meets c.args.watches.now c.loop-c.watches c.args.trail.now c.loop-c.trail c.lower_if_late.new.progress c.args.lit (link_in c.loop-c.last) c.in-Some.c way in
    subst (λ (a : ArenaState). CanBeVisited a.heads c.loop-c.trail.vars c.in-Some.c) (sym c.arena-in-Some.ensures) (met_visitable c.loop-c.watches c.loop-c.trail.vars c.args.lit c.in-Some.c met)

pub visit_clause-requires-clause-other : goal.visit_clause-requires-clause-other
visit_clause-requires-clause-other c = λ h found.
    c.meet-met.ensures.other h (subst (λ (a : ArenaState). slice_get a.heads c.in-Some.c ≡ Some h) (c.arena-in-Some.ensures ∙ sym c.arena.ensures) found)

pub loop-c-smaller-in-Kept : goal.loop-c-smaller-in-Kept
loop-c-smaller-in-Kept c =
    let way = subst (λ o. IsOnItsWay c.args.watches.now c.loop-c.watches c.args.trail.now c.loop-c.trail c.lower_if_late.new.progress c.args.lit (link_in c.loop-c.last) o) (sym c.clause.ensures ∙ c.in-Some.is) c.loop-c.invariant.0 in
    let met = meets c.args.watches.now c.loop-c.watches c.args.trail.now c.loop-c.trail c.lower_if_late.new.progress c.args.lit (link_in c.loop-c.last) c.in-Some.c way in
    let side = subst (λ (a : ArenaState). (h : HeadState) → slice_get a.heads c.in-Some.c ≡ Some h → (side_in c.meet-met.result.here) ≡ side_of h c.args.lit) c.arena.ensures c.meet-met.ensures.side in
    let link = subst (λ (a : ArenaState). slice_get (map (link_of (side_in c.meet-met.result.here)) a.heads) c.in-Some.c ≡ Some (link_in c.meet-met.result.next)) c.arena.ensures c.meet-met.ensures.next in
    let come = comes c.loop-c.watches c.loop-c.trail.vars c.args.lit c.in-Some.c (side_in c.meet-met.result.here) (link_in c.meet-met.result.next) met side link in
    let found = subst (λ (a : ArenaState). slice_get a.heads c.in-Some.c ≡ Some come.leads.head) (sym c.arena-in-Some.ensures) come.leads.is_head in
    let false_at = stands_false c.args.trail.now c.args.progress.now.passed c.args.lit c.current-level.ensures.kept c.requires.lit in
    let literal : IsLiteral c.args.lit = c.lower_if_late.ensures.literal in
    let within : index_of c.args.lit < length c.loop-c.watches.first = has_list c.args.watches.now c.loop-c.watches c.args.trail.now c.loop-c.trail c.lower_if_late.new.progress c.args.lit (link_in c.loop-c.last) (link_in c.loop-c.next) c.args.lit c.loop-c.invariant.0 literal false_at.within in
    subst (λ o. length (followed (length c.loop-c.watches.arena.heads) c.loop-c.watches.arena.heads c.args.lit (link_in c.meet-met.result.next)) < length (followed (length c.loop-c.watches.arena.heads) c.loop-c.watches.arena.heads c.args.lit o)) (sym (sym c.clause.ensures ∙ c.in-Some.is))
    (kept_shorter c.args.watches.now c.loop-c.watches c.args.trail.now c.loop-c.trail c.lower_if_late.new.progress c.args.lit (link_in c.loop-c.last) c.in-Some.c (link_in c.meet-met.result.next) within way come.leads)

pub loop-c-preserved-in-Kept : goal.loop-c-preserved-in-Kept
loop-c-preserved-in-Kept c =
    let way = subst (λ o. IsOnItsWay c.args.watches.now c.loop-c.watches c.args.trail.now c.loop-c.trail c.lower_if_late.new.progress c.args.lit (link_in c.loop-c.last) o) (sym c.clause.ensures ∙ c.in-Some.is) c.loop-c.invariant.0 in
    let met = meets c.args.watches.now c.loop-c.watches c.args.trail.now c.loop-c.trail c.lower_if_late.new.progress c.args.lit (link_in c.loop-c.last) c.in-Some.c way in
    let side = subst (λ (a : ArenaState). (h : HeadState) → slice_get a.heads c.in-Some.c ≡ Some h → (side_in c.meet-met.result.here) ≡ side_of h c.args.lit) c.arena.ensures c.meet-met.ensures.side in
    let link = subst (λ (a : ArenaState). slice_get (map (link_of (side_in c.meet-met.result.here)) a.heads) c.in-Some.c ≡ Some (link_in c.meet-met.result.next)) c.arena.ensures c.meet-met.ensures.next in
    let come = comes c.loop-c.watches c.loop-c.trail.vars c.args.lit c.in-Some.c (side_in c.meet-met.result.here) (link_in c.meet-met.result.next) met side link in
    let found = subst (λ (a : ArenaState). slice_get a.heads c.in-Some.c ≡ Some come.leads.head) (sym c.arena-in-Some.ensures) come.leads.is_head in (
      subst (λ o. IsOnItsWay c.args.watches.now c.loop-c.watches c.args.trail.now c.loop-c.trail c.lower_if_late.new.progress c.args.lit o (link_in c.meet-met.result.next)) (sym c.meet-met.ensures.clause)
          (turn_keeps c.args.watches.now c.loop-c.watches c.args.trail.now c.loop-c.trail c.lower_if_late.new.progress c.args.lit (link_in c.loop-c.last) c.in-Some.c (side_in c.meet-met.result.here) (link_in c.meet-met.result.next) way come
          (offset_here c.loop-c.trail c.lower_if_late.new.progress.mark c.lower_if_late.new.progress.passed way.entry.level (watched (not (side_in c.meet-met.result.here)) come.leads.head) c.len-len.ensures.kept
          (c.loop-c.invariant.1 way.entry way.found) (c.in-Kept.ensures come.leads.head found))),
      c.loop-c.invariant.1,
    )

pub loop-c-smaller : goal.loop-c-smaller
loop-c-smaller c =
    let way = subst (λ o. IsOnItsWay c.args.watches.now c.loop-c.watches c.args.trail.now c.loop-c.trail c.lower_if_late.new.progress c.args.lit (link_in c.loop-c.last) o) (sym c.clause.ensures ∙ c.in-Some.is) c.loop-c.invariant.0 in
    let met = meets c.args.watches.now c.loop-c.watches c.args.trail.now c.loop-c.trail c.lower_if_late.new.progress c.args.lit (link_in c.loop-c.last) c.in-Some.c way in
    let side = subst (λ (a : ArenaState). (h : HeadState) → slice_get a.heads c.in-Some.c ≡ Some h → (side_in c.meet-met.result.here) ≡ side_of h c.args.lit) c.arena.ensures c.meet-met.ensures.side in
    let link = subst (λ (a : ArenaState). slice_get (map (link_of (side_in c.meet-met.result.here)) a.heads) c.in-Some.c ≡ Some (link_in c.meet-met.result.next)) c.arena.ensures c.meet-met.ensures.next in
    let come = comes c.loop-c.watches c.loop-c.trail.vars c.args.lit c.in-Some.c (side_in c.meet-met.result.here) (link_in c.meet-met.result.next) met side link in
    let found = subst (λ (a : ArenaState). slice_get a.heads c.in-Some.c ≡ Some come.leads.head) (sym c.arena-in-Some.ensures) come.leads.is_head in
    let false_at = stands_false c.args.trail.now c.args.progress.now.passed c.args.lit c.current-level.ensures.kept c.requires.lit in
    let literal : IsLiteral c.args.lit = c.lower_if_late.ensures.literal in
    let within : index_of c.args.lit < length c.loop-c.watches.first = has_list c.args.watches.now c.loop-c.watches c.args.trail.now c.loop-c.trail c.lower_if_late.new.progress c.args.lit (link_in c.loop-c.last) (link_in c.loop-c.next) c.args.lit c.loop-c.invariant.0 literal false_at.within in
    subst (λ o. length (followed (length c.loop-c.watches.arena.heads) c.loop-c.watches.arena.heads c.args.lit (link_in c.meet-met.result.next)) < length (followed (length c.loop-c.watches.arena.heads) c.loop-c.watches.arena.heads c.args.lit o)) (sym (sym c.clause.ensures ∙ c.in-Some.is))
    (kept_shorter c.args.watches.now c.loop-c.watches c.args.trail.now c.loop-c.trail c.lower_if_late.new.progress c.args.lit (link_in c.loop-c.last) c.in-Some.c (link_in c.meet-met.result.next) within way come.leads)

pub lead_on-requires-clause-within : goal.lead_on-requires-clause-within
lead_on-requires-clause-within c =
    let false_at = stands_false c.args.trail.now c.args.progress.now.passed c.args.lit c.current-level.ensures.kept c.requires.lit in
    let literal : IsLiteral c.args.lit = c.lower_if_late.ensures.literal in
    let within : index_of c.args.lit < length c.loop-c.watches.first = has_list c.args.watches.now c.loop-c.watches c.args.trail.now c.loop-c.trail c.lower_if_late.new.progress c.args.lit (link_in c.loop-c.last) (link_in c.loop-c.next) c.args.lit c.loop-c.invariant.0 literal false_at.within in
    within

pub lead_on-requires-in-Moves-clause-within : goal.lead_on-requires-in-Moves-clause-within
lead_on-requires-in-Moves-clause-within c =
    let false_at = stands_false c.args.trail.now c.args.progress.now.passed c.args.lit c.current-level.ensures.kept c.requires.lit in
    let literal : IsLiteral c.args.lit = c.lower_if_late.ensures.literal in
    let within : index_of c.args.lit < length c.loop-c.watches.first = has_list c.args.watches.now c.loop-c.watches c.args.trail.now c.loop-c.trail c.lower_if_late.new.progress c.args.lit (link_in c.loop-c.last) (link_in c.loop-c.next) c.args.lit c.loop-c.invariant.0 literal false_at.within in
    within

pub lead_on-requires-clause-edge : goal.lead_on-requires-clause-edge
lead_on-requires-clause-edge c =
    let false_at = stands_false c.args.trail.now c.args.progress.now.passed c.args.lit c.current-level.ensures.kept c.requires.lit in
    let literal : IsLiteral c.args.lit = c.lower_if_late.ensures.literal in
    let within : index_of c.args.lit < length c.loop-c.watches.first = has_list c.args.watches.now c.loop-c.watches c.args.trail.now c.loop-c.trail c.lower_if_late.new.progress c.args.lit (link_in c.loop-c.last) (link_in c.loop-c.next) c.args.lit c.loop-c.invariant.0 literal false_at.within in
    way_edge c.args.watches.now c.loop-c.watches c.args.trail.now c.loop-c.trail c.lower_if_late.new.progress c.args.lit (link_in c.loop-c.last) (link_in c.loop-c.next) literal within c.loop-c.invariant.0

pub lead_on-requires-in-Moves-clause-edge : goal.lead_on-requires-in-Moves-clause-edge
lead_on-requires-in-Moves-clause-edge c =
    let false_at = stands_false c.args.trail.now c.args.progress.now.passed c.args.lit c.current-level.ensures.kept c.requires.lit in
    let literal : IsLiteral c.args.lit = c.lower_if_late.ensures.literal in
    let within : index_of c.args.lit < length c.loop-c.watches.first = has_list c.args.watches.now c.loop-c.watches c.args.trail.now c.loop-c.trail c.lower_if_late.new.progress c.args.lit (link_in c.loop-c.last) (link_in c.loop-c.next) c.args.lit c.loop-c.invariant.0 literal false_at.within in
    way_edge c.args.watches.now c.loop-c.watches c.args.trail.now c.loop-c.trail c.lower_if_late.new.progress c.args.lit (link_in c.loop-c.last) (link_in c.loop-c.next) literal within c.loop-c.invariant.0

pub loop-c-smaller-in-Dead : goal.loop-c-smaller-in-Dead
loop-c-smaller-in-Dead c =
    let way = subst (λ o. IsOnItsWay c.args.watches.now c.loop-c.watches c.args.trail.now c.loop-c.trail c.lower_if_late.new.progress c.args.lit (link_in c.loop-c.last) o) (sym c.clause.ensures ∙ c.in-Some.is) c.loop-c.invariant.0 in
    let met = meets c.args.watches.now c.loop-c.watches c.args.trail.now c.loop-c.trail c.lower_if_late.new.progress c.args.lit (link_in c.loop-c.last) c.in-Some.c way in
    let side = subst (λ (a : ArenaState). (h : HeadState) → slice_get a.heads c.in-Some.c ≡ Some h → (side_in c.meet-met.result.here) ≡ side_of h c.args.lit) c.arena.ensures c.meet-met.ensures.side in
    let link = subst (λ (a : ArenaState). slice_get (map (link_of (side_in c.meet-met.result.here)) a.heads) c.in-Some.c ≡ Some (link_in c.meet-met.result.next)) c.arena.ensures c.meet-met.ensures.next in
    let come = comes c.loop-c.watches c.loop-c.trail.vars c.args.lit c.in-Some.c (side_in c.meet-met.result.here) (link_in c.meet-met.result.next) met side link in
    let found = subst (λ (a : ArenaState). slice_get a.heads c.in-Some.c ≡ Some come.leads.head) (sym c.arena-in-Some.ensures) come.leads.is_head in
    let false_at = stands_false c.args.trail.now c.args.progress.now.passed c.args.lit c.current-level.ensures.kept c.requires.lit in
    let literal : IsLiteral c.args.lit = c.lower_if_late.ensures.literal in
    let within : index_of c.args.lit < length c.loop-c.watches.first = has_list c.args.watches.now c.loop-c.watches c.args.trail.now c.loop-c.trail c.lower_if_late.new.progress c.args.lit (link_in c.loop-c.last) (link_in c.loop-c.next) c.args.lit c.loop-c.invariant.0 literal false_at.within in
    let dead : (h : HeadState) → slice_get c.loop-c.watches.arena.heads c.in-Some.c ≡ Some h → h.live ≢ true = λ h at. not_live h.live (c.in-Dead.ensures h (subst (λ (a : ArenaState). slice_get a.heads c.in-Some.c ≡ Some h) (sym c.arena-in-Some.ensures) at)) in
    let state = c.lead_on.ensures.state in
    let on =
    way_drops c.args.watches.now c.loop-c.watches c.args.trail.now c.loop-c.trail c.lower_if_late.new.progress c.args.lit (link_in c.loop-c.last) c.in-Some.c (link_in c.meet-met.result.next) literal within way come.leads dead
    (λ lists kept rest threaded is at. subst (λ s. IsThreaded s (with_list (index_of c.args.lit) (kept ++ rest) lists)) state (c.lead_on.ensures.threaded lists c.in-Some.c kept rest threaded is at come.leads)) in
    let within_new : index_of c.args.lit < length (leading_on (link_in c.loop-c.last) c.args.lit (link_in c.meet-met.result.next) c.loop-c.watches).first =
    subst (λ n. index_of c.args.lit < n) (sym (length_first_led (link_in c.loop-c.last) c.args.lit (link_in c.meet-met.result.next) c.loop-c.watches)) within in
    let shorter =
    dropped_shorter c.args.watches.now c.loop-c.watches (leading_on (link_in c.loop-c.last) c.args.lit (link_in c.meet-met.result.next) c.loop-c.watches) c.args.trail.now c.loop-c.trail c.lower_if_late.new.progress c.args.lit (link_in c.loop-c.last) c.in-Some.c (link_in c.meet-met.result.next) within within_new way on in
    subst (λ (s : WatchState). length (followed (length s.arena.heads) s.arena.heads c.args.lit (link_in c.meet-met.result.next)) < length (followed (length c.loop-c.watches.arena.heads) c.loop-c.watches.arena.heads c.args.lit (link_in c.loop-c.next))) (sym state)
    (subst (λ o. length (followed (length (leading_on (link_in c.loop-c.last) c.args.lit (link_in c.meet-met.result.next) c.loop-c.watches).arena.heads) (leading_on (link_in c.loop-c.last) c.args.lit (link_in c.meet-met.result.next) c.loop-c.watches).arena.heads c.args.lit (link_in c.meet-met.result.next))
    < length (followed (length c.loop-c.watches.arena.heads) c.loop-c.watches.arena.heads c.args.lit o)) (sym (sym c.clause.ensures ∙ c.in-Some.is)) shorter)
  where
    not_live : (b : Bool) → b ≡ false → b ≢ true
    not_live b is live = absurd cc

pub loop-c-preserved-in-Dead : goal.loop-c-preserved-in-Dead
loop-c-preserved-in-Dead c =
    let way = subst (λ o. IsOnItsWay c.args.watches.now c.loop-c.watches c.args.trail.now c.loop-c.trail c.lower_if_late.new.progress c.args.lit (link_in c.loop-c.last) o) (sym c.clause.ensures ∙ c.in-Some.is) c.loop-c.invariant.0 in
    let met = meets c.args.watches.now c.loop-c.watches c.args.trail.now c.loop-c.trail c.lower_if_late.new.progress c.args.lit (link_in c.loop-c.last) c.in-Some.c way in
    let side = subst (λ (a : ArenaState). (h : HeadState) → slice_get a.heads c.in-Some.c ≡ Some h → (side_in c.meet-met.result.here) ≡ side_of h c.args.lit) c.arena.ensures c.meet-met.ensures.side in
    let link = subst (λ (a : ArenaState). slice_get (map (link_of (side_in c.meet-met.result.here)) a.heads) c.in-Some.c ≡ Some (link_in c.meet-met.result.next)) c.arena.ensures c.meet-met.ensures.next in
    let come = comes c.loop-c.watches c.loop-c.trail.vars c.args.lit c.in-Some.c (side_in c.meet-met.result.here) (link_in c.meet-met.result.next) met side link in
    let found = subst (λ (a : ArenaState). slice_get a.heads c.in-Some.c ≡ Some come.leads.head) (sym c.arena-in-Some.ensures) come.leads.is_head in
    let false_at = stands_false c.args.trail.now c.args.progress.now.passed c.args.lit c.current-level.ensures.kept c.requires.lit in
    let literal : IsLiteral c.args.lit = c.lower_if_late.ensures.literal in
    let within : index_of c.args.lit < length c.loop-c.watches.first = has_list c.args.watches.now c.loop-c.watches c.args.trail.now c.loop-c.trail c.lower_if_late.new.progress c.args.lit (link_in c.loop-c.last) (link_in c.loop-c.next) c.args.lit c.loop-c.invariant.0 literal false_at.within in
    let dead : (h : HeadState) → slice_get c.loop-c.watches.arena.heads c.in-Some.c ≡ Some h → h.live ≢ true = λ h at. not_live h.live (c.in-Dead.ensures h (subst (λ (a : ArenaState). slice_get a.heads c.in-Some.c ≡ Some h) (sym c.arena-in-Some.ensures) at)) in
    let state = c.lead_on.ensures.state in
    let on =
    way_drops c.args.watches.now c.loop-c.watches c.args.trail.now c.loop-c.trail c.lower_if_late.new.progress c.args.lit (link_in c.loop-c.last) c.in-Some.c (link_in c.meet-met.result.next) literal within way come.leads dead
    (λ lists kept rest threaded is at. subst (λ s. IsThreaded s (with_list (index_of c.args.lit) (kept ++ rest) lists)) state (c.lead_on.ensures.threaded lists c.in-Some.c kept rest threaded is at come.leads)) in (
      subst (λ s. IsOnItsWay c.args.watches.now s c.args.trail.now c.loop-c.trail c.lower_if_late.new.progress c.args.lit (link_in c.loop-c.last) (link_in c.meet-met.result.next)) (sym state) on.0,
      c.loop-c.invariant.1,
    )
  where
    not_live : (b : Bool) → b ≡ false → b ≢ true
    not_live b is live = absurd cc

pub rewatch-requires-clause-live : goal.rewatch-requires-clause-live
rewatch-requires-clause-live c =
    let way = subst (λ o. IsOnItsWay c.args.watches.now c.loop-c.watches c.args.trail.now c.loop-c.trail c.lower_if_late.new.progress c.args.lit (link_in c.loop-c.last) o) (sym c.clause.ensures ∙ c.in-Some.is) c.loop-c.invariant.0 in
    let met = meets c.args.watches.now c.loop-c.watches c.args.trail.now c.loop-c.trail c.lower_if_late.new.progress c.args.lit (link_in c.loop-c.last) c.in-Some.c way in
    let side = subst (λ (a : ArenaState). (h : HeadState) → slice_get a.heads c.in-Some.c ≡ Some h → (side_in c.meet-met.result.here) ≡ side_of h c.args.lit) c.arena.ensures c.meet-met.ensures.side in
    let link = subst (λ (a : ArenaState). slice_get (map (link_of (side_in c.meet-met.result.here)) a.heads) c.in-Some.c ≡ Some (link_in c.meet-met.result.next)) c.arena.ensures c.meet-met.ensures.next in
    let come = comes c.loop-c.watches c.loop-c.trail.vars c.args.lit c.in-Some.c (side_in c.meet-met.result.here) (link_in c.meet-met.result.next) met side link in
    let found = subst (λ (a : ArenaState). slice_get a.heads c.in-Some.c ≡ Some come.leads.head) (sym c.arena-in-Some.ensures) come.leads.is_head in
    let literal : IsLiteral c.args.lit = c.lower_if_late.ensures.literal in
    let seen = c.in-Moves.ensures come.leads.head found in
    let moving =
    turn_moves c.args.watches.now c.loop-c.watches c.args.trail.now c.loop-c.trail c.lower_if_late.new.progress c.args.lit (link_in c.loop-c.last) c.in-Some.c (side_in c.meet-met.result.here) (link_in c.meet-met.result.next) c.in-Moves.n c.len-len.ensures.kept literal way come seen.0 seen.1 in
    let state = c.lead_on-in-Moves.ensures.state in
    subst (λ (s : WatchState). IsLive s.arena.heads c.in-Some.c) (sym state) (moving_live c.loop-c.watches c.loop-c.trail.entries c.args.lit (link_in c.loop-c.last) c.in-Some.c (link_in c.meet-met.result.next) (side_in c.meet-met.result.here) c.in-Moves.n moving)

pub rewatch-requires-clause-clause : goal.rewatch-requires-clause-clause
rewatch-requires-clause-clause c =
    let way = subst (λ o. IsOnItsWay c.args.watches.now c.loop-c.watches c.args.trail.now c.loop-c.trail c.lower_if_late.new.progress c.args.lit (link_in c.loop-c.last) o) (sym c.clause.ensures ∙ c.in-Some.is) c.loop-c.invariant.0 in
    let met = meets c.args.watches.now c.loop-c.watches c.args.trail.now c.loop-c.trail c.lower_if_late.new.progress c.args.lit (link_in c.loop-c.last) c.in-Some.c way in
    let side = subst (λ (a : ArenaState). (h : HeadState) → slice_get a.heads c.in-Some.c ≡ Some h → (side_in c.meet-met.result.here) ≡ side_of h c.args.lit) c.arena.ensures c.meet-met.ensures.side in
    let link = subst (λ (a : ArenaState). slice_get (map (link_of (side_in c.meet-met.result.here)) a.heads) c.in-Some.c ≡ Some (link_in c.meet-met.result.next)) c.arena.ensures c.meet-met.ensures.next in
    let come = comes c.loop-c.watches c.loop-c.trail.vars c.args.lit c.in-Some.c (side_in c.meet-met.result.here) (link_in c.meet-met.result.next) met side link in
    let found = subst (λ (a : ArenaState). slice_get a.heads c.in-Some.c ≡ Some come.leads.head) (sym c.arena-in-Some.ensures) come.leads.is_head in
    let literal : IsLiteral c.args.lit = c.lower_if_late.ensures.literal in
    let seen = c.in-Moves.ensures come.leads.head found in
    let moving =
    turn_moves c.args.watches.now c.loop-c.watches c.args.trail.now c.loop-c.trail c.lower_if_late.new.progress c.args.lit (link_in c.loop-c.last) c.in-Some.c (side_in c.meet-met.result.here) (link_in c.meet-met.result.next) c.in-Moves.n c.len-len.ensures.kept literal way come seen.0 seen.1 in
    let state = c.lead_on-in-Moves.ensures.state in
    subst (λ s. CanRewatch s c.in-Some.c (side_in c.meet-met.result.here) c.in-Moves.n) (sym state) (can_rewatch c.loop-c.watches c.loop-c.trail.entries c.args.lit (link_in c.loop-c.last) c.in-Some.c (link_in c.meet-met.result.next) (side_in c.meet-met.result.here) c.in-Moves.n moving)

pub loop-c-smaller-in-Moves : goal.loop-c-smaller-in-Moves
loop-c-smaller-in-Moves c =
    let way = subst (λ o. IsOnItsWay c.args.watches.now c.loop-c.watches c.args.trail.now c.loop-c.trail c.lower_if_late.new.progress c.args.lit (link_in c.loop-c.last) o) (sym c.clause.ensures ∙ c.in-Some.is) c.loop-c.invariant.0 in
    let met = meets c.args.watches.now c.loop-c.watches c.args.trail.now c.loop-c.trail c.lower_if_late.new.progress c.args.lit (link_in c.loop-c.last) c.in-Some.c way in
    let side = subst (λ (a : ArenaState). (h : HeadState) → slice_get a.heads c.in-Some.c ≡ Some h → (side_in c.meet-met.result.here) ≡ side_of h c.args.lit) c.arena.ensures c.meet-met.ensures.side in
    let link = subst (λ (a : ArenaState). slice_get (map (link_of (side_in c.meet-met.result.here)) a.heads) c.in-Some.c ≡ Some (link_in c.meet-met.result.next)) c.arena.ensures c.meet-met.ensures.next in
    let come = comes c.loop-c.watches c.loop-c.trail.vars c.args.lit c.in-Some.c (side_in c.meet-met.result.here) (link_in c.meet-met.result.next) met side link in
    let found = subst (λ (a : ArenaState). slice_get a.heads c.in-Some.c ≡ Some come.leads.head) (sym c.arena-in-Some.ensures) come.leads.is_head in
    let false_at = stands_false c.args.trail.now c.args.progress.now.passed c.args.lit c.current-level.ensures.kept c.requires.lit in
    let literal : IsLiteral c.args.lit = c.lower_if_late.ensures.literal in
    let within : index_of c.args.lit < length c.loop-c.watches.first = has_list c.args.watches.now c.loop-c.watches c.args.trail.now c.loop-c.trail c.lower_if_late.new.progress c.args.lit (link_in c.loop-c.last) (link_in c.loop-c.next) c.args.lit c.loop-c.invariant.0 literal false_at.within in
    let seen = c.in-Moves.ensures come.leads.head found in
    let moving =
    turn_moves c.args.watches.now c.loop-c.watches c.args.trail.now c.loop-c.trail c.lower_if_late.new.progress c.args.lit (link_in c.loop-c.last) c.in-Some.c (side_in c.meet-met.result.here) (link_in c.meet-met.result.next) c.in-Moves.n c.len-len.ensures.kept literal way come seen.0 seen.1 in
    let state = c.lead_on-in-Moves.ensures.state in
    let attached : AttachedAt c.in-Some.c (side_in c.meet-met.result.here) (swapped_at (leading_on (link_in c.loop-c.last) c.args.lit (link_in c.meet-met.result.next) c.loop-c.watches) c.in-Some.c (side_in c.meet-met.result.here) c.in-Moves.n) c.rewatch.new.self =
    subst (λ s. AttachedAt c.in-Some.c (side_in c.meet-met.result.here) (swapped_at s c.in-Some.c (side_in c.meet-met.result.here) c.in-Moves.n) c.rewatch.new.self) state c.rewatch.ensures.state in
    let on =
    way_moves c.args.watches.now c.loop-c.watches c.rewatch.new.self c.args.trail.now c.loop-c.trail c.lower_if_late.new.progress c.args.lit (link_in c.loop-c.last) c.in-Some.c (link_in c.meet-met.result.next) (side_in c.meet-met.result.here) c.in-Moves.n within c.len-len.ensures.consistent way moving
    (λ lists kept rest threaded is at. subst (λ s. IsThreaded s (with_list (index_of c.args.lit) (kept ++ rest) lists)) state (c.lead_on-in-Moves.ensures.threaded lists c.in-Some.c kept rest threaded is at come.leads)) attached
    (subst (λ s. (lists : Lists) → IsThreaded s lists → IsNotIn lists s c.in-Some.c (side_in c.meet-met.result.here) → IsThreaded c.rewatch.new.self (with_attached lists (swapped_at s c.in-Some.c (side_in c.meet-met.result.here) c.in-Moves.n) c.in-Some.c (side_in c.meet-met.result.here))) state c.rewatch.ensures.threaded) in
    let within_new : index_of c.args.lit < length c.rewatch.new.self.first =
    has_list c.args.watches.now c.rewatch.new.self c.args.trail.now c.loop-c.trail c.lower_if_late.new.progress c.args.lit (link_in c.loop-c.last) (link_in c.meet-met.result.next) c.args.lit on.0 literal false_at.within in
    subst (λ o. length (followed (length c.rewatch.new.self.arena.heads) c.rewatch.new.self.arena.heads c.args.lit (link_in c.meet-met.result.next)) < length (followed (length c.loop-c.watches.arena.heads) c.loop-c.watches.arena.heads c.args.lit o)) (sym (sym c.clause.ensures ∙ c.in-Some.is))
    (dropped_shorter c.args.watches.now c.loop-c.watches c.rewatch.new.self c.args.trail.now c.loop-c.trail c.lower_if_late.new.progress c.args.lit (link_in c.loop-c.last) c.in-Some.c (link_in c.meet-met.result.next) within within_new way on)

pub loop-c-preserved-in-Moves : goal.loop-c-preserved-in-Moves
loop-c-preserved-in-Moves c =
    let way = subst (λ o. IsOnItsWay c.args.watches.now c.loop-c.watches c.args.trail.now c.loop-c.trail c.lower_if_late.new.progress c.args.lit (link_in c.loop-c.last) o) (sym c.clause.ensures ∙ c.in-Some.is) c.loop-c.invariant.0 in
    let met = meets c.args.watches.now c.loop-c.watches c.args.trail.now c.loop-c.trail c.lower_if_late.new.progress c.args.lit (link_in c.loop-c.last) c.in-Some.c way in
    let side = subst (λ (a : ArenaState). (h : HeadState) → slice_get a.heads c.in-Some.c ≡ Some h → (side_in c.meet-met.result.here) ≡ side_of h c.args.lit) c.arena.ensures c.meet-met.ensures.side in
    let link = subst (λ (a : ArenaState). slice_get (map (link_of (side_in c.meet-met.result.here)) a.heads) c.in-Some.c ≡ Some (link_in c.meet-met.result.next)) c.arena.ensures c.meet-met.ensures.next in
    let come = comes c.loop-c.watches c.loop-c.trail.vars c.args.lit c.in-Some.c (side_in c.meet-met.result.here) (link_in c.meet-met.result.next) met side link in
    let found = subst (λ (a : ArenaState). slice_get a.heads c.in-Some.c ≡ Some come.leads.head) (sym c.arena-in-Some.ensures) come.leads.is_head in
    let false_at = stands_false c.args.trail.now c.args.progress.now.passed c.args.lit c.current-level.ensures.kept c.requires.lit in
    let literal : IsLiteral c.args.lit = c.lower_if_late.ensures.literal in
    let within : index_of c.args.lit < length c.loop-c.watches.first = has_list c.args.watches.now c.loop-c.watches c.args.trail.now c.loop-c.trail c.lower_if_late.new.progress c.args.lit (link_in c.loop-c.last) (link_in c.loop-c.next) c.args.lit c.loop-c.invariant.0 literal false_at.within in
    let seen = c.in-Moves.ensures come.leads.head found in
    let moving =
    turn_moves c.args.watches.now c.loop-c.watches c.args.trail.now c.loop-c.trail c.lower_if_late.new.progress c.args.lit (link_in c.loop-c.last) c.in-Some.c (side_in c.meet-met.result.here) (link_in c.meet-met.result.next) c.in-Moves.n c.len-len.ensures.kept literal way come seen.0 seen.1 in
    let state = c.lead_on-in-Moves.ensures.state in
    let attached : AttachedAt c.in-Some.c (side_in c.meet-met.result.here) (swapped_at (leading_on (link_in c.loop-c.last) c.args.lit (link_in c.meet-met.result.next) c.loop-c.watches) c.in-Some.c (side_in c.meet-met.result.here) c.in-Moves.n) c.rewatch.new.self =
    subst (λ s. AttachedAt c.in-Some.c (side_in c.meet-met.result.here) (swapped_at s c.in-Some.c (side_in c.meet-met.result.here) c.in-Moves.n) c.rewatch.new.self) state c.rewatch.ensures.state in
    let on =
    way_moves c.args.watches.now c.loop-c.watches c.rewatch.new.self c.args.trail.now c.loop-c.trail c.lower_if_late.new.progress c.args.lit (link_in c.loop-c.last) c.in-Some.c (link_in c.meet-met.result.next) (side_in c.meet-met.result.here) c.in-Moves.n within c.len-len.ensures.consistent way moving
    (λ lists kept rest threaded is at. subst (λ s. IsThreaded s (with_list (index_of c.args.lit) (kept ++ rest) lists)) state (c.lead_on-in-Moves.ensures.threaded lists c.in-Some.c kept rest threaded is at come.leads)) attached
    (subst (λ s. (lists : Lists) → IsThreaded s lists → IsNotIn lists s c.in-Some.c (side_in c.meet-met.result.here) → IsThreaded c.rewatch.new.self (with_attached lists (swapped_at s c.in-Some.c (side_in c.meet-met.result.here) c.in-Moves.n) c.in-Some.c (side_in c.meet-met.result.here))) state c.rewatch.ensures.threaded) in
    (on.0, c.loop-c.invariant.1)

pub force-requires-clause-within : goal.force-requires-clause-within
force-requires-clause-within c =
    let way = subst (λ o. IsOnItsWay c.args.watches.now c.loop-c.watches c.args.trail.now c.loop-c.trail c.lower_if_late.new.progress c.args.lit (link_in c.loop-c.last) o) (sym c.clause.ensures ∙ c.in-Some.is) c.loop-c.invariant.0 in
    let met = meets c.args.watches.now c.loop-c.watches c.args.trail.now c.loop-c.trail c.lower_if_late.new.progress c.args.lit (link_in c.loop-c.last) c.in-Some.c way in
    let side = subst (λ (a : ArenaState). (h : HeadState) → slice_get a.heads c.in-Some.c ≡ Some h → (side_in c.meet-met.result.here) ≡ side_of h c.args.lit) c.arena.ensures c.meet-met.ensures.side in
    let link = subst (λ (a : ArenaState). slice_get (map (link_of (side_in c.meet-met.result.here)) a.heads) c.in-Some.c ≡ Some (link_in c.meet-met.result.next)) c.arena.ensures c.meet-met.ensures.next in
    let come = comes c.loop-c.watches c.loop-c.trail.vars c.args.lit c.in-Some.c (side_in c.meet-met.result.here) (link_in c.meet-met.result.next) met side link in
    let found = subst (λ (a : ArenaState). slice_get a.heads c.in-Some.c ≡ Some come.leads.head) (sym c.arena-in-Some.ensures) come.leads.is_head in
    let seen = c.in-Forces.ensures come.leads.head found in
    let bounds = variable_bounds c.loop-c.trail.vars (variable_of (watched (not (side_in c.meet-met.result.here)) come.leads.head)) (within_at c.loop-c.trail.vars come.leads.head.lits (place_of (not (side_in c.meet-met.result.here))) come.within (place_inside (not (side_in c.meet-met.result.here)) come.leads.head come.leads.watching)) in
    subst (λ l. variable_of l ≤ c.loop-c.trail.vars) (sym seen.1) bounds.1
  where
    place_inside : (b : Bool) (h : HeadState) → IsWatching h → place_of b < length h.lits
    place_inside true h watching = watching.long
    place_inside false h watching = omega (arith, watching.long)

pub force-requires-clause-unset : goal.force-requires-clause-unset
force-requires-clause-unset c =
    let way = subst (λ o. IsOnItsWay c.args.watches.now c.loop-c.watches c.args.trail.now c.loop-c.trail c.lower_if_late.new.progress c.args.lit (link_in c.loop-c.last) o) (sym c.clause.ensures ∙ c.in-Some.is) c.loop-c.invariant.0 in
    let met = meets c.args.watches.now c.loop-c.watches c.args.trail.now c.loop-c.trail c.lower_if_late.new.progress c.args.lit (link_in c.loop-c.last) c.in-Some.c way in
    let side = subst (λ (a : ArenaState). (h : HeadState) → slice_get a.heads c.in-Some.c ≡ Some h → (side_in c.meet-met.result.here) ≡ side_of h c.args.lit) c.arena.ensures c.meet-met.ensures.side in
    let link = subst (λ (a : ArenaState). slice_get (map (link_of (side_in c.meet-met.result.here)) a.heads) c.in-Some.c ≡ Some (link_in c.meet-met.result.next)) c.arena.ensures c.meet-met.ensures.next in
    let come = comes c.loop-c.watches c.loop-c.trail.vars c.args.lit c.in-Some.c (side_in c.meet-met.result.here) (link_in c.meet-met.result.next) met side link in
    let found = subst (λ (a : ArenaState). slice_get a.heads c.in-Some.c ≡ Some come.leads.head) (sym c.arena-in-Some.ensures) come.leads.is_head in
    let seen = c.in-Forces.ensures come.leads.head found in
    seen.2

pub loop-c-preserved : goal.loop-c-preserved
loop-c-preserved c =
    let way = subst (λ o. IsOnItsWay c.args.watches.now c.loop-c.watches c.args.trail.now c.loop-c.trail c.lower_if_late.new.progress c.args.lit (link_in c.loop-c.last) o) (sym c.clause.ensures ∙ c.in-Some.is) c.loop-c.invariant.0 in
    let met = meets c.args.watches.now c.loop-c.watches c.args.trail.now c.loop-c.trail c.lower_if_late.new.progress c.args.lit (link_in c.loop-c.last) c.in-Some.c way in
    let side = subst (λ (a : ArenaState). (h : HeadState) → slice_get a.heads c.in-Some.c ≡ Some h → (side_in c.meet-met.result.here) ≡ side_of h c.args.lit) c.arena.ensures c.meet-met.ensures.side in
    let link = subst (λ (a : ArenaState). slice_get (map (link_of (side_in c.meet-met.result.here)) a.heads) c.in-Some.c ≡ Some (link_in c.meet-met.result.next)) c.arena.ensures c.meet-met.ensures.next in
    let come = comes c.loop-c.watches c.loop-c.trail.vars c.args.lit c.in-Some.c (side_in c.meet-met.result.here) (link_in c.meet-met.result.next) met side link in
    let found = subst (λ (a : ArenaState). slice_get a.heads c.in-Some.c ≡ Some come.leads.head) (sym c.arena-in-Some.ensures) come.leads.is_head in
    let seen = c.in-Forces.ensures come.leads.head found in
    let forces =
    turn_forces c.args.watches.now c.loop-c.watches c.args.trail.now c.loop-c.trail c.lower_if_late.new.progress c.args.lit (link_in c.loop-c.last) c.in-Some.c (side_in c.meet-met.result.here) (link_in c.meet-met.result.next) c.in-Forces.other way come
    (way_false c.args.watches.now c.loop-c.watches c.args.trail.now c.loop-c.trail c.lower_if_late.new.progress c.args.lit (link_in c.loop-c.last) (Some c.in-Some.c) way) seen.0 seen.1 seen.3 in
    let more : TrailState = forced c.loop-c.trail c.in-Forces.other c.in-Some.c in
    let here : HasCome c.loop-c.watches more.vars c.args.lit c.in-Some.c (side_in c.meet-met.result.here) (link_in c.meet-met.result.next) = record { leads = come.leads; side = come.side; watches = come.watches; within = come.within } in
    let later : (e : Entry) → slice_get more.entries c.lower_if_late.new.progress.passed ≡ Some e → (more.current ≤ e.level) ⊎ IsMarked c.lower_if_late.new.progress.mark c.lower_if_late.new.progress.passed =
    λ e found.
    let same : way.entry ≡ e = same_entry way.entry e (sym (get_in_front c.loop-c.trail.entries (record { lit = c.in-Forces.other; level = c.loop-c.trail.current; reason = Some c.in-Some.c } ∷ []) c.lower_if_late.new.progress.passed way.entry way.found) ∙ found) in
    subst (λ (x : Entry). (c.loop-c.trail.current ≤ x.level) ⊎ IsMarked c.lower_if_late.new.progress.mark c.lower_if_late.new.progress.passed) same (c.loop-c.invariant.1 way.entry way.found) in
    let offset : IsOffset more.entries c.lower_if_late.new.progress.mark c.lower_if_late.new.progress.passed forces.entry.level (watched (not (side_in c.meet-met.result.here)) come.leads.head) =
    subst (IsOffset more.entries c.lower_if_late.new.progress.mark c.lower_if_late.new.progress.passed forces.entry.level) seen.1
    (offset_forced c.loop-c.trail.entries (record { lit = c.in-Forces.other; level = c.loop-c.trail.current; reason = Some c.in-Some.c }) c.lower_if_late.new.progress.mark c.lower_if_late.new.progress.passed forces.entry.level (later forces.entry forces.found)) in
    let on =
    turn_keeps c.args.watches.now c.loop-c.watches c.args.trail.now more c.lower_if_late.new.progress c.args.lit (link_in c.loop-c.last) c.in-Some.c (side_in c.meet-met.result.here) (link_in c.meet-met.result.next) forces here offset in (
      subst (λ t. IsOnItsWay c.args.watches.now c.loop-c.watches c.args.trail.now t c.lower_if_late.new.progress c.args.lit (link_in c.meet-met.result.here) (link_in c.meet-met.result.next)) (sym c.force.ensures)
          (subst (λ o. IsOnItsWay c.args.watches.now c.loop-c.watches c.args.trail.now more c.lower_if_late.new.progress c.args.lit o (link_in c.meet-met.result.next)) (sym c.meet-met.ensures.clause) on),
      λ e found.
          subst (λ (t : TrailState). (t.current ≤ e.level) ⊎ IsMarked c.lower_if_late.new.progress.mark c.lower_if_late.new.progress.passed) (sym c.force.ensures)
          (later e (subst (λ (t : TrailState). slice_get t.entries c.lower_if_late.new.progress.passed ≡ Some e) c.force.ensures found)),
    )
  where
    same_entry : (a b : Entry) → Some a ≡ Some b → a ≡ b
    same_entry a b e = cc

pub returns-in-Falsified-clause-conflict : goal.returns-in-Falsified-clause-conflict
returns-in-Falsified-clause-conflict c =
    let way = subst (λ o. IsOnItsWay c.args.watches.now c.loop-c.watches c.args.trail.now c.loop-c.trail c.lower_if_late.new.progress c.args.lit (link_in c.loop-c.last) o) (sym c.clause.ensures ∙ c.in-Some.is) c.loop-c.invariant.0 in
    let met = meets c.args.watches.now c.loop-c.watches c.args.trail.now c.loop-c.trail c.lower_if_late.new.progress c.args.lit (link_in c.loop-c.last) c.in-Some.c way in
    let side = subst (λ (a : ArenaState). (h : HeadState) → slice_get a.heads c.in-Some.c ≡ Some h → (side_in c.meet-met.result.here) ≡ side_of h c.args.lit) c.arena.ensures c.meet-met.ensures.side in
    let link = subst (λ (a : ArenaState). slice_get (map (link_of (side_in c.meet-met.result.here)) a.heads) c.in-Some.c ≡ Some (link_in c.meet-met.result.next)) c.arena.ensures c.meet-met.ensures.next in
    let come = comes c.loop-c.watches c.loop-c.trail.vars c.args.lit c.in-Some.c (side_in c.meet-met.result.here) (link_in c.meet-met.result.next) met side link in
    let found = subst (λ (a : ArenaState). slice_get a.heads c.in-Some.c ≡ Some come.leads.head) (sym c.arena-in-Some.ensures) come.leads.is_head in
    let seen = c.in-Falsified.ensures come.leads.head found in
    let is_false = way_false c.args.watches.now c.loop-c.watches c.args.trail.now c.loop-c.trail c.lower_if_late.new.progress c.args.lit (link_in c.loop-c.last) (Some c.in-Some.c) way in
    conflict_at c.loop-c.watches.arena.heads c.loop-c.trail c.in-Some.c come.leads.head (side_in c.meet-met.result.here) come.leads.is_head seen.0 (subst (HasNegated c.loop-c.trail.entries) (sym come.watches) is_false) seen.1 seen.2

pub overflow_add-progress : goal.overflow_add-progress
overflow_add-progress c =
    let kept = c.current-level.ensures.kept in
    let false_at = stands_false c.args.trail.now c.args.progress.now.passed c.args.lit kept c.requires.lit in
    omega (arith, slice_get_within c.args.trail.now.entries c.args.progress.now.passed false_at.entry false_at.found, kept.most, kept.vars_fit, c.lower_if_late.ensures.passed)

pub returns-clause-kept : goal.returns-clause-kept
returns-clause-kept c =
    way_ends c.args.watches.now c.loop-c.watches c.args.trail.now c.loop-c.trail c.lower_if_late.new.progress c.args.lit (link_in c.loop-c.last)
    (subst (λ o. IsOnItsWay c.args.watches.now c.loop-c.watches c.args.trail.now c.loop-c.trail c.lower_if_late.new.progress c.args.lit (link_in c.loop-c.last) o) (sym c.clause.ensures ∙ c.in_default.is) c.loop-c.invariant.0)

pub returns-in-Falsified-clause-reach : goal.returns-in-Falsified-clause-reach
returns-in-Falsified-clause-reach c =
    let way = c.loop-c.invariant.0 in
    omega (arith, slice_get_within c.loop-c.trail.entries c.lower_if_late.new.progress.passed way.entry way.found)

pub returns-clause-reach : goal.returns-clause-reach
returns-clause-reach c =
    let way = c.loop-c.invariant.0 in
    omega (arith, slice_get_within c.loop-c.trail.entries c.lower_if_late.new.progress.passed way.entry way.found)
