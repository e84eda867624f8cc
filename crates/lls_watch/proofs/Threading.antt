-- A clause that is put into the lists of both literals that it watches, and all clauses so, from the last one on.
use Rattle.std.proofs.Common.{◌≡◌, ◌≤◌, ◌<◌, ◌⊎◌, zero, suc, ℕ, ℤ, pos, Bool, true, false, ◌||◌, List, [], ◌∷◌, Option, Some, None, refl, sym, ap, ◌∙◌, subst, arith, length, map, inl, inr, ⊎_elim}
use Rattle.std.specs.Prelude.{◌≢◌, ◌==◌, filter, slice_get, slice_index_or, slice_set}
use Rattle.std.specs.Option.{option_map_or}
use Rattle.std.proofs.Math.Dec.{eqb}
use Rattle.std.proofs.lemmas.Bool.{eqb-true, eqb-false}
use Rattle.std.proofs.lemmas.List.{length-map, length-set}
use Rattle.std.proofs.lemmas.Option.{slice_get_within}
use Rattle.lls_lit.specs.Literal.{IsLiteral, index_of, literal_at}
use Rattle.lls_lit.specs.Indices.{literal_at-index_of}
use Rattle.lls_arena.specs.Arena.{ArenaState, HeadState, changed_at, compacted, unlinked, with_link}
use Rattle.lls_watch.specs.Watches.{WatchState, Lists, IsInNone, IsThreaded, IsWatching, WatchesAt, attached, has, list_of, watched, with_attached}
use Rattle.lls_watch.specs.Anew.{AreListedFrom, AreLonger, BeginApart, CanBeListed, HasLists, IsRelinked}
use Rattle.lls_watch.proofs.Begun.{attached_has, has_attached, linked_watched, linked_watching}
use Rattle.lls_watch.proofs.Changed.{some_same}
use Rattle.lls_watch.proofs.Changes.{mapped_some, slice_get-changed_same}
use Rattle.lls_watch.proofs.Compacted.{was_kept}
use Rattle.lls_watch.proofs.Lists.{attached_at, by_list}

-- links aside, a clause whose link is changed is the same
pub unlinked_linked : (w : Bool) (next : Option ℕ) (c : ℕ) (heads : List HeadState) → map unlinked (changed_at (with_link w next) c heads) ≡ map unlinked heads
unlinked_linked w next c [] = refl
unlinked_linked false next zero (h ∷ hs) = refl
unlinked_linked true next zero (h ∷ hs) = refl
unlinked_linked w next (suc c) (h ∷ hs) = ap (λ rest. unlinked h ∷ rest) (unlinked_linked w next c hs)

-- it watches what it watched
pub attached_watches : (state : WatchState) (c : ℕ) (w b : Bool) → WatchesAt state c b → WatchesAt (attached c w state) c b
attached_watches state c w b at =
    let next = slice_index_or state.first (list_of state c w) None in
    record {
      head = with_link w next at.head;
      is_head = slice_get-changed_same (with_link w next) c state.arena.heads at.head at.is_head;
      watching = linked_watching w next at.head at.watching;
      within = subst (λ l. index_of l < length (slice_set state.first (list_of state c w) (Some c))) (sym (linked_watched w next b at.head))
          (subst (λ n. index_of (watched b at.head) < n) (sym (length-set state.first (list_of state c w) (Some c))) at.within);
    }

-- a clause by which both its literals have lists
pub record IsListable (state : WatchState) (c : ℕ) (h : HeadState) : Type 0 where
  pub is_head : slice_get state.arena.heads c ≡ Some h
  pub watching : IsWatching h
  pub literal : (w : Bool) → IsLiteral (watched w h)
  pub within : (w : Bool) → index_of (watched w h) < length state.first

pub listable : (state : WatchState) (c : ℕ) (h : HeadState) → CanBeListed state → slice_get state.arena.heads c ≡ Some h → IsWatching h → IsListable state c h
listable state c h can found watching = record { is_head = found; watching = watching; literal = λ w. (can c h w found watching).0; within = λ w. (can c h w found watching).1 }

pub listable_at : (state : WatchState) (c : ℕ) (h : HeadState) (w : Bool) → IsListable state c h → WatchesAt state c w
listable_at state c h w it = record { head = h; is_head = it.is_head; watching = it.watching; within = it.within w }

-- by its edge, the clause's list is its literal's
list_is : (state : WatchState) (c : ℕ) (h : HeadState) (w : Bool) → slice_get state.arena.heads c ≡ Some h → list_of state c w ≡ index_of (watched w h)
list_is state c h w found = ap (λ o. index_of (option_map_or (watched w) o (pos 0))) found

-- both edges, one after the other
abbrev pub listed_twice : ℕ → WatchState → WatchState
listed_twice c state = attached c true (attached c false state)

abbrev first_next : WatchState → ℕ → Option ℕ
first_next state c = slice_index_or state.first (list_of state c false) None

second_at : (state : WatchState) (c : ℕ) (h : HeadState) → slice_get state.arena.heads c ≡ Some h → slice_get (attached c false state).arena.heads c ≡ Some (with_link false (first_next state c) h)
second_at state c h found = slice_get-changed_same (with_link false (first_next state c)) c state.arena.heads h found

second_list_is : (state : WatchState) (c : ℕ) (h : HeadState) → slice_get state.arena.heads c ≡ Some h → list_of (attached c false state) c true ≡ index_of (watched true h)
second_list_is state c h found = list_is (attached c false state) c (with_link false (first_next state c) h) true (second_at state c h found) ∙ ap index_of (linked_watched false (first_next state c) true h)

apart : (state : WatchState) (c : ℕ) (h : HeadState) → IsListable state c h → list_of (attached c false state) c true ≢ list_of state c false
apart state c h it same =
    it.watching.differ
    (sym (literal_at-index_of (watched false h) (it.literal false))
    ∙ ap literal_at (sym (sym (second_list_is state c h it.is_head) ∙ same ∙ list_is state c h false it.is_head))
    ∙ literal_at-index_of (watched true h) (it.literal true))

pub twice_relinked : (state : WatchState) (c : ℕ) → IsRelinked state (listed_twice c state)
twice_relinked state c =
    let mid = attached c false state in
    record {
      heads = unlinked_linked true (slice_index_or mid.first (list_of mid c true) None) c mid.arena.heads ∙ unlinked_linked false (first_next state c) c state.arena.heads;
      same = refl;
      first = length-set mid.first (list_of mid c true) (Some c) ∙ length-set state.first (list_of state c false) (Some c);
    }

-- a list with one clause put first has that one and those that it had
only_attached : (lists : Lists) (state : WatchState) (c : ℕ) (w : Bool) (i k : ℕ) → has (with_attached lists state c w i) k ≡ true → (k ≡ c) ⊎ (has (lists i) k ≡ true)
only_attached lists state c w i k among =
    by_list (λ j list. j ≡ i → has list k ≡ true → (k ≡ c) ⊎ (has (lists i) k ≡ true)) lists (list_of state c w) (c ∷ lists (list_of state c w)) i
    (λ e is. either (c == k) refl is (λ later. subst (λ j. has (lists j) k ≡ true) e later)) (λ _ _ is. inr is) refl among
  where
    either : {rest : Bool} (b : Bool) → (c == k) ≡ b → (b || rest) ≡ true → (rest ≡ true → has (lists i) k ≡ true) → (k ≡ c) ⊎ (has (lists i) k ≡ true)
    either true is _ _ = inl (sym (eqb-true c k is))
    either false _ is later = inr (later is)

pub twice_longer : (state : WatchState) (lists : Lists) (c : ℕ) (h : HeadState) → IsListable state c h → IsThreaded state lists → IsInNone lists state c → AreLonger (listed_twice c state) lists c
unfolding listable_at attached_watches
twice_longer state lists c h it threaded none =
    let mid = attached c false state in
    let first = listable_at state c h false it in
    let second = attached_watches state c false true (listable_at state c h true it) in
    let i = list_of state c false in
    let first_out = none i (subst (λ k. k < length state.first) (sym (list_is state c h false it.is_head)) (it.within false)) in
    let once = attached_at state lists c false first (literal_at-index_of (watched false h) (it.literal false)) threaded first_out in
    let second_out =
    by_list (λ k list. k ≡ list_of mid c true → has list c ≡ false) lists i (c ∷ lists i) (list_of mid c true) (λ e. absurd (apart state c h it (sym e)))
    (λ _ _. none (list_of mid c true) (subst (λ k. k < length state.first) (sym (second_list_is state c h it.is_head)) (it.within true))) refl in
    let second_literal : literal_at (index_of (watched true second.head)) ≡ watched true second.head =
    ap (λ l. literal_at (index_of l)) (linked_watched false (first_next state c) true h) ∙ literal_at-index_of (watched true h) (it.literal true) ∙ sym (linked_watched false (first_next state c) true h) in
    record {
      others = with_attached (with_attached lists state c false) mid c true;
      threaded = attached_at mid (with_attached lists state c false) c true second second_literal once second_out;
      grown = λ j k among. has_attached (with_attached lists state c false) mid c true j k (has_attached lists state c false j k among);
      only = λ j k among. ⊎_elim (λ e. inl e) (λ was. only_attached lists state c false j k was) (only_attached (with_attached lists state c false) mid c true j k among);
      both = both;
    }
  where
    next : Option ℕ
    next = slice_index_or (attached c false state).first (list_of (attached c false state) c true) None

    last : HeadState
    last = with_link true next (with_link false (first_next state c) h)

    found_last : slice_get (listed_twice c state).arena.heads c ≡ Some last
    found_last = slice_get-changed_same (with_link true next) c (attached c false state).arena.heads (with_link false (first_next state c) h) (second_at state c h it.is_head)

    same : (w : Bool) → watched w last ≡ watched w h
    same w = linked_watched true next w (with_link false (first_next state c) h) ∙ linked_watched false (first_next state c) w h

    in_list : (w : Bool) → has (with_attached (with_attached lists state c false) (attached c false state) c true (index_of (watched w h))) c ≡ true
    in_list false =
        subst (λ j. has (with_attached (with_attached lists state c false) (attached c false state) c true j) c ≡ true) (list_is state c h false it.is_head)
        (has_attached (with_attached lists state c false) (attached c false state) c true (list_of state c false) c (attached_has lists state c false))
    in_list true =
        subst (λ j. has (with_attached (with_attached lists state c false) (attached c false state) c true j) c ≡ true) (second_list_is state c h it.is_head)
        (attached_has (with_attached lists state c false) (attached c false state) c true)

    both : (head : HeadState) (w : Bool) → slice_get (listed_twice c state).arena.heads c ≡ Some head → IsWatching head → has (with_attached (with_attached lists state c false) (attached c false state) c true (index_of (watched w head))) c ≡ true
    both head w found _ =
        subst (λ (g : HeadState). has (with_attached (with_attached lists state c false) (attached c false state) c true (index_of (watched w g))) c ≡ true) (some_same last head (sym found_last ∙ found))
        (subst (λ l. has (with_attached (with_attached lists state c false) (attached c false state) c true (index_of l)) c ≡ true) (sym (same w)) (in_list w))

-- a clause that doesn't watch two literals needs no list
pub none_longer : (state : WatchState) (lists : Lists) (c : ℕ) → ((head : HeadState) → slice_get state.arena.heads c ≡ Some head → IsWatching head → ⊥) → IsThreaded state lists → AreLonger state lists c
none_longer state lists c not threaded = record {
  others = lists;
  threaded = threaded;
  grown = λ i k among. among;
  only = λ i k among. inr among;
  both = λ head w found watching. absurd (not head found watching);
}

-- relinked, a clause is the same but for its links
pub record IsSameClause (heads : List HeadState) (c : ℕ) (h : HeadState) : Type 0 where
  pub was : HeadState
  pub found : slice_get heads c ≡ Some was
  pub live : h.live ≡ was.live
  pub lits : h.lits ≡ was.lits

pub same_clause : (old new : List HeadState) (c : ℕ) (h : HeadState) → map unlinked new ≡ map unlinked old → slice_get new c ≡ Some h → IsSameClause old c h
same_clause old new c h same found =
    let read = at_map new c h found in
    let at = mapped_some unlinked old c (unlinked h) (ap (λ hs. slice_get hs c) (sym same) ∙ read) in
    record { was = at.0; found = at.1.0; live = ap (λ (g : HeadState). g.live) (sym at.1.1); lits = ap (λ (g : HeadState). g.lits) (sym at.1.1) }
  where
    at_map : (heads : List HeadState) (k : ℕ) (g : HeadState) → slice_get heads k ≡ Some g → slice_get (map unlinked heads) k ≡ Some (unlinked g)
    at_map [] k g found = absurd cc
    at_map (x ∷ xs) zero g found = ap (λ (y : HeadState). Some (unlinked y)) (some_same x g found)
    at_map (x ∷ xs) (suc k) g found = at_map xs k g found

-- so it watches what it watched
pub same_watched : (was h : HeadState) (w : Bool) → h.lits ≡ was.lits → watched w h ≡ watched w was
same_watched was h false same = ap (λ ls. slice_index_or ls 0 (pos 0)) same
same_watched was h true same = ap (λ ls. slice_index_or ls 1 (pos 0)) same

pub same_watching : (was h : HeadState) → h.lits ≡ was.lits → IsWatching h → IsWatching was
same_watching was h same it = record { long = subst (λ ls. 1 < length ls) same it.long; differ = λ e. it.differ (same_watched was h false same ∙ e ∙ sym (same_watched was h true same)) }

pub relinked_further : (a b c : WatchState) → IsRelinked a b → IsRelinked b c → IsRelinked a c
relinked_further a b c one two = record {
  heads = two.heads ∙ one.heads;
  same = two.same ∙ ap (λ (arena : ArenaState). record arena { heads = c.arena.heads; planned = c.arena.planned }) one.same;
  first = two.first ∙ one.first;
}

pub listable_still : (old new : WatchState) → IsRelinked old new → CanBeListed old → CanBeListed new
listable_still old new it can c head w found watching =
    let at = same_clause old.arena.heads new.arena.heads c head it.heads found in
    let was = can c at.was w at.found (same_watching at.was head at.lits watching) in
    let same = same_watched at.was head w at.lits in
    (subst IsLiteral (sym same) was.0, subst (λ l. index_of l < length new.first) (sym same) (subst (λ n. index_of (watched w at.was) < n) (sym it.first) was.1))

-- one clause more is listed
pub listed_one_more : (old new : WatchState) (n : ℕ) → IsRelinked old new → (from : AreListedFrom old (suc n)) → AreLonger new from.lists n → AreListedFrom new n
listed_one_more old new n it from longer = record {
  lists = longer.others;
  threaded = longer.threaded;
  among = λ i k among. ⊎_elim (λ e. omega (arith, e)) (λ was. omega (arith, from.among i k was)) (longer.only i k among);
  listed = λ c head w above found watching. by_number c head w above found watching (eqb c n) refl;
}
  where
    by_number : (c : ℕ) (head : HeadState) (w : Bool) → n ≤ c → slice_get new.arena.heads c ≡ Some head → IsWatching head → (b : Bool) → eqb c n ≡ b → has (longer.others (index_of (watched w head))) c ≡ true
    by_number c head w above found watching true is =
        let e = eqb-true c n is in
        subst (λ k. has (longer.others (index_of (watched w head))) k ≡ true) (sym e) (longer.both head w (ap (slice_get new.arena.heads) (sym e) ∙ found) watching)
    by_number c head w above found watching false isnt =
        let at = same_clause old.arena.heads new.arena.heads c head it.heads found in
        let differ : c ≢ n = eqb-false c n isnt in
        let was = from.listed c at.was w (higher c above differ) at.found (same_watching at.was head at.lits watching) in
        longer.grown (index_of (watched w head)) c (subst (λ l. has (from.lists (index_of l)) c ≡ true) (sym (same_watched at.was head w at.lits)) was)
      where
        higher : (c : ℕ) → n ≤ c → c ≢ n → suc n ≤ c
        higher c above differ = omega (arith, above, differ)

-- at first none is, and none has to be
pub listed_none : (state : WatchState) → IsThreaded state (λ _. []) → AreListedFrom state (length state.arena.heads)
listed_none state threaded = record {
  lists = λ _. [];
  threaded = threaded;
  among = λ i k among. absurd cc;
  listed = λ c head w above found _. absurd (omega (arith, above, slice_get_within state.arena.heads c head found));
}

-- in the end all are
pub listed_all : (state : WatchState) → AreListedFrom state 0 → HasLists state
listed_all state from = (from.lists, (from.threaded, λ c head w found _ watching. from.listed c head w (omega arith) found watching))

pub not_among : (state : WatchState) (n : ℕ) → (from : AreListedFrom state (suc n)) → IsInNone from.lists state n
not_among state n from i within =
    elim (has (from.lists i) n) as (λ b. has (from.lists i) n ≡ b → b ≡ false) [
      | true ↦ λ among. absurd (omega (arith, from.among i n among))
      | false ↦ λ _. refl
    ] refl

-- what was read of a clause's literals
pub apart_head : (heads : List HeadState) (c : ℕ) (lits : List ℤ) → slice_get (map (λ (h : HeadState). h.lits) heads) c ≡ Some lits → BeginApart lits → (h : HeadState) × ((slice_get heads c ≡ Some h) × IsWatching h)
apart_head heads c lits read two =
    let at = mapped_some (λ (h : HeadState). h.lits) heads c lits read in
    let it : BeginApart at.0.lits = subst BeginApart (sym at.1.1) two in
    (at.0, (at.1.0, record { long = it.long; differ = it.differ }))

pub not_apart : (heads : List HeadState) (c : ℕ) (lits : List ℤ) → slice_get (map (λ (h : HeadState). h.lits) heads) c ≡ Some lits → (BeginApart lits → ⊥) → (h : HeadState) → slice_get heads c ≡ Some h → IsWatching h → ⊥
not_apart heads c lits read not h found watching =
    let at = mapped_some (λ (h : HeadState). h.lits) heads c lits read in
    let it : BeginApart h.lits = record { long = watching.long; differ = watching.differ } in
    not (subst BeginApart (ap (λ (g : HeadState). g.lits) (some_same h at.0 (sym found ∙ at.1.0)) ∙ at.1.1) it)

-- no list begins
abbrev no_start : Option ℕ → Option ℕ
no_start _ = None

pub none_begins : (first : List (Option ℕ)) (i : ℕ) → slice_index_or (map no_start first) i None ≡ None
none_begins [] i = refl
none_begins (x ∷ xs) zero = refl
none_begins (x ∷ xs) (suc i) = none_begins xs i

pub relinked_length : (old new : WatchState) → IsRelinked old new → length new.arena.heads ≡ length old.arena.heads
relinked_length old new it = sym (length-map new.arena.heads unlinked) ∙ ap length it.heads ∙ length-map old.arena.heads unlinked

-- the arena's clauses are the live ones, so they can be listed where those could
pub compacted_listable : (state : WatchState) (first : List (Option ℕ)) → length first ≡ length state.first → CanBeListed state → CanBeListed (record { arena = compacted state.arena; first = first })
compacted_listable state first same can c head w found watching =
    let at = mapped_some unlinked (filter (λ (h : HeadState). h.live) state.arena.heads) c head found in
    let kept = was_kept state.arena.heads c at.0 at.1.0 in
    let lits : head.lits ≡ at.0.lits = ap (λ (g : HeadState). g.lits) (sym at.1.1) in
    let was = can kept.c at.0 w kept.found (same_watching at.0 head lits watching) in
    let watched_same = same_watched at.0 head w lits in
    (subst IsLiteral (sym watched_same) was.0, subst (λ l. index_of l < length first) (sym watched_same) (subst (λ n. index_of (watched w at.0) < n) (sym same) was.1))

pub none_threaded : (arena : ArenaState) (old : List (Option ℕ)) → IsThreaded (record { arena = arena; first = map no_start old }) (λ _. [])
none_threaded arena old = record { chained = λ i _. none_begins old i; once = λ _ _. _ }
