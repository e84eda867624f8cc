-- A store over watches whose clauses stay: only its tail or its room changes.
use Rattle.std.proofs.Common.{refl, arith, zero-add, ◌∙◌, ◌+◌, ◌&&◌, ◌≡◌, ◌≤◌, ◌<◌, ℕ, ℤ, true, List, Option, Some, None, sym, ap, subst, length, map}
use Rattle.std.proofs.lemmas.Bool.{and_parts}
use Rattle.std.proofs.lemmas.Bool.Decides.{nat_tests}
use Rattle.std.proofs.lemmas.Option.{slice_get-map}
use Rattle.std.specs.Option.{IsSome, option_map}
use Rattle.std.specs.Prelude.{nat_le, nat_lt, ◌⊎◌, All, slice_get, slice_index_or}
use Rattle.lls_lit.specs.Literal.{literal_at}
use Rattle.lls_lit.specs.Formula.{is_within}
use Rattle.lls_store.specs.Trail.{TrailState}
use Rattle.lls_store.specs.Sound.{IsSound}
use Rattle.lls_store.specs.Store.{AreLive}
use Rattle.lls_store.specs.Scan.{IsTail}
use Rattle.lls_store.specs.declared.store.TheConstants.{MOST_CLAUSES}
use Rattle.lls_store.specs.Clauses.{LiveClause, clause_numbered}
use Rattle.lls_arena.specs.Arena.{ArenaState, HeadState, IsLive}
use Rattle.lls_watch.proofs.Visited.{live_numbered}
use Rattle.lls_watch.specs.Watches.{IsSegment, has}
use Rattle.lls_watch.specs.Passed.{AreListed, ArePassed, live_from, store_of}
use Rattle.lls_watch.specs.Propagating.{WatchesTwo}
use Rattle.lls_watch.specs.Short.{AreSatisfiedForGood, AreShort}
use Rattle.lls_watch.specs.WatchStore.{IsWatchStore, Tracks, WatchStoreState, room_in}

abbrev pub with_arena : WatchStoreState → ArenaState → ℕ → WatchStoreState
with_arena s arena room = record s { watches = record s.watches { arena = arena }; short_room = room }

pub tracks_arena : (s : WatchStoreState) (t : TrailState) (arena : ArenaState) (room : ℕ) → arena.heads ≡ s.watches.arena.heads → Tracks s t → Tracks (with_arena s arena room) t
tracks_arena s t arena room same it =
    let was = it.propagating in
    record {
      vars = it.vars;
      propagating = record {
        lists = was.lists;
        threaded = record {
          chained = subst (λ (hs : List HeadState). (i : ℕ) → i < length s.watches.first → IsSegment hs (literal_at i) (slice_index_or s.watches.first i None) (was.lists i) None) (sym same) was.threaded.chained;
          once = was.threaded.once;
        };
        listed = subst (λ hs. AreListed hs was.lists) (sym same) was.listed;
        passed = subst (λ hs. ArePassed hs t.entries s.progress) (sym same) was.passed;
        fits = record {
          lists = was.fits.lists;
          within = subst (λ (hs : List HeadState). (c : ℕ) (lits : List ℤ) → slice_get (map (λ head. head.lits) hs) c ≡ Some lits → is_within t.vars lits ≡ true) (sym same) was.fits.within;
        };
        sound = subst (λ hs. IsSound (live_from 0 hs) t) (sym same) was.sound;
      };
      reach = it.reach;
      for_good = subst (λ hs. AreSatisfiedForGood (live_from 0 hs) t.entries s.short s.satisfied) (sym same) it.for_good;
    }

-- nothing that is asked of live clauses is asked of the tail
live_by_tail : (vars : ℕ) (arena other : ArenaState) → other.heads ≡ arena.heads → AreLive (store_of vars arena) → AreLive (store_of vars other)
live_by_tail vars arena other same it =
    let by_heads : AreLive (record { vars = vars; count = length other.heads; live = live_from 0 other.heads; tail = arena.tail }) =
    subst (λ (hs : List HeadState). AreLive (record { vars = vars; count = length hs; live = live_from 0 hs; tail = arena.tail })) (sym same) it in
    record { ids = by_heads.ids; numbers = by_heads.numbers; given = by_heads.given; ids_fit = by_heads.ids_fit; within = by_heads.within }

pub watch_store_arena : (s : WatchStoreState) (arena : ArenaState) (room : ℕ) → arena.heads ≡ s.watches.arena.heads → IsTail s.vars arena.tail → IsWatchStore s → IsWatchStore (with_arena s arena room)
watch_store_arena s arena room same tail it = record {
  are_live = live_by_tail s.vars s.watches.arena arena same it.are_live;
  few = subst (λ hs. length hs ≤ MOST_CLAUSES) (sym same) it.few;
  is_tail = tail;
  there = subst (λ (hs : List HeadState). All (λ c. c < length hs) s.short) (sym same) it.there;
  are_short = subst (λ hs. AreShort (live_from 0 hs) s.vars s.short) (sym same) it.are_short;
  covered = subst (λ (hs : List HeadState). (c : ℕ) → WatchesTwo hs c ⊎ (has s.short c ≡ true)) (sym same) it.covered;
  vars_fit = it.vars_fit;
  settled = it.settled;
}

-- what room says
pub record HasRoom (s : WatchStoreState) : Type 0 where
  pub heads : 0 < s.watches.arena.spare_heads
  pub lits : s.vars ≤ length s.watches.arena.tail + s.watches.arena.spare_lits
  pub short : length s.short < s.short_room

pub room_parts : (s : WatchStoreState) → room_in s ≡ true → HasRoom s
room_parts s room =
    let first = nat_lt 0 s.watches.arena.spare_heads in
    let second = nat_le s.vars (length s.watches.arena.tail + s.watches.arena.spare_lits) in
    let third = nat_lt (length s.short) s.short_room in
    let parts = and_parts (first && second) third room in
    let more = and_parts first second parts.0 in
    record { heads = grind (arith, nat_tests, more.0); lits = grind (arith, nat_tests, more.1); short = grind (arith, nat_tests, parts.1) }

-- a live clause of the store is one of the arena
pub live_in_arena : (heads : List HeadState) (c : ℕ) → IsSome (clause_numbered (live_from 0 heads) c) → IsLive heads c
live_in_arena heads c some =
    let at = of_some (clause_numbered (live_from 0 heads) c) some in
    let it = live_numbered 0 heads c at.0 (subst (λ k. clause_numbered (live_from 0 heads) k ≡ Some at.0) (sym (zero-add c)) at.1) in
    slice_get-map (λ (h : HeadState). h.live) heads c ∙ ap (option_map (λ (h : HeadState). h.live)) it.1.0 ∙ ap Some it.1.1
  where
    of_some : (o : Option LiveClause) → IsSome o → (x : LiveClause) × (o ≡ Some x)
    of_some None is = absurd cc
    of_some (Some x) is = (x, refl)
