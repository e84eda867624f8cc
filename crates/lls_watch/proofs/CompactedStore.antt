-- A store over watches whose clauses were numbered anew.
use Rattle.std.proofs.Common.{◌≡◌, ◌≤◌, ◌<◌, ◌+◌, ◌⊎◌, zero, suc, ℕ, ℤ, Bool, true, false, not, ◌||◌, ◌&&◌, cond, List, [], ◌∷◌, Option, Some, None, refl, sym, ap, ◌∙◌, subst, arith, length, map, take, zero-add, inl, inr, ⊎_elim}
use Rattle.std.specs.Prelude.{filter, nat_le, nat_lt, slice_get}
use Rattle.std.specs.Option.{option_map}
use Rattle.std.specs.Ordering.{int_eq}
use Rattle.std.specs.FinSet as set
use Rattle.std.proofs.lemmas.Bool.Decides.{nat_tests}
use Rattle.std.proofs.lemmas.List.{length-map}
use Rattle.std.proofs.lemmas.Option.{get_or_from_slice_get, slice_get-map, slice_get_within}
use Rattle.lls_lit.specs.Literal.{IsLiteral, index_of, negation}
use Rattle.lls_lit.specs.declared.var.TheConstants.Var.{MOST}
use Rattle.lls_lit.specs.Formula.{is_within}
use Rattle.lls_store.specs.Trail.{Entry, TrailState, has as has_literal}
use Rattle.lls_store.specs.Changes.{entries_up_to}
use Rattle.lls_store.specs.Clauses.{LiveClause, IsIn, clause_numbered}
use Rattle.lls_store.specs.Sound.{IsSound}
use Rattle.lls_store.specs.Store.{AreLive}
use Rattle.lls_store.specs.Removal.{compacted, new_number, renamed, renamed_entry, renumbered}
use Rattle.lls_store.specs.Scan.{AreRising, IsTail}
use Rattle.lls_store.proofs.Compacting.{AreLive-compacted, IsSound-compacted, clause_numbered-compacted}
use Rattle.lls_arena.specs.Arena.{ArenaState, HeadState, compacted as compacted_arena, live_before, lives_of, place_of, unlinked}
use Rattle.lls_watch.specs.declared.progress.Progress.{Progress}
use Rattle.lls_watch.specs.Watches.{WatchState, IsWatching, has, watched}
use Rattle.lls_watch.specs.Passed.{ArePassed, IsOffset, live_from}
use Rattle.lls_watch.specs.Propagating.{Fits, WatchesTwo}
use Rattle.lls_watch.specs.Short.{AreSatisfiedForGood, HasOneAtMost, IsShort}
use Rattle.lls_watch.specs.Anew.{CanBeListed, HasLists, IsRelinked}
use Rattle.lls_watch.specs.Renumbered.{is_live_at, live_among, moved_among}
use Rattle.lls_watch.specs.WatchStore.{IsWatchStore, Tracks, WatchStoreState, room_in, store_in}
use Rattle.lls_watch.proofs.Changed.{some_same}
use Rattle.lls_watch.proofs.Changes.{mapped_some}
use Rattle.lls_watch.proofs.Compacted.{kept_place, live_compacted, new_number-heads, numbered_anew, was_kept}
use Rattle.lls_watch.proofs.Kept.{up_to_high, up_to_low}
use Rattle.lls_watch.proofs.Moves.{all_moved, fewer_among, fewer_live, has_moved, was_there}
use Rattle.lls_watch.proofs.Newest.{listed_of, literal_of}
use Rattle.lls_watch.proofs.Rearranged.{room_parts}
use Rattle.lls_watch.proofs.Slid.{kept_same, length_live, live_unlinked}
use Rattle.lls_watch.proofs.Threading.{IsSameClause, same_clause, same_watched, same_watching}
use Rattle.lls_watch.proofs.Turns.{within_at}
use Rattle.lls_watch.proofs.Visited.{head_numbered}

abbrev live_heads : List HeadState → List HeadState
live_heads heads = filter (λ (h : HeadState). h.live) heads

-- links aside, the clauses are those that were live, and their lists are threaded anew
pub record IsCompactedFrom (old new : WatchState) : Type 0 where
  pub heads : map unlinked new.arena.heads ≡ map unlinked (filter (λ (h : HeadState). h.live) old.arena.heads)
  pub tail : new.arena.tail ≡ old.arena.tail
  pub spare_heads : new.arena.spare_heads ≡ old.arena.spare_heads
  pub spare_lits : new.arena.spare_lits ≡ old.arena.spare_lits
  pub first : length new.first ≡ length old.first
  pub listed : HasLists new

pub compacted_from : (old planned new : WatchState) → map unlinked planned.arena.heads ≡ map unlinked old.arena.heads
    → planned ≡ record old { arena = record old.arena { heads = planned.arena.heads; planned = true } }
    → IsRelinked (record planned { arena = compacted_arena planned.arena }) new → HasLists new → IsCompactedFrom old new
compacted_from old planned new same rest relinked listed = record {
  heads = kept_same old.arena.heads planned.arena.heads new.arena.heads same relinked.heads;
  tail = ap (λ (a : ArenaState). a.tail) relinked.same ∙ ap (λ (w : WatchState). w.arena.tail) rest;
  spare_heads = ap (λ (a : ArenaState). a.spare_heads) relinked.same ∙ ap (λ (w : WatchState). w.arena.spare_heads) rest;
  spare_lits = ap (λ (a : ArenaState). a.spare_lits) relinked.same ∙ ap (λ (w : WatchState). w.arena.spare_lits) rest;
  first = relinked.first ∙ ap (λ (w : WatchState). length w.first) rest;
  listed = listed;
}

-- a clause that is there was a live one
record WasLive (old : List HeadState) (k : ℕ) (h : HeadState) : Type 0 where
  c : ℕ
  was : HeadState
  found : slice_get old c ≡ Some was
  live : was.live ≡ true
  place : live_before old c ≡ k
  lits : h.lits ≡ was.lits

was_live : (old new : WatchState) (k : ℕ) (h : HeadState) → IsCompactedFrom old new → slice_get new.arena.heads k ≡ Some h → WasLive old.arena.heads k h
was_live old new k h it found =
    let at = same_clause (live_heads old.arena.heads) new.arena.heads k h it.heads found in
    let kept = was_kept old.arena.heads k at.was at.found in
    record { c = kept.c; was = at.was; found = kept.found; live = kept.live; place = kept.place; lits = at.lits }

-- what the store sees
pub live_anew : (old new : WatchState) → AreRising (live_from 0 old.arena.heads) → IsCompactedFrom old new → live_from 0 new.arena.heads ≡ map (renumbered (live_from 0 old.arena.heads)) (live_from 0 old.arena.heads)
live_anew old new rising it =
    live_unlinked 0 new.arena.heads ∙ ap (live_from 0) it.heads ∙ live_compacted 0 0 old.arena.heads ∙ numbered_anew (live_from 0 old.arena.heads) rising

count_anew : (old new : WatchState) → IsCompactedFrom old new → length new.arena.heads ≡ length (live_from 0 old.arena.heads)
count_anew old new it =
    sym (length-map new.arena.heads unlinked) ∙ ap length it.heads ∙ length-map (live_heads old.arena.heads) unlinked ∙ length_live 0 old.arena.heads

-- the store by its parts
abbrev pub anew_store : WatchStoreState → WatchState → List ℕ → ℕ → ℕ → WatchStoreState
anew_store s new short room satisfied = record s { watches = new; short = short; short_room = room; satisfied = satisfied }

pub store_anew : (s : WatchStoreState) (new : WatchState) (short : List ℕ) (room satisfied : ℕ) → AreRising (live_from 0 s.watches.arena.heads) → IsCompactedFrom s.watches new
    → store_in (anew_store s new short room satisfied) ≡ compacted (store_in s)
store_anew s new short room satisfied rising it =
    let live = live_from 0 s.watches.arena.heads in
    ap (λ (n : ℕ). record { vars = s.vars; count = n; live = live_from 0 new.arena.heads; tail = new.arena.tail }) (count_anew s.watches new it)
    ∙ ap (λ (l : List LiveClause). record { vars = s.vars; count = length live; live = l; tail = new.arena.tail }) (live_anew s.watches new rising it)
    ∙ ap (λ (tail : List ℤ). record { vars = s.vars; count = length live; live = map (renumbered live) live; tail = tail }) it.tail

-- a live clause under its new number
record IsAnew (live : List LiveClause) (anew : List LiveClause) (c to : ℕ) : Type 0 where
  clause : LiveClause
  was : clause_numbered live c ≡ Some clause
  now : clause_numbered anew to ≡ Some (renumbered live clause)

is_anew : (old new : WatchState) (c : ℕ) → AreRising (live_from 0 old.arena.heads) → IsCompactedFrom old new → is_live_at old.arena.heads c ≡ true → IsAnew (live_from 0 old.arena.heads) (live_from 0 new.arena.heads) c (live_before old.arena.heads c)
is_anew old new c rising it alive =
    let heads = old.arena.heads in
    let live = live_from 0 heads in
    let at = live_head heads c alive in
    let clause : LiveClause = record { number = 0 + c; id = at.0.id; lits = set.from_list at.0.lits } in
    let was : clause_numbered live c ≡ Some clause = ap (clause_numbered live) (sym (zero-add c)) ∙ head_numbered 0 heads c at.0 at.1.0 at.1.1 in
    let below : c ≤ length heads = at_most heads c at.0 at.1.0 in
    let to : new_number live c ≡ live_before heads c = ap (new_number live) (sym (zero-add c)) ∙ new_number-heads 0 heads c below in
    record {
      clause = clause;
      was = was;
      now =
          ap (λ (l : List LiveClause). clause_numbered l (live_before heads c)) (live_anew old new rising it)
          ∙ ap (clause_numbered (map (renumbered live) live)) (sym to) ∙ clause_numbered-compacted live c clause rising was;
    }
  where
    at_most : (heads : List HeadState) (c : ℕ) (h : HeadState) → slice_get heads c ≡ Some h → c ≤ length heads
    at_most heads c h found = omega (arith, slice_get_within heads c h found)

    live_head : (heads : List HeadState) (c : ℕ) → is_live_at heads c ≡ true → (h : HeadState) × ((slice_get heads c ≡ Some h) × (h.live ≡ true))
    live_head [] c alive = absurd cc
    live_head (x ∷ xs) zero alive = (x, (refl, alive))
    live_head (x ∷ xs) (suc c) alive = live_head xs c alive

-- a trail with its reasons renamed says what it said
abbrev anew_entries : List LiveClause → List Entry → List Entry
anew_entries live es = map (renamed_entry live) es

has_anew : (live : List LiveClause) (es : List Entry) (l : ℤ) → has_literal (anew_entries live es) l ≡ has_literal es l
has_anew live [] l = refl
has_anew live (x ∷ xs) l = ap (λ b. int_eq x.lit l || b) (has_anew live xs l)

up_to_anew : (live : List LiveClause) (level : ℕ) (es : List Entry) → entries_up_to level (anew_entries live es) ≡ anew_entries live (entries_up_to level es)
up_to_anew live level [] = refl
up_to_anew live level (x ∷ xs) = by_level (nat_le x.level level) refl (up_to_anew live level xs)
  where
    by_level : (b : Bool) → nat_le x.level level ≡ b → entries_up_to level (anew_entries live xs) ≡ anew_entries live (entries_up_to level xs) → entries_up_to level (anew_entries live (x ∷ xs)) ≡ anew_entries live (entries_up_to level (x ∷ xs))
    by_level true low later =
        up_to_low level (renamed_entry live x) (anew_entries live xs) low ∙ ap (λ es. renamed_entry live x ∷ es) later ∙ ap (anew_entries live) (sym (up_to_low level x xs low))
    by_level false high later = up_to_high level (renamed_entry live x) (anew_entries live xs) high ∙ ap (anew_entries live) (sym (up_to_high level x xs high))

entry_was : (live : List LiveClause) (es : List Entry) (k : ℕ) (e : Entry) → slice_get (anew_entries live es) k ≡ Some e → (x : Entry) × ((slice_get es k ≡ Some x) × (renamed_entry live x ≡ e))
entry_was live [] k e found = absurd cc
entry_was live (x ∷ xs) zero e found = (x, (refl, cc))
entry_was live (x ∷ xs) (suc k) e found = entry_was live xs k e found

entry_anew : (live : List LiveClause) (es : List Entry) (k : ℕ) (x : Entry) → slice_get es k ≡ Some x → slice_get (anew_entries live es) k ≡ Some (renamed_entry live x)
entry_anew live es k x found = slice_get-map (renamed_entry live) es k ∙ ap (option_map (renamed_entry live)) found

-- all that was passed is
passed_anew : (old new : WatchState) (t : TrailState) (progress : Progress) → IsCompactedFrom old new → ArePassed old.arena.heads t.entries progress → ArePassed new.arena.heads (renamed (live_from 0 old.arena.heads) t).entries progress
passed_anew old new t progress it passed k head w place entry found live watching before there is =
    let all = live_from 0 old.arena.heads in
    let at = was_live old new k head it found in
    let e = entry_was all t.entries place entry there in
    let was_false : e.0.lit ≡ negation (watched w at.was) = ap (λ (x : Entry). x.lit) e.1.1 ∙ is ∙ ap negation (same_watched at.was head w at.lits) in
    let o = passed at.c at.was w place e.0 at.found at.live (same_watching at.was head at.lits watching) before e.1.0 was_false in
    subst (λ n. IsOffset (anew_entries all t.entries) progress.mark place n (watched (not w) head)) (ap (λ (x : Entry). x.level) e.1.1)
    (subst (λ l. IsOffset (anew_entries all t.entries) progress.mark place e.0.level l) (sym (same_watched at.was head (not w) at.lits))
    (record { at = o.at; entry = renamed_entry all o.entry; found = entry_anew all t.entries o.at o.entry o.found; is_true = o.is_true; in_time = o.in_time }))

fits_anew : (old new : WatchState) (vars : ℕ) → IsCompactedFrom old new → Fits old vars → Fits new vars
fits_anew old new vars it fits = record {
  lists = it.first ∙ fits.lists;
  within = λ k lits read.
      let head = mapped_some (λ (h : HeadState). h.lits) new.arena.heads k lits read in
      let at = was_live old new k head.0 it head.1.0 in
      subst (λ ls. is_within vars ls ≡ true) (sym at.lits ∙ head.1.1)
      (fits.within at.c at.was.lits (slice_get-map (λ (h : HeadState). h.lits) old.arena.heads at.c ∙ ap (option_map (λ (h : HeadState). h.lits)) at.found));
}

for_good_anew : (s : WatchStoreState) (t : TrailState) (new : WatchState) → AreRising (live_from 0 s.watches.arena.heads) → IsCompactedFrom s.watches new
    → AreSatisfiedForGood (live_from 0 s.watches.arena.heads) t.entries s.short s.satisfied
    → AreSatisfiedForGood (live_from 0 new.arena.heads) (renamed (live_from 0 s.watches.arena.heads) t).entries (moved_among s.watches.arena.heads s.short) (length (live_among s.watches.arena.heads (take s.satisfied s.short)))
for_good_anew s t new rising it good k to within found clause named =
    let heads = s.watches.arena.heads in
    let live = live_from 0 heads in
    let at = was_there heads s.short s.satisfied k to within found in
    let both = is_anew s.watches new at.number rising it at.live in
    let same : clause ≡ renumbered live both.clause = same_live clause (renumbered live both.clause) (sym named ∙ ap (clause_numbered (live_from 0 new.arena.heads)) (sym at.goes) ∙ both.now) in
    let one = good at.place at.number at.before at.found both.clause both.was in (
      one.0,
      (
        subst (λ (x : LiveClause). IsIn x.lits one.0) (sym same) one.1.0,
        ap (λ es. has_literal es one.0) (up_to_anew live 0 t.entries) ∙ has_anew live (entries_up_to 0 t.entries) one.0 ∙ one.1.1,
      ),
    )
  where
    same_live : (a b : LiveClause) → Some a ≡ Some b → a ≡ b
    same_live a b e = cc

pub tracks_anew : (s : WatchStoreState) (t : TrailState) (new : WatchState) (room : ℕ) → IsWatchStore s → IsCompactedFrom s.watches new → Tracks s t
    → Tracks (anew_store s new (moved_among s.watches.arena.heads s.short) room (length (live_among s.watches.arena.heads (take s.satisfied s.short)))) (renamed (live_from 0 s.watches.arena.heads) t)
tracks_anew s t new room store it tracks =
    let live = live_from 0 s.watches.arena.heads in
    let rising = store.are_live.numbers in
    let was = tracks.propagating in
    record {
      vars = tracks.vars;
      propagating = record {
        lists = it.listed.0;
        threaded = it.listed.1.0;
        listed = it.listed.1.1;
        passed = passed_anew s.watches new t s.progress it was.passed;
        fits = fits_anew s.watches new t.vars it was.fits;
        sound = subst (λ l. IsSound l (renamed live t)) (sym (live_anew s.watches new rising it)) (IsSound-compacted live t rising was.sound);
      };
      reach = subst (λ n. s.progress.passed ≤ n) (sym (length-map t.entries (renamed_entry live))) tracks.reach;
      for_good = for_good_anew s t new rising it tracks.for_good;
    }

-- what holds of every store
short_anew : (s : WatchStoreState) (new : WatchState) → IsWatchStore s → IsCompactedFrom s.watches new → (c : ℕ) → is_live_at s.watches.arena.heads c ≡ true → IsShort (live_from 0 s.watches.arena.heads) s.vars c
    → IsShort (live_from 0 new.arena.heads) s.vars (live_before s.watches.arena.heads c)
short_anew s new store it c alive short clause named =
    let live = live_from 0 s.watches.arena.heads in
    let both = is_anew s.watches new c store.are_live.numbers it alive in
    subst (λ (x : LiveClause). HasOneAtMost s.vars x.lits) (same_live (renumbered live both.clause) clause (sym both.now ∙ named)) (short both.clause both.was)
  where
    same_live : (a b : LiveClause) → Some a ≡ Some b → a ≡ b
    same_live a b e = cc

goes_below : (s : WatchStoreState) (new : WatchState) → IsCompactedFrom s.watches new → (c : ℕ) → is_live_at s.watches.arena.heads c ≡ true → live_before s.watches.arena.heads c < length new.arena.heads
goes_below s new it c alive =
    let heads = s.watches.arena.heads in
    let at = live_head heads c alive in
    let inside = slice_get_within (live_heads heads) (live_before heads c) at.0 (kept_place heads c at.0 at.1.0 at.1.1) in
    subst (λ n. live_before heads c < n) (length_live 0 heads ∙ sym (count_anew s.watches new it)) inside
  where
    live_head : (heads : List HeadState) (c : ℕ) → is_live_at heads c ≡ true → (h : HeadState) × ((slice_get heads c ≡ Some h) × (h.live ≡ true))
    live_head [] c alive = absurd cc
    live_head (x ∷ xs) zero alive = (x, (refl, alive))
    live_head (x ∷ xs) (suc c) alive = live_head xs c alive

covered_anew : (s : WatchStoreState) (new : WatchState) → IsWatchStore s → IsCompactedFrom s.watches new → (k : ℕ) → WatchesTwo new.arena.heads k ⊎ (has (moved_among s.watches.arena.heads s.short) k ≡ true)
covered_anew s new store it k = by_head (slice_get new.arena.heads k) refl
  where
    heads : List HeadState
    heads = s.watches.arena.heads

    by_head : (o : Option HeadState) → slice_get new.arena.heads k ≡ o → WatchesTwo new.arena.heads k ⊎ (has (moved_among heads s.short) k ≡ true)
    by_head None none = inl (λ h found. let both : None ≡ Some h = sym none ∙ found in absurd cc)
    by_head (Some h) found =
        let at = was_live s.watches new k h it found in
        ⊎_elim (λ two. inl (λ g there. subst IsWatching (some_same h g (sym found ∙ there)) (same_watching h at.was (sym at.lits) (two at.was at.found))))
        (λ among. inr (subst (λ j. has (moved_among heads s.short) j ≡ true) at.place
        (has_moved heads s.short at.c (get_or_from_slice_get (lives_of heads) at.c true false (slice_get-map (λ (x : HeadState). x.live) heads at.c ∙ ap (option_map (λ (x : HeadState). x.live)) at.found ∙ ap Some at.live)) among)))
        (store.covered at.c)

fewer_heads : (heads : List HeadState) → length (live_heads heads) ≤ length heads
fewer_heads [] = omega arith
fewer_heads (h ∷ hs) = by_live h.live (fewer_heads hs)
  where
    by_live : (b : Bool) → length (live_heads hs) ≤ length hs → length (cond b (h ∷ live_heads hs) (live_heads hs)) ≤ length (h ∷ hs)
    by_live true later = omega (arith, later)
    by_live false later = omega (arith, later)

pub watch_store_anew : (s : WatchStoreState) (new : WatchState) (room : ℕ) → IsCompactedFrom s.watches new → IsWatchStore s
    → IsWatchStore (anew_store s new (moved_among s.watches.arena.heads s.short) room (length (live_among s.watches.arena.heads (take s.satisfied s.short))))
watch_store_anew s new room it store =
    let heads = s.watches.arena.heads in
    let short = moved_among heads s.short in
    let satisfied = length (live_among heads (take s.satisfied s.short)) in
    record {
      vars_fit = store.vars_fit;
      are_live = subst AreLive (sym (store_anew s new short room satisfied store.are_live.numbers it)) (AreLive-compacted (store_in s) store.are_live);
      few = omega (arith, count_anew s.watches new it, length_live 0 heads, fewer_heads heads, store.few);
      is_tail = subst (IsTail s.vars) (sym it.tail) store.is_tail;
      there = all_moved (λ c. c < length new.arena.heads) (λ c. c < length heads) heads s.short (λ c alive _. goes_below s new it c alive) store.there;
      are_short = all_moved (IsShort (live_from 0 new.arena.heads) s.vars) (IsShort (live_from 0 heads) s.vars) heads s.short (short_anew s new store it) store.are_short;
      covered = covered_anew s new store it;
      settled = omega (arith, fewer_live heads s.short s.satisfied, length-map (live_among heads s.short) (live_before heads));
    }

-- a watched literal of each clause has a list
pub fits_listable : (state : WatchState) (vars : ℕ) → vars ≤ MOST → Fits state vars → CanBeListed state
fits_listable state vars few fits c head w found watching =
    let within = fits.within c head.lits (slice_get-map (λ (h : HeadState). h.lits) state.arena.heads c ∙ ap (option_map (λ (h : HeadState). h.lits)) found) in
    let is = within_at vars head.lits (place_of w) within (inside w) in
    (literal_of vars (watched w head) few is, listed_of state vars (watched w head) few fits is)
  where
    inside : (b : Bool) → place_of b < length head.lits
    inside true = watching.long
    inside false = omega (arith, watching.long)

-- so it is behind the plan
pub planned_listable : (old new : WatchState) → map unlinked new.arena.heads ≡ map unlinked old.arena.heads → length new.first ≡ length old.first → CanBeListed old → CanBeListed new
planned_listable old new heads first can c head w found watching =
    let at : IsSameClause old.arena.heads c head = same_clause old.arena.heads new.arena.heads c head heads found in
    let was = can c at.was w at.found (same_watching at.was head at.lits watching) in
    let same = same_watched at.was head w at.lits in
    (subst IsLiteral (sym same) was.0, subst (λ l. index_of l < length new.first) (sym same) (subst (λ n. index_of (watched w at.was) < n) (sym first) was.1))

-- there is as much room
pub room_anew : (s : WatchStoreState) (new : WatchState) (satisfied : ℕ) → IsCompactedFrom s.watches new → room_in s ≡ true → room_in (anew_store s new (moved_among s.watches.arena.heads s.short) s.short_room satisfied) ≡ true
room_anew s new satisfied it room =
    let has = room_parts s room in
    let heads = s.watches.arena.heads in
    let spare : 0 < new.arena.spare_heads = subst (λ n. 0 < n) (sym it.spare_heads) has.heads in
    let lits : s.vars ≤ length new.arena.tail + new.arena.spare_lits = omega (arith, has.lits, ap length it.tail, it.spare_lits) in
    let short : length (moved_among heads s.short) < s.short_room = omega (arith, has.short, fewer_among heads s.short, length-map (live_among heads s.short) (live_before heads)) in
    let first : nat_lt 0 new.arena.spare_heads ≡ true = grind (arith, nat_tests, spare) in
    let second : nat_le s.vars (length new.arena.tail + new.arena.spare_lits) ≡ true = grind (arith, nat_tests, lits) in
    let third : nat_lt (length (moved_among heads s.short)) s.short_room ≡ true = grind (arith, nat_tests, short) in
    all_three first second third
  where
    all_three : {a b d : Bool} → a ≡ true → b ≡ true → d ≡ true → (a && b && d) ≡ true
    all_three e f g = rw (e, f, g) refl
