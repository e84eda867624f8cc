-- What a store over watches holds fits the trail that it tracks, behind each change of the trail.
use Rattle.std.proofs.Common.{◌≡◌, ◌≤◌, ◌<◌, ◌+◌, suc, ℕ, ℤ, Bool, true, false, ◌||◌, List, [], ◌∷◌, ◌++◌, Some, None, refl, sym, ap, ◌∙◌, subst, arith, length, zero-add, inl, inr, ⊎_elim}
use Rattle.std.specs.Prelude.{slice_index_or, ◌⊎◌, ◌*◌, map, slice_get, ◌==◌}
use Rattle.std.proofs.lemmas.Bool.{eqb-true}
use Rattle.std.proofs.lemmas.List.{length_push}
use Rattle.std.specs.FinSet as set
use Rattle.lls_lit.specs.Formula.{is_within}
use Rattle.lls_store.specs.Trail.{Entry, TrailState, IsTrail}
use Rattle.lls_store.specs.Changes.{cut_to, decided, entries_up_to}
use Rattle.lls_store.specs.Clauses.{LiveClause, clause_numbered}
use Rattle.lls_store.specs.Closed.{IsClosed, IsSettled}
use Rattle.lls_store.specs.Sound.{IsSound}
use Rattle.lls_store.specs.Store.{AreLive, GoesOn}
use Rattle.lls_store.specs.declared.store.TheConstants.{MOST_CLAUSES}
use Rattle.lls_store.proofs.Cut.{cut_all}
use Rattle.lls_store.proofs.Passes.{length-GoesOn}
use Rattle.lls_store.proofs.SoundChanges.{IsSound-cut_to, IsSound-decided}
use Rattle.lls_arena.specs.Arena.{HeadState}
use Rattle.lls_watch.specs.declared.progress.Progress.{Progress}
use Rattle.lls_watch.specs.Watches.{WatchState, has}
use Rattle.lls_watch.specs.Passed.{IsMarked, ArePassed, cut_progress, live_from}
use Rattle.lls_watch.specs.Propagating.{ArePropagating, LookAlike, WatchesTwo}
use Rattle.lls_watch.specs.Short.{AreShort, AreSatisfied, AreSatisfiedForGood}
use Rattle.lls_store.specs.Scan.{IsTail}
use Rattle.lls_watch.specs.WatchStore.{IsWatchStore, Tracks, WatchStoreState, store_in}
use Rattle.lls_watch.proofs.ForGood.{for_good_cut, for_good_grown}
use Rattle.lls_watch.proofs.Kept.{passed_cut, passed_grown}
use Rattle.lls_watch.proofs.Passed.{AreWatchingOrSettled, closed_by_watches}
use Rattle.lls_watch.proofs.Visited.{head_numbered}

-- a decision
pub tracks_decided : (s : WatchStoreState) (t : TrailState) (l : ℤ) → Tracks s t → Tracks s (decided t l)
tracks_decided s t l it =
    let more : List Entry = record { lit = l; level = t.current + 1; reason = None } ∷ [] in
    let was = it.propagating in
    record {
      vars = it.vars;
      propagating = record {
        lists = was.lists;
        threaded = was.threaded;
        listed = was.listed;
        passed = passed_grown s.watches.arena.heads t.entries more s.progress it.reach was.passed;
        fits = record { lists = was.fits.lists; within = was.fits.within };
        sound = IsSound-decided (live_from 0 s.watches.arena.heads) t l was.sound;
      };
      reach = omega (arith, it.reach, length_push t.entries (record { lit = l; level = t.current + 1; reason = None }));
      for_good = for_good_grown (live_from 0 s.watches.arena.heads) t.entries more s.short s.satisfied it.for_good;
    }

-- forced literals
pub propagating_grown : (state : WatchState) (old new : TrailState) (progress : Progress) → progress.passed ≤ length old.entries → GoesOn old new → IsSound (live_from 0 state.arena.heads) new
    → ArePropagating state old progress → ArePropagating state new progress
propagating_grown state old new progress reach grown sound was =
    let entries : new.entries ≡ old.entries ++ grown.added = ap (λ (t : TrailState). t.entries) grown.grown in
    let vars : new.vars ≡ old.vars = ap (λ (t : TrailState). t.vars) grown.grown in
    record {
      lists = was.lists;
      threaded = was.threaded;
      listed = was.listed;
      passed = subst (λ es. ArePassed state.arena.heads es progress) (sym entries) (passed_grown state.arena.heads old.entries grown.added progress reach was.passed);
      fits = record { lists = was.fits.lists ∙ ap (λ n. 2 * n) (sym vars); within = subst (λ v. (c : ℕ) (lits : List ℤ) → slice_get (map (λ head. head.lits) state.arena.heads) c ≡ Some lits → is_within v lits ≡ true) (sym vars) was.fits.within };
      sound = sound;
    }

pub for_good_on : (live : List LiveClause) (old new : TrailState) (cs : List ℕ) (n : ℕ) → GoesOn old new → AreSatisfiedForGood live old.entries cs n → AreSatisfiedForGood live new.entries cs n
for_good_on live old new cs n grown good =
    subst (λ es. AreSatisfiedForGood live es cs n) (sym (ap (λ (t : TrailState). t.entries) grown.grown)) (for_good_grown live old.entries grown.added cs n good)

-- the store is the same
pub store_alike : (s : WatchStoreState) (watches : WatchState) (progress : Progress) → LookAlike s.watches watches → store_in (record s { watches = watches; progress = progress }) ≡ store_in s
store_alike s watches progress alike =
    ap (λ (n : ℕ). record { vars = s.vars; count = n; live = live_from 0 watches.arena.heads; tail = watches.arena.tail }) alike.count
    ∙ ap (λ (live : List LiveClause). record { vars = s.vars; count = length s.watches.arena.heads; live = live; tail = watches.arena.tail }) alike.live
    ∙ ap (λ (tail : List ℤ). record { vars = s.vars; count = length s.watches.arena.heads; live = live_from 0 s.watches.arena.heads; tail = tail }) alike.tail

-- clauses of one literal are settled
pub tracks_settled : (s : WatchStoreState) (old new : TrailState) (n : ℕ) → GoesOn old new → IsSound (live_from 0 s.watches.arena.heads) new
    → AreSatisfiedForGood (live_from 0 s.watches.arena.heads) new.entries s.short n → Tracks s old → Tracks (record s { satisfied = n }) new
tracks_settled s old new n grown sound good it = record {
  vars = ap (λ (t : TrailState). t.vars) grown.grown ∙ it.vars;
  propagating = propagating_grown s.watches old new s.progress it.reach grown sound it.propagating;
  reach = omega (arith, it.reach, length-GoesOn old new grown);
  for_good = good;
}

-- all was passed, or a clause was found false
pub tracks_passed : (s : WatchStoreState) (old new : TrailState) (watches : WatchState) (progress : Progress) → GoesOn old new → LookAlike s.watches watches → ArePropagating watches new progress → progress.passed ≤ length new.entries
    → Tracks s old → Tracks (record s { watches = watches; progress = progress }) new
tracks_passed s old new watches progress grown alike propagating reach it = record {
  vars = ap (λ (t : TrailState). t.vars) grown.grown ∙ it.vars;
  propagating = propagating;
  reach = reach;
  for_good = subst (λ live. AreSatisfiedForGood live new.entries s.short s.satisfied) (sym alike.live) (for_good_on (live_from 0 s.watches.arena.heads) old new s.short s.satisfied grown it.for_good);
}

-- what holds of the store doesn't change by that
pub watch_store_passed : (s : WatchStoreState) (watches : WatchState) (progress : Progress) → LookAlike s.watches watches → IsWatchStore s → IsWatchStore (record s { watches = watches; progress = progress })
watch_store_passed s watches progress alike it = record {
  are_live = subst AreLive (sym (store_alike s watches progress alike)) it.are_live;
  few = subst (λ n. n ≤ MOST_CLAUSES) (sym alike.count) it.few;
  is_tail = subst (IsTail s.vars) (sym alike.tail) it.is_tail;
  there = λ k d within. subst (λ n. slice_index_or s.short k d < n) (sym alike.count) (it.there k d within);
  are_short = subst (λ live. AreShort live s.vars s.short) (sym alike.live) it.are_short;
  covered = λ c. ⊎_elim (λ two. inl (alike.watching c two)) (λ among. inr among) (it.covered c);
  vars_fit = it.vars_fit;
  settled = it.settled;
}

-- nothing is cut
pub cut_same : (t : TrailState) (level : ℕ) → IsTrail t → level ≡ t.current → t ≡ cut_to t level
cut_same t level kept same =
    ap (λ (n : ℕ). record { vars = t.vars; current = n; entries = t.entries }) (sym same)
    ∙ ap (λ (es : List Entry). record { vars = t.vars; current = level; entries = es }) (sym (cut_all t level kept (omega (arith, same))))

-- less was passed
pub passed_less : (heads : List HeadState) (es : List Entry) (old new : Progress) → new.passed ≤ old.passed → new.mark ≡ old.mark → ArePassed heads es old → ArePassed heads es new
passed_less heads es old new fewer mark passed c head w place entry found live watching before there is =
    let it = passed c head w place entry found live watching (omega (arith, before, fewer)) there is in
    record { at = it.at; entry = it.entry; found = it.found; is_true = it.is_true; in_time = ⊎_elim inl (λ marked. inr (subst (λ m. IsMarked m place) (sym mark) marked)) it.in_time }

-- a cut
pub tracks_cut : (s : WatchStoreState) (t : TrailState) (level : ℕ) (new : Progress) → IsTrail t → new.passed ≤ (cut_progress s.progress).passed → new.mark ≡ None → new.passed ≤ length (entries_up_to level t.entries)
    → Tracks s t → Tracks (record s { progress = new }) (cut_to t level)
tracks_cut s t level new kept fewer mark reach it =
    let was = it.propagating in
    record {
      vars = it.vars;
      propagating = record {
        lists = was.lists;
        threaded = was.threaded;
        listed = was.listed;
        passed = passed_less s.watches.arena.heads (entries_up_to level t.entries) (cut_progress s.progress) new fewer mark (passed_cut s.watches.arena.heads t level s.progress kept was.passed);
        fits = record { lists = was.fits.lists; within = was.fits.within };
        sound = IsSound-cut_to (live_from 0 s.watches.arena.heads) t level was.sound;
      };
      reach = reach;
      for_good = for_good_cut (live_from 0 s.watches.arena.heads) t.entries level s.short s.satisfied it.for_good;
    }

-- where a clause stands in a list that has it
pub has_place : (cs : List ℕ) (c : ℕ) → has cs c ≡ true → (k : ℕ) × ((k < length cs) × (slice_get cs k ≡ Some c))
has_place [] c among = absurd cc
has_place (d ∷ ds) c among = by_test (d == c) refl among (has_place ds c)
  where
    by_test : (b : Bool) → (d == c) ≡ b → (b || has ds c) ≡ true → (has ds c ≡ true → (k : ℕ) × ((k < length ds) × (slice_get ds k ≡ Some c))) → (k : ℕ) × ((k < length (d ∷ ds)) × (slice_get (d ∷ ds) k ≡ Some c))
    by_test true is _ _ = (0, (omega arith, ap Some (eqb-true d c is)))
    by_test false _ there later = let it = later there in (suc it.0, (omega (arith, it.1.0), it.1.1))

-- where all was passed and the clauses of one literal are satisfied, nothing is left to do
pub closed_all : (s : WatchStoreState) (t : TrailState) → ((c : ℕ) → WatchesTwo s.watches.arena.heads c ⊎ (has s.short c ≡ true)) → Tracks s t → length t.entries ≤ s.progress.passed
    → AreSatisfied (live_from 0 s.watches.arena.heads) t.entries s.short (length s.short) → IsClosed (live_from 0 s.watches.arena.heads) t
closed_all s t covered it all satisfied = closed_by_watches s.watches.arena.heads t s.progress each it.propagating.passed all
  where
    each : AreWatchingOrSettled s.watches.arena.heads t.entries
    each c head found live =
        ⊎_elim (λ watches. inl (watches head found)) (λ among.
        let at = has_place s.short c among in
        let numbered = subst (λ k. clause_numbered (live_from 0 s.watches.arena.heads) k ≡ Some (record { number = k; id = head.id; lits = set.from_list head.lits })) (zero-add c) (head_numbered 0 s.watches.arena.heads c head found live) in
        let one = satisfied at.0 c at.1.0 at.1.1 (record { number = c; id = head.id; lits = set.from_list head.lits }) numbered in
        inr (IsSettled.satisfied one.0 one.1.0 one.1.1)) (covered c)
