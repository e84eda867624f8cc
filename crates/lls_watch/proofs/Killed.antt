-- A store over watches of which a clause was taken out.
use Rattle.std.proofs.Common.{◌≡◌, ◌≤◌, ◌<◌, ◌+◌, zero, suc, ℕ, Bool, true, false, not, cond, List, [], ◌∷◌, Some, None, refl, sym, ap, ◌∙◌, subst, arith, length, zero-add, inl, inr, ⊎_elim}
use Rattle.std.specs.Prelude.{◌≢◌, ◌==◌, slice_get, slice_index_or}
use Rattle.std.specs.FinSet as set
use Rattle.std.proofs.Math.Dec.{eqb}
use Rattle.std.proofs.lemmas.Bool.{eq-eqb, eqb-true, eqb-false}
use Rattle.lls_store.specs.Trail.{TrailState}
use Rattle.lls_store.specs.Clauses.{LiveClause, clause_numbered}
use Rattle.lls_store.specs.Removal.{IsNoReason, all_but, without_clause}
use Rattle.lls_store.specs.Sound.{IsSound}
use Rattle.lls_store.specs.Store.{AreLive}
use Rattle.lls_store.specs.declared.store.TheConstants.{MOST_CLAUSES}
use Rattle.lls_store.proofs.Removing.{AreLive-without, IsSound-without}
use Rattle.lls_arena.specs.Arena.{HeadState, changed_at, killed}
use Rattle.lls_watch.specs.Watches.{WatchState, Lists, IsThreaded, IsWatching}
use Rattle.lls_watch.specs.Passed.{live_from}
use Rattle.lls_watch.specs.Propagating.{WatchesTwo}
use Rattle.lls_watch.specs.WatchStore.{IsWatchStore, Tracks, WatchStoreState, store_in}
use Rattle.lls_watch.proofs.Changed.{IsChanged, changed_found, killed_keeps, passed_killed}
use Rattle.lls_watch.proofs.Led.{length_changed, lits_changed}
use Rattle.lls_watch.proofs.Listed.{listed_changed}

-- the watches without that clause
abbrev pub with_killed : WatchState → ℕ → WatchState
with_killed state c = record state { arena = record state.arena { heads = changed_at killed c state.arena.heads; planned = false } }

-- what is numbered higher isn't taken out
all_but_higher : (n : ℕ) (heads : List HeadState) (k : ℕ) → k < n → all_but (live_from n heads) k ≡ live_from n heads
all_but_higher n [] k below = refl
all_but_higher n (h ∷ hs) k below = by_live h.live (all_but_higher (suc n) hs k (omega (arith, below)))
  where
    first : LiveClause
    first = record { number = n; id = h.id; lits = set.from_list h.lits }

    apart : (n == k) ≡ false
    apart =
        elim (eqb n k) as (λ b. eqb n k ≡ b → b ≡ false) [
          | true ↦ λ is. absurd (omega (arith, eqb-true n k is, below))
          | false ↦ λ _. refl
        ] refl

    by_live : (b : Bool) → all_but (live_from (suc n) hs) k ≡ live_from (suc n) hs → all_but (cond b (first ∷ live_from (suc n) hs) (live_from (suc n) hs)) k ≡ cond b (first ∷ live_from (suc n) hs) (live_from (suc n) hs)
    by_live false later = later
    by_live true later = ap (λ b. cond (not b) (first ∷ all_but (live_from (suc n) hs) k) (all_but (live_from (suc n) hs) k)) apart ∙ ap (λ ls. first ∷ ls) later

-- the store has the others
pub live_killed : (n : ℕ) (heads : List HeadState) (c : ℕ) → live_from n (changed_at killed c heads) ≡ all_but (live_from n heads) (n + c)
live_killed n [] c = refl
live_killed n (h ∷ hs) zero = by_live h.live
  where
    first : LiveClause
    first = record { number = n; id = h.id; lits = set.from_list h.lits }

    same : n + zero ≡ n
    same = omega arith

    rest : all_but (live_from (suc n) hs) (n + zero) ≡ live_from (suc n) hs
    rest = all_but_higher (suc n) hs (n + zero) (omega arith)

    by_live : (b : Bool) → live_from (suc n) hs ≡ all_but (cond b (first ∷ live_from (suc n) hs) (live_from (suc n) hs)) (n + zero)
    by_live false = sym rest
    by_live true = sym (ap (λ b. cond (not b) (first ∷ all_but (live_from (suc n) hs) (n + zero)) (all_but (live_from (suc n) hs) (n + zero))) (eq-eqb n (n + zero) (sym same)) ∙ rest)
live_killed n (h ∷ hs) (suc c) = by_live h.live (live_killed (suc n) hs c)
  where
    first : LiveClause
    first = record { number = n; id = h.id; lits = set.from_list h.lits }

    more : suc n + c ≡ n + suc c
    more = omega arith

    apart : (n == (n + suc c)) ≡ false
    apart =
        elim (eqb n (n + suc c)) as (λ b. eqb n (n + suc c) ≡ b → b ≡ false) [
          | true ↦ λ is. absurd (omega (arith, eqb-true n (n + suc c) is))
          | false ↦ λ _. refl
        ] refl

    by_live : (b : Bool) → live_from (suc n) (changed_at killed c hs) ≡ all_but (live_from (suc n) hs) (suc n + c)
        → cond b (first ∷ live_from (suc n) (changed_at killed c hs)) (live_from (suc n) (changed_at killed c hs)) ≡ all_but (cond b (first ∷ live_from (suc n) hs) (live_from (suc n) hs)) (n + suc c)
    by_live false later = later ∙ ap (all_but (live_from (suc n) hs)) more
    by_live true later =
        ap (λ ls. first ∷ ls) (later ∙ ap (all_but (live_from (suc n) hs)) more)
        ∙ sym (ap (λ b. cond (not b) (first ∷ all_but (live_from (suc n) hs) (n + suc c)) (all_but (live_from (suc n) hs) (n + suc c))) apart)

-- the clause that was taken out isn't found, and each other one is as before
none_but : (live : List LiveClause) (c : ℕ) → clause_numbered (all_but live c) c ≡ None
none_but [] c = refl
none_but (x ∷ xs) c = by_test (eqb x.number c) refl (none_but xs c)
  where
    by_test : (b : Bool) → eqb x.number c ≡ b → clause_numbered (all_but xs c) c ≡ None → clause_numbered (cond (not b) (x ∷ all_but xs c) (all_but xs c)) c ≡ None
    by_test true _ later = later
    by_test false isnt later = ap (λ b. cond b (Some x) (clause_numbered (all_but xs c) c)) isnt ∙ later

pub numbered_but : (live : List LiveClause) (c k : ℕ) (clause : LiveClause) → clause_numbered (all_but live c) k ≡ Some clause → clause_numbered live k ≡ Some clause
numbered_but live c k clause found =
    elim (eqb k c) as (λ b. eqb k c ≡ b → clause_numbered live k ≡ Some clause) [
      | true ↦ λ is.
          let none : None ≡ Some clause = sym (none_but live c) ∙ ap (clause_numbered (all_but live c)) (sym (eqb-true k c is)) ∙ found in
          absurd cc
      | false ↦ λ isnt. sym (other live (eqb-false k c isnt)) ∙ found
    ] refl
  where
    other : (ls : List LiveClause) → k ≢ c → clause_numbered (all_but ls c) k ≡ clause_numbered ls k
    other [] differ = refl
    other (x ∷ xs) differ = by_test (eqb x.number c) refl (other xs differ)
      where
        by_test : (b : Bool) → eqb x.number c ≡ b → clause_numbered (all_but xs c) k ≡ clause_numbered xs k
            → clause_numbered (cond (not b) (x ∷ all_but xs c) (all_but xs c)) k ≡ cond (eqb x.number k) (Some x) (clause_numbered xs k)
        by_test false _ later = ap (cond (eqb x.number k) (Some x)) later
        by_test true is later =
            later ∙ sym (ap (λ b. cond b (Some x) (clause_numbered xs k)) (not_it (eqb x.number k) refl))
          where
            not_it : (b : Bool) → eqb x.number k ≡ b → b ≡ false
            not_it true same = absurd (differ (sym (eqb-true x.number k same) ∙ eqb-true x.number c is))
            not_it false _ = refl

-- it fits the trail that it fitted
pub tracks_killed : (s : WatchStoreState) (t : TrailState) (c : ℕ) → IsNoReason t.entries c → ((lists : Lists) → IsThreaded s.watches lists → IsThreaded (with_killed s.watches c) lists) → Tracks s t
    → Tracks (record s { watches = with_killed s.watches c }) t
tracks_killed s t c no_reason threads it =
    let heads = s.watches.arena.heads in
    let was = it.propagating in
    let live = live_killed 0 heads c ∙ ap (all_but (live_from 0 heads)) (zero-add c) in
    record {
      vars = it.vars;
      propagating = record {
        lists = was.lists;
        threaded = threads was.lists was.threaded;
        listed = listed_changed killed c heads was.lists killed_keeps was.listed;
        passed = passed_killed c heads t.entries s.progress was.passed;
        fits = record { lists = was.fits.lists; within = λ k lits found. was.fits.within k lits (sym (ap (λ all. slice_get all k) (lits_changed killed c heads killed_keeps.lits)) ∙ found) };
        sound = subst (λ l. IsSound l t) (sym live) (IsSound-without (live_from 0 heads) c t no_reason was.sound);
      };
      reach = it.reach;
      for_good = λ k d below found clause is. it.for_good k d below found clause (numbered_but (live_from 0 heads) c d clause (sym (ap (λ l. clause_numbered l d) live) ∙ is));
    }

pub store_killed : (s : WatchStoreState) (c : ℕ) → store_in (record s { watches = with_killed s.watches c }) ≡ without_clause (store_in s) c
store_killed s c =
    let heads = s.watches.arena.heads in
    ap (λ (n : ℕ). record { vars = s.vars; count = n; live = live_from 0 (changed_at killed c heads); tail = s.watches.arena.tail }) (length_changed killed c heads)
    ∙ ap (λ (l : List LiveClause). record { vars = s.vars; count = length heads; live = l; tail = s.watches.arena.tail }) (live_killed 0 heads c ∙ ap (all_but (live_from 0 heads)) (zero-add c))

pub watch_store_killed : (s : WatchStoreState) (c : ℕ) → IsWatchStore s → IsWatchStore (record s { watches = with_killed s.watches c })
watch_store_killed s c it =
    let heads = s.watches.arena.heads in
    let live = live_killed 0 heads c ∙ ap (all_but (live_from 0 heads)) (zero-add c) in
    record {
      are_live = subst AreLive (sym (store_killed s c)) (AreLive-without (store_in s) c it.are_live);
      few = subst (λ n. n ≤ MOST_CLAUSES) (sym (length_changed killed c heads)) it.few;
      is_tail = it.is_tail;
      there = λ k d within. subst (λ n. slice_index_or s.short k d < n) (sym (length_changed killed c heads)) (it.there k d within);
      are_short = λ k d within clause is. it.are_short k d within clause (numbered_but (live_from 0 heads) c (slice_index_or s.short k d) clause (sym (ap (λ l. clause_numbered l (slice_index_or s.short k d)) live) ∙ is));
      covered = λ k. ⊎_elim (λ two. inl (still k two)) (λ among. inr among) (it.covered k);
      vars_fit = it.vars_fit;
      settled = it.settled;
    }
  where
    still : (k : ℕ) → WatchesTwo s.watches.arena.heads k → WatchesTwo (changed_at killed c s.watches.arena.heads) k
    still k two head found = by_clause (changed_found killed c s.watches.arena.heads k head found)
      where
        kept : (g : HeadState) → IsWatching g → IsWatching (killed g)
        kept g it = record { long = it.long; differ = it.differ }

        by_clause : IsChanged killed c s.watches.arena.heads k head → IsWatching head
        by_clause (IsChanged.same g e was to) = subst IsWatching to (kept g (two g was))
        by_clause (IsChanged.other differ was) = two head was
