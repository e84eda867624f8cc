-- A store over watches of which a clause was sealed.
use Rattle.std.proofs.Common.{◌≡◌, ◌≤◌, ◌<◌, ◌+◌, zero, suc, ℕ, ℤ, Bool, true, false, ◌||◌, List, [], ◌∷◌, ◌++◌, Some, refl, sym, ap, ◌∙◌, subst, arith, length, ◌⊎◌, inl, inr, ⊎_elim}
use Rattle.std.specs.Prelude.{◌≢◌, All, nat_lt, slice_get, slice_index_or}
use Rattle.std.specs.FinSet as set
use Rattle.std.proofs.Math.Dec.{eqb}
use Rattle.std.proofs.lemmas.Bool.{eqb-true, eqb-false}
use Rattle.std.proofs.lemmas.Bool.Decides.{nat_tests}
use Rattle.std.proofs.lemmas.List.{length_push}
use Rattle.std.proofs.lemmas.Option.{slice_get_within}
use Rattle.lls_lit.specs.Formula.{is_within}
use Rattle.lls_store.specs.declared.store.TheConstants.{MOST_CLAUSES}
use Rattle.lls_store.specs.Trail.{TrailState}
use Rattle.lls_store.specs.Clauses.{LiveClause, clause_numbered}
use Rattle.lls_store.specs.Store.{AreLive, IsNewId, with_clause}
use Rattle.lls_store.proofs.Live.{AreLive-with_clause}
use Rattle.lls_store.proofs.Sets.{AreWithin-from_list}
use Rattle.lls_store.proofs.Tails.{IsTail-empty}
use Rattle.lls_store.specs.Scan.{IsTail}
use Rattle.lls_watch.specs.declared.progress.Progress.{Progress}
use Rattle.lls_watch.specs.Watches.{WatchState, has}
use Rattle.lls_watch.specs.Passed.{live_from}
use Rattle.lls_watch.specs.Propagating.{ArePropagating, WatchesTwo}
use Rattle.lls_watch.specs.Sealed.{HasSealed, IsPut}
use Rattle.lls_watch.specs.Short.{HasOneAtMost, IsShort}
use Rattle.lls_watch.specs.WatchStore.{IsWatchStore, Tracks, WatchStoreState, store_in}
use Rattle.lls_watch.proofs.Chains.{has_append, has_first}
use Rattle.lls_watch.proofs.Grown.{numbered_front, numbered_last}
use Rattle.lls_watch.proofs.Visited.{none_behind}

-- the store with the clause at its tail live
abbrev pub sealed_store : WatchStoreState → WatchState → Progress → List ℕ → ℕ → WatchStoreState
sealed_store s new progress longer room = record s { watches = new; progress = progress; short = longer; short_room = room }

-- watches with another clause at the tail, and other room
abbrev pub with_tail : WatchState → List ℤ → ℕ → ℕ → WatchState
with_tail state lits heads_left lits_left = record state { arena = record state.arena { tail = lits; spare_heads = heads_left; spare_lits = lits_left } }

pub store_sealed : (s : WatchStoreState) (lits : List ℤ) (heads_left lits_left id : ℕ) (new : WatchState) (progress : Progress) (longer : List ℕ) (room : ℕ) → HasSealed s.vars (with_tail s.watches lits heads_left lits_left) s.short id new longer
    → store_in (sealed_store s new progress longer room) ≡ record (with_clause (store_in s) id lits) { tail = [] }
store_sealed s lits heads_left lits_left id new progress longer room it =
    let heads = s.watches.arena.heads in
    let live = live_from 0 heads ++ record { number = length heads; id = id; lits = set.from_list lits } ∷ [] in
    ap (λ (n : ℕ). record { vars = s.vars; count = n; live = live_from 0 new.arena.heads; tail = new.arena.tail }) it.count
    ∙ ap (λ (l : List LiveClause). record { vars = s.vars; count = length heads + 1; live = l; tail = new.arena.tail }) it.live
    ∙ ap (λ (tail : List ℤ). record { vars = s.vars; count = length heads + 1; live = live; tail = tail }) it.tail

-- the clauses of one literal that there were, in front
front_of : (vars : ℕ) (old : WatchState) (short : List ℕ) (new : WatchState) (longer : List ℕ) → IsPut vars old short new longer → (k c : ℕ) → k < length short → slice_get longer k ≡ Some c → slice_get short k ≡ Some c
front_of vars old short new longer put k c within found =
    ⊎_elim (λ it. sym (ap (λ cs. slice_get cs k) it.1) ∙ found) (λ it. in_front short k (length old.arena.heads ∷ []) within (sym (ap (λ cs. slice_get cs k) it.1) ∙ found)) put
  where
    in_front : (xs : List ℕ) (k : ℕ) (more : List ℕ) → k < length xs → slice_get (xs ++ more) k ≡ Some c → slice_get xs k ≡ Some c
    in_front [] k more within found = absurd (omega (arith, within))
    in_front (x ∷ xs) zero more within found = found
    in_front (x ∷ xs) (suc k) more within found = in_front xs k more (omega (arith, within)) found

-- their numbers were given before
number_there : (s : WatchStoreState) → IsWatchStore s → (k c : ℕ) → slice_get s.short k ≡ Some c → c < length s.watches.arena.heads
number_there s store k c found =
    let within = slice_get_within s.short k c found in
    subst (λ n. n < length s.watches.arena.heads) (read s.short k found) (store.there k 0 within)
  where
    read : (xs : List ℕ) (k : ℕ) → slice_get xs k ≡ Some c → slice_index_or xs k 0 ≡ c
    read [] k found = absurd cc
    read (x ∷ xs) zero found = cc
    read (x ∷ xs) (suc k) found = read xs k found

pub tracks_sealed : (s : WatchStoreState) (t : TrailState) (lits : List ℤ) (heads_left lits_left id : ℕ) (new : WatchState) (progress : Progress) (longer : List ℕ) (room : ℕ) → HasSealed s.vars (with_tail s.watches lits heads_left lits_left) s.short id new longer
    → ArePropagating new t progress → progress.passed ≤ length t.entries → IsWatchStore s → Tracks s t → Tracks (sealed_store s new progress longer room) t
tracks_sealed s t lits heads_left lits_left id new progress longer room it propagating reach store tracks = record {
  vars = tracks.vars;
  propagating = propagating;
  reach = reach;
  for_good = λ k c below found clause live.
      let was = front_of s.vars (with_tail s.watches lits heads_left lits_left) s.short new longer it.put k c (omega (arith, below, store.settled)) found in
      let given = number_there s store k c was in
      let before = sym (numbered_front (live_from 0 s.watches.arena.heads) (record { number = length s.watches.arena.heads; id = id; lits = set.from_list lits }) c (λ e. absurd (omega (arith, e, given))))
      ∙ sym (ap (λ l. clause_numbered l c) it.live) ∙ live in
      tracks.for_good k c below was clause before;
}

pub watch_store_sealed : (s : WatchStoreState) (lits : List ℤ) (heads_left lits_left id : ℕ) (new : WatchState) (progress : Progress) (longer : List ℕ) (room : ℕ) → HasSealed s.vars (with_tail s.watches lits heads_left lits_left) s.short id new longer
    → IsNewId (live_from 0 s.watches.arena.heads) id → length s.watches.arena.heads < MOST_CLAUSES → is_within s.vars lits ≡ true → IsWatchStore s → IsWatchStore (sealed_store s new progress longer room)
watch_store_sealed s lits heads_left lits_left id new progress longer room it new_id few within store =
    let heads = s.watches.arena.heads in
    let more = AreLive-with_clause (store_in s) id lits store.are_live new_id (AreWithin-from_list s.vars lits within) in
    let live : AreLive (record (with_clause (store_in s) id lits) { tail = [] }) = record { ids = more.ids; numbers = more.numbers; given = more.given; ids_fit = more.ids_fit; within = more.within } in
    record {
      are_live = subst AreLive (sym (store_sealed s lits heads_left lits_left id new progress longer room it)) live;
      few = omega (arith, it.count, few);
      is_tail = subst (IsTail s.vars) (sym it.tail) (IsTail-empty s.vars);
      there = there;
      are_short = shorts;
      covered = covered;
      vars_fit = store.vars_fit;
      settled = ⊎_elim (λ put. omega (arith, ap length put.1, store.settled)) (λ put. omega (arith, ap length put.1, length_push s.short (length heads), store.settled)) it.put;
    }
  where
    clause : LiveClause
    clause = record { number = length s.watches.arena.heads; id = id; lits = set.from_list lits }

    each : (P : ℕ → Type 0) → ((k d : ℕ) → k < length s.short → P (slice_index_or s.short k d)) → (HasOneAtMost s.vars (set.from_list lits) → P (length s.watches.arena.heads))
        → (k d : ℕ) → k < length longer → P (slice_index_or longer k d)
    each P old last k d within =
        ⊎_elim (λ put. subst (λ cs. P (slice_index_or cs k d)) (sym put.1) (old k d (omega (arith, within, ap length put.1))))
        (λ put. subst (λ cs. P (slice_index_or cs k d)) (sym put.1) (in_push s.short old (last put.0) k (omega (arith, within, ap length put.1)))) it.put
      where
        in_push : (xs : List ℕ) → ((k d : ℕ) → k < length xs → P (slice_index_or xs k d)) → P (length s.watches.arena.heads) → (k : ℕ) → k < length (xs ++ length s.watches.arena.heads ∷ []) → P (slice_index_or (xs ++ length s.watches.arena.heads ∷ []) k d)
        in_push [] all end zero within = end
        in_push [] all end (suc k) within = absurd (omega (arith, within))
        in_push (x ∷ xs) all end zero within = all zero d (omega arith)
        in_push (x ∷ xs) all end (suc k) within = in_push xs (λ j e below. all (suc j) e (omega (arith, below))) end k (omega (arith, within))

    there : All (λ c. c < length new.arena.heads) longer
    there = each (λ c. c < length new.arena.heads) (λ k d within. omega (arith, it.count, store.there k d within)) (λ _. omega (arith, it.count))

    same_clause : (a b : LiveClause) → Some a ≡ Some b → a ≡ b
    same_clause a b e = cc

    shorts : (k d : ℕ) → k < length longer → IsShort (live_from 0 new.arena.heads) s.vars (slice_index_or longer k d)
    shorts = each (IsShort (live_from 0 new.arena.heads) s.vars)
        (λ k d within found_clause live.
        let given = store.there k d within in
        store.are_short k d within found_clause
        (sym (numbered_front (live_from 0 s.watches.arena.heads) clause (slice_index_or s.short k d) (λ e. absurd (omega (arith, e, given)))) ∙ sym (ap (λ l. clause_numbered l (slice_index_or s.short k d)) it.live) ∙ live))
        (λ one found_clause live.
        let last : clause_numbered (live_from 0 s.watches.arena.heads ++ clause ∷ []) (length s.watches.arena.heads) ≡ Some clause = last_numbered in
        subst (λ (x : LiveClause). HasOneAtMost s.vars x.lits) (same_clause clause found_clause (sym last ∙ sym (ap (λ l. clause_numbered l (length s.watches.arena.heads)) it.live) ∙ live)) one)
      where
        last_numbered : clause_numbered (live_from 0 s.watches.arena.heads ++ clause ∷ []) (length s.watches.arena.heads) ≡ Some clause
        last_numbered = numbered_last (live_from 0 s.watches.arena.heads) clause (none_behind 0 (length s.watches.arena.heads) s.watches.arena.heads (omega arith))

    covered : (c : ℕ) → WatchesTwo new.arena.heads c ⊎ (has longer c ≡ true)
    covered c = by_test (nat_lt c (length s.watches.arena.heads)) refl
      where
        among : (cs more : List ℕ) → has cs c ≡ true → has (cs ++ more) c ≡ true
        among cs more is = has_append cs more c ∙ first (has cs c) (has more c) is
          where
            first : (a b : Bool) → a ≡ true → (a || b) ≡ true
            first true b e = refl
            first false b e = absurd cc

        kept : has s.short c ≡ true → has longer c ≡ true
        kept is = ⊎_elim (λ put. ap (λ cs. has cs c) put.1 ∙ is) (λ put. ap (λ cs. has cs c) put.1 ∙ among s.short (length s.watches.arena.heads ∷ []) is) it.put

        last : c ≡ length s.watches.arena.heads → WatchesTwo new.arena.heads c ⊎ (has longer c ≡ true)
        last e = ⊎_elim (λ put. inl (subst (WatchesTwo new.arena.heads) (sym e) put.0))
            (λ put. inr (ap (has longer) e ∙ ap (λ cs. has cs (length s.watches.arena.heads)) put.1 ∙ has_append s.short (length s.watches.arena.heads ∷ []) (length s.watches.arena.heads)
            ∙ second (has s.short (length s.watches.arena.heads)) (has_first (length s.watches.arena.heads) []))) it.put
          where
            second : (a : Bool) {b : Bool} → b ≡ true → (a || b) ≡ true
            second true e = refl
            second false e = e

        behind : length s.watches.arena.heads < c → WatchesTwo new.arena.heads c
        behind far head found = absurd (omega (arith, far, it.count, slice_get_within new.arena.heads c head found))

        by_test : (b : Bool) → nat_lt c (length s.watches.arena.heads) ≡ b → WatchesTwo new.arena.heads c ⊎ (has longer c ≡ true)
        by_test true lower =
            let below : c < length s.watches.arena.heads = grind (arith, nat_tests, lower) in
            ⊎_elim (λ two. inl (it.watching c below two)) (λ is. inr (kept is)) (store.covered c)
        by_test false upper =
            elim (eqb c (length s.watches.arena.heads)) as (λ b. eqb c (length s.watches.arena.heads) ≡ b → WatchesTwo new.arena.heads c ⊎ (has longer c ≡ true)) [
              | true ↦ λ is. last (eqb-true c (length s.watches.arena.heads) is)
              | false ↦ λ isnt.
                  let differ : c ≢ length s.watches.arena.heads = eqb-false c (length s.watches.arena.heads) isnt in
                  inl (behind (grind (arith, nat_tests, upper, differ)))
            ] refl
