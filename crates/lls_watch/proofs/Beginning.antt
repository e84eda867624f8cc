-- What a clause that is sealed makes of watches: it begins to watch, or is one of those of one literal.
use Rattle.std.proofs.Common.{◌≡◌, ◌≤◌, ◌<◌, ◌+◌, ℕ, ℤ, pos, Bool, true, false, List, [], ◌∷◌, ◌++◌, Option, Some, None, refl, sym, ap, ◌∙◌, subst, arith, length, zero-add, inl, inr}
use Rattle.std.specs.Prelude.{◌≢◌, slice_get, slice_index_or, slice_set}
use Rattle.std.specs.FinSet as set
use Rattle.std.proofs.lemmas.List.{length-set, length_push}
use Rattle.std.proofs.lemmas.List.Elements.{Contains-get_or}
use Rattle.lls_lit.specs.Literal.{index_of, negation}
use Rattle.lls_lit.specs.Formula.{is_within}
use Rattle.lls_store.specs.Trail.{Entry, TrailState}
use Rattle.lls_store.specs.Clauses.{IsIn}
use Rattle.lls_store.specs.Sound.{IsSound}
use Rattle.lls_store.proofs.Sets.{AreWithin-from_list, IsIn-from_Contains}
use Rattle.lls_store.proofs.SoundChanges.{IsSound-push}
use Rattle.lls_arena.specs.Arena.{HeadState, changed_at, sealed, swapped, with_link}
use Rattle.lls_watch.specs.declared.progress.Progress.{Progress}
use Rattle.lls_watch.specs.Watches.{WatchState, Lists, CanBegin, IsInNone, IsThreaded, IsWatching, attached, begun, has, list_of, swapped_at, watched, with_attached, with_begun}
use Rattle.lls_watch.specs.Passed.{live_from}
use Rattle.lls_watch.specs.Propagating.{ArePropagating, WatchesTwo}
use Rattle.lls_watch.specs.Sealed.{HasSealed}
use Rattle.lls_watch.proofs.Begun.{IsExchanged, attached_has, begun_second, exchanged, first_list, has_attached, has_begun, second_list}
use Rattle.lls_watch.proofs.Led.{length_changed}
use Rattle.lls_watch.proofs.Grown.{HasOneMore, listed_one_more, live_one_more, one_more, one_more_changed, passed_one_more, unlisted_new, watching_one_more, within_one_more}
use Rattle.lls_watch.proofs.OnItsWay.{within_swapped}
use Rattle.lls_watch.proofs.Stays.{live_from_linked, live_from_swapped}

-- the watches once the tail is a clause in no list
abbrev pub with_sealed : WatchState → ℕ → WatchState
with_sealed state id = record state { arena = sealed state.arena id }

abbrev pub new_head : WatchState → ℕ → HeadState
new_head state id = record { id = id; live = true; lits = state.arena.tail; first = None; second = None }

-- the links that it gets
abbrev first_link : WatchState → ℕ → ℕ → ℕ → Option ℕ
first_link state id c n = slice_index_or state.first (list_of (swapped_at (with_sealed state id) c true n) c false) None

abbrev second_link : WatchState → ℕ → ℕ → ℕ → Option ℕ
second_link state id c n =
    let mid = attached c false (swapped_at (with_sealed state id) c true n) in
    slice_index_or mid.first (list_of mid c true) None

-- the clause in the end
abbrev pub last_head : WatchState → ℕ → ℕ → ℕ → HeadState
last_head state id c n = with_link true (second_link state id c n) (with_link false (first_link state id c n) (swapped 1 n (new_head state id)))

pub begun_one_more : (state : WatchState) (id n : ℕ) → HasOneMore state.arena.heads (begun (length state.arena.heads) n (with_sealed state id)).arena.heads (last_head state id (length state.arena.heads) n)
begun_one_more state id n =
    let heads = state.arena.heads in
    let c = length heads in
    let h = new_head state id in
    let sealed_heads = heads ++ h ∷ [] in
    one_more_changed (with_link true (second_link state id c n)) heads (changed_at (with_link false (first_link state id c n)) c (changed_at (swapped 1 n) c sealed_heads)) (with_link false (first_link state id c n) (swapped 1 n h))
    (one_more_changed (with_link false (first_link state id c n)) heads (changed_at (swapped 1 n) c sealed_heads) (swapped 1 n h)
    (one_more_changed (swapped 1 n) heads sealed_heads h (one_more heads h)))

-- a store sees one clause more
pub begun_live : (state : WatchState) (id n : ℕ) → 1 < length state.arena.tail → n < length state.arena.tail
    → live_from 0 (begun (length state.arena.heads) n (with_sealed state id)).arena.heads ≡ live_from 0 state.arena.heads ++ record { number = length state.arena.heads; id = id; lits = set.from_list state.arena.tail } ∷ []
begun_live state id n long inside =
    let heads = state.arena.heads in
    let c = length heads in
    let h = new_head state id in
    let sealed_heads = heads ++ h ∷ [] in
    let swapped_heads = changed_at (swapped 1 n) c sealed_heads in
    live_from_linked true (second_link state id c n) c 0 (changed_at (with_link false (first_link state id c n)) c swapped_heads)
    ∙ live_from_linked false (first_link state id c n) c 0 swapped_heads
    ∙ live_from_swapped 1 n c 0 sealed_heads bounds
    ∙ sealed_live state id
  where
    some_same : (a b : HeadState) → Some a ≡ Some b → a ≡ b
    some_same a b e = cc

    bounds : (x : HeadState) → slice_get (state.arena.heads ++ new_head state id ∷ []) (length state.arena.heads) ≡ Some x → (1 < length x.lits) × (n < length x.lits)
    bounds x found =
        let same = some_same (new_head state id) x (sym (one_more state.arena.heads (new_head state id)).last ∙ found) in
        (subst (λ (g : HeadState). 1 < length g.lits) same long, subst (λ (g : HeadState). n < length g.lits) same inside)

    sealed_live : (state : WatchState) (id : ℕ) → live_from 0 (state.arena.heads ++ new_head state id ∷ []) ≡ live_from 0 state.arena.heads ++ record { number = length state.arena.heads; id = id; lits = set.from_list state.arena.tail } ∷ []
    sealed_live state id =
        live_one_more 0 state.arena.heads (new_head state id) refl
        ∙ ap (λ (k : ℕ). live_from 0 state.arena.heads ++ record { number = k; id = id; lits = set.from_list state.arena.tail } ∷ []) (zero-add (length state.arena.heads))

-- it watches two literals
pub begun_watching : (state : WatchState) (id n : ℕ) → CanBegin (with_sealed state id) (length state.arena.heads) n → IsWatching (last_head state id (length state.arena.heads) n)
begun_watching state id n can =
    let at = begun_second (with_sealed state id) (length state.arena.heads) n can in
    let it = exchanged n (new_head state id) can.behind (inside can) (differ can) in
    record { long = it.watching.long; differ = it.watching.differ }
  where
    some_same : (a b : HeadState) → Some a ≡ Some b → a ≡ b
    some_same a b e = cc

    same : (can : CanBegin (with_sealed state id) (length state.arena.heads) n) → can.head ≡ new_head state id
    same can = some_same can.head (new_head state id) (sym can.is_head ∙ (one_more state.arena.heads (new_head state id)).last)

    inside : (can : CanBegin (with_sealed state id) (length state.arena.heads) n) → n < length state.arena.tail
    inside can = subst (λ (g : HeadState). n < length g.lits) (same can) can.inside

    differ : (can : CanBegin (with_sealed state id) (length state.arena.heads) n) → slice_index_or state.arena.tail n (pos 0) ≢ slice_index_or state.arena.tail 0 (pos 0)
    differ can = subst (λ (g : HeadState). slice_index_or g.lits n (pos 0) ≢ slice_index_or g.lits 0 (pos 0)) (same can) can.differ

-- what propagation needs stays
pub begun_propagating : (state : WatchState) (id n : ℕ) (t : TrailState) (old new : Progress) → ArePropagating state t old → is_within t.vars state.arena.tail ≡ true
    → CanBegin (with_sealed state id) (length state.arena.heads) n → 1 < length state.arena.tail → n < length state.arena.tail → new.passed ≤ old.passed → new.mark ≡ old.mark
    → ((w : Bool) (place : ℕ) (entry : Entry) → place < new.passed → slice_get t.entries place ≡ Some entry → entry.lit ≢ negation (watched w (last_head state id (length state.arena.heads) n)))
    → ((lists : Lists) → IsThreaded (with_sealed state id) lists → IsInNone lists (with_sealed state id) (length state.arena.heads)
    → IsThreaded (begun (length state.arena.heads) n (with_sealed state id)) (with_begun lists (with_sealed state id) (length state.arena.heads) n))
    → ((lists : Lists) → IsThreaded state lists → IsThreaded (with_sealed state id) lists)
    → ArePropagating (begun (length state.arena.heads) n (with_sealed state id)) t new
begun_propagating state id n t old new ready within can long inside fewer mark apart begins seals =
    let heads = state.arena.heads in
    let c = length heads in
    let mid = with_sealed state id in
    let last = last_head state id c n in
    let more = begun_one_more state id n in
    let others = with_begun ready.lists mid c n in
    let live = begun_live state id n long inside in
    record {
      lists = others;
      threaded = begins ready.lists (seals ready.lists ready.threaded) (unlisted_new state ready.lists ready.threaded);
      listed =
          listed_one_more heads (begun c n mid).arena.heads last ready.lists others more (has_begun ready.lists mid c n)
          (λ _ w. in_both w) ready.listed;
      passed = passed_one_more heads (begun c n mid).arena.heads last t.entries old new more fewer mark (λ w place entry _. apart w place entry) ready.passed;
      fits = record {
        lists = length-set (slice_set state.first (list_of (swapped_at mid c true n) c false) (Some c)) (list_of (attached c false (swapped_at mid c true n)) c true) (Some c)
            ∙ length-set state.first (list_of (swapped_at mid c true n) c false) (Some c) ∙ ready.fits.lists;
        within = within_one_more t.vars heads (begun c n mid).arena.heads last more (within_swapped t.vars state.arena.tail 1 n long inside within) ready.fits.within;
      };
      sound = subst (λ l. IsSound l t) (sym live) (IsSound-push (live_from 0 heads) (record { number = c; id = id; lits = set.from_list state.arena.tail }) t ready.sound);
    }
  where
    c : ℕ
    c = length state.arena.heads

    mid : WatchState
    mid = with_sealed state id

    both : Lists
    both = with_attached ready.lists (swapped_at mid c true n) c false

    it : IsExchanged n can.head
    it = exchanged n can.head can.behind can.inside can.differ

    some_same : (a b : HeadState) → Some a ≡ Some b → a ≡ b
    some_same a b e = cc

    same : can.head ≡ new_head state id
    same = some_same can.head (new_head state id) (sym can.is_head ∙ (one_more state.arena.heads (new_head state id)).last)

    first_is : index_of (watched false (last_head state id c n)) ≡ list_of (swapped_at mid c true n) c false
    first_is = ap (λ (g : HeadState). index_of (watched false (swapped 1 n g))) (sym same) ∙ ap index_of it.first ∙ sym (first_list mid c n can)

    second_is : index_of (watched true (last_head state id c n)) ≡ list_of (attached c false (swapped_at mid c true n)) c true
    second_is = ap (λ (g : HeadState). index_of (watched true (swapped 1 n g))) (sym same) ∙ ap index_of it.second ∙ sym (second_list mid c n can)

    in_both : (w : Bool) → has (with_begun ready.lists mid c n (index_of (watched w (last_head state id c n)))) c ≡ true
    in_both false =
        ap (λ i. has (with_begun ready.lists mid c n i) c) first_is
        ∙ has_attached both (attached c false (swapped_at mid c true n)) c true (list_of (swapped_at mid c true n) c false) c (attached_has ready.lists (swapped_at mid c true n) c false)
    in_both true = ap (λ i. has (with_begun ready.lists mid c n i) c) second_is ∙ attached_has both (attached c false (swapped_at mid c true n)) c true

-- what was sealed so
pub begun_sealed : (vars : ℕ) (state : WatchState) (short : List ℕ) (id n : ℕ) → CanBegin (with_sealed state id) (length state.arena.heads) n → 1 < length state.arena.tail → n < length state.arena.tail
    → HasSealed vars state short id (begun (length state.arena.heads) n (with_sealed state id)) short
begun_sealed vars state short id n can long inside =
    let heads = state.arena.heads in
    let c = length heads in
    let more = begun_one_more state id n in
    record {
      count = begun_count;
      live = begun_live state id n long inside;
      tail = refl;
      spare_heads = refl;
      spare_lits = refl;
      watching = watching_one_more heads (begun c n (with_sealed state id)).arena.heads (last_head state id c n) more;
      put = inl (two, refl);
    }
  where
    begun_count : length (begun (length state.arena.heads) n (with_sealed state id)).arena.heads ≡ length state.arena.heads + 1
    begun_count =
        let c = length state.arena.heads in
        let sealed_heads = state.arena.heads ++ new_head state id ∷ [] in
        length_changed (with_link true (second_link state id c n)) c (changed_at (with_link false (first_link state id c n)) c (changed_at (swapped 1 n) c sealed_heads))
        ∙ length_changed (with_link false (first_link state id c n)) c (changed_at (swapped 1 n) c sealed_heads)
        ∙ length_changed (swapped 1 n) c sealed_heads ∙ length_push state.arena.heads (new_head state id)

    two : WatchesTwo (begun (length state.arena.heads) n (with_sealed state id)).arena.heads (length state.arena.heads)
    two head found = subst IsWatching (some_same (last_head state id (length state.arena.heads) n) head (sym (begun_one_more state id n).last ∙ found)) (begun_watching state id n can)
      where
        some_same : (a b : HeadState) → Some a ≡ Some b → a ≡ b
        some_same a b e = cc

-- a clause of one literal watches none
not_two : (lits : List ℤ) (h : HeadState) → h.lits ≡ lits → ((l m : ℤ) → IsIn (set.from_list lits) l → IsIn (set.from_list lits) m → l ≡ m) → IsWatching h → ⊥
not_two lits h same alone two =
    let first : IsIn (set.from_list lits) (slice_index_or lits 0 (pos 0)) = IsIn-from_Contains lits (slice_index_or lits 0 (pos 0)) (Contains-get_or lits 0 (pos 0) (omega (arith, ap length same, two.long))) in
    let second : IsIn (set.from_list lits) (slice_index_or lits 1 (pos 0)) = IsIn-from_Contains lits (slice_index_or lits 1 (pos 0)) (Contains-get_or lits 1 (pos 0) (omega (arith, ap length same, two.long))) in
    two.differ (ap (λ ls. slice_index_or ls 0 (pos 0)) same ∙ alone (slice_index_or lits 0 (pos 0)) (slice_index_or lits 1 (pos 0)) first second ∙ sym (ap (λ ls. slice_index_or ls 1 (pos 0)) same))

pub short_propagating : (state : WatchState) (id : ℕ) (t : TrailState) (progress : Progress) → ArePropagating state t progress → is_within t.vars state.arena.tail ≡ true
    → ((l m : ℤ) → IsIn (set.from_list state.arena.tail) l → IsIn (set.from_list state.arena.tail) m → l ≡ m)
    → ((lists : Lists) → IsThreaded state lists → IsThreaded (with_sealed state id) lists)
    → ArePropagating (with_sealed state id) t progress
short_propagating state id t progress ready within alone seals =
    let heads = state.arena.heads in
    let h = new_head state id in
    let more = one_more heads h in
    let live = live_one_more 0 heads h refl in
    record {
      lists = ready.lists;
      threaded = seals ready.lists ready.threaded;
      listed = listed_one_more heads (heads ++ h ∷ []) h ready.lists ready.lists more (λ i k among. among) (λ two. absurd (not_two state.arena.tail h refl alone two)) ready.listed;
      passed = passed_one_more heads (heads ++ h ∷ []) h t.entries progress progress more (omega arith) refl (λ w place entry two. absurd (not_two state.arena.tail h refl alone two)) ready.passed;
      fits = record { lists = ready.fits.lists; within = within_one_more t.vars heads (heads ++ h ∷ []) h more within ready.fits.within };
      sound = subst (λ l. IsSound l t) (sym live) (IsSound-push (live_from 0 heads) (record { number = 0 + length heads; id = id; lits = set.from_list state.arena.tail }) t ready.sound);
    }

pub short_sealed : (vars : ℕ) (state : WatchState) (short : List ℕ) (id : ℕ) → is_within vars state.arena.tail ≡ true
    → ((l m : ℤ) → IsIn (set.from_list state.arena.tail) l → IsIn (set.from_list state.arena.tail) m → l ≡ m)
    → HasSealed vars state short id (with_sealed state id) (short ++ length state.arena.heads ∷ [])
short_sealed vars state short id within alone =
    let heads = state.arena.heads in
    let h = new_head state id in
    record {
      count = length_push heads h;
      live = live_one_more 0 heads h refl ∙ ap (λ (k : ℕ). live_from 0 heads ++ record { number = k; id = id; lits = set.from_list state.arena.tail } ∷ []) (zero-add (length heads));
      tail = refl;
      spare_heads = refl;
      spare_lits = refl;
      watching = watching_one_more heads (heads ++ h ∷ []) h (one_more heads h);
      put = inr (record { within = AreWithin-from_list vars state.arena.tail within; alone = alone }, refl);
    }
