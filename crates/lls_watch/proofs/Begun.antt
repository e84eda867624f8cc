-- A clause that begins to watch two of its literals.
use Rattle.std.proofs.Common.{◌≡◌, ◌<◌, ℕ, pos, Bool, true, false, ◌||◌, ◌∷◌, Option, Some, None, get_or, refl, sym, ap, ◌∙◌, subst, arith, length}
use Rattle.std.specs.Prelude.{◌≢◌, ◌==◌, slice_index_or}
use Rattle.std.specs.List.{swap}
use Rattle.std.specs.Option.{option_map_or}
use Rattle.std.proofs.Math.Dec.{eqb}
use Rattle.std.proofs.lemmas.List.{length-set}
use Rattle.std.proofs.lemmas.List.Edits.{length-swap, swapped_from_swap}
use Rattle.std.proofs.lemmas.Bool.{eq-eqb, eqb-true, eqb-false}
use Rattle.lls_lit.specs.Literal.{index_of, literal_at}
use Rattle.lls_lit.specs.Indices.{literal_at-index_of}
use Rattle.lls_arena.specs.Arena.{HeadState, changed_at, swapped, with_link}
use Rattle.lls_watch.specs.Watches.{WatchState, Lists, CanBegin, IsInNone, IsNotIn, IsThreaded, IsWatching, LeadsOn, WatchesAt, attached, begun, has, list_of, swapped_at, watched, with_attached, with_begun}
use Rattle.lls_watch.proofs.Changes.{slice_get-changed_other, slice_get-changed_same}
use Rattle.lls_watch.proofs.Lists.{attached_at, by_list, lists_kept}

-- its second literal and the one at that place have changed places
pub record IsExchanged (n : ℕ) (h : HeadState) : Type 0 where
  pub watching : IsWatching (swapped 1 n h)
  pub first : watched false (swapped 1 n h) ≡ slice_index_or h.lits 0 (pos 0)
  pub second : watched true (swapped 1 n h) ≡ slice_index_or h.lits n (pos 0)

pub exchanged : (n : ℕ) (h : HeadState) → 0 < n → n < length h.lits → slice_index_or h.lits n (pos 0) ≢ slice_index_or h.lits 0 (pos 0) → IsExchanged n h
exchanged n h behind inside differ =
    let long : 1 < length h.lits = omega (arith, behind, inside) in
    let sw = swapped_from_swap h.lits (swap h.lits 1 n) 1 n (pos 0) long inside refl in
    let first : get_or (swap h.lits 1 n) 0 (pos 0) ≡ get_or h.lits 0 (pos 0) = sw.2 0 (λ e. absurd (omega (arith, e))) (λ e. absurd (omega (arith, e, behind))) in
    record {
      watching = record { long = rw (length-swap h.lits 1 n) long; differ = λ e. differ (sym sw.0 ∙ sym e ∙ first) };
      first = first;
      second = sw.0;
    }

-- the clause as it is in the end
abbrev pub begun_head : ℕ → Option ℕ → Option ℕ → HeadState → HeadState
begun_head n first second h = with_link true second (with_link false first (swapped 1 n h))

pub linked_watching : (w : Bool) (next : Option ℕ) (h : HeadState) → IsWatching h → IsWatching (with_link w next h)
linked_watching true next h it = record { long = it.long; differ = it.differ }
linked_watching false next h it = record { long = it.long; differ = it.differ }

pub linked_watched : (w : Bool) (next : Option ℕ) (b : Bool) (h : HeadState) → watched b (with_link w next h) ≡ watched b h
linked_watched true next b h = refl
linked_watched false next b h = refl

abbrev pub begun_first : (state : WatchState) (c n : ℕ) → CanBegin state c n → WatchesAt (swapped_at state c true n) c false
begun_first state c n can =
    let it = exchanged n can.head can.behind can.inside can.differ in
    record {
      head = swapped 1 n can.head;
      is_head = slice_get-changed_same (swapped 1 n) c state.arena.heads can.head can.is_head;
      watching = it.watching;
      within = subst (λ l. index_of l < length state.first) (sym it.first) can.first_within;
    }

-- the link that the first edge gets
abbrev pub link_before : WatchState → ℕ → ℕ → Option ℕ
link_before state c n = slice_index_or state.first (list_of (swapped_at state c true n) c false) None

abbrev pub begun_second : (state : WatchState) (c n : ℕ) → CanBegin state c n → WatchesAt (attached c false (swapped_at state c true n)) c true
begun_second state c n can =
    let it = exchanged n can.head can.behind can.inside can.differ in
    let next = link_before state c n in
    record {
      head = with_link false next (swapped 1 n can.head);
      is_head =
          slice_get-changed_same (with_link false next) c (changed_at (swapped 1 n) c state.arena.heads) (swapped 1 n can.head)
          (slice_get-changed_same (swapped 1 n) c state.arena.heads can.head can.is_head);
      watching = linked_watching false next (swapped 1 n can.head) it.watching;
      within =
          subst (λ k. index_of (watched true (with_link false next (swapped 1 n can.head))) < k) (sym (length-set state.first (list_of (swapped_at state c true n) c false) (Some c)))
          (subst (λ l. index_of l < length state.first) (sym it.second) can.other_within);
    }

-- where a clause is in no list, the order of its literals is nothing to the lists
pub unlisted_kept : (state : WatchState) (lists : Lists) (c n : ℕ) → IsInNone lists state c → IsThreaded state lists → IsThreaded (swapped_at state c true n) lists
unlisted_kept state lists c n none threaded =
    lists_kept state (changed_at (swapped 1 n) c state.arena.heads) lists (λ i k next within among leads. each i k next within among leads) threaded
  where
    each : (i k : ℕ) (next : Option ℕ) → i < length state.first → has (lists i) k ≡ true → LeadsOn state.arena.heads (literal_at i) k next → LeadsOn (changed_at (swapped 1 n) c state.arena.heads) (literal_at i) k next
    each i k next within among leads =
        elim (eqb k c) as (λ b. eqb k c ≡ b → LeadsOn (changed_at (swapped 1 n) c state.arena.heads) (literal_at i) k next) [
          | true ↦ λ is.
              let both : true ≡ false = sym among ∙ ap (has (lists i)) (eqb-true k c is) ∙ none i within in
              absurd cc
          | false ↦ λ isnt. record {
            head = leads.head;
            is_head = slice_get-changed_other (swapped 1 n) c k state.arena.heads (λ e. eqb-false k c isnt e) ∙ leads.is_head;
            watching = leads.watching;
            has = leads.has;
            next_is = leads.next_is;
          }
        ] refl

-- which lists it comes into
pub first_list : (state : WatchState) (c n : ℕ) → (can : CanBegin state c n) → list_of (swapped_at state c true n) c false ≡ index_of (slice_index_or can.head.lits 0 (pos 0))
first_list state c n can =
    let it = exchanged n can.head can.behind can.inside can.differ in
    ap (λ o. index_of (option_map_or (watched false) o (pos 0))) (slice_get-changed_same (swapped 1 n) c state.arena.heads can.head can.is_head) ∙ ap index_of it.first

pub second_list : (state : WatchState) (c n : ℕ) → (can : CanBegin state c n) → list_of (attached c false (swapped_at state c true n)) c true ≡ index_of (slice_index_or can.head.lits n (pos 0))
second_list state c n can =
    let it = exchanged n can.head can.behind can.inside can.differ in
    let at = begun_second state c n can in
    ap (λ o. index_of (option_map_or (watched true) o (pos 0))) at.is_head ∙ ap index_of it.second

pub lists_apart : (state : WatchState) (c n : ℕ) → (can : CanBegin state c n) → list_of (attached c false (swapped_at state c true n)) c true ≢ list_of (swapped_at state c true n) c false
lists_apart state c n can same =
    can.differ
    (sym (literal_at-index_of (slice_index_or can.head.lits n (pos 0)) can.other_literal)
    ∙ ap literal_at (sym (second_list state c n can) ∙ same ∙ first_list state c n can)
    ∙ literal_at-index_of (slice_index_or can.head.lits 0 (pos 0)) can.first_literal)

pub begun_threaded : (state : WatchState) (lists : Lists) (c n : ℕ) → CanBegin state c n → IsThreaded state lists → IsInNone lists state c → IsThreaded (begun c n state) (with_begun lists state c n)
begun_threaded state lists c n can threaded none =
    let mid = swapped_at state c true n in
    let it = exchanged n can.head can.behind can.inside can.differ in
    let first = begun_first state c n can in
    let second = begun_second state c n can in
    let i = list_of mid c false in
    let j = list_of (attached c false mid) c true in
    let first_literal : literal_at (index_of (watched false first.head)) ≡ watched false first.head =
    ap (λ l. literal_at (index_of l)) it.first ∙ literal_at-index_of (slice_index_or can.head.lits 0 (pos 0)) can.first_literal ∙ sym it.first in
    let second_literal : literal_at (index_of (watched true second.head)) ≡ watched true second.head =
    ap (λ l. literal_at (index_of l)) it.second ∙ literal_at-index_of (slice_index_or can.head.lits n (pos 0)) can.other_literal ∙ sym it.second in
    let first_out : IsNotIn lists mid c false = none i (subst (λ k. k < length state.first) (sym (first_list state c n can)) can.first_within) in
    let once = attached_at mid lists c false first first_literal (unlisted_kept state lists c n none threaded) first_out in
    let second_out : IsNotIn (with_attached lists mid c false) (attached c false mid) c true =
    by_list (λ k list. k ≡ j → has list c ≡ false) lists i (c ∷ lists i) j (λ e. absurd (lists_apart state c n can (sym e)))
    (λ _ _. none j (subst (λ k. k < length state.first) (sym (second_list state c n can)) can.other_within)) refl in
    attached_at (attached c false mid) (with_attached lists mid c false) c true second second_literal once second_out

-- a list has what it had
pub has_attached : (lists : Lists) (state : WatchState) (c : ℕ) (w : Bool) (i k : ℕ) → has (lists i) k ≡ true → has (with_attached lists state c w i) k ≡ true
has_attached lists state c w i k among =
    by_list (λ j list. j ≡ i → has list k ≡ true) lists (list_of state c w) (c ∷ lists (list_of state c w)) i
    (λ e. later (c == k) (ap (λ j. has (lists j) k) e ∙ among)) (λ _ _. among) refl
  where
    later : (a : Bool) {b : Bool} → b ≡ true → (a || b) ≡ true
    later true is = refl
    later false is = is

pub has_begun : (lists : Lists) (state : WatchState) (c n i k : ℕ) → has (lists i) k ≡ true → has (with_begun lists state c n i) k ≡ true
has_begun lists state c n i k among =
    has_attached (with_attached lists (swapped_at state c true n) c false) (attached c false (swapped_at state c true n)) c true i k (has_attached lists (swapped_at state c true n) c false i k among)

-- and the clause is in the two
pub attached_has : (lists : Lists) (state : WatchState) (c : ℕ) (w : Bool) → has (with_attached lists state c w (list_of state c w)) c ≡ true
attached_has lists state c w =
    by_list (λ j list. j ≡ list_of state c w → has list c ≡ true) lists (list_of state c w) (c ∷ lists (list_of state c w)) (list_of state c w)
    (λ _. here (c == c) (has (lists (list_of state c w)) c) (itself c)) (λ differ. absurd (differ refl)) refl
  where
    itself : (k : ℕ) → (k == k) ≡ true
    itself k = eq-eqb k k refl

    here : (a b : Bool) → a ≡ true → (a || b) ≡ true
    here true b is = refl
    here false b is = absurd cc
