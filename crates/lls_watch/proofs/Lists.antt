-- The lists of all literals: what each change of a link or of a first clause makes of them.
use Rattle.std.proofs.Common.{inl, inr, ◌⊎◌, ◌≡◌, ◌<◌, ℕ, Bool, true, false, not, ◌||◌, cond, List, [], ◌∷◌, ◌++◌, Option, Some, None, refl, sym, ap, ◌∙◌, subst, length}
use Rattle.std.specs.Prelude.{◌≢◌, ℤ, pos, slice_get, ◌==◌, slice_set, slice_index_or}
use Rattle.std.proofs.Math.Dec.{eqb}
use Rattle.std.proofs.lemmas.List.{get_or-set_same, get_or-set_other, length-set, append_assoc}
use Rattle.std.proofs.lemmas.Bool.{eqb-true, eqb-false}
use Rattle.lls_lit.specs.Literal.{IsLiteral, index_of, literal_at}
use Rattle.lls_lit.specs.Indices.{index_of-literal_at, literal_at-index_of}
use Rattle.lls_arena.specs.Arena.{ArenaState, HeadState, changed_at, killed, with_link, swapped, place_of}
use Rattle.lls_watch.specs.Watches.{WatchState, Lists, LeadsOn, IsWatching, IsSegment, IsOnce, IsThreaded, has, watched, side_of, with_list, with_link_at, with_first, WatchesAt, IsNotIn, list_of, with_attached, BeginsWith, ComesAfter, HasLiteral, CanRewatch, swapped_at}
use Rattle.std.specs.Option.{option_map_or}
use Rattle.lls_watch.proofs.Changes.{leads_on_kept, leads_on_changed, leads_on_killed, leads_on_more, leads_on_rewatched, rewatched, slice_get-changed_same}
use Rattle.lls_watch.proofs.Chains.{segment_kept, segment_append, segment_split, leads_to_one, once_split, once_without}

-- literals of two places differ
pub literals_differ : (i k : ℕ) → i ≢ k → literal_at i ≢ literal_at k
literals_differ i k other same = other (sym (index_of-literal_at i) ∙ ap index_of same ∙ index_of-literal_at k)

-- what is so of the changed list and of all others is so of each
pub by_list : (P : ℕ → List ℕ → Type 0) (lists : Lists) (i : ℕ) (list : List ℕ) (k : ℕ) → P i list → (k ≢ i → P k (lists k)) → P k (with_list i list lists k)
by_list P lists i list k here there =
    elim (eqb k i) as (λ b. eqb k i ≡ b → P k (cond b list (lists k))) [
      | true ↦ λ is. subst (λ j. P j list) (sym (eqb-true k i is)) here
      | false ↦ λ isnt. there (λ e. eqb-false k i isnt e)
    ] refl

some_same : (a b : HeadState) → Some a ≡ Some b → a ≡ b
some_same a b e = cc

-- other lists don't see that the link of a clause's edge is changed
others_kept : (heads : List HeadState) (c : ℕ) (w : Bool) (other : Option ℕ) (i : ℕ) (h : HeadState) → slice_get heads c ≡ Some h → watched w h ≡ literal_at i
    → (k : ℕ) → k ≢ i → (start : Option ℕ) (cs : List ℕ) (end : Option ℕ)
    → IsSegment heads (literal_at k) start cs end → IsSegment (changed_at (with_link w other) c heads) (literal_at k) start cs end
others_kept heads c w other i h is lit k differ start cs end chain =
    segment_kept heads (changed_at (with_link w other) c heads) (literal_at k) start cs end
    (λ m next _ leads. leads_on_kept heads c m w other next (literal_at k) (apart) leads) chain
  where
    apart : {m : ℕ} (g : HeadState) → m ≡ c → slice_get heads c ≡ Some g → watched w g ≢ literal_at k
    apart g e found same =
        let one : g ≡ h = some_same g h (sym found ∙ is) in
        literals_differ k i differ (sym same ∙ ap (watched w) one ∙ lit)

-- nor does a part of its own list in which it isn't
part_kept : (heads : List HeadState) (c : ℕ) (w : Bool) (other : Option ℕ) (lit : ℤ) (start : Option ℕ) (cs : List ℕ) (end : Option ℕ)
    → has cs c ≡ false → IsSegment heads lit start cs end → IsSegment (changed_at (with_link w other) c heads) lit start cs end
part_kept heads c w other lit start cs end absent chain =
    segment_kept heads (changed_at (with_link w other) c heads) lit start cs end
    (λ m next among leads. leads_on_kept heads c m w other next lit (λ g e _ _. absurd (clash m among e)) leads) chain
  where
    clash : (m : ℕ) → has cs m ≡ true → m ≡ c → ⊥
    clash m among e = let both : true ≡ false = sym among ∙ ap (has cs) e ∙ absent in absurd cc

abbrev start_of : WatchState → ℕ → Option ℕ
start_of state i = slice_index_or state.first i None

-- the clauses with the link of a clause's edge changed
abbrev relinked : WatchState → ℕ → Bool → Option ℕ → List HeadState
relinked state c w next = changed_at (with_link w next) c state.arena.heads

-- a clause that isn't in the list of its own literal is put first
pub attached : (state : WatchState) (lists : Lists) (c : ℕ) (w : Bool) (i : ℕ) (h : HeadState)
    → slice_get state.arena.heads c ≡ Some h → IsWatching h → watched w h ≡ literal_at i → i < length state.first → has (lists i) c ≡ false
    → IsThreaded state lists
    → IsThreaded (with_first i (Some c) (with_link_at c w (slice_index_or state.first i None) state)) (with_list i (c ∷ lists i) lists)
attached state lists c w i h is watching lit within absent threaded = record {
  chained = λ k k_in. by_list (λ j list. IsSegment (relinked state c w (start_of state i)) (literal_at j) (slice_index_or (slice_set state.first i (Some c)) j None) list None) lists i (c ∷ lists i) k
      here (λ differ. there k differ (rw (sym (length-set state.first i (Some c))) k_in));
  once = λ k k_in. by_list (λ j list. IsOnce list) lists i (c ∷ lists i) k (absent, threaded.once i within) (λ _. threaded.once k (rw (sym (length-set state.first i (Some c))) k_in));
}
  where
    here : IsSegment (relinked state c w (start_of state i)) (literal_at i) (slice_index_or (slice_set state.first i (Some c)) i None) (c ∷ lists i) None
    here = (
      get_or-set_same state.first i (Some c) None within,
      (
        (start_of state i),
        (
          subst (λ l. LeadsOn (relinked state c w (start_of state i)) l c (start_of state i)) lit (leads_on_changed state.arena.heads c w (start_of state i) h is watching),
          part_kept state.arena.heads c w (start_of state i) (literal_at i) (start_of state i) (lists i) None absent (threaded.chained i within),
        ),
      ),
    )

    there : (k : ℕ) → k ≢ i → k < length state.first → IsSegment (relinked state c w (start_of state i)) (literal_at k) (slice_index_or (slice_set state.first i (Some c)) k None) (lists k) None
    there k differ k_in = subst (λ s. IsSegment (relinked state c w (start_of state i)) (literal_at k) s (lists k) None) (sym (get_or-set_other state.first i k (Some c) None differ))
        (others_kept state.arena.heads c w (start_of state i) i h is lit k differ (slice_index_or state.first k None) (lists k) None (threaded.chained k k_in))

-- the first clause of a list goes out of it
pub first_dropped : (state : WatchState) (lists : Lists) (i c : ℕ) (next : Option ℕ) (cs : List ℕ)
    → lists i ≡ c ∷ cs → LeadsOn state.arena.heads (literal_at i) c next → i < length state.first
    → IsThreaded state lists → IsThreaded (with_first i next state) (with_list i cs lists)
first_dropped state lists i c next cs is leads within threaded = record {
  chained = λ k k_in. by_list (λ j list. IsSegment state.arena.heads (literal_at j) (slice_index_or (slice_set state.first i next) j None) list None) lists i cs k
      here (λ differ. there k differ (rw (sym (length-set state.first i next)) k_in));
  once = λ k k_in. by_list (λ j list. IsOnce list) lists i cs k once (λ _. threaded.once k (rw (sym (length-set state.first i next)) k_in));
}
  where
    whole : IsSegment state.arena.heads (literal_at i) (start_of state i) (c ∷ cs) None
    whole = subst (λ list. IsSegment state.arena.heads (literal_at i) (start_of state i) list None) is (threaded.chained i within)

    once : IsOnce cs
    once = (subst IsOnce is (threaded.once i within)).1

    here : IsSegment state.arena.heads (literal_at i) (slice_index_or (slice_set state.first i next) i None) cs None
    here =
        let same : whole.1.0 ≡ next = leads_to_one state.arena.heads (literal_at i) c whole.1.0 next whole.1.1.0 leads in
        subst (λ s. IsSegment state.arena.heads (literal_at i) s cs None) (same ∙ sym (get_or-set_same state.first i next None within)) whole.1.1.1

    there : (k : ℕ) → k ≢ i → k < length state.first → IsSegment state.arena.heads (literal_at k) (slice_index_or (slice_set state.first i next) k None) (lists k) None
    there k differ k_in = subst (λ s. IsSegment state.arena.heads (literal_at k) s (lists k) None) (sym (get_or-set_other state.first i k next None differ)) (threaded.chained k k_in)

-- the clause behind another one goes out of a list
pub next_dropped : (state : WatchState) (lists : Lists) (i p c : ℕ) (w : Bool) (h : HeadState) (next : Option ℕ) (xs cs : List ℕ)
    → lists i ≡ xs ++ p ∷ c ∷ cs → slice_get state.arena.heads p ≡ Some h → IsWatching h → watched w h ≡ literal_at i
    → LeadsOn state.arena.heads (literal_at i) c next → i < length state.first
    → IsThreaded state lists → IsThreaded (with_link_at p w next state) (with_list i (xs ++ p ∷ cs) lists)
next_dropped state lists i p c w h next xs cs is is_head watching lit leads within threaded = record {
  chained = λ k k_in. by_list (λ j list. IsSegment (relinked state p w next) (literal_at j) (start_of state j) list None) lists i (xs ++ p ∷ cs) k
      here (λ differ. others_kept state.arena.heads p w next i h is_head lit k differ (start_of state k) (lists k) None (threaded.chained k k_in));
  once = λ k k_in. by_list (λ j list. IsOnce list) lists i (xs ++ p ∷ cs) k once (λ _. threaded.once k k_in);
}
  where
    heads : List HeadState
    heads = state.arena.heads

    was_once : IsOnce (xs ++ p ∷ c ∷ cs)
    was_once = subst IsOnce is (threaded.once i within)

    whole : IsSegment state.arena.heads (literal_at i) (start_of state i) (xs ++ p ∷ c ∷ cs) None
    whole = subst (λ list. IsSegment state.arena.heads (literal_at i) (start_of state i) list None) is (threaded.chained i within)

    moved : (xs ++ p ∷ []) ++ c ∷ cs ≡ xs ++ p ∷ c ∷ cs
    moved = append_assoc xs (p ∷ []) (c ∷ cs)

    once : IsOnce (xs ++ p ∷ cs)
    once = subst IsOnce (append_assoc xs (p ∷ []) cs) (once_without (xs ++ p ∷ []) c cs (subst IsOnce (sym moved) was_once))

    here : IsSegment (relinked state p w next) (literal_at i) (start_of state i) (xs ++ p ∷ cs) None
    here =
        let apart = once_split xs p (c ∷ cs) was_once in
        let split = segment_split state.arena.heads (literal_at i) (start_of state i) None xs (p ∷ c ∷ cs) whole in
        let at_p = split.1.1 in
        let at_c = at_p.1.1.1 in
        let same : at_c.1.0 ≡ next = leads_to_one state.arena.heads (literal_at i) c at_c.1.0 next at_c.1.1.0 leads in
        let behind : has cs p ≡ false = later_absent c p cs apart.1 in
        let first = part_kept state.arena.heads p w next (literal_at i) (start_of state i) xs split.0 apart.0 split.1.0 in
        let rest = part_kept state.arena.heads p w next (literal_at i) next cs None behind (subst (λ s. IsSegment state.arena.heads (literal_at i) s cs None) same at_c.1.1.1) in
        segment_append (relinked state p w next) (literal_at i) (start_of state i) split.0 None xs (p ∷ cs) first
        (at_p.0, (next, (subst (λ l. LeadsOn (relinked state p w next) l p next) lit (leads_on_changed state.arena.heads p w next h is_head watching), rest)))
      where
        later_absent : (c p : ℕ) (cs : List ℕ) → has (c ∷ cs) p ≡ false → has cs p ≡ false
        later_absent c p cs absent = right (c == p) (has cs p) absent
          where
            right : (a b : Bool) → (a || b) ≡ false → b ≡ false
            right true b e = absurd cc
            right false b e = e

-- the lists stay where each edge leads on as before
pub lists_kept : (state : WatchState) (new : List HeadState) (lists : Lists)
    → ((i c : ℕ) (next : Option ℕ) → i < length state.first → has (lists i) c ≡ true → LeadsOn state.arena.heads (literal_at i) c next → LeadsOn new (literal_at i) c next)
    → IsThreaded state lists → IsThreaded (record state { arena = record state.arena { heads = new } }) lists
lists_kept state new lists each threaded = record {
  chained = λ k k_in. segment_kept state.arena.heads new (literal_at k) (start_of state k) (lists k) None (λ c next among leads. each k c next k_in among leads) (threaded.chained k k_in);
  once = threaded.once;
}

-- the same by the clause's number and its edge
pub attached_at : (state : WatchState) (lists : Lists) (c : ℕ) (w : Bool) (known : WatchesAt state c w) → literal_at (index_of (watched w known.head)) ≡ watched w known.head
    → IsThreaded state lists → IsNotIn lists state c w
    → IsThreaded (with_first (list_of state c w) (Some c) (with_link_at c w (slice_index_or state.first (list_of state c w) None) state)) (with_attached lists state c w)
attached_at state lists c w known literal threaded absent =
    let at : list_of state c w ≡ index_of (watched w known.head) = ap (λ o. index_of (option_map_or (watched w) o (pos 0))) known.is_head in
    subst (λ i. has (lists i) c ≡ false → IsThreaded (with_first i (Some c) (with_link_at c w (slice_index_or state.first i None) state)) (with_list i (c ∷ lists i) lists)) (sym at)
    (λ out. attached state lists c w (index_of (watched w known.head)) known.head known.is_head known.watching (sym literal) known.within out threaded) absent

pub first_dropped_at : (state : WatchState) (lists : Lists) (lit : ℤ) (c : ℕ) (next : Option ℕ) (cs : List ℕ)
    → IsLiteral lit → index_of lit < length state.first → BeginsWith state lists lit c next cs
    → IsThreaded state lists → IsThreaded (with_first (index_of lit) next state) (with_list (index_of lit) cs lists)
first_dropped_at state lists lit c next cs is within begins threaded =
    first_dropped state lists (index_of lit) c next cs begins.list_is
    (subst (λ l. LeadsOn state.arena.heads l c next) (sym (literal_at-index_of lit is)) begins.leads) within threaded

pub next_dropped_at : (state : WatchState) (lists : Lists) (lit : ℤ) (p c : ℕ) (w : Bool) (next : Option ℕ) (before cs : List ℕ)
    → (known : WatchesAt state p w) → HasLiteral state p w lit → ComesAfter state lists lit p c next before cs
    → IsThreaded state lists → IsThreaded (with_link_at p w next state) (with_list (index_of lit) (before ++ p ∷ cs) lists)
next_dropped_at state lists lit p c w next before cs known has_lit after threaded =
    let read : watched w known.head ≡ lit = ap (λ o. option_map_or (watched w) o (pos 0)) (sym known.is_head) ∙ has_lit.read in
    let at : watched w known.head ≡ literal_at (index_of lit) = read ∙ sym (literal_at-index_of lit has_lit.is_literal) in
    next_dropped state lists (index_of lit) p c w known.head next before cs after.list_is known.is_head known.watching at
    (subst (λ l. LeadsOn state.arena.heads l c next) (sym (literal_at-index_of lit has_lit.is_literal)) after.leads)
    (subst (λ l. index_of l < length state.first) read known.within) threaded

-- a clause of a list has an edge with its literal
list_leads : (heads : List HeadState) (lit : ℤ) (start : Option ℕ) (cs : List ℕ) (end : Option ℕ) (c : ℕ) → IsSegment heads lit start cs end → has cs c ≡ true → (next : Option ℕ) × LeadsOn heads lit c next
list_leads heads lit start [] end c chain among = absurd cc
list_leads heads lit start (k ∷ ks) end c chain among =
    elim (eqb k c) as (λ b. eqb k c ≡ b → (b || has ks c) ≡ true → (next : Option ℕ) × LeadsOn heads lit c next) [
      | true ↦ λ is _. (chain.1.0, subst (λ n. LeadsOn heads lit n chain.1.0) (eqb-true k c is) chain.1.1.0)
      | false ↦ λ _ later. list_leads heads lit chain.1.0 ks end c chain.1.1.1 later
    ] refl among

-- the lists stay where a clause watches another literal and is out of the list of the one that it watched
pub rewatched_kept : (state : WatchState) (lists : Lists) (c : ℕ) (w : Bool) (n : ℕ) (can : CanRewatch state c w n) → literal_at (index_of (watched w can.head)) ≡ watched w can.head
    → IsNotIn lists state c w → IsThreaded state lists → IsThreaded (swapped_at state c w n) lists
rewatched_kept state lists c w n can literal absent threaded =
    lists_kept state (changed_at (swapped (place_of w) n) c state.arena.heads) lists
    (λ i k next i_in among leads. leads_on_rewatched state.arena.heads c k n w (literal_at i) next (apart i k among) leads) threaded
  where
    out : has (lists (index_of (watched w can.head))) c ≡ false
    out = subst (λ o. has (lists (index_of (option_map_or (watched w) o (pos 0)))) c ≡ false) can.is_head absent

    apart : (i k : ℕ) → has (lists i) k ≡ true → (h : HeadState) → k ≡ c → slice_get state.arena.heads c ≡ Some h
        → (watched w h ≢ literal_at i) × ((1 < n) × ((n < length h.lits) × (slice_index_or h.lits n (pos 0) ≢ watched (not w) h)))
    apart i k among h same found =
        let one : can.head ≡ h = some_same can.head h (sym can.is_head ∙ found) in (
          λ e.
              let place : i ≡ index_of (watched w can.head) = sym (index_of-literal_at i) ∙ ap index_of (sym e) ∙ ap (λ g. index_of (watched w g)) (sym one) in
              let both : true ≡ false = sym among ∙ ap (λ j. has (lists j) k) place ∙ ap (has (lists (index_of (watched w can.head)))) same ∙ out in
              absurd cc,
          (can.behind, (subst (λ g. n < length g.lits) one can.inside, subst (λ g. slice_index_or g.lits n (pos 0) ≢ watched (not w) g) one can.differ)),
        )

-- it then watches two literals again
pub watches_again : (state : WatchState) (c : ℕ) (w : Bool) (n : ℕ) → CanRewatch state c w n → WatchesAt (swapped_at state c w n) c w
watches_again state c w n can =
    let is = rewatched w n can.head can.watching can.behind can.inside can.differ in
    record {
      head = swapped (place_of w) n can.head;
      is_head = slice_get-changed_same (swapped (place_of w) n) c state.arena.heads can.head can.is_head;
      watching = is.watching;
      within = subst (λ l. index_of l < length state.first) (sym is.taken) can.within;
    }

-- and it isn't in the list of the literal yet
pub not_in_yet : (state : WatchState) (lists : Lists) (c : ℕ) (w : Bool) (n : ℕ) (can : CanRewatch state c w n) → literal_at (index_of (slice_index_or can.head.lits n (pos 0))) ≡ slice_index_or can.head.lits n (pos 0)
    → IsNotIn lists state c w → IsThreaded state lists → IsNotIn lists (swapped_at state c w n) c w
not_in_yet state lists c w n can literal absent threaded =
    let is = rewatched w n can.head can.watching can.behind can.inside can.differ in
    let here : list_of (swapped_at state c w n) c w ≡ index_of taken =
    ap (λ o. index_of (option_map_or (watched w) o (pos 0))) (slice_get-changed_same (swapped (place_of w) n) c state.arena.heads can.head can.is_head) ∙ ap index_of is.taken in
    ap (λ i. has (lists i) c) here ∙ elim (has (lists (index_of taken)) c) as (λ b. has (lists (index_of taken)) c ≡ b → b ≡ false) [
      | true ↦ λ among. absurd (clash among)
      | false ↦ λ _. refl
    ] refl
  where
    taken : ℤ
    taken = slice_index_or can.head.lits n (pos 0)

    which : (w b : Bool) → (b ≡ w) ⊎ (b ≡ not w)
    which true true = inl refl
    which true false = inr refl
    which false true = inr refl
    which false false = inl refl

    clash : has (lists (index_of taken)) c ≡ true → ⊥
    clash among =
        let found = list_leads state.arena.heads (literal_at (index_of taken)) (start_of state (index_of taken)) (lists (index_of taken)) None c (threaded.chained (index_of taken) can.within) among in
        let leads = found.1 in
        let one : leads.head ≡ can.head = some_same leads.head can.head (sym leads.is_head ∙ can.is_head) in
        let seen : watched (side_of leads.head (literal_at (index_of taken))) can.head ≡ taken = ap (watched (side_of leads.head (literal_at (index_of taken)))) (sym one) ∙ leads.has ∙ literal in
        elim (which w (side_of leads.head (literal_at (index_of taken)))) as (λ _. ⊥) [
          | inl same ↦
              let old : watched w can.head ≡ taken = ap (λ b. watched b can.head) (sym same) ∙ seen in
              let out : has (lists (index_of taken)) c ≡ false = ap (λ l. has (lists (index_of l)) c) (sym old) ∙ ap (λ o. has (lists (index_of (option_map_or (watched w) o (pos 0)))) c) (sym can.is_head) ∙ absent in
              let both : true ≡ false = sym among ∙ out in
              absurd cc
          | inr other ↦ can.differ (sym seen ∙ ap (λ b. watched b can.head) other)
        ]

pub sealed_kept : (state : WatchState) (lists : Lists) (more : List HeadState) → IsThreaded state lists
    → (arena : ArenaState) → arena.heads ≡ state.arena.heads ++ more → IsThreaded (record state { arena = arena }) lists
sealed_kept state lists more threaded arena is = record {
  chained = λ k k_in. subst (λ heads. IsSegment heads (literal_at k) (start_of state k) (lists k) None) (sym is)
      (segment_kept state.arena.heads (state.arena.heads ++ more) (literal_at k) (start_of state k) (lists k) None
      (λ c next _ leads. leads_on_more state.arena.heads more c (literal_at k) next leads) (threaded.chained k k_in));
  once = threaded.once;
}

pub killed_kept : (state : WatchState) (lists : Lists) (c : ℕ) → IsThreaded state lists
    → (arena : ArenaState) → arena.heads ≡ changed_at killed c state.arena.heads → IsThreaded (record state { arena = arena }) lists
killed_kept state lists c threaded arena is = record {
  chained = λ k k_in. subst (λ heads. IsSegment heads (literal_at k) (start_of state k) (lists k) None) (sym is)
      (segment_kept state.arena.heads (changed_at killed c state.arena.heads) (literal_at k) (start_of state k) (lists k) None
      (λ m next _ leads. leads_on_killed state.arena.heads c m (literal_at k) next leads) (threaded.chained k k_in));
  once = threaded.once;
}
