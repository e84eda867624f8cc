-- Each live clause that watches two literals stays in the lists of both.
use Rattle.std.proofs.Common.{◌≡◌, ◌<◌, ℕ, pos, Bool, true, false, not, List, ◌∷◌, Some, refl, sym, ap, ◌∙◌, subst, length, ◌⊎◌, ⊎_elim}
use Rattle.std.specs.Prelude.{◌≢◌, slice_get, slice_index_or}
use Rattle.lls_lit.specs.Literal.{IsLiteral, index_of, literal_at}
use Rattle.lls_lit.specs.Indices.{literal_at-index_of}
use Rattle.lls_arena.specs.Arena.{HeadState, changed_at, place_of, swapped}
use Rattle.lls_watch.specs.Watches.{IsWatching, Lists, has, watched, with_list}
use Rattle.lls_watch.specs.Passed.{AreListed}
use Rattle.lls_watch.proofs.Chains.{has_first, has_later}
use Rattle.lls_watch.proofs.Changes.{IsRewatched, rewatched}
use Rattle.lls_watch.proofs.Changed.{IsChanged, KeepsWatched, changed_found, same_or_not, some_same}
use Rattle.lls_watch.proofs.Lists.{by_list}

-- all but that clause stay in a list
abbrev pub AllBut : ℕ → List ℕ → List ℕ → Type 0
AllBut c old new = (k : ℕ) → k ≢ c → has old k ≡ true → has new k ≡ true

-- a clause that isn't the one taken out of a list is in the lists that it was in
stays_listed : (lists : Lists) (i c : ℕ) (cs : List ℕ) → AllBut c (lists i) cs → (k j : ℕ) → k ≢ c → has (lists j) k ≡ true → has (with_list i cs lists j) k ≡ true
stays_listed lists i c cs rest k j differ there =
    by_list (λ m list. has (lists m) k ≡ true → has list k ≡ true) lists i cs j (rest k differ) (λ _ same. same) there

-- a dead clause is taken out of a list
pub listed_without : (heads : List HeadState) (lists : Lists) (i c : ℕ) (cs : List ℕ) → AllBut c (lists i) cs → ((h : HeadState) → slice_get heads c ≡ Some h → h.live ≢ true)
    → AreListed heads lists → AreListed heads (with_list i cs lists)
listed_without heads lists i c cs rest dead listed k h w found live watching =
    stays_listed lists i c cs rest k (index_of (watched w h)) (λ e. dead h (ap (slice_get heads) (sym e) ∙ found) live) (listed k h w found live watching)

pub listed_changed : (f : HeadState → HeadState) (c : ℕ) (heads : List HeadState) (lists : Lists) → KeepsWatched f → AreListed heads lists → AreListed (changed_at f c heads) lists
listed_changed f c heads lists keeps listed k new w found live watching = by_clause (changed_found f c heads k new found)
  where
    by_clause : IsChanged f c heads k new → has (lists (index_of (watched w new))) k ≡ true
    by_clause (IsChanged.same h e was to) =
        let seen : watched w new ≡ watched w h = ap (watched w) (sym to) ∙ ap (λ ls. slice_index_or ls (place_of w) (pos 0)) (keeps.lits h) in
        subst (λ l. has (lists (index_of l)) k ≡ true) (sym seen)
        (listed k h w was (keeps.live h (ap (λ (g : HeadState). g.live) to ∙ live)) (keeps.watching h (subst IsWatching (sym to) watching)))
    by_clause (IsChanged.other differ was) = listed k new w was live watching

-- a clause is put before a list: those that were in a list are in it still
attached_keeps : (lists : Lists) (m c k j : ℕ) → has (lists j) k ≡ true → has (with_list m (c ∷ lists m) lists j) k ≡ true
attached_keeps lists m c k j there =
    by_list (λ i list. has (lists i) k ≡ true → has list k ≡ true) lists m (c ∷ lists m) j (has_later c k (lists m)) (λ _ same. same) there

attached_has : (lists : Lists) (m c : ℕ) → has (with_list m (c ∷ lists m) lists m) c ≡ true
attached_has lists m c =
    by_list (λ i list. i ≡ m → has list c ≡ true) lists m (c ∷ lists m) m (λ _. has_first c (lists m)) (λ apart e. absurd (apart e)) refl

-- a clause that leaves the list of one of its literals for that of another
pub record Moves (heads : List HeadState) (lists : Lists) (c : ℕ) (w : Bool) (n : ℕ) (cs : List ℕ) (h : HeadState) : Type 0 where
  pub is_head : slice_get heads c ≡ Some h
  pub live : h.live ≡ true
  pub watching : IsWatching h
  pub behind : 1 < n
  pub inside : n < length h.lits
  pub differ : slice_index_or h.lits n (pos 0) ≢ watched (not w) h
  pub is_literal : IsLiteral (watched w h)
  pub other_literal : IsLiteral (watched (not w) h)
  pub rest : AllBut c (lists (index_of (watched w h))) cs

-- the lists of both places differ
apart : (w : Bool) (h : HeadState) → IsWatching h → IsLiteral (watched w h) → IsLiteral (watched (not w) h) → index_of (watched (not w) h) ≢ index_of (watched w h)
apart w h watching is_literal other_literal e = sides w (sym (literal_at-index_of (watched (not w) h) other_literal) ∙ ap literal_at e ∙ literal_at-index_of (watched w h) is_literal)
  where
    sides : (b : Bool) → watched (not b) h ≢ watched b h
    sides true same = watching.differ same
    sides false same = watching.differ (sym same)

pub listed_moved : (heads : List HeadState) (lists : Lists) (c : ℕ) (w : Bool) (n : ℕ) (cs : List ℕ) (h : HeadState) → Moves heads lists c w n cs h → AreListed heads lists
    → (dropped : Lists) → dropped ≡ with_list (index_of (watched w h)) cs lists → (m : ℕ) → m ≡ index_of (slice_index_or h.lits n (pos 0))
    → AreListed (changed_at (swapped (place_of w) n) c heads) (with_list m (c ∷ dropped m) dropped)
listed_moved heads lists c w n cs h moves listed dropped is_dropped m is_m k new b found live watching = by_clause (changed_found (swapped (place_of w) n) c heads k new found)
  where
    i : ℕ
    i = index_of (watched w h)

    moved : IsRewatched w n h
    moved = rewatched w n h moves.watching moves.behind moves.inside moves.differ

    in_dropped : (k j : ℕ) → has (with_list i cs lists j) k ≡ true → has (dropped j) k ≡ true
    in_dropped k j there = subst (λ (all : Lists). has (all j) k ≡ true) (sym is_dropped) there

    other_kept : has (dropped (index_of (watched (not w) h))) c ≡ true
    other_kept =
        in_dropped c (index_of (watched (not w) h))
        (by_list (λ j list. j ≢ i → has (lists j) c ≡ true → has list c ≡ true) lists i cs (index_of (watched (not w) h)) (λ differ _. absurd (differ refl)) (λ _ _ same. same)
        (apart w h moves.watching moves.is_literal moves.other_literal) (listed c h (not w) moves.is_head moves.live moves.watching))

    here : k ≡ c → swapped (place_of w) n h ≡ new → (b ≡ w) ⊎ (b ≡ not w) → has (with_list m (c ∷ dropped m) dropped (index_of (watched b new))) k ≡ true
    here e to which =
        ⊎_elim
        (λ same.
        let seen : m ≡ index_of (watched b new) = is_m ∙ ap index_of (sym (ap (λ v. watched v new) same ∙ ap (watched w) (sym to) ∙ moved.taken)) in
        subst (λ j. has (with_list m (c ∷ dropped m) dropped j) k ≡ true) seen (subst (λ x. has (with_list m (c ∷ dropped m) dropped m) x ≡ true) (sym e) (attached_has dropped m c)))
        (λ opposite.
        let seen : watched (not w) h ≡ watched b new = sym (ap (λ v. watched v new) opposite ∙ ap (watched (not w)) (sym to) ∙ moved.other) in
        subst (λ l. has (with_list m (c ∷ dropped m) dropped (index_of l)) k ≡ true) seen
        (subst (λ x. has (with_list m (c ∷ dropped m) dropped (index_of (watched (not w) h))) x ≡ true) (sym e) (attached_keeps dropped m c c (index_of (watched (not w) h)) other_kept)))
        which

    by_clause : IsChanged (swapped (place_of w) n) c heads k new → has (with_list m (c ∷ dropped m) dropped (index_of (watched b new))) k ≡ true
    by_clause (IsChanged.same g e was to) =
        let one : g ≡ h = some_same g h (sym was ∙ ap (slice_get heads) e ∙ moves.is_head) in
        here e (ap (swapped (place_of w) n) (sym one) ∙ to) (same_or_not w b)
    by_clause (IsChanged.other differ was) =
        attached_keeps dropped m c k (index_of (watched b new))
        (in_dropped k (index_of (watched b new)) (stays_listed lists i c cs moves.rest k (index_of (watched b new)) differ (listed k new b was live watching)))
