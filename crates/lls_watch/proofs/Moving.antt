-- A clause that moves to another list: what the calls that move it ask for.
use Rattle.std.proofs.Common.{◌≡◌, ◌<◌, ℕ, ℤ, pos, Bool, true, false, not, ◌||◌, cond, List, ◌∷◌, ◌++◌, Option, Some, refl, sym, ap, ◌∙◌, subst, length}
use Rattle.std.specs.Prelude.{slice_get, slice_index_or}
use Rattle.std.specs.Option.{option_map_or}
use Rattle.std.proofs.lemmas.Bool.{eq-eqb}
use Rattle.lls_lit.specs.Literal.{IsLiteral, index_of}
use Rattle.lls_store.specs.Trail.{Entry, HasNegated}
use Rattle.lls_arena.specs.Arena.{HeadState, place_of}
use Rattle.lls_watch.specs.Watches.{WatchState, Lists, IsOnce, IsThreaded, IsWatching, LeadsOn, CanRewatch, IsNotIn, has, list_of, side_of, watched, with_list}
use Rattle.lls_watch.specs.Visit.{CanBeWatched}
use Rattle.lls_watch.specs.Visiting.{leading_on}
use Rattle.lls_watch.proofs.Chains.{has_append, once_split}
use Rattle.lls_watch.proofs.Changed.{CanGiveWay}
use Rattle.lls_watch.proofs.Led.{led_heads, length_first_led}
use Rattle.lls_watch.proofs.Moved.{IsRelinked, relinked}

-- where one leads on, a clause is as before but for a link
pub relinked_led : (last : Option ℕ) (lit : ℤ) (next : Option ℕ) (state : WatchState) (c : ℕ) (h : HeadState) → slice_get state.arena.heads c ≡ Some h → IsWatching h → IsRelinked (leading_on last lit next state).arena.heads c h
relinked_led last lit next state c h found watching =
    led_heads (λ hs. IsRelinked hs c h) last lit next state (record { head = h; found = found; live = refl; lits = refl; watching = watching })
    (λ w p. relinked w next p c state.arena.heads h found watching)

-- it is neither among those that were kept nor among those that are left
pub stands_once : (state : WatchState) (lists : Lists) (i : ℕ) (kept rest : List ℕ) (c : ℕ) → IsThreaded state lists → i < length state.first → lists i ≡ kept ++ c ∷ rest → (has kept c ≡ false) × (has rest c ≡ false)
stands_once state lists i kept rest c threaded within is = once_split kept c rest (subst IsOnce is (threaded.once i within))

-- a clause of the visit's kind can give way
pub gives_way : (es : List Entry) (heads : List HeadState) (c : ℕ) (w : Bool) (n : ℕ) (h : HeadState) → (it : IsRelinked heads c h) → h.live ≡ true → CanBeWatched es h.lits (watched (not w) h) n
    → HasNegated es (watched w h) → CanGiveWay es heads c w n it.head
gives_way es heads c w n h it live can is_false =
    let seen : (b : Bool) → watched b it.head ≡ watched b h = λ b. ap (λ ls. slice_index_or ls (place_of b) (pos 0)) it.lits in
    record {
      is_head = it.found;
      live = it.live ∙ live;
      watching = it.watching;
      behind = can.behind;
      inside = subst (λ ls. n < length ls) (sym it.lits) can.inside;
      differ = λ e. can.differs (ap (λ ls. slice_index_or ls n (pos 0)) (sym it.lits) ∙ e ∙ seen (not w));
      was_false = subst (HasNegated es) (sym (seen w)) is_false;
      not_false = λ e. can.not_false (subst (HasNegated es) (ap (λ ls. slice_index_or ls n (pos 0)) it.lits) e);
    }

-- what a watched literal's list is, where the clause is found
pub list_read : (state : WatchState) (c : ℕ) (w : Bool) (h : HeadState) → slice_get state.arena.heads c ≡ Some h → list_of state c w ≡ index_of (watched w h)
list_read state c w h found = ap (λ o. index_of (option_map_or (watched w) o (pos 0))) found

-- a clause that moves, with what is known of it
pub record IsMoving (now : WatchState) (es : List Entry) (lit : ℤ) (c : ℕ) (next : Option ℕ) (w : Bool) (n : ℕ) : Type 0 where
  pub leads : LeadsOn now.arena.heads lit c next
  pub side : side_of leads.head lit ≡ w
  pub live : leads.head.live ≡ true
  pub can : CanBeWatched es leads.head.lits (watched (not w) leads.head) n
  pub literal : IsLiteral lit
  pub other_literal : IsLiteral (watched (not w) leads.head)
  pub new_literal : IsLiteral (slice_index_or leads.head.lits n (pos 0))
  pub new_within : index_of (slice_index_or leads.head.lits n (pos 0)) < length now.first
  pub is_false : HasNegated es lit

pub watches_lit : (now : WatchState) (es : List Entry) (lit : ℤ) (c : ℕ) (next : Option ℕ) (w : Bool) (n : ℕ) → (it : IsMoving now es lit c next w n) → watched w it.leads.head ≡ lit
watches_lit now es lit c next w n it = ap (λ b. watched b it.leads.head) (sym it.side) ∙ it.leads.has

pub can_rewatch : (now : WatchState) (es : List Entry) (lit : ℤ) (last : Option ℕ) (c : ℕ) (next : Option ℕ) (w : Bool) (n : ℕ) → IsMoving now es lit c next w n → CanRewatch (leading_on last lit next now) c w n
can_rewatch now es lit last c next w n it =
    let h = it.leads.head in
    let now_is = relinked_led last lit next now c h it.leads.is_head it.leads.watching in
    let seen : (b : Bool) → watched b now_is.head ≡ watched b h = λ b. ap (λ ls. slice_index_or ls (place_of b) (pos 0)) now_is.lits in
    let read : slice_index_or now_is.head.lits n (pos 0) ≡ slice_index_or h.lits n (pos 0) = ap (λ ls. slice_index_or ls n (pos 0)) now_is.lits in
    record {
      head = now_is.head;
      is_head = now_is.found;
      watching = now_is.watching;
      behind = it.can.behind;
      inside = subst (λ ls. n < length ls) (sym now_is.lits) it.can.inside;
      differ = λ e. it.can.differs (sym read ∙ e ∙ seen (not w));
      was_literal = subst IsLiteral (sym (seen w ∙ watches_lit now es lit c next w n it)) it.literal;
      is_literal = subst IsLiteral (sym read) it.new_literal;
      within = subst (λ l. index_of l < length (leading_on last lit next now).first) (sym read) (subst (λ k. index_of (slice_index_or h.lits n (pos 0)) < k) (sym (length_first_led last lit next now)) it.new_within);
    }

-- it was taken out of the list of the literal that it watched
pub is_out : (now : WatchState) (es : List Entry) (lists : Lists) (lit : ℤ) (last : Option ℕ) (c : ℕ) (next : Option ℕ) (w : Bool) (n : ℕ) (kept rest : List ℕ) → IsMoving now es lit c next w n
    → IsThreaded now lists → index_of lit < length now.first → lists (index_of lit) ≡ kept ++ c ∷ rest
    → IsNotIn (with_list (index_of lit) (kept ++ rest) lists) (leading_on last lit next now) c w
is_out now es lists lit last c next w n kept rest it threaded within is =
    let h = it.leads.head in
    let i = index_of lit in
    let left = kept ++ rest in
    let mid = leading_on last lit next now in
    let now_is = relinked_led last lit next now c h it.leads.is_head it.leads.watching in
    let read : list_of mid c w ≡ i =
    list_read mid c w now_is.head now_is.found ∙ ap index_of (ap (λ ls. slice_index_or ls (place_of w) (pos 0)) now_is.lits ∙ watches_lit now es lit c next w n it) in
    let apart = stands_once now lists i kept rest c threaded within is in
    let none : has left c ≡ false = has_append kept rest c ∙ ap (λ b. b || has rest c) apart.0 ∙ apart.1 in
    ap (λ j. has (with_list i left lists j) c) read ∙ ap (λ b. has (cond b left (lists i)) c) (eq-eqb i i refl) ∙ none
