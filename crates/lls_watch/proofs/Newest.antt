-- The clause that was sealed last, before and behind its beginning to watch.
use Rattle.std.proofs.Common.{◌≡◌, ◌≤◌, ◌<◌, zero, suc, ℕ, ℤ, pos, Bool, true, false, List, [], ◌∷◌, Some, sym, ap, ◌∙◌, subst, arith, length, map}
use Rattle.std.specs.Prelude.{◌≢◌, IfSome, slice_get, slice_index_or}
use Rattle.std.specs.Option.{option_map}
use Rattle.std.proofs.lemmas.Option.{slice_get-map, slice_get_within}
use Rattle.lls_lit.specs.Literal.{IsLiteral, index_of, variable_of}
use Rattle.lls_lit.specs.Formula.{is_literal_of, is_within}
use Rattle.lls_lit.specs.declared.var.TheConstants.Var.{MOST}
use Rattle.lls_lit.proofs.Stamps.{index_within}
use Rattle.lls_store.proofs.Tabled.{variable_bounds}
use Rattle.lls_arena.specs.Arena.{ArenaState, HeadState, place_of}
use Rattle.lls_watch.specs.Watches.{WatchState, CanBegin, begun, watched}
use Rattle.lls_watch.specs.Propagating.{Fits}
use Rattle.lls_watch.proofs.Beginning.{begun_one_more, last_head, new_head, with_sealed}
use Rattle.lls_watch.proofs.Begun.{exchanged}
use Rattle.lls_watch.proofs.Grown.{one_more}
use Rattle.lls_watch.proofs.Turns.{within_at}

abbrev lits_of : HeadState → List ℤ
lits_of head = head.lits

same_some : {X : Type 0} → (a b : X) → Some a ≡ Some b → a ≡ b
same_some a b e = cc

-- its literals are the tail's
pub sealed_lits : (state new : WatchState) (arena : ArenaState) (id c : ℕ) (lits : List ℤ) → new ≡ with_sealed state id → arena ≡ new.arena → c ≡ length state.arena.heads
    → slice_get (map (λ (head : HeadState). head.lits) arena.heads) c ≡ Some lits → lits ≡ state.arena.tail
sealed_lits state new arena id c lits is same number found =
    let heads = (with_sealed state id).arena.heads in
    let read : slice_get (map lits_of arena.heads) c ≡ Some state.arena.tail =
    ap (λ (a : ArenaState). slice_get (map lits_of a.heads) c) (same ∙ ap (λ (w : WatchState). w.arena) is) ∙ ap (slice_get (map lits_of heads)) number
    ∙ slice_get-map lits_of heads (length state.arena.heads) ∙ ap (option_map lits_of) (one_more state.arena.heads (new_head state id)).last in
    same_some lits state.arena.tail (sym found ∙ read)

-- a literal of the variables is one, and has a list
pub literal_of : (vars : ℕ) (l : ℤ) → vars ≤ MOST → is_literal_of vars l ≡ true → IsLiteral l
literal_of vars l few is = let bounds = variable_bounds vars (variable_of l) is in (bounds.0, omega (arith, bounds.1, few))

pub listed_of : (state : WatchState) (vars : ℕ) (l : ℤ) → vars ≤ MOST → Fits state vars → is_literal_of vars l ≡ true → index_of l < length state.first
listed_of state vars l few fits is =
    subst (λ n. index_of l < n) (sym fits.lists) (index_within l vars (literal_of vars l few is) (variable_bounds vars (variable_of l) is).1)

-- so it can begin to watch its first literal and one that differs from it
pub sealed_begins : (state : WatchState) (id vars n : ℕ) → vars ≤ MOST → Fits state vars → is_within vars state.arena.tail ≡ true → 0 < n → n < length state.arena.tail
    → slice_index_or state.arena.tail n (pos 0) ≢ slice_index_or state.arena.tail 0 (pos 0) → CanBegin (with_sealed state id) (length state.arena.heads) n
sealed_begins state id vars n few fits within behind inside differ =
    let first = within_at vars state.arena.tail 0 within (omega (arith, behind, inside)) in
    let other = within_at vars state.arena.tail n within inside in
    record {
      head = new_head state id;
      is_head = (one_more state.arena.heads (new_head state id)).last;
      behind = behind;
      inside = inside;
      differ = differ;
      first_literal = literal_of vars (slice_index_or state.arena.tail 0 (pos 0)) few first;
      other_literal = literal_of vars (slice_index_or state.arena.tail n (pos 0)) few other;
      first_within = listed_of state vars (slice_index_or state.arena.tail 0 (pos 0)) few fits first;
      other_within = listed_of state vars (slice_index_or state.arena.tail n (pos 0)) few fits other;
    }

-- what the tail was seen to have, by any name of it
pub record SeesTwo (lits : List ℤ) (n : ℕ) : Type 0 where
  pub behind : 0 < n
  pub inside : n < length lits
  pub differ : slice_index_or lits n (pos 0) ≢ slice_index_or lits 0 (pos 0)

pub seen_begins : (state new : WatchState) (arena : ArenaState) (id vars c n : ℕ) (lits : List ℤ) → new ≡ with_sealed state id → arena ≡ new.arena → c ≡ length state.arena.heads
    → slice_get (map (λ (head : HeadState). head.lits) arena.heads) c ≡ Some lits → vars ≤ MOST → Fits state vars → is_within vars state.arena.tail ≡ true → SeesTwo lits n
    → CanBegin (with_sealed state id) (length state.arena.heads) n × SeesTwo state.arena.tail n
seen_begins state new arena id vars c n lits is same number found few fits within seen =
    let two : SeesTwo state.arena.tail n = subst (λ ls. SeesTwo ls n) (sealed_lits state new arena id c lits is same number found) seen in
    (sealed_begins state id vars n few fits within two.behind two.inside two.differ, two)

-- behind that it is there under its number, has two literals or more, and watches those of the variables
pub begun_there : (state : WatchState) (arena : ArenaState) (id n : ℕ) → arena ≡ (begun (length state.arena.heads) n (with_sealed state id)).arena
    → slice_get arena.heads (length state.arena.heads) ≡ Some (last_head state id (length state.arena.heads) n)
begun_there state arena id n same = ap (λ (a : ArenaState). slice_get a.heads (length state.arena.heads)) same ∙ (begun_one_more state id n).last

pub begun_within : (state : WatchState) (arena : ArenaState) (id n : ℕ) → arena ≡ (begun (length state.arena.heads) n (with_sealed state id)).arena → length state.arena.heads < length arena.heads
begun_within state arena id n same = slice_get_within arena.heads (length state.arena.heads) (last_head state id (length state.arena.heads) n) (begun_there state arena id n same)

pub begun_long : (state : WatchState) (arena : ArenaState) (id n : ℕ) → arena ≡ (begun (length state.arena.heads) n (with_sealed state id)).arena → SeesTwo state.arena.tail n
    → (x : HeadState) → slice_get arena.heads (length state.arena.heads) ≡ Some x → 1 < length x.lits
begun_long state arena id n same two x found =
    let it = exchanged n (new_head state id) two.behind two.inside two.differ in
    subst (λ (h : HeadState). 1 < length h.lits) (same_some (last_head state id (length state.arena.heads) n) x (sym (begun_there state arena id n same) ∙ found)) it.watching.long

-- what is read of its edges
pub begun_read : (state : WatchState) (arena : ArenaState) (id n : ℕ) (w : Bool) (l : ℤ) → arena ≡ (begun (length state.arena.heads) n (with_sealed state id)).arena
    → IfSome (slice_get arena.heads (length state.arena.heads)) (λ (x : HeadState). slice_get x.lits (place_of w) ≡ Some l) → l ≡ watched w (last_head state id (length state.arena.heads) n)
begun_read state arena id n w l same read = get_is (last_head state id (length state.arena.heads) n).lits (place_of w) (subst (λ o. IfSome o (λ (x : HeadState). slice_get x.lits (place_of w) ≡ Some l)) (begun_there state arena id n same) read)
  where
    get_is : (xs : List ℤ) (k : ℕ) → slice_get xs k ≡ Some l → l ≡ slice_index_or xs k (pos 0)
    get_is [] k e = absurd cc
    get_is (x ∷ xs) zero e = cc
    get_is (x ∷ xs) (suc k) e = get_is xs k e

pub begun_literal : (state : WatchState) (id vars n : ℕ) (w : Bool) → is_within vars state.arena.tail ≡ true → SeesTwo state.arena.tail n
    → is_literal_of vars (watched w (last_head state id (length state.arena.heads) n)) ≡ true
begun_literal state id vars n false within two =
    let it = exchanged n (new_head state id) two.behind two.inside two.differ in
    subst (λ l. is_literal_of vars l ≡ true) (sym it.first) (within_at vars state.arena.tail 0 within (omega (arith, two.behind, two.inside)))
begun_literal state id vars n true within two =
    let it = exchanged n (new_head state id) two.behind two.inside two.differ in
    subst (λ l. is_literal_of vars l ≡ true) (sym it.second) (within_at vars state.arena.tail n within two.inside)

pub begun_variable : (state : WatchState) (arena : ArenaState) (id vars n : ℕ) (w : Bool) (l : ℤ) → arena ≡ (begun (length state.arena.heads) n (with_sealed state id)).arena
    → is_within vars state.arena.tail ≡ true → SeesTwo state.arena.tail n
    → IfSome (slice_get arena.heads (length state.arena.heads)) (λ (x : HeadState). slice_get x.lits (place_of w) ≡ Some l) → variable_of l ≤ vars
begun_variable state arena id vars n w l same within two read =
    let is = begun_read state arena id n w l same read in
    subst (λ m. variable_of m ≤ vars) (sym is)
    (variable_bounds vars (variable_of (watched w (last_head state id (length state.arena.heads) n))) (begun_literal state id vars n w within two)).1

-- by the names that it goes by
pub begun_is : (state new last : WatchState) (id c n : ℕ) → new ≡ with_sealed state id → c ≡ length state.arena.heads → last ≡ begun c n new → last ≡ begun (length state.arena.heads) n (with_sealed state id)
begun_is state new last id c n is number begins = begins ∙ ap (λ k. begun k n new) number ∙ ap (begun (length state.arena.heads) n) is
