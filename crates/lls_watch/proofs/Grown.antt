-- Watches with one clause more.
use Rattle.std.proofs.Common.{◌≡◌, ◌≤◌, ◌<◌, ◌+◌, zero, suc, ℕ, ℤ, Bool, true, false, not, cond, List, [], ◌∷◌, ◌++◌, Option, Some, None, refl, sym, ap, ◌∙◌, subst, arith, length, map}
use Rattle.std.specs.Prelude.{◌≢◌, ◌==◌, slice_get, slice_index_or}
use Rattle.std.specs.Option.{option_map, option_or}
use Rattle.std.specs.FinSet as set
use Rattle.std.proofs.Math.Dec.{eqb}
use Rattle.std.proofs.lemmas.Bool.{eq-eqb, eqb-true, eqb-false}
use Rattle.std.proofs.lemmas.List.Folds.{find-append}
use Rattle.std.proofs.lemmas.Option.{slice_get-map, slice_get_within}
use Rattle.lls_lit.specs.Literal.{index_of, literal_at, negation}
use Rattle.lls_lit.specs.Formula.{is_within}
use Rattle.lls_store.specs.Trail.{Entry}
use Rattle.lls_store.specs.Clauses.{LiveClause, clause_numbered}
use Rattle.lls_arena.specs.Arena.{HeadState, changed_at}
use Rattle.lls_watch.specs.declared.progress.Progress.{Progress}
use Rattle.lls_watch.specs.Watches.{WatchState, Lists, IsThreaded, IsWatching, has, watched}
use Rattle.lls_watch.specs.Passed.{ArePassed, AreListed, IsOffset, live_from}
use Rattle.lls_watch.specs.Propagating.{WatchesTwo}
use Rattle.lls_watch.proofs.Changed.{some_same}
use Rattle.lls_watch.proofs.Changes.{mapped_some, slice_get-changed_other, slice_get-changed_same}
use Rattle.lls_watch.proofs.Meeting.{leads_among}

-- one clause more, behind all others
pub record HasOneMore (heads more : List HeadState) (h : HeadState) : Type 0 where
  pub last : slice_get more (length heads) ≡ Some h
  pub others : (k : ℕ) (g : HeadState) → k ≢ length heads → slice_get more k ≡ Some g → slice_get heads k ≡ Some g

get_last : (heads : List HeadState) (h : HeadState) → slice_get (heads ++ h ∷ []) (length heads) ≡ Some h
get_last [] h = refl
get_last (x ∷ xs) h = get_last xs h

get_other : (heads : List HeadState) (h : HeadState) (k : ℕ) (g : HeadState) → k ≢ length heads → slice_get (heads ++ h ∷ []) k ≡ Some g → slice_get heads k ≡ Some g
get_other [] h zero g differ found = absurd (differ refl)
get_other [] h (suc k) g differ found = absurd cc
get_other (x ∷ xs) h zero g differ found = found
get_other (x ∷ xs) h (suc k) g differ found = get_other xs h k g (λ e. differ (ap suc e)) found

pub one_more : (heads : List HeadState) (h : HeadState) → HasOneMore heads (heads ++ h ∷ []) h
one_more heads h = record { last = get_last heads h; others = get_other heads h }

-- the last one is changed
pub one_more_changed : (f : HeadState → HeadState) (heads more : List HeadState) (h : HeadState) → HasOneMore heads more h → HasOneMore heads (changed_at f (length heads) more) (f h)
one_more_changed f heads more h it = record {
  last = slice_get-changed_same f (length heads) more h it.last;
  others = λ k g differ found. it.others k g differ (sym (slice_get-changed_other f (length heads) k more differ) ∙ found);
}

-- what is so of the others and of the last one is so of each
by_number : (P : HeadState → Type 0) (heads more : List HeadState) (h : HeadState) (k : ℕ) (g : HeadState) → HasOneMore heads more h → slice_get more k ≡ Some g
    → (k ≡ length heads → P h) → (k ≢ length heads → slice_get heads k ≡ Some g → P g) → P g
by_number P heads more h k g it found here there =
    elim (eqb k (length heads)) as (λ b. eqb k (length heads) ≡ b → P g) [
      | true ↦ λ is.
          let e = eqb-true k (length heads) is in
          subst P (some_same h g (sym it.last ∙ ap (slice_get more) (sym e) ∙ found)) (here e)
      | false ↦ λ isnt. there (eqb-false k (length heads) isnt) (it.others k g (eqb-false k (length heads) isnt) found)
    ] refl

-- its watched literals weren't passed as false
pub passed_one_more : (heads more : List HeadState) (h : HeadState) (es : List Entry) (old new : Progress) → HasOneMore heads more h → new.passed ≤ old.passed → new.mark ≡ old.mark
    → ((w : Bool) (place : ℕ) (entry : Entry) → IsWatching h → place < new.passed → slice_get es place ≡ Some entry → entry.lit ≢ negation (watched w h))
    → ArePassed heads es old → ArePassed more es new
passed_one_more heads more h es old new it fewer mark apart passed k g w place entry found live watching before there is =
    by_number (λ x. IsWatching x → x.live ≡ true → entry.lit ≡ negation (watched w x) → IsOffset es new.mark place entry.level (watched (not w) x)) heads more h k g it found
    (λ _ two _ same. absurd (apart w place entry two before there same))
    (λ _ was two living same. subst (λ m. IsOffset es m place entry.level (watched (not w) g)) (sym mark) (passed k g w place entry was living two (omega (arith, before, fewer)) there same))
    watching live is

-- it is in the lists of both
pub listed_one_more : (heads more : List HeadState) (h : HeadState) (lists others : Lists) → HasOneMore heads more h → ((i k : ℕ) → has (lists i) k ≡ true → has (others i) k ≡ true)
    → (IsWatching h → (w : Bool) → has (others (index_of (watched w h))) (length heads) ≡ true) → AreListed heads lists → AreListed more others
listed_one_more heads more h lists others it grows both listed k g w found live watching =
    by_number (λ x. IsWatching x → x.live ≡ true → has (others (index_of (watched w x))) k ≡ true) heads more h k g it found
    (λ e two _. subst (λ n. has (others (index_of (watched w h))) n ≡ true) (sym e) (both two w))
    (λ _ was two living. grows (index_of (watched w g)) k (listed k g w was living two)) watching live

-- its literals are of the variables
pub within_one_more : (vars : ℕ) (heads more : List HeadState) (h : HeadState) → HasOneMore heads more h → is_within vars h.lits ≡ true
    → ((k : ℕ) (lits : List ℤ) → slice_get (map (λ (x : HeadState). x.lits) heads) k ≡ Some lits → is_within vars lits ≡ true)
    → (k : ℕ) (lits : List ℤ) → slice_get (map (λ (x : HeadState). x.lits) more) k ≡ Some lits → is_within vars lits ≡ true
within_one_more vars heads more h it inside within k lits read =
    let at = mapped_some (λ (x : HeadState). x.lits) more k lits read in
    subst (λ ls. is_within vars ls ≡ true) at.1.1
    (by_number (λ x. is_within vars x.lits ≡ true) heads more h k at.0 it at.1.0 (λ _. inside)
    (λ _ was. within k at.0.lits (slice_get-map (λ (x : HeadState). x.lits) heads k ∙ ap (option_map (λ (x : HeadState). x.lits)) was)))

-- what watched two literals does
pub watching_one_more : (heads more : List HeadState) (h : HeadState) → HasOneMore heads more h → (c : ℕ) → c < length heads → WatchesTwo heads c → WatchesTwo more c
watching_one_more heads more h it c below two g found = two g (it.others c g (λ e. absurd (omega (arith, e, below))) found)

-- the store has one live clause more
pub live_one_more : (n : ℕ) (heads : List HeadState) (h : HeadState) → h.live ≡ true → live_from n (heads ++ h ∷ []) ≡ live_from n heads ++ record { number = n + length heads; id = h.id; lits = set.from_list h.lits } ∷ []
live_one_more n [] h live =
    let same : n ≡ n + length {A = HeadState} [] = omega arith in
    ap (λ b. cond b (record { number = n; id = h.id; lits = set.from_list h.lits } ∷ []) []) live ∙ ap (λ (k : ℕ). record { number = k; id = h.id; lits = set.from_list h.lits } ∷ []) same
live_one_more n (x ∷ xs) h live = by_live x.live (live_one_more (suc n) xs h live)
  where
    more : suc n + length xs ≡ n + length (x ∷ xs)
    more = omega arith

    first : LiveClause
    first = record { number = n; id = x.id; lits = set.from_list x.lits }

    last : ℕ → List LiveClause
    last k = record { number = k; id = h.id; lits = set.from_list h.lits } ∷ []

    by_live : (b : Bool) → live_from (suc n) (xs ++ h ∷ []) ≡ live_from (suc n) xs ++ record { number = suc n + length xs; id = h.id; lits = set.from_list h.lits } ∷ []
        → cond b (first ∷ live_from (suc n) (xs ++ h ∷ [])) (live_from (suc n) (xs ++ h ∷ [])) ≡ cond b (first ∷ live_from (suc n) xs) (live_from (suc n) xs) ++ record { number = n + length (x ∷ xs); id = h.id; lits = set.from_list h.lits } ∷ []
    by_live true later = ap (λ ls. first ∷ ls) later ∙ ap (λ k. first ∷ live_from (suc n) xs ++ last k) more
    by_live false later = later ∙ ap (λ k. live_from (suc n) xs ++ last k) more

-- another number's clause is the same
pub numbered_front : (live : List LiveClause) (new : LiveClause) (k : ℕ) → new.number ≢ k → clause_numbered (live ++ new ∷ []) k ≡ clause_numbered live k
numbered_front live new k differ =
    find-append (λ (clause : LiveClause). clause.number == k) live (new ∷ []) ∙ ap (option_or (clause_numbered live k)) none ∙ beside (clause_numbered live k)
  where
    none : clause_numbered (new ∷ []) k ≡ None
    none = elim (eqb new.number k) as (λ b. eqb new.number k ≡ b → cond b (Some new) None ≡ None) [
      | true ↦ λ is. absurd (differ (eqb-true new.number k is))
      | false ↦ λ _. refl
    ] refl

    beside : (o : Option LiveClause) → option_or o None ≡ o
    beside None = refl
    beside (Some x) = refl

-- and the new one is found
pub numbered_last : (live : List LiveClause) (new : LiveClause) → clause_numbered live new.number ≡ None → clause_numbered (live ++ new ∷ []) new.number ≡ Some new
numbered_last live new none =
    find-append (λ (clause : LiveClause). clause.number == new.number) live (new ∷ []) ∙ ap (λ o. option_or o (clause_numbered (new ∷ []) new.number)) none
    ∙ ap (λ b. cond b (Some new) None) (eq-eqb new.number new.number refl)

-- a number that isn't given yet is in no list
pub unlisted_new : (state : WatchState) (lists : Lists) → IsThreaded state lists → (i : ℕ) → i < length state.first → has (lists i) (length state.arena.heads) ≡ false
unlisted_new state lists threaded i within =
    elim (has (lists i) (length state.arena.heads)) as (λ b. has (lists i) (length state.arena.heads) ≡ b → b ≡ false) [
      | true ↦ λ among.
          let at = leads_among state.arena.heads (literal_at i) (slice_index_or state.first i None) (lists i) None (threaded.chained i within) (length state.arena.heads) among in
          absurd (omega (arith, slice_get_within state.arena.heads (length state.arena.heads) at.1.head at.1.is_head))
      | false ↦ λ _. refl
    ] refl
