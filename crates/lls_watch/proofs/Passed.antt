-- Where all was passed, each clause that watches two literals is settled.
use Rattle.std.proofs.Common.{◌≡◌, ◌≤◌, ◌<◌, zero, suc, ℕ, ℤ, pos, Bool, true, false, not, ◌||◌, cond, List, [], ◌∷◌, Some, refl, sym, ap, ◌∙◌, subst, arith, length, ◌⊎◌, inl, inr, ⊎_elim}
use Rattle.std.specs.Prelude.{slice_get}
use Rattle.std.specs.List.{Contains}
use Rattle.std.specs.Ordering.{int_eq}
use Rattle.std.specs.FinSet as set
use Rattle.std.proofs.lemmas.Option.{slice_get_within}
use Rattle.std.proofs.lemmas.Bool.Decides.{Decides-int_eq}
use Rattle.std.proofs.lemmas.List.Elements.{Contains-get_or}
use Rattle.lls_lit.specs.Literal.{negation}
use Rattle.lls_store.specs.Trail.{Entry, TrailState, Has, HasNegated, has}
use Rattle.lls_store.specs.Clauses.{LiveClause, IsIn}
use Rattle.lls_store.specs.Closed.{IsSettled, IsClosed}
use Rattle.lls_store.proofs.Sets.{IsIn-from_Contains}
use Rattle.lls_arena.specs.Arena.{HeadState, place_of}
use Rattle.lls_watch.specs.Watches.{IsWatching, watched}
use Rattle.lls_watch.specs.declared.progress.Progress.{Progress}
use Rattle.lls_watch.specs.Passed.{live_from, ArePassed}

-- where the trail has a literal
pub record IsAt (entries : List Entry) (l : ℤ) : Type 0 where
  pub place : ℕ
  pub entry : Entry
  pub found : slice_get entries place ≡ Some entry
  pub is_it : entry.lit ≡ l

pub entry_at : (entries : List Entry) (l : ℤ) → Has entries l → IsAt entries l
entry_at [] l there = absurd cc
entry_at (e ∷ es) l there =
    elim (int_eq e.lit l) as (λ b. int_eq e.lit l ≡ b → (b || has es l) ≡ true → IsAt (e ∷ es) l) [
      | true ↦ λ is _. record { place = 0; entry = e; found = refl; is_it = (Decides-int_eq e.lit l).0 is }
      | false ↦ λ _ rest. let at = entry_at es l rest in record { place = suc at.place; entry = at.entry; found = at.found; is_it = at.is_it }
    ] refl there

pub has_at : (entries : List Entry) (place : ℕ) (entry : Entry) → slice_get entries place ≡ Some entry → Has entries entry.lit
has_at [] place entry found = absurd cc
has_at (e ∷ es) zero entry found =
    let same : e ≡ entry = cc in
    ap (λ b. b || has es entry.lit) ((Decides-int_eq e.lit entry.lit).1 (ap (λ x. x.lit) same))
has_at (e ∷ es) (suc place) entry found = later (int_eq e.lit entry.lit) (has_at es place entry found)
  where
    later : (a : Bool) {b : Bool} → b ≡ true → (a || b) ≡ true
    later true there = refl
    later false there = there

-- a live clause of an arena
pub record IsLiveHead (heads : List HeadState) (clause : LiveClause) : Type 0 where
  pub place : ℕ
  pub head : HeadState
  pub found : slice_get heads place ≡ Some head
  pub live : head.live ≡ true
  pub lits : clause.lits ≡ set.from_list head.lits

first_or_later : (x : LiveClause) (xs : List LiveClause) (clause : LiveClause) → Contains (x ∷ xs) clause → (x ≡ clause) ⊎ Contains xs clause
first_or_later x xs clause (zero, within, is) = inl is
first_or_later x xs clause (suc k, within, is) = inr (k, omega (arith, within), is)

pub live_head : (n : ℕ) (heads : List HeadState) (clause : LiveClause) → Contains (live_from n heads) clause → IsLiveHead heads clause
live_head n [] clause (k, within, is) = absurd (omega (arith, within))
live_head n (h ∷ hs) clause among = by_live (λ later. live_head (suc n) hs clause later) h.live refl among
  where
    rest : List LiveClause
    rest = live_from (suc n) hs

    behind : IsLiveHead hs clause → IsLiveHead (h ∷ hs) clause
    behind it = record { place = suc it.place; head = it.head; found = it.found; live = it.live; lits = it.lits }

    here : h.live ≡ true → record { number = n; id = h.id; lits = set.from_list h.lits } ≡ clause → IsLiveHead (h ∷ hs) clause
    here live is = record { place = 0; head = h; found = refl; live = live; lits = sym (ap (λ (x : LiveClause). x.lits) is) }

    by_live : (Contains rest clause → IsLiveHead hs clause) → (b : Bool) → h.live ≡ b → Contains (cond b (record { number = n; id = h.id; lits = set.from_list h.lits } ∷ rest) rest) clause → IsLiveHead (h ∷ hs) clause
    by_live later true live all = ⊎_elim (here live) (λ more. behind (later more)) (first_or_later _ rest clause all)
    by_live later false dead all = behind (later all)

-- each live clause watches two literals, or is settled as it is
abbrev pub AreWatchingOrSettled : List HeadState → List Entry → Type 0
AreWatchingOrSettled heads entries =
    (c : ℕ) (head : HeadState) → slice_get heads c ≡ Some head → head.live ≡ true → IsWatching head ⊎ IsSettled entries (set.from_list head.lits)

-- a clause has the literals that it watches
pub watched_in : (head : HeadState) → IsWatching head → (w : Bool) → IsIn (set.from_list head.lits) (watched w head)
watched_in head watching w =
    let within : place_of w < length head.lits = place_within w in
    IsIn-from_Contains head.lits (watched w head) (Contains-get_or head.lits (place_of w) (pos 0) within)
  where
    place_within : (w : Bool) → place_of w < length head.lits
    place_within false = omega (arith, watching.long)
    place_within true = watching.long

watching_settled : (heads : List HeadState) (entries : List Entry) (progress : Progress) → ArePassed heads entries progress → length entries ≤ progress.passed
    → (c : ℕ) (head : HeadState) → slice_get heads c ≡ Some head → head.live ≡ true → IsWatching head → IsSettled entries (set.from_list head.lits)
watching_settled heads entries progress passed all c head found live watching = by_first (has entries (negation first)) refl
  where
    first : ℤ
    first = watched false head

    second : ℤ
    second = watched true head

    clash : true ≡ false → ⊥
    clash e = absurd cc

    by_other : (w : Bool) → HasNegated entries (watched w head) → IsSettled entries (set.from_list head.lits)
    by_other w there =
        let at = entry_at entries (negation (watched w head)) there in
        let offset = passed c head w at.place at.entry found live watching (omega (arith, all, slice_get_within entries at.place at.entry at.found)) at.found at.is_it in
        IsSettled.satisfied (watched (not w) head) (watched_in head watching (not w)) (subst (Has entries) offset.is_true (has_at entries offset.at offset.entry offset.found))

    by_second : ¬ HasNegated entries first → (b : Bool) → has entries (negation second) ≡ b → IsSettled entries (set.from_list head.lits)
    by_second not_first true there = by_other true there
    by_second not_first false lacks =
        IsSettled.two_left first second (watched_in head watching false) (watched_in head watching true) watching.differ not_first (λ there. absurd (clash (sym there ∙ lacks)))

    by_first : (b : Bool) → has entries (negation first) ≡ b → IsSettled entries (set.from_list head.lits)
    by_first true there = by_other false there
    by_first false lacks = by_second (λ there. absurd (clash (sym there ∙ lacks))) (has entries (negation second)) refl

pub closed_by_watches : (heads : List HeadState) (trail : TrailState) (progress : Progress) → AreWatchingOrSettled heads trail.entries → ArePassed heads trail.entries progress
    → length trail.entries ≤ progress.passed → IsClosed (live_from 0 heads) trail
closed_by_watches heads trail progress each passed all clause among =
    let it = live_head 0 heads clause among in
    subst (IsSettled trail.entries) (sym it.lits)
    (⊎_elim (watching_settled heads trail.entries progress passed all it.place it.head it.found it.live) (λ settled. settled) (each it.place it.head it.found it.live))
