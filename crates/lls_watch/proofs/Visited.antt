-- What a visit makes of one clause: its other watched literal is true in time, or it forces one, or it is false.
use Rattle.std.proofs.Common.{◌≡◌, ◌≤◌, ◌<◌, ◌+◌, zero, suc, ℕ, ℤ, pos, Bool, true, false, not, ◌||◌, cond, List, [], ◌∷◌, Option, Some, None, refl, sym, ap, ◌∙◌, subst, arith, length, zero-add, ◌⊎◌, inl, inr, ⊎_elim}
use Rattle.std.specs.Prelude.{◌≢◌, slice_get, slice_index_or, ◌==◌}
use Rattle.std.specs.FinSet as set
use Rattle.std.proofs.lemmas.Bool.{eq-eqb, eqb-true}
use Rattle.lls_store.specs.Trail.{Entry, TrailState, Has, HasNegated, IsTrail}
use Rattle.lls_store.specs.Clauses.{LiveClause, IsIn, clause_numbered}
use Rattle.lls_store.specs.Sound.{IsForced}
use Rattle.lls_store.specs.Store.{IsConflict}
use Rattle.lls_store.proofs.Sets.{Contains-from_IsIn}
use Rattle.lls_arena.specs.Arena.{HeadState}
use Rattle.lls_watch.specs.declared.progress.Progress.{Progress}
use Rattle.lls_watch.specs.Watches.{IsWatching, watched}
use Rattle.lls_watch.specs.Passed.{IsMarked, IsOffset, live_from}
use Rattle.lls_watch.specs.Visit.{AreRestFalse}
use Rattle.lls_watch.specs.Visiting.{AreVisited}
use Rattle.lls_watch.proofs.Changed.{some_same, same_or_not}
use Rattle.lls_watch.proofs.Kept.{level_most}
use Rattle.lls_watch.proofs.Passed.{entry_at, watched_in}

-- a true literal offsets a false one where its place is marked
pub offset_marked : (es : List Entry) (mark : Option ℕ) (place level : ℕ) (other : ℤ) → Has es other → IsMarked mark place → IsOffset es mark place level other
offset_marked es mark place level other is_true marked =
    let at = entry_at es other is_true in
    record { at = at.place; entry = at.entry; found = at.found; is_true = at.is_it; in_time = inr marked }

-- and where the false one is of the current level
offset_in_time : (trail : TrailState) (mark : Option ℕ) (place level : ℕ) (other : ℤ) → IsTrail trail → trail.current ≤ level → Has trail.entries other → IsOffset trail.entries mark place level other
offset_in_time trail mark place level other kept high is_true =
    let at = entry_at trail.entries other is_true in
    record {
      at = at.place;
      entry = at.entry;
      found = at.found;
      is_true = at.is_it;
      in_time = inl (omega (arith, level_most 0 trail.entries at.place at.entry kept.levels at.found, kept.current, high));
    }

-- so it is in either case
pub offset_here : (trail : TrailState) (mark : Option ℕ) (place level : ℕ) (other : ℤ) → IsTrail trail → (trail.current ≤ level) ⊎ IsMarked mark place → Has trail.entries other → IsOffset trail.entries mark place level other
offset_here trail mark place level other kept (inl high) is_true = offset_in_time trail mark place level other kept high is_true
offset_here trail mark place level other kept (inr marked) is_true = offset_marked trail.entries mark place level other is_true marked

-- one clause alone was visited
pub visited_one : (heads : List HeadState) (es : List Entry) (progress : Progress) (level : ℕ) (lit : ℤ) (c : ℕ) (head : HeadState) (w : Bool) → slice_get heads c ≡ Some head → watched w head ≡ lit
    → IsOffset es progress.mark progress.passed level (watched (not w) head) → AreVisited heads es progress level lit (c ∷ [])
visited_one heads es progress level lit c head w found watches offset k other v among there live watching is =
    let one : c ≡ k = eqb-true c k (alone (c == k) among) in
    let same : head ≡ other = some_same head other (sym found ∙ ap (slice_get heads) one ∙ there) in
    by_side v (same_or_not w v) same watching is
  where
    alone : (b : Bool) → (b || false) ≡ true → b ≡ true
    alone true e = e
    alone false e = e

    clash : (b : Bool) → (h : HeadState) → IsWatching h → watched b h ≡ watched (not b) h → ⊥
    clash true h watching e = watching.differ (sym e)
    clash false h watching e = watching.differ e

    by_side : (v : Bool) → ((v ≡ w) ⊎ (v ≡ not w)) → head ≡ other → IsWatching other → watched v other ≡ lit → IsOffset es progress.mark progress.passed level (watched (not v) other)
    by_side v (inl e) same watching is =
        subst (λ (h : HeadState). IsOffset es progress.mark progress.passed level (watched (not v) h)) same (subst (λ b. IsOffset es progress.mark progress.passed level (watched (not b) head)) (sym e) offset)
    by_side v (inr e) same watching is =
        absurd (clash w other watching (subst (λ (h : HeadState). watched w h ≡ lit) same watches ∙ sym (subst (λ b. watched b other ≡ lit) e is)))

-- a live clause is found under its number
pub head_numbered : (n : ℕ) (heads : List HeadState) (c : ℕ) (head : HeadState) → slice_get heads c ≡ Some head → head.live ≡ true
    → clause_numbered (live_from n heads) (n + c) ≡ Some (record { number = n + c; id = head.id; lits = set.from_list head.lits })
head_numbered n [] c head found live = absurd cc
head_numbered n (h ∷ hs) zero head found live = by_live h.live refl
  where
    same : h ≡ head
    same = some_same h head found

    first : n + zero ≡ n
    first = omega arith

    by_live : (b : Bool) → h.live ≡ b
        → clause_numbered (cond b (record { number = n; id = h.id; lits = set.from_list h.lits } ∷ live_from (suc n) hs) (live_from (suc n) hs)) (n + zero) ≡ Some (record { number = n + zero; id = head.id; lits = set.from_list head.lits })
    by_live true is =
        ap (λ b. cond b (Some (record { number = n; id = h.id; lits = set.from_list h.lits })) (clause_numbered (live_from (suc n) hs) (n + zero))) (eq-eqb n (n + zero) (sym first))
        ∙ ap (λ (k : ℕ). Some (record { number = k; id = h.id; lits = set.from_list h.lits })) (sym first)
        ∙ ap (λ (x : HeadState). Some (record { number = n + zero; id = x.id; lits = set.from_list x.lits })) same
    by_live false is =
        let both : true ≡ false = sym live ∙ ap (λ (x : HeadState). x.live) (sym same) ∙ is in
        absurd cc
head_numbered n (h ∷ hs) (suc c) head found live = by_live h.live (head_numbered (suc n) hs c head found live)
  where
    more : suc n + c ≡ n + suc c
    more = omega arith

    apart : (n == (n + suc c)) ≡ false
    apart =
        elim (n == (n + suc c)) as (λ b. (n == (n + suc c)) ≡ b → b ≡ false) [
          | true ↦ λ is. absurd (omega (arith, eqb-true n (n + suc c) is))
          | false ↦ λ _. refl
        ] refl

    by_live : (b : Bool) → clause_numbered (live_from (suc n) hs) (suc n + c) ≡ Some (record { number = suc n + c; id = head.id; lits = set.from_list head.lits })
        → clause_numbered (cond b (record { number = n; id = h.id; lits = set.from_list h.lits } ∷ live_from (suc n) hs) (live_from (suc n) hs)) (n + suc c) ≡ Some (record { number = n + suc c; id = head.id; lits = set.from_list head.lits })
    by_live false later = subst (λ k. clause_numbered (live_from (suc n) hs) k ≡ Some (record { number = k; id = head.id; lits = set.from_list head.lits })) more later
    by_live true later =
        ap (λ b. cond b (Some (record { number = n; id = h.id; lits = set.from_list h.lits })) (clause_numbered (live_from (suc n) hs) (n + suc c))) apart
        ∙ subst (λ k. clause_numbered (live_from (suc n) hs) k ≡ Some (record { number = k; id = head.id; lits = set.from_list head.lits })) more later

-- below the first number nothing is found
none_below : (n k : ℕ) (heads : List HeadState) → k < n → clause_numbered (live_from n heads) k ≡ None
none_below n k [] below = refl
none_below n k (h ∷ hs) below = by_live h.live (none_below (suc n) k hs (omega (arith, below)))
  where
    apart : (n == k) ≡ false
    apart =
        elim (n == k) as (λ b. (n == k) ≡ b → b ≡ false) [
          | true ↦ λ is. absurd (omega (arith, eqb-true n k is, below))
          | false ↦ λ _. refl
        ] refl

    by_live : (b : Bool) → clause_numbered (live_from (suc n) hs) k ≡ None
        → clause_numbered (cond b (record { number = n; id = h.id; lits = set.from_list h.lits } ∷ live_from (suc n) hs) (live_from (suc n) hs)) k ≡ None
    by_live false later = later
    by_live true later = ap (λ b. cond b (Some (record { number = n; id = h.id; lits = set.from_list h.lits })) (clause_numbered (live_from (suc n) hs) k)) apart ∙ later

-- behind the last number neither
pub none_behind : (n k : ℕ) (heads : List HeadState) → n + length heads ≤ k → clause_numbered (live_from n heads) k ≡ None
none_behind n k [] far = refl
none_behind n k (h ∷ hs) far = by_live h.live (none_behind (suc n) k hs (omega (arith, far)))
  where
    apart : (n == k) ≡ false
    apart =
        elim (n == k) as (λ b. (n == k) ≡ b → b ≡ false) [
          | true ↦ λ is. absurd (omega (arith, eqb-true n k is, far))
          | false ↦ λ _. refl
        ] refl

    by_live : (b : Bool) → clause_numbered (live_from (suc n) hs) k ≡ None
        → clause_numbered (cond b (record { number = n; id = h.id; lits = set.from_list h.lits } ∷ live_from (suc n) hs) (live_from (suc n) hs)) k ≡ None
    by_live false later = later
    by_live true later = ap (λ b. cond b (Some (record { number = n; id = h.id; lits = set.from_list h.lits })) (clause_numbered (live_from (suc n) hs) k)) apart ∙ later

-- what is found is live
pub live_numbered : (n : ℕ) (heads : List HeadState) (c : ℕ) (clause : LiveClause) → clause_numbered (live_from n heads) (n + c) ≡ Some clause → (h : HeadState) × ((slice_get heads c ≡ Some h) × (h.live ≡ true))
live_numbered n [] c clause found = absurd cc
live_numbered n (h ∷ hs) zero clause found = by_live h.live refl found
  where
    by_live : (b : Bool) → h.live ≡ b → clause_numbered (cond b (record { number = n; id = h.id; lits = set.from_list h.lits } ∷ live_from (suc n) hs) (live_from (suc n) hs)) (n + zero) ≡ Some clause
        → (g : HeadState) × ((slice_get (h ∷ hs) zero ≡ Some g) × (g.live ≡ true))
    by_live true is _ = (h, (refl, is))
    by_live false _ there =
        let none : None ≡ Some clause = sym (none_below (suc n) (n + zero) hs (omega arith)) ∙ there in
        absurd cc
live_numbered n (h ∷ hs) (suc c) clause found = by_live h.live (live_numbered (suc n) hs c clause) found
  where
    more : suc n + c ≡ n + suc c
    more = omega arith

    apart : (n == (n + suc c)) ≡ false
    apart =
        elim (n == (n + suc c)) as (λ b. (n == (n + suc c)) ≡ b → b ≡ false) [
          | true ↦ λ is. absurd (omega (arith, eqb-true n (n + suc c) is))
          | false ↦ λ _. refl
        ] refl

    by_live : (b : Bool) → (clause_numbered (live_from (suc n) hs) (suc n + c) ≡ Some clause → (g : HeadState) × ((slice_get hs c ≡ Some g) × (g.live ≡ true)))
        → clause_numbered (cond b (record { number = n; id = h.id; lits = set.from_list h.lits } ∷ live_from (suc n) hs) (live_from (suc n) hs)) (n + suc c) ≡ Some clause
        → (g : HeadState) × ((slice_get hs c ≡ Some g) × (g.live ≡ true))
    by_live false later there = later (subst (λ k. clause_numbered (live_from (suc n) hs) k ≡ Some clause) (sym more) there)
    by_live true later there =
        later
        (subst (λ k. clause_numbered (live_from (suc n) hs) k ≡ Some clause) (sym more)
        (sym (ap (λ b. cond b (Some (record { number = n; id = h.id; lits = set.from_list h.lits })) (clause_numbered (live_from (suc n) hs) (n + suc c))) apart) ∙ there))

-- each literal of a clause is a watched one or behind them
each_literal : (head : HeadState) (w : Bool) (P : ℤ → Type 0) → P (watched w head) → P (watched (not w) head) → ((n : ℕ) → 1 < n → n < length head.lits → P (slice_index_or head.lits n (pos 0)))
    → (m : ℤ) → IsIn (set.from_list head.lits) m → P m
each_literal head w P this other rest m among =
    let at = Contains-from_IsIn head.lits m among in
    subst P (sym (defaults head.lits at.0 at.1 m (pos 0)) ∙ at.2) (by_place w this other at.0 at.1)
  where
    defaults : (ls : List ℤ) (k : ℕ) → k < length ls → (a b : ℤ) → slice_index_or ls k a ≡ slice_index_or ls k b
    defaults [] k within a b = absurd (omega (arith, within))
    defaults (l ∷ ls) zero within a b = refl
    defaults (l ∷ ls) (suc k) within a b = defaults ls k (omega (arith, within)) a b

    by_place : (w : Bool) → P (watched w head) → P (watched (not w) head) → (k : ℕ) → k < length head.lits → P (slice_index_or head.lits k (pos 0))
    by_place true this other zero within = other
    by_place false this other zero within = this
    by_place true this other (suc zero) within = this
    by_place false this other (suc zero) within = other
    by_place w this other (suc (suc k)) within = rest (suc (suc k)) (omega arith) within

-- where all but the other watched literal are false, it is forced
pub forced_by : (heads : List HeadState) (es : List Entry) (c : ℕ) (head : HeadState) (w : Bool) → slice_get heads c ≡ Some head → head.live ≡ true → IsWatching head → HasNegated es (watched w head)
    → AreRestFalse es head.lits (watched (not w) head) → IsForced (live_from 0 heads) es (watched (not w) head) c
forced_by heads es c head w found live watching is_false rest = record {
  clause = record { number = c; id = head.id; lits = set.from_list head.lits };
  is_live = subst (λ k. clause_numbered (live_from 0 heads) k ≡ Some (record { number = k; id = head.id; lits = set.from_list head.lits })) (zero-add c) (head_numbered 0 heads c head found live);
  stands = watched_in head watching (not w);
  others_false =
      each_literal head w (λ m. m ≢ watched (not w) head → HasNegated es m) (λ _. is_false) (λ differs. absurd (differs refl))
      (λ n behind inside differs. ⊎_elim (λ no. no) (λ same. absurd (differs same)) (rest n behind inside));
}

-- where it is false too, the clause is
pub conflict_at : (heads : List HeadState) (trail : TrailState) (c : ℕ) (head : HeadState) (w : Bool) → slice_get heads c ≡ Some head → head.live ≡ true → HasNegated trail.entries (watched w head)
    → HasNegated trail.entries (watched (not w) head) → AreRestFalse trail.entries head.lits (watched (not w) head) → IsConflict (live_from 0 heads) trail c
conflict_at heads trail c head w found live is_false other_false rest = record {
  clause = record { number = c; id = head.id; lits = set.from_list head.lits };
  is_live = subst (λ k. clause_numbered (live_from 0 heads) k ≡ Some (record { number = k; id = head.id; lits = set.from_list head.lits })) (zero-add c) (head_numbered 0 heads c head found live);
  all_false =
      each_literal head w (HasNegated trail.entries) is_false other_false
      (λ n behind inside. ⊎_elim (λ no. no) (λ same. subst (HasNegated trail.entries) (sym same) other_false) (rest n behind inside));
}
