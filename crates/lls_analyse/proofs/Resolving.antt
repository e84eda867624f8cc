-- Back from a conflict along reasons, as far as a place of the trail.
use Rattle.std.proofs.Common.{◌≡◌, ◌≢◌, ℕ, ◌+◌, ◌-◌, ◌<◌, ◌≤◌, true, false, List, length, take, Option, Some, None, refl, sym, ap, subst, ◌∙◌, inl, inr, arith}
use Rattle.std.specs.Prelude.{ℤ, ◌⊎◌, Contains, count_by, slice_get, option_map}
use Rattle.std.specs.FinSet as set
use Rattle.std.proofs.lemmas.List.{take_all}
use Rattle.lls_lit.specs.Literal.{variable_of, negation}
use Rattle.lls_lit.specs.Formula.{is_within}
use Rattle.lls_store.specs.Trail.{Entry, TrailState, has, HasNegated, IsTrail, entry_of, level_of, decisions}
use Rattle.lls_store.specs.Clauses.{LiveClause, Literals, IsIn, clause_numbered}
use Rattle.lls_store.specs.Store.{StoreState, AreLive, AreWithin, IsConflict}
use Rattle.lls_store.specs.Uip.{LeadsTo}
use Rattle.lls_store.proofs.Values.{variable_of-negation}
use Rattle.lls_store.proofs.Sets.{Contains-from_IsIn, IsIn-from_Contains, is_within-from_AreWithin}
use Rattle.lls_analyse.specs.declared.visited.Seen.{Seen}
use Rattle.lls_analyse.specs.declared.visited.Seen.TheVariants.{No, Open, Kept, Followed}
use Rattle.lls_analyse.specs.Visited.{VisitedState, is_seen, is_open, is_held, status, status_of, AreVisited}
use Rattle.lls_analyse.specs.Marked.{AreMarked, HoldsClause, IsExplained, nothing_seen, CanLeave}
use Rattle.lls_analyse.proofs.Visits.{unlike}
use Rattle.lls_analyse.proofs.Trails.{false_within, consistent_trail, entry_at, level_at, behind_current, entry_of_here, has_more, has_wider}
use Rattle.lls_analyse.proofs.Walk.{place_before}
use Rattle.lls_analyse.proofs.Holds.{visited_contains, Holds, holds}
use Rattle.lls_analyse.proofs.Opens.{some_open, counts_open, AreVisited-nothing, get_or-nothing}
use Rattle.lls_analyse.proofs.LiveClauses.{clause_within}

-- the literals that are held are those to which resolution leads
pub record LeadsOn (live : List LiveClause) (trail : TrailState) (start : Literals) (s : VisitedState) : Type 0 where
  pub now : Literals
  pub now_contains : (l : ℤ) → IsIn now l → Contains s.lits l
  pub now_held : (l : ℤ) → IsIn now l → is_held (status s.seen l) ≡ true
  pub held_now : (l : ℤ) → Contains s.lits l → is_held (status s.seen l) ≡ true → IsIn now l
  pub leads : (uip : Literals) → LeadsTo live trail now uip → LeadsTo live trail start uip

-- the literals that are held became false before the place, and those that were followed didn't
pub record IsResolving (live : List LiveClause) (trail : TrailState) (number left : ℕ) (s : VisitedState) (place : ℕ) : Type 0 where
  pub conflict : LiveClause
  pub is_live : clause_numbered live number ≡ Some conflict
  pub visited : AreVisited s
  pub marked : AreMarked trail s
  pub explained : IsExplained live trail.entries conflict s
  pub at_least : left ≤ count_by is_open s.seen
  pub within : place ≤ length trail.entries
  pub held_early : (l : ℤ) → Contains s.lits l → is_held (status s.seen l) ≡ true → HasNegated (take place trail.entries) l
  pub followed_late : (l : ℤ) → Contains s.lits l → status s.seen l ≡ Followed → ¬ HasNegated (take place trail.entries) l
  pub leads_on : left ≡ 1 → LeadsOn live trail conflict.lits s

pub same_found : {X : Type 0} → {o : Option X} → (x y : X) → o ≡ Some x → o ≡ Some y → x ≡ y
same_found x y a b = cc

-- what a live clause that was held changed
pub record HeldClause (live : List LiveClause) (trail : TrailState) (old new : VisitedState) (clause : LiveClause) : Type 0 where
  pub visited : AreVisited new
  pub marked : AreMarked trail new
  pub all_seen : (l : ℤ) → IsIn clause.lits l → is_seen (status new.seen l) ≡ true
  pub stays : (l : ℤ) → is_seen (status old.seen l) ≡ true → status new.seen l ≡ status old.seen l
  pub newly : (l : ℤ) → HasNegated trail.entries l → is_seen (status old.seen l) ≡ false → is_seen (status new.seen l) ≡ true → IsIn clause.lits l × (is_held (status new.seen l) ≡ true)
  pub lits_stay : (l : ℤ) → Contains old.lits l → Contains new.lits l
  pub opens_rise : count_by is_open old.seen ≤ count_by is_open new.seen

pub held_clause : (store : StoreState) (trail : TrailState) (old new : VisitedState) (number : ℕ) → IsTrail trail → AreLive store → store.vars ≡ trail.vars → AreVisited old → AreMarked trail old → (h : HoldsClause store.live trail old new number)
    → ((l : ℤ) → IsIn h.clause.lits l → is_seen (status old.seen l) ≡ false → HasNegated trail.entries l) → HeldClause store.live trail old new h.clause
held_clause store trail old new number kept live vars visited marked h false_ =
    let is_in : (l : ℤ) → Contains h.lits l → IsIn h.clause.lits l = λ l inside. ap (λ (ls : Literals). set.contains ls l) (sym h.spelled) ∙ IsIn-from_Contains h.lits l inside in
    let contains : (l : ℤ) → IsIn h.clause.lits l → Contains h.lits l = λ l inside. Contains-from_IsIn h.lits l (ap (λ (ls : Literals). set.contains ls l) h.spelled ∙ inside) in
    let P : Literals → Type 0 = λ ls. AreWithin store.vars ls in
    let within : is_within trail.vars h.lits ≡ true = ap (λ n. is_within n h.lits) (sym vars) ∙ is_within-from_AreWithin store.vars h.lits (subst P (sym h.spelled) (clause_within store number h.clause live h.is_live)) in
    let all = holds trail old h.lits kept visited marked within (λ l inside unseen. false_ l (is_in l inside) unseen) in
    let Q : VisitedState → Type 0 = λ s. Holds trail old s h.lits in
    let now = subst Q (sym h.held) all in
    record {
      visited = now.visited;
      marked = now.marked;
      all_seen = λ l inside. now.all_seen l (contains l inside);
      stays = now.stays;
      newly = λ l false_l unseen seen. (let at = now.newly l false_l unseen seen in (is_in l at.0, at.1));
      lits_stay = now.lits_stay;
      opens_rise = now.opens_rise;
    }

pub held_cases : (x : Seen) → is_held x ≡ true → (x ≡ Open) ⊎ (x ≡ Kept)
held_cases No is = absurd cc
held_cases Open is = inl refl
held_cases Kept is = inr refl
held_cases Followed is = absurd cc

pub held_seen : (x : Seen) → is_held x ≡ true → is_seen x ≡ true
held_seen No is = absurd cc
held_seen Open is = refl
held_seen Kept is = refl
held_seen Followed is = absurd cc

-- at first the literals of the conflict are held
pub held_first : (store : StoreState) (trail : TrailState) (number : ℕ) (s : VisitedState) → IsTrail trail → AreLive store → store.vars ≡ trail.vars → IsConflict store.live trail number
    → (h : HoldsClause store.live trail (nothing_seen trail.vars) s number) → HeldClause store.live trail (nothing_seen trail.vars) s h.clause
held_first store trail number s kept live vars conflict h =
    let of_conflict : conflict.clause ≡ h.clause = same_found conflict.clause h.clause conflict.is_live h.is_live in
    held_clause store trail (nothing_seen trail.vars) s number kept live vars (AreVisited-nothing trail.vars kept.vars_fit)
    (record { same_vars = refl; all_false = λ l (k, lt, at). absurd (omega (arith, lt)); current = λ l (k, lt, at). absurd (omega (arith, lt)); lower = λ l (k, lt, at). absurd (omega (arith, lt)) })
    h (λ l inside _. conflict.all_false l (ap (λ (c : LiveClause). set.contains c.lits l) of_conflict ∙ inside))

-- and no other
pub first_held : (live : List LiveClause) (trail : TrailState) (s : VisitedState) (clause : LiveClause) → HeldClause live trail (nothing_seen trail.vars) s clause → (l : ℤ) → Contains s.lits l → IsIn clause.lits l × (is_held (status s.seen l) ≡ true)
first_held live trail s clause now l stands = now.newly l (now.marked.all_false l stands) (ap is_seen (get_or-nothing trail.vars (variable_of l - 1))) (now.visited.all_seen l stands)

pub begins : (store : StoreState) (trail : TrailState) (number left : ℕ) (s : VisitedState) → IsTrail trail → AreLive store → store.vars ≡ trail.vars → IsConflict store.live trail number → CanLeave store.live trail number left
    → HoldsClause store.live trail (nothing_seen trail.vars) s number → IsResolving store.live trail number left s (length trail.entries)
begins store trail number left s kept live vars conflict can h =
    let of_conflict : conflict.clause ≡ h.clause = same_found conflict.clause h.clause conflict.is_live h.is_live in
    let false_ : (l : ℤ) → IsIn h.clause.lits l → HasNegated trail.entries l = λ l inside. conflict.all_false l (ap (λ (c : LiveClause). set.contains c.lits l) of_conflict ∙ inside) in
    let now = held_first store trail number s kept live vars conflict h in
    let new_at = first_held store.live trail s h.clause now in
    let stands_in : (l : ℤ) → IsIn h.clause.lits l → Contains s.lits l = λ l inside.
    visited_contains trail.entries s l (consistent_trail trail kept) now.visited now.marked.all_false (false_ l inside) (false_within trail l kept (false_ l inside)).0 (now.all_seen l inside) in
    record {
      conflict = h.clause;
      is_live = h.is_live;
      visited = now.visited;
      marked = now.marked;
      explained = record { conflict_seen = now.all_seen; followed = λ l stands is. absurd (not_followed (status s.seen l) (new_at l stands).1 is) };
      at_least = elim can [
        | inl t ↦ omega (arith, t.0)
        | inr t ↦
            let c = t.1.1 in
            let same : c.conflict.clause ≡ h.clause = same_found c.conflict.clause h.clause c.conflict.is_live h.is_live in
            let inside : IsIn h.clause.lits c.literal = ap (λ (x : LiveClause). set.contains x.lits c.literal) (sym same) ∙ c.is_current.is_in in
            let stands = stands_in c.literal inside in
            let is : status s.seen c.literal ≡ Open = open_at c.literal stands c.is_current.of_level now.marked (new_at c.literal stands).1 in
            let low = (false_within trail c.literal kept (false_ c.literal inside)) in
            omega (arith, t.0, counts_open s.seen (variable_of c.literal - 1) (omega (arith, low.0, low.1, now.visited.each, now.marked.same_vars)) is)
      ];
      within = omega arith;
      held_early = λ l stands held. ap (λ (es : List Entry). has es (negation l)) (take_all (length trail.entries) trail.entries (omega arith)) ∙ now.marked.all_false l stands;
      followed_late = λ l stands is. absurd (not_followed (status s.seen l) (new_at l stands).1 is);
      leads_on = λ _. record {
        now = h.clause.lits;
        now_contains = stands_in;
        now_held = λ l inside. (new_at l (stands_in l inside)).1;
        held_now = λ l stands _. (new_at l stands).0;
        leads = λ uip leads. leads;
      };
    } where
      not_followed : (x : Seen) → is_held x ≡ true → x ≡ Followed → ⊥
      not_followed x held is = unlike held (ap is_held is)

      open_at : (l : ℤ) → Contains s.lits l → level_of trail.entries (variable_of l) ≡ Some trail.current → AreMarked trail s → is_held (status s.seen l) ≡ true → status s.seen l ≡ Open
      open_at l stands at marked held = elim (held_cases (status s.seen l) held) [ inl is ↦ is | inr is ↦ absurd (marked.lower l stands is at) ]

-- an open literal of another variable stands before, on the current level
pub record StandsBefore (trail : TrailState) (k : ℕ) : Type 0 where
  pub place : ℕ
  pub before : place < k
  pub on_current : decisions (take (place + 1) trail.entries) ≡ trail.current

pub stands_before : (trail : TrailState) (k : ℕ) (e : Entry) (l : ℤ) → IsTrail trail → slice_get trail.entries k ≡ Some e → HasNegated (take (k + 1) trail.entries) l → level_of trail.entries (variable_of l) ≡ Some trail.current → variable_of l ≢ variable_of e.lit → StandsBefore trail k
stands_before trail k e l kept here early level other = at (entry_of trail.entries (variable_of l)) refl level where
  at : (o : Option Entry) → entry_of trail.entries (variable_of l) ≡ o → option_map (λ (x : Entry). x.level) o ≡ Some trail.current → StandsBefore trail k
  at None found is = absurd cc
  at (Some x) found is =
      let (j, stands) = entry_at trail.entries (variable_of l) x found in
      let on : x.level ≡ trail.current = cc in
      let not_here : j ≢ k = λ same. other (sym stands.of_variable ∙ ap (λ (y : Entry). variable_of y.lit) (same_found x e (sym (ap (slice_get trail.entries) same) ∙ stands.here) here)) in
      record { place = j; before = omega (arith, place_before trail.entries (k + 1) j l early stands.place, not_here); on_current = sym (level_at trail j x kept stands.here) ∙ on }

-- the entry at a place that isn't open is passed by
pub skips : (live : List LiveClause) (trail : TrailState) (number left : ℕ) (s : VisitedState) (k : ℕ) (e : Entry) → IsTrail trail → IsResolving live trail number left s (k + 1) → slice_get trail.entries k ≡ Some e → status_of s.seen (variable_of e.lit) ≢ Open → left < count_by is_open s.seen
    → IsResolving live trail number left s k
skips live trail number left s k e kept h here shut more =
    let (o, opened) = some_open s h.visited (omega (arith, more)) in
    let before = stands_before trail k e o kept here (h.held_early o opened.contains (ap is_held opened.is_open)) (h.marked.current o opened.contains opened.is_open) (λ same. shut (ap (status_of s.seen) (sym same) ∙ opened.is_open)) in
    let behind = behind_current trail before.place k e kept before.on_current before.before here in
    let level : level_of trail.entries (variable_of e.lit) ≡ Some trail.current = ap (option_map (λ (x : Entry). x.level)) (entry_of_here trail.entries k e kept.once here) ∙ ap Some behind.1 in
    record {
      conflict = h.conflict;
      is_live = h.is_live;
      visited = h.visited;
      marked = h.marked;
      explained = h.explained;
      at_least = h.at_least;
      within = omega (arith, h.within);
      held_early = λ l stands held. elim (has_more trail.entries k e (negation l) here (h.held_early l stands held)) [
        | inl early ↦ early
        | inr is ↦
            let same : variable_of e.lit ≡ variable_of l = ap variable_of is ∙ variable_of-negation l in
            elim (held_cases (status s.seen l) held) [
              | inl open_ ↦ absurd (shut (ap (status_of s.seen) same ∙ open_))
              | inr kept_ ↦ absurd (h.marked.lower l stands kept_ (ap (level_of trail.entries) (sym same) ∙ level))
            ]
      ];
      followed_late = λ l stands is early. h.followed_late l stands is (has_wider trail.entries k (negation l) early);
      leads_on = h.leads_on;
    }
