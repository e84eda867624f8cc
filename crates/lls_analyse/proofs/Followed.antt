-- A literal of the current level gives way to the others of the clause that forced its negation, and what is left at the end.
use Rattle.std.proofs.Common.{◌≡◌, ◌≢◌, ℕ, zero, suc, ◌+◌, ◌-◌, ◌<◌, ◌≤◌, Bool, true, false, List, ◌∷◌, ◌++◌, length, set, take, drop, Option, Some, None, refl, sym, ap, subst, ◌∙◌, inl, inr, arith}
use Rattle.std.specs.Prelude.{ℤ, ◌⊎◌, Contains, count_by, slice_get, IsSome, option_map, option_and_then, is_none}
use Rattle.std.specs.Ordering.{int_eq}
use Rattle.std.specs.FinSet as set
use Rattle.std.proofs.lemmas.List.{get_or-set_other}
use Rattle.std.proofs.lemmas.Grind.{get_or-set_at}
use Rattle.std.proofs.Math.Seq.{split_at}
use Rattle.std.proofs.lemmas.Option.{get_or_from_slice_get, slice_get_within, slice_get-map}
use Rattle.std.proofs.lemmas.Bool.Decides.{eqb_tells, Decides-int_eq}
use Rattle.lls_lit.specs.Literal.{variable_of, negation}
use Rattle.lls_store.specs.Trail.{Entry, TrailState, literals_of, has, HasNegated, IsTrail, reason_of, is_decision}
use Rattle.lls_store.specs.Clauses.{LiveClause, Literals, IsIn, clause_numbered}
use Rattle.lls_store.specs.Sound.{IsSound}
use Rattle.lls_store.specs.Store.{StoreState, AreLive, IsConflict}
use Rattle.lls_store.specs.Uip.{IsCurrent, HasOneCurrent, HasTwoCurrent, IsLast, resolved_on}
use Rattle.lls_store.specs.Uip.LeadsTo.{reached, resolved}
use Rattle.lls_store.proofs.Values.{variable_of-negation}
use Rattle.lls_analyse.specs.declared.visited.Seen.{Seen}
use Rattle.lls_analyse.specs.declared.visited.Seen.TheVariants.{No, Open, Kept, Followed}
use Rattle.lls_analyse.specs.Visited.{VisitedState, is_seen, is_open, is_held, status, status_of, AreVisited}
use Rattle.lls_analyse.specs.Marked.{AreMarked, GivesWay, IsResolved, Follows, CanLeave}
use Rattle.lls_analyse.proofs.Visits.{unlike}
use Rattle.lls_lit.proofs.Flipped.{negation_twice}
use Rattle.lls_analyse.proofs.Trails.{same_false, false_within, consistent_trail, apart, behind_current, none_decided, entry_of_here, has_here, has_more, has_wider, has_rest}
use Rattle.lls_analyse.proofs.Walk.{others_earlier, has_taken}
use Rattle.lls_analyse.proofs.Holds.{visited_contains}
use Rattle.lls_analyse.proofs.Resolvents.{of_resolvent, resolvent_keeps, resolvent_gains}
use Rattle.lls_analyse.proofs.Opens.{IsOpen, some_open, open_alone, opens-follow, AreVisited-follow}
use Rattle.lls_analyse.proofs.Resolving.{skips, LeadsOn, IsResolving, HeldClause, held_clause, held_cases, held_seen, same_found, stands_before}

-- the literal at a place, and what is known once it gave way
module _ (live : List LiveClause) (trail : TrailState) (number left : ℕ) (s : VisitedState) (k : ℕ) (e : Entry)
    (kept : IsTrail trail) (h : IsResolving live trail number left s (k + 1)) (here : slice_get trail.entries k ≡ Some e) (opened : status_of s.seen (variable_of e.lit) ≡ Open) where
  l : ℤ
  l = negation e.lit

  mid : VisitedState
  mid = record s { seen = set s.seen (variable_of e.lit - 1) Followed }

  l_true : has trail.entries (negation l) ≡ true
  unfolding l
  l_true = ap (has trail.entries) (negation_twice e.lit) ∙ has_here trail.entries k e here

  l_variable : variable_of l ≡ variable_of e.lit
  unfolding l
  l_variable = variable_of-negation e.lit

  low : 1 ≤ variable_of e.lit
  unfolding l
  low = omega (arith, l_variable, (false_within trail l kept l_true).0)

  inside : variable_of e.lit - 1 < length s.seen
  unfolding l
  inside = omega (arith, low, l_variable, (false_within trail l kept l_true).1, h.visited.each, h.marked.same_vars)

  mid_visited : AreVisited mid
  unfolding mid
  mid_visited = AreVisited-follow s (variable_of e.lit - 1) h.visited inside opened

  mid_at : (m : ℤ) → variable_of m - 1 ≡ variable_of e.lit - 1 → status mid.seen m ≡ Followed
  unfolding mid
  mid_at m same = get_or-set_at s.seen (variable_of e.lit - 1) (variable_of m - 1) Followed No same inside

  mid_else : (m : ℤ) → variable_of m - 1 ≢ variable_of e.lit - 1 → status mid.seen m ≡ status s.seen m
  unfolding mid
  mid_else m other = get_or-set_other s.seen (variable_of e.lit - 1) (variable_of m - 1) Followed No other

  mid_seen : (m : ℤ) → is_seen (status s.seen m) ≡ true → is_seen (status mid.seen m) ≡ true
  mid_seen m seen = elim (eqb_tells (variable_of m - 1) (variable_of e.lit - 1)) [
    | inl t ↦ ap is_seen (mid_at m t.1)
    | inr t ↦ ap is_seen (mid_else m t.1) ∙ seen
  ]

  l_contains : Contains s.lits l
  unfolding l
  l_contains =
      visited_contains trail.entries s l (consistent_trail trail kept) h.visited h.marked.all_false l_true (omega (arith, low, l_variable)) (ap (λ v. is_seen (status_of s.seen v)) l_variable ∙ ap is_seen opened)

  l_open : status s.seen l ≡ Open
  unfolding l
  l_open = ap (status_of s.seen) l_variable ∙ opened

  -- a false literal is this one, or of another variable
  this_or_other : (m : ℤ) → HasNegated trail.entries m → (l ≡ m) ⊎ (variable_of m - 1 ≢ variable_of e.lit - 1)
  unfolding l
  this_or_other m false_ = elim (eqb_tells (variable_of m - 1) (variable_of e.lit - 1)) [
    | inl t ↦ inl (same_false trail.entries l m (consistent_trail trail kept) l_true false_ (omega (arith, t.1, low, l_variable, (false_within trail m kept false_).0)))
    | inr t ↦ inr t.1
  ]

  -- where the status isn't that of a followed literal, it is as before
  mid_same : (m : ℤ) → HasNegated trail.entries m → (status mid.seen m ≡ Followed → ⊥) → (status mid.seen m ≡ status s.seen m) × (l ≢ m)
  unfolding l
  mid_same m false_ not_so = elim (this_or_other m false_) [
    | inl t ↦ absurd (not_so (mid_at m (ap (λ x. variable_of x - 1) (sym t) ∙ ap (λ v. v - 1) l_variable)))
    | inr t ↦ (mid_else m t, λ same. t (ap (λ x. variable_of x - 1) (sym same) ∙ ap (λ v. v - 1) l_variable))
  ]

  mid_marked : AreMarked trail mid
  unfolding mid
  mid_marked = record {
    same_vars = h.marked.same_vars;
    all_false = h.marked.all_false;
    current = λ m stands is. h.marked.current m stands (sym (mid_same m (h.marked.all_false m stands) (λ f. open_followed (sym is ∙ f))).0 ∙ is);
    lower = λ m stands is. h.marked.lower m stands (sym (mid_same m (h.marked.all_false m stands) (λ f. kept_followed (sym is ∙ f))).0 ∙ is);
  } where
    open_followed : Open ≡ Followed → ⊥
    open_followed is = cc

    kept_followed : Kept ≡ Followed → ⊥
    kept_followed is = cc

  -- another open literal, where there is one
  other_open : 1 ≤ count_by is_open mid.seen → (m : ℤ) × (IsOpen s m × (variable_of m ≢ variable_of e.lit))
  unfolding mid
  other_open some =
      let (m, at) = some_open mid mid_visited some in
      let same = mid_same m (h.marked.all_false m at.contains) (λ f. open_followed (sym at.is_open ∙ f)) in
      (m, (record { contains = at.contains; is_open = sym same.0 ∙ at.is_open }, λ var. open_followed (sym at.is_open ∙ mid_at m (ap (λ v. v - 1) var)))) where
        open_followed : Open ≡ Followed → ⊥
        open_followed is = cc

  opens_less : count_by is_open mid.seen + 1 ≡ count_by is_open s.seen
  unfolding mid
  opens_less = opens-follow s.seen (variable_of e.lit - 1) inside opened

  -- a clause forced the literal
  not_decided : CanLeave live trail number left → left < count_by is_open s.seen → is_decision e ≡ false
  not_decided can more = elim can [
    | inl t ↦ none_decided trail k e kept t.1 here
    | inr t ↦
        let (m, other) = other_open (omega (arith, opens_less, more, t.0)) in
        let before = stands_before trail k e m kept here (h.held_early m other.0.contains (ap is_held other.0.is_open)) (h.marked.current m other.0.contains other.0.is_open) other.1 in
        (behind_current trail before.place k e kept before.on_current before.before here).0
  ]

  reason_is : reason_of trail.entries (variable_of e.lit) ≡ e.reason
  reason_is = ap (option_and_then (λ (x : Entry). x.reason)) (entry_of_here trail.entries k e kept.once here)

  -- and now the clause's others are held
  module _ (store : StoreState) (same_live : store.live ≡ live) (are_live : AreLive store) (vars : store.vars ≡ trail.vars) (sound : IsSound live trail)
      (new : VisitedState) (reason : ℕ) (has_reason : reason_of trail.entries (variable_of e.lit) ≡ Some reason) (clause : LiveClause) (is_live : clause_numbered live reason ≡ Some clause)
      (now : HeldClause live trail mid new clause) (more : left < count_by is_open s.seen) where
    early : (m : ℤ) → IsIn clause.lits m → m ≢ e.lit → HasNegated (take k trail.entries) m
    early m inside other = others_earlier live trail k e reason clause sound here (sym reason_is ∙ has_reason) is_live m inside other

    new_seen : (m : ℤ) → is_seen (status s.seen m) ≡ true → is_seen (status new.seen m) ≡ true
    new_seen m seen = let at = mid_seen m seen in ap is_seen (now.stays m at) ∙ at

    mid_lits : (m : ℤ) → Contains s.lits m → Contains new.lits m
    unfolding mid
    mid_lits m stands = now.lits_stay m stands

    -- of a visited literal: this one, one of before, or one that is new
    data Origin (m : ℤ) : Type 0 where
      this : l ≡ m → status new.seen m ≡ Followed → Origin m
      before : Contains s.lits m → status new.seen m ≡ status s.seen m → l ≢ m → Origin m
      fresh : IsIn clause.lits m → is_held (status new.seen m) ≡ true → m ≢ e.lit → Origin m

    origin : (m : ℤ) → Contains new.lits m → Origin m
    unfolding l mid
    origin m stands = by_seen (is_seen (status mid.seen m)) refl where
      false_ : HasNegated trail.entries m
      false_ = now.marked.all_false m stands

      not_it : is_seen (status mid.seen m) ≡ false → m ≢ e.lit
      not_it unseen same = unlike (ap (λ (x : Seen). is_seen x) (mid_at m (ap (λ x. variable_of x - 1) same))) unseen

      before_seen : (b : Bool) → is_seen (status s.seen m) ≡ b → is_seen (status mid.seen m) ≡ true → l ≢ m → variable_of m - 1 ≢ variable_of e.lit - 1 → is_seen (status s.seen m) ≡ true
      before_seen b is seen not_this other = ap is_seen (sym (mid_else m other)) ∙ seen

      by_seen : (b : Bool) → is_seen (status mid.seen m) ≡ b → Origin m
      by_seen true seen = elim (this_or_other m false_) [
        | inl t ↦ this t (now.stays m seen ∙ mid_at m (ap (λ x. variable_of x - 1) (sym t) ∙ ap (λ v. v - 1) l_variable))
        | inr t ↦
            let was : is_seen (status s.seen m) ≡ true = ap is_seen (sym (mid_else m t)) ∙ seen in
            before (visited_contains trail.entries s m (consistent_trail trail kept) h.visited h.marked.all_false false_ (false_within trail m kept false_).0 was) (now.stays m seen ∙ mid_else m t) (λ same. t (ap (λ x. variable_of x - 1) (sym same) ∙ ap (λ v. v - 1) l_variable))
      ]
      by_seen false unseen =
          let at = now.newly m false_ unseen (now.visited.all_seen m stands) in
          fresh at.0 at.1 (not_it unseen)

    held_early : (m : ℤ) → Contains new.lits m → is_held (status new.seen m) ≡ true → HasNegated (take k trail.entries) m
    unfolding l
    held_early m stands held = elim (origin m stands) [
      | this same is ↦ absurd (unlike held (ap is_held is))
      | before stood same not_this ↦ elim (has_more trail.entries k e (negation m) here (h.held_early m stood (ap is_held (sym same) ∙ held))) [
        | inl sooner ↦ sooner
        | inr is ↦ absurd (not_this (ap negation is ∙ negation_twice m))
      ]
      | fresh inside is other ↦ early m inside other
    ]

    followed_late : (m : ℤ) → Contains new.lits m → status new.seen m ≡ Followed → ¬ HasNegated (take k trail.entries) m
    unfolding l
    followed_late m stands is sooner = elim (origin m stands) [
      | this same is' ↦ apart trail.entries k e.lit kept.once (ap (has (take k trail.entries)) (sym (negation_twice e.lit) ∙ ap negation same) ∙ sooner) (has_rest trail.entries k e here)
      | before stood same not_this ↦ h.followed_late m stood (sym same ∙ is) (has_wider trail.entries k (negation m) sooner)
      | fresh _ held other ↦ unlike held (ap is_held is)
    ]

    gives_way : (m : ℤ) → Contains new.lits m → status new.seen m ≡ Followed → GivesWay live trail.entries new.seen m
    unfolding l
    gives_way m stands is = elim (origin m stands) [
      | this same is' ↦ record {
        reason = reason;
        clause = clause;
        has_reason = ap (reason_of trail.entries) (ap variable_of (sym same) ∙ l_variable) ∙ has_reason;
        is_live = is_live;
        all_seen = now.all_seen;
      }
      | before stood same not_this ↦
          let old = h.explained.followed m stood (sym same ∙ is) in
          record { reason = old.reason; clause = old.clause; has_reason = old.has_reason; is_live = old.is_live; all_seen = λ x inside. new_seen x (old.all_seen x inside) }
      | fresh _ held other ↦ absurd (unlike held (ap is_held is))
    ]

    resolvent : Literals → Literals
    resolvent lits = resolved_on lits l clause

    -- what is of the resolvent is held
    of_new : (on : LeadsOn live trail h.conflict.lits s) (m : ℤ) → IsIn (resolvent on.now) m → Contains new.lits m × (is_held (status new.seen m) ≡ true)
    unfolding l mid resolvent
    of_new on m within = elim (of_resolvent on.now l clause m within) [
      | inl t ↦
          let stood = on.now_contains m t.0 in
          let held = on.now_held m t.0 in
          let same = mid_same m (h.marked.all_false m stood) (λ is. t.1 (this_one m (h.marked.all_false m stood) is held)) in
          (mid_lits m stood, ap is_held (now.stays m (ap is_seen same.0 ∙ held_seen (status s.seen m) held) ∙ same.0) ∙ held)
      | inr t ↦
          let sooner = early m t.0 (λ same. t.1 (same ∙ sym (negation_twice e.lit))) in
          let false_ = has_taken trail.entries k (negation m) sooner in
          let stands = visited_contains trail.entries new m (consistent_trail trail kept) now.visited now.marked.all_false false_ (false_within trail m kept false_).0 (now.all_seen m t.0) in (
            stands,
            elim (origin m stands) [
              | this same is ↦ absurd (apart trail.entries k e.lit kept.once (ap (has (take k trail.entries)) (sym (negation_twice e.lit) ∙ ap negation same) ∙ sooner) (has_rest trail.entries k e here))
              | before stood same not_this ↦ ap is_held same ∙ not_late m stood sooner (now.all_seen m t.0) same
              | fresh _ held other ↦ held
            ],
          )
    ] where
      this_one : (m : ℤ) → HasNegated trail.entries m → status mid.seen m ≡ Followed → is_held (status s.seen m) ≡ true → m ≡ l
      this_one m false_ is held = elim (this_or_other m false_) [
        | inl t ↦ sym t
        | inr t ↦ absurd (unlike held (ap is_held (sym (mid_else m t) ∙ is)))
      ]

      cases : (x : Seen) → is_seen x ≡ true → (x ≡ Followed → ⊥) → is_held x ≡ true
      cases No seen not_so = absurd cc
      cases Open seen not_so = refl
      cases Kept seen not_so = refl
      cases Followed seen not_so = absurd (not_so refl)

      not_late : (m : ℤ) → Contains s.lits m → HasNegated (take k trail.entries) m → is_seen (status new.seen m) ≡ true → status new.seen m ≡ status s.seen m → is_held (status s.seen m) ≡ true
      not_late m stood sooner seen same = cases (status s.seen m) (ap is_seen (sym same) ∙ seen) (λ is. h.followed_late m stood is (has_wider trail.entries k (negation m) sooner))

    -- and what is held is of the resolvent
    new_of : (on : LeadsOn live trail h.conflict.lits s) (m : ℤ) → Contains new.lits m → is_held (status new.seen m) ≡ true → IsIn (resolvent on.now) m
    unfolding l resolvent
    new_of on m stands held = elim (origin m stands) [
      | this same is ↦ absurd (unlike held (ap is_held is))
      | before stood same not_this ↦ resolvent_keeps on.now l clause m (on.held_now m stood (ap is_held (sym same) ∙ held)) (λ is. not_this (sym is))
      | fresh within _ other ↦ resolvent_gains on.now l clause m within (λ is. other (is ∙ negation_twice e.lit))
    ]

    two_current : left ≡ 1 → (on : LeadsOn live trail h.conflict.lits s) → HasTwoCurrent trail on.now
    unfolding l
    two_current one on =
        let (m, other) = other_open (omega (arith, opens_less, more, one)) in
        record {
          first = l;
          second = m;
          apart = λ same. other.1 (ap variable_of (sym same) ∙ l_variable);
          first_current = record { is_in = on.held_now l l_contains (ap is_held l_open); of_level = h.marked.current l l_contains l_open };
          second_current = record { is_in = on.held_now m other.0.contains (ap is_held other.0.is_open); of_level = h.marked.current m other.0.contains other.0.is_open };
        }

    last_one : (on : LeadsOn live trail h.conflict.lits s) → IsLast live trail on.now l clause
    unfolding l
    last_one on = record {
      before = take k trail.entries;
      entry = e;
      after = drop (suc k) trail.entries;
      reason = reason;
      is_in = on.held_now l l_contains (ap is_held l_open);
      stands = split_at trail.entries k e (slice_get_within trail.entries k e here) ∙ ap (λ (x : Entry). take k trail.entries ++ x ∷ drop (suc k) trail.entries) (get_or_from_slice_get trail.entries k e e here);
      negated = sym (negation_twice e.lit);
      none_later = λ m within later. apart trail.entries (suc k) (negation m) kept.once (sooner m (h.held_early m (on.now_contains m within) (on.now_held m within))) later;
      has_reason = sym reason_is ∙ has_reason;
      is_live = is_live;
    } where
      one_more : k + 1 ≡ suc k
      one_more = omega arith

      sooner : (m : ℤ) → HasNegated (take (k + 1) trail.entries) m → has (take (suc k) trail.entries) (negation m) ≡ true
      sooner m is = ap (λ n. has (take n trail.entries) (negation m)) (sym one_more) ∙ is

    follow_leads : left ≡ 1 → (on : LeadsOn live trail h.conflict.lits s) → LeadsOn live trail h.conflict.lits new
    unfolding resolvent
    follow_leads one on = record {
      now = resolvent on.now;
      now_contains = λ m within. (of_new on m within).0;
      now_held = λ m within. (of_new on m within).1;
      held_now = new_of on;
      leads = λ uip rest. on.leads uip (resolved on.now uip l clause (two_current one on) (last_one on) rest);
    }

    followed_on : IsResolving live trail number left new k
    followed_on = record {
      conflict = h.conflict;
      is_live = h.is_live;
      visited = now.visited;
      marked = now.marked;
      explained = record { conflict_seen = λ m within. new_seen m (h.explained.conflict_seen m within); followed = gives_way };
      at_least = omega (arith, opens_less, now.opens_rise, more);
      within = omega (arith, h.within);
      held_early = held_early;
      followed_late = followed_late;
      leads_on = λ one. follow_leads one (h.leads_on one);
    }

-- the others of the clause that forced the literal at the place are held
pub others_held : (store : StoreState) (trail : TrailState) (number left : ℕ) (s new : VisitedState) (k : ℕ) (e : Entry) → IsTrail trail → AreLive store → store.vars ≡ trail.vars → IsSound store.live trail
    → IsResolving store.live trail number left s (k + 1) → slice_get trail.entries k ≡ Some e → status_of s.seen (variable_of e.lit) ≡ Open → (f : Follows store.live trail s new (variable_of e.lit))
    → HeldClause store.live trail (record s { seen = set s.seen (variable_of e.lit - 1) Followed }) new f.holds.clause
unfolding l mid
others_held store trail number left s new k e kept live vars sound h here opened f =
    held_clause store trail (mid store.live trail number left s k e kept h here opened) new f.reason kept live vars (mid_visited store.live trail number left s k e kept h here opened) (mid_marked store.live trail number left s k e kept h here opened) f.holds
    (λ m within unseen. by_other m within unseen (int_eq m e.lit) refl)
  where
    reasoned : e.reason ≡ Some f.reason
    reasoned = sym (reason_is store.live trail number left s k e kept h here opened) ∙ f.has_reason

    by_other : (m : ℤ) → IsIn f.holds.clause.lits m → is_seen (status (set s.seen (variable_of e.lit - 1) Followed) m) ≡ false → (b : Bool) → int_eq m e.lit ≡ b → HasNegated trail.entries m
    by_other m within unseen true is =
        absurd (unlike (ap is_seen (mid_at store.live trail number left s k e kept h here opened m (ap (λ x. variable_of x - 1) ((Decides-int_eq m e.lit).0 is)))) unseen)
    by_other m within unseen false is =
        has_taken trail.entries k (negation m) (others_earlier store.live trail k e f.reason f.holds.clause sound here reasoned f.holds.is_live m within (λ same. unlike ((Decides-int_eq m e.lit).1 same) is))

-- the literal at the place is followed
pub follows : (store : StoreState) (trail : TrailState) (number left : ℕ) (s new : VisitedState) (k : ℕ) (e : Entry) → IsTrail trail → AreLive store → store.vars ≡ trail.vars → IsSound store.live trail
    → IsResolving store.live trail number left s (k + 1) → slice_get trail.entries k ≡ Some e → status_of s.seen (variable_of e.lit) ≡ Open → left < count_by is_open s.seen → Follows store.live trail s new (variable_of e.lit)
    → IsResolving store.live trail number left new k
unfolding l mid
follows store trail number left s new k e kept live vars sound h here opened more f =
    followed_on store.live trail number left s k e kept h here opened store refl live vars sound new f.reason f.has_reason f.holds.clause f.holds.is_live (others_held store trail number left s new k e kept live vars sound h here opened f) more

-- a clause forced the literal at the place
pub forced_here : (live : List LiveClause) (trail : TrailState) (number left : ℕ) (s : VisitedState) (k : ℕ) (e : Entry) → IsTrail trail → IsResolving live trail number left s (k + 1) → slice_get trail.entries k ≡ Some e → status_of s.seen (variable_of e.lit) ≡ Open
    → CanLeave live trail number left → left < count_by is_open s.seen → IsSome (reason_of trail.entries (variable_of e.lit))
forced_here live trail number left s k e kept h here opened can more =
    let P : Option ℕ → Type 0 = λ o. IsSome o in
    subst P (sym (reason_is live trail number left s k e kept h here opened)) (some_reason e.reason (not_decided live trail number left s k e kept h here opened can more)) where
      some_reason : (o : Option ℕ) → is_none o ≡ false → IsSome o
      some_reason None is = absurd cc
      some_reason (Some n) is = refl

-- while more are left, the walk isn't at its end
pub not_at_end : (live : List LiveClause) (trail : TrailState) (number left : ℕ) (s : VisitedState) (place : ℕ) → IsResolving live trail number left s place → left < count_by is_open s.seen → 0 < place
not_at_end live trail number left s zero h more =
    let (m, at) = some_open s h.visited (omega (arith, more)) in
    absurd (nowhere (h.held_early m at.contains (ap is_held at.is_open))) where
      nowhere : false ≡ true → ⊥
      nowhere is = cc
not_at_end live trail number left s (suc k) h more = omega arith

-- at the end so many are left
pub ends : (live : List LiveClause) (trail : TrailState) (number left : ℕ) (s : VisitedState) (place : ℕ) → IsTrail trail → IsResolving live trail number left s place → IsConflict live trail number → count_by is_open s.seen ≤ left → IsResolved live trail number left s
ends live trail number left s place kept h conflict most = record {
  analysed = record { conflict = h.conflict; is_live = h.is_live; marked = h.marked; explained = h.explained };
  opens = omega (arith, h.at_least, most);
  part = λ one above.
      let on = h.leads_on one in
      let (m, at) = some_open s h.visited (omega (arith, h.at_least, one)) in
      record {
        uip = on.now;
        is_uip = record {
          above_zero = above;
          all_false = λ x within. conflict.all_false x (ap (λ (c : LiveClause). set.contains c.lits x) (same_found conflict.clause h.conflict conflict.is_live h.is_live) ∙ within);
          leads = on.leads on.now (reached on.now (one_current one on m at));
        };
        among = on.held_now;
      };
} where
  alone : left ≡ 1 → (on : LeadsOn live trail h.conflict.lits s) (m x : ℤ) → IsOpen s m → IsCurrent trail on.now x → x ≡ m
  alone one on m x at current =
      let stands = on.now_contains x current.is_in in
      let opened : status s.seen x ≡ Open = elim (held_cases (status s.seen x) (on.now_held x current.is_in)) [ inl is ↦ is | inr is ↦ absurd (h.marked.lower x stands is current.of_level) ] in
      let within_x = false_within trail x kept (h.marked.all_false x stands) in
      let within_m = false_within trail m kept (h.marked.all_false m at.contains) in
      let same = open_alone s.seen (variable_of x - 1) (variable_of m - 1) (omega (arith, h.at_least, most, one))
      (omega (arith, within_x.0, within_x.1, h.visited.each, h.marked.same_vars)) (omega (arith, within_m.0, within_m.1, h.visited.each, h.marked.same_vars)) opened at.is_open in
      same_false trail.entries x m (consistent_trail trail kept) (h.marked.all_false x stands) (h.marked.all_false m at.contains) (omega (arith, same, within_x.0, within_m.0))

  one_current : left ≡ 1 → (on : LeadsOn live trail h.conflict.lits s) (m : ℤ) → IsOpen s m → HasOneCurrent trail on.now
  one_current one on m at = record {
    one = m;
    is_current = record { is_in = on.held_now m at.contains (ap is_held at.is_open); of_level = h.marked.current m at.contains at.is_open };
    alone = λ x current. alone one on m x at current;
  }

-- the walk by its places
entry_with : (es : List Entry) (k : ℕ) (lit : ℤ) → slice_get (literals_of es) k ≡ Some lit → (e : Entry) × ((slice_get es k ≡ Some e) × (e.lit ≡ lit))
entry_with es k lit here = by_entry (slice_get es k) refl (sym (slice_get-map (λ (x : Entry). x.lit) es k) ∙ here) where
  by_entry : (o : Option Entry) → slice_get es k ≡ o → option_map (λ (x : Entry). x.lit) o ≡ Some lit → (e : Entry) × ((slice_get es k ≡ Some e) × (e.lit ≡ lit))
  by_entry None at is = absurd cc
  by_entry (Some e) at is = (e, (at, (let same : e.lit ≡ lit = cc in same)))

one_less : (place : ℕ) → 0 < place → place ≡ (place - 1) + 1
one_less place some = omega arith

pub follow_step : (store : StoreState) (trail : TrailState) (number left : ℕ) (s new : VisitedState) (place v : ℕ) (lit : ℤ) → IsTrail trail → AreLive store → store.vars ≡ trail.vars → IsSound store.live trail
    → IsResolving store.live trail number left s place → left < count_by is_open s.seen → slice_get (literals_of trail.entries) (place - 1) ≡ Some lit → v ≡ variable_of lit → status_of s.seen v ≡ Open → Follows store.live trail s new v
    → IsResolving store.live trail number left new (place - 1)
follow_step store trail number left s new place v lit kept live vars sound h more here var opened f =
    let (e, at) = entry_with trail.entries (place - 1) lit here in
    let same : v ≡ variable_of e.lit = var ∙ ap variable_of (sym at.1) in
    let P : ℕ → Type 0 = λ n. IsResolving store.live trail number left s n in
    let Q : ℕ → Type 0 = λ n. Follows store.live trail s new n in
    follows store trail number left s new (place - 1) e kept live vars sound (subst P (one_less place (not_at_end store.live trail number left s place h more)) h) at.0 (ap (status_of s.seen) (sym same) ∙ opened) more (subst Q same f)

-- so the others of the clause are held
pub held_step : (store : StoreState) (trail : TrailState) (number left : ℕ) (s new : VisitedState) (place v : ℕ) (lit : ℤ) → IsTrail trail → AreLive store → store.vars ≡ trail.vars → IsSound store.live trail
    → IsResolving store.live trail number left s place → left < count_by is_open s.seen → slice_get (literals_of trail.entries) (place - 1) ≡ Some lit → v ≡ variable_of lit → status_of s.seen v ≡ Open → (f : Follows store.live trail s new v)
    → HeldClause store.live trail (record s { seen = set s.seen (v - 1) Followed }) new f.holds.clause
held_step store trail number left s new place v lit kept live vars sound h more here var opened f =
    let (e, at) = entry_with trail.entries (place - 1) lit here in
    let same : v ≡ variable_of e.lit = var ∙ ap variable_of (sym at.1) in
    let P : ℕ → Type 0 = λ n. IsResolving store.live trail number left s n in
    let Q : ℕ → Type 0 = λ n. (g : Follows store.live trail s new n) → HeldClause store.live trail (record s { seen = set s.seen (n - 1) Followed }) new g.holds.clause in
    subst Q (sym same) (others_held store trail number left s new (place - 1) e kept live vars sound (subst P (one_less place (not_at_end store.live trail number left s place h more)) h) at.0 (ap (status_of s.seen) (sym same) ∙ opened)) f

pub skip_step : (store : StoreState) (trail : TrailState) (number left : ℕ) (s : VisitedState) (place v : ℕ) (lit : ℤ) → IsTrail trail → IsResolving store.live trail number left s place → left < count_by is_open s.seen → slice_get (literals_of trail.entries) (place - 1) ≡ Some lit → v ≡ variable_of lit
    → status_of s.seen v ≢ Open → IsResolving store.live trail number left s (place - 1)
skip_step store trail number left s place v lit kept h more here var shut =
    let (e, at) = entry_with trail.entries (place - 1) lit here in
    let same : v ≡ variable_of e.lit = var ∙ ap variable_of (sym at.1) in
    let P : ℕ → Type 0 = λ n. IsResolving store.live trail number left s n in
    skips store.live trail number left s (place - 1) e kept (subst P (one_less place (not_at_end store.live trail number left s place h more)) h) at.0 (λ is. shut (ap (status_of s.seen) same ∙ is)) more

pub forced_step : (store : StoreState) (trail : TrailState) (number left : ℕ) (s : VisitedState) (place v : ℕ) (lit : ℤ) → IsTrail trail → IsResolving store.live trail number left s place → left < count_by is_open s.seen → slice_get (literals_of trail.entries) (place - 1) ≡ Some lit → v ≡ variable_of lit
    → status_of s.seen v ≡ Open → CanLeave store.live trail number left → IsSome (reason_of trail.entries v)
forced_step store trail number left s place v lit kept h more here var opened can =
    let (e, at) = entry_with trail.entries (place - 1) lit here in
    let same : v ≡ variable_of e.lit = var ∙ ap variable_of (sym at.1) in
    let P : ℕ → Type 0 = λ n. IsResolving store.live trail number left s n in
    let Q : ℕ → Type 0 = λ n. IsSome (reason_of trail.entries n) in
    subst Q (sym same) (forced_here store.live trail number left s (place - 1) e kept (subst P (one_less place (not_at_end store.live trail number left s place h more)) h) at.0 (ap (status_of s.seen) (sym same) ∙ opened) can more)

pub var_bounds : (trail : TrailState) (k v : ℕ) (lit : ℤ) → IsTrail trail → slice_get (literals_of trail.entries) k ≡ Some lit → v ≡ variable_of lit → (1 ≤ v) × (v ≤ trail.vars)
var_bounds trail k v lit kept here var =
    let (e, at) = entry_with trail.entries k lit here in
    let bounds = false_within trail (negation lit) kept (ap (has trail.entries) (negation_twice lit ∙ sym at.1) ∙ has_here trail.entries k e at.0) in
    (omega (arith, var, bounds.0, variable_of-negation lit), omega (arith, var, bounds.1, variable_of-negation lit))

pub var_within : (trail : TrailState) (k v : ℕ) (lit : ℤ) → IsTrail trail → slice_get (literals_of trail.entries) k ≡ Some lit → v ≡ variable_of lit → v ≤ trail.vars
var_within trail k v lit kept here var = (var_bounds trail k v lit kept here var).1
