-- A clause whose literals went where the others imply them: what stays of the analysis.
use Rattle.std.proofs.Common.{◌≡◌, ◌≢◌, ℕ, ◌+◌, ◌-◌, ◌<◌, ◌≤◌, Bool, true, false, cond, List, [], ◌∷◌, ◌++◌, length, get_or, set, take, refl, sym, ap, subst, ◌∙◌, inl, inr, arith}
use Rattle.std.proofs.Common.{rules}
use Rattle.std.specs.Prelude.{ℤ, pos, ◌⊎◌, Contains, count_by, IsTrue}
use Rattle.std.proofs.lemmas.List.{length-set, get_or-set_other, get_or_append_left, get_or_default, set-set, set-get_or}
use Rattle.std.proofs.lemmas.Grind.{get_or-set_at}
use Rattle.std.proofs.lemmas.Bool.{ltb-true, ltb-false}
use Rattle.std.proofs.Math.Dec.{ltb}
use Rattle.std.proofs.lemmas.Bool.Decides.{eqb_tells}
use Rattle.lls_lit.specs.Literal.{variable_of}
use Rattle.std.proofs.lemmas.List.{take_more}
use Rattle.std.proofs.lemmas.List.Elements.{All-contains, Contains-push_cases}
use Rattle.std.proofs.lemmas.List.Sums.{AllPass-from_list_all}
use Rattle.lls_lit.specs.Formula.{is_literal_of, is_within}
use Rattle.lls_store.specs.Trail.{Entry, TrailState, HasNegated, IsTrail}
use Rattle.lls_store.specs.Clauses.{LiveClause}
use Rattle.lls_analyse.specs.declared.visited.Seen.{Seen}
use Rattle.lls_analyse.specs.declared.visited.Seen.TheVariants.{No, Open, Kept, Followed}
use Rattle.lls_analyse.specs.Visited.{VisitedState, AreVisited, is_seen, is_open, is_held, status, status_of}
use Rattle.lls_analyse.specs.Marked.{AreMarked, GivesWay, IsResolved}
use Rattle.lls_analyse.specs.Minimised.{IsGrown, Minimises}
use Rattle.lls_analyse.specs.Minimised.IsGrown.{same, more}
use Rattle.lls_analyse.proofs.Visits.{unlike, count_by-set}
use Rattle.lls_analyse.proofs.Trails.{false_within}
use Rattle.lls_analyse.proofs.Grown.{grown_vars, grown_longer, grown_stays, grown_seen, grown_newly, grown_opens, grown_origin, gives_way_still}

followed_not : {x : Seen} → x ≡ Followed → x ≡ Kept → ⊥
followed_not a b = clash (sym a ∙ b) where
  clash : Followed ≡ Kept → ⊥
  clash e = cc

pub minimises_same : (live : List LiveClause) (trail : TrailState) (s : VisitedState) → AreVisited s → AreMarked trail s → Minimises live trail s s
minimises_same live trail s visited marked = record {
  marked = marked;
  stays = λ l seen. inl refl;
  newly = λ l inside unseen. absurd (unlike (visited.all_seen l inside) unseen);
  of_old = λ l inside seen. inside;
  lits_stay = omega arith;
  opens_stay = refl;
  gives_way = λ l inside is. inl (inside, is);
}

still_seen : (live : List LiveClause) (trail : TrailState) (a b : VisitedState) (l : ℤ) → Minimises live trail a b → is_seen (status a.seen l) ≡ true → is_seen (status b.seen l) ≡ true
still_seen live trail a b l h seen = elim (h.stays l seen) [ inl t ↦ ap is_seen t ∙ seen | inr t ↦ ap is_seen t.1 ]

pub minimises_then : (live : List LiveClause) (trail : TrailState) (a b c : VisitedState) → Minimises live trail a b → Minimises live trail b c → Minimises live trail a c
minimises_then live trail a b c first rest = record {
  marked = rest.marked;
  stays = λ l seen. elim (first.stays l seen) [
    | inl t ↦ elim (rest.stays l (ap is_seen t ∙ seen)) [ inl u ↦ inl (u ∙ t) | inr u ↦ inr (sym t ∙ u.0, u.1) ]
    | inr t ↦ inr (t.0, still_followed l t.1)
  ];
  newly = λ l inside unseen. by_seen l inside unseen (is_seen (status b.seen l)) refl;
  of_old = λ l inside seen. first.of_old l (rest.of_old l inside (still_seen live trail a b l first seen)) seen;
  lits_stay = omega (arith, first.lits_stay, rest.lits_stay);
  opens_stay = rest.opens_stay ∙ first.opens_stay;
  gives_way = λ l inside is. elim (rest.gives_way l inside is) [
    | inl t ↦ elim (first.gives_way l t.0 t.1) [ inl u ↦ inl u | inr u ↦ inr (gives_way_still live trail.entries b.seen c.seen l u (λ m seen. still_seen live trail b c m rest seen)) ]
    | inr t ↦ inr t
  ];
} where
  still_followed : (l : ℤ) → status b.seen l ≡ Followed → status c.seen l ≡ Followed
  still_followed l is = elim (rest.stays l (ap is_seen is)) [ inl u ↦ u ∙ is | inr u ↦ u.1 ]

  by_seen : (l : ℤ) → Contains c.lits l → is_seen (status a.seen l) ≡ false → (t : Bool) → is_seen (status b.seen l) ≡ t → status c.seen l ≡ Followed
  by_seen l inside unseen true seen = still_followed l (first.newly l (rest.of_old l inside seen) unseen)
  by_seen l inside unseen false seen = rest.newly l inside seen

grown_prefix : (es : List Entry) (a b : VisitedState) (k : ℕ) (d : ℤ) → IsGrown es a b → k < length a.lits → get_or b.lits k d ≡ get_or a.lits k d
grown_prefix es a b k d same lt = refl
grown_prefix es a b k d (more s l rest false_ bounds unseen) lt = get_or_append_left s.lits (l ∷ []) d k (omega (arith, lt, grown_longer es a s rest)) ∙ grown_prefix es a s k d rest lt

-- a literal went, and others follow
module _ (live : List LiveClause) (trail : TrailState) (old new : VisitedState) (v : ℕ) (kept : IsTrail trail) (visited : AreVisited old) (visited' : AreVisited new) (marked : AreMarked trail old)
    (low : 1 ≤ v) (high : v ≤ old.vars) (was : status_of old.seen v ≡ Kept) where
  pub mid : VisitedState
  mid = record old { seen = set old.seen (v - 1) Followed }

  mid_at : (m : ℤ) → variable_of m - 1 ≡ v - 1 → status mid.seen m ≡ Followed
  unfolding mid
  mid_at m here = get_or-set_at old.seen (v - 1) (variable_of m - 1) Followed No here (omega (arith, low, high, visited.each))

  mid_else : (m : ℤ) → variable_of m - 1 ≢ v - 1 → status mid.seen m ≡ status old.seen m
  unfolding mid
  mid_else m other = get_or-set_other old.seen (v - 1) (variable_of m - 1) Followed No other

  was_at : (m : ℤ) → variable_of m - 1 ≡ v - 1 → status old.seen m ≡ Kept
  was_at m here = ap (λ n. get_or old.seen n No) here ∙ was

  mid_seen : (m : ℤ) → is_seen (status old.seen m) ≡ true → is_seen (status mid.seen m) ≡ true
  mid_seen m seen = elim (eqb_tells (variable_of m - 1) (v - 1)) [ inl t ↦ ap is_seen (mid_at m t.1) | inr t ↦ ap is_seen (mid_else m t.1) ∙ seen ]

  mid_unseen : (m : ℤ) → is_seen (status old.seen m) ≡ false → is_seen (status mid.seen m) ≡ false
  mid_unseen m unseen = elim (eqb_tells (variable_of m - 1) (v - 1)) [ inl t ↦ absurd (unlike (ap is_seen (was_at m t.1)) unseen) | inr t ↦ ap is_seen (mid_else m t.1) ∙ unseen ]

  module _ (grown : IsGrown trail.entries mid new) where
    origin : (l : ℤ) → Contains new.lits l → Contains old.lits l ⊎ ((is_seen (status mid.seen l) ≡ false) × HasNegated trail.entries l)
    unfolding mid
    origin l inside = grown_origin trail.entries mid new l grown inside

    grown_stay : (l : ℤ) → is_seen (status old.seen l) ≡ true → (status new.seen l ≡ status old.seen l) ⊎ ((status old.seen l ≡ Kept) × (status new.seen l ≡ Followed))
    grown_stay l seen =
        let on = grown_stays trail.entries mid new l grown (mid_seen l seen) in
        elim (eqb_tells (variable_of l - 1) (v - 1)) [ inl t ↦ inr (was_at l t.1, on ∙ mid_at l t.1) | inr t ↦ inl (on ∙ mid_else l t.1) ]

    each : length mid.seen ≡ mid.vars
    unfolding mid
    each = length-set old.seen (v - 1) Followed ∙ visited.each

    new_follows : (l : ℤ) → Contains new.lits l → is_seen (status old.seen l) ≡ false → status new.seen l ≡ Followed
    new_follows l inside unseen = grown_newly trail.entries mid new l each grown (mid_unseen l unseen) (visited'.all_seen l inside)

    from_old : (l : ℤ) → Contains new.lits l → is_seen (status old.seen l) ≡ true → Contains old.lits l
    from_old l inside seen = elim (origin l inside) [ inl t ↦ t | inr t ↦ absurd (unlike (mid_seen l seen) t.0) ]

    all_false : (l : ℤ) → Contains new.lits l → HasNegated trail.entries l
    all_false l inside = elim (origin l inside) [ inl t ↦ marked.all_false l t | inr t ↦ t.1 ]

    -- a literal that isn't followed was as it is
    as_before : (l : ℤ) → Contains new.lits l → (status new.seen l ≡ Followed → ⊥) → Contains old.lits l × (status new.seen l ≡ status old.seen l)
    as_before l inside not_so = by_seen (is_seen (status old.seen l)) refl where
      by_seen : (b : Bool) → is_seen (status old.seen l) ≡ b → Contains old.lits l × (status new.seen l ≡ status old.seen l)
      by_seen true seen = elim (grown_stay l seen) [ inl t ↦ (from_old l inside seen, t) | inr t ↦ absurd (not_so t.1) ]
      by_seen false unseen = absurd (not_so (new_follows l inside unseen))

    still_marked : AreMarked trail new
    unfolding mid
    still_marked = record {
      same_vars = grown_vars trail.entries mid new grown ∙ marked.same_vars;
      all_false = all_false;
      current = λ l inside is. (let at = as_before l inside (λ f. open_followed (sym is ∙ f)) in marked.current l at.0 (sym at.1 ∙ is));
      lower = λ l inside is. (let at = as_before l inside (λ f. followed_not f is) in marked.lower l at.0 (sym at.1 ∙ is));
    } where
      open_followed : Open ≡ Followed → ⊥
      open_followed e = cc

    pub released : ((l : ℤ) → variable_of l ≡ v → GivesWay live trail.entries new.seen l) → ((k : ℕ) → length old.lits ≤ k → k < length new.lits → GivesWay live trail.entries new.seen (get_or new.lits k (pos 0))) → Minimises live trail old new
    unfolding mid
    released first rest = record {
      marked = still_marked;
      stays = grown_stay;
      newly = new_follows;
      of_old = from_old;
      lits_stay = grown_longer trail.entries mid new grown;
      opens_stay = grown_opens trail.entries mid new each grown ∙ opens_mid;
      gives_way = λ l inside is. by_seen l inside is (is_seen (status old.seen l)) refl;
    } where
      not_open : count_by is_open (set old.seen (v - 1) Followed) + cond (is_open (get_or old.seen (v - 1) No)) 1 0 ≡ count_by is_open old.seen + 0
      not_open = count_by-set is_open old.seen (v - 1) Followed (omega (arith, low, high, visited.each))

      one_if : Bool → ℕ
      one_if b = cond b 1 0

      opens_mid : count_by is_open (set old.seen (v - 1) Followed) ≡ count_by is_open old.seen
      opens_mid = omega (arith, not_open, ap (λ (x : Seen). cond {A = ℕ} (is_open x) 1 0) was)

      by_place : (l : ℤ) → is_seen (status old.seen l) ≡ false → (k : ℕ) → k < length new.lits → get_or new.lits k l ≡ l → GivesWay live trail.entries new.seen l
      by_place l unseen k lt at = by_test (ltb k (length old.lits)) refl where
        P : ℤ → Type 0
        P x = GivesWay live trail.entries new.seen x

        by_test : (b : Bool) → ltb k (length old.lits) ≡ b → GivesWay live trail.entries new.seen l
        by_test true lt' =
            let inside' : k < length old.lits = ltb-true k (length old.lits) lt' in
            absurd (unlike (visited.all_seen l (k, inside', sym (grown_prefix trail.entries mid new k l grown inside') ∙ at)) unseen)
        by_test false ge =
            let Q : ℤ → Type 0 = λ x. GivesWay live trail.entries new.seen x in
            subst Q (sym (get_or_default new.lits k l (pos 0) lt) ∙ at) (rest k (ltb-false k (length old.lits) ge) lt)

      by_seen : (l : ℤ) → Contains new.lits l → status new.seen l ≡ Followed → (b : Bool) → is_seen (status old.seen l) ≡ b → (Contains old.lits l × (status old.seen l ≡ Followed)) ⊎ GivesWay live trail.entries new.seen l
      by_seen l inside is true seen = elim (grown_stay l seen) [
        | inl t ↦ inl (from_old l inside seen, sym t ∙ is)
        | inr t ↦ elim (eqb_tells (variable_of l - 1) (v - 1)) [
          | inl u ↦ inr (first l (omega (arith, u.1, low, (false_within trail l kept (all_false l inside)).0)))
          | inr u ↦ absurd (followed_not (sym (grown_stays trail.entries mid new l grown (mid_seen l seen) ∙ mid_else l u.1) ∙ is) t.0)
        ]
      ]
      by_seen l (k, lt, at) is false unseen = inr (by_place l unseen k lt at)

-- what was resolved stays so
pub minimised : (live : List LiveClause) (trail : TrailState) (number left : ℕ) (a b : VisitedState) → AreVisited b → IsResolved live trail number left a → Minimises live trail a b → IsResolved live trail number left b
minimised live trail number left a b visited r h = record {
  analysed = record {
    conflict = r.analysed.conflict;
    is_live = r.analysed.is_live;
    marked = h.marked;
    explained = record {
      conflict_seen = λ m inside. still_seen live trail a b m h (r.analysed.explained.conflict_seen m inside);
      followed = λ l inside is. elim (h.gives_way l inside is) [
        | inl t ↦ gives_way_still live trail.entries a.seen b.seen l (r.analysed.explained.followed l t.0 t.1) (λ m seen. still_seen live trail a b m h seen)
        | inr t ↦ t
      ];
    };
  };
  opens = h.opens_stay ∙ r.opens;
  part = λ one above.
      let part = r.part one above in
      record { uip = part.uip; is_uip = part.is_uip; among = λ l inside held. (let at = held_before l inside held (is_seen (status a.seen l)) refl in part.among l at.0 at.1) };
} where
  held_before : (l : ℤ) → Contains b.lits l → is_held (status b.seen l) ≡ true → (t : Bool) → is_seen (status a.seen l) ≡ t → Contains a.lits l × (is_held (status a.seen l) ≡ true)
  held_before l inside held true seen = elim (h.stays l seen) [
    | inl t ↦ (h.of_old l inside seen, ap is_held (sym t) ∙ held)
    | inr t ↦ absurd (unlike held (ap is_held t.1))
  ]
  held_before l inside held false unseen = absurd (unlike held (ap is_held (h.newly l inside unseen)))

pub literal_at : (vars : ℕ) (lits : List ℤ) (k : ℕ) (l : ℤ) → is_within vars lits ≡ true → k < length lits → l ≡ get_or lits k l → is_literal_of vars l ≡ true
literal_at vars lits k l within lt is = All-contains (λ m. is_literal_of vars m ≡ true) lits l (AllPass-from_list_all (is_literal_of vars) lits within) (k, lt, sym is)

-- a variable that was seen still is
pub seen_more : (es : List Entry) (a b : VisitedState) (v : ℕ) → IsGrown es a b → is_seen (status_of a.seen v) ≡ true → is_seen (status_of b.seen v) ≡ true
seen_more es a b v grown seen = grown_seen es a b (pos v) grown seen

-- one more literal of a list was seen
pub seen_take_more : (es : List Entry) (a b : VisitedState) (lits : List ℤ) (k : ℕ) (l : ℤ) → IsGrown es a b → k < length lits → l ≡ get_or lits k l → ((m : ℤ) → Contains (take k lits) m → is_seen (status a.seen m) ≡ true) → is_seen (status b.seen l) ≡ true
    → (m : ℤ) → Contains (take (k + 1) lits) m → is_seen (status b.seen m) ≡ true
seen_take_more es a b lits k l grown lt is before one m inside =
    let grows : take (k + 1) lits ≡ take k lits ++ l ∷ [] = take_more lits k l lt ∙ ap (λ x. take k lits ++ x ∷ []) (sym is) in
    let P : List ℤ → Type 0 = λ ls. Contains ls m in
    elim (Contains-push_cases (take k lits) l m (subst P grows inside)) [
      | inl t ↦ grown_seen es a b m grown (before m t)
      | inr t ↦ ap (λ x. is_seen (status b.seen x)) (sym t) ∙ one
    ]

pub is_true : (b : Bool) → b ≡ true → IsTrue b
is_true true e = search rules
is_true false e = absurd cc

-- one more literal gave way
pub rest_more : (live : List LiveClause) (es : List Entry) (a b : VisitedState) (from next : ℕ) (l : ℤ) → IsGrown es a b → next < length a.lits → l ≡ get_or a.lits next l → ((k : ℕ) → from ≤ k → k < next → GivesWay live es a.seen (get_or a.lits k (pos 0)))
    → ((m : ℤ) → variable_of m ≡ variable_of l → GivesWay live es b.seen m) → (k : ℕ) → from ≤ k → k < next + 1 → GivesWay live es b.seen (get_or b.lits k (pos 0))
rest_more live es a b from next l grown lt is before one k le under =
    let P : ℤ → Type 0 = λ x. GivesWay live es b.seen x in
    elim (eqb_tells k next) [
      | inl t ↦ one (get_or b.lits k (pos 0)) (ap variable_of (grown_prefix es a b k (pos 0) grown (omega (arith, t.1, lt)) ∙ ap (λ n. get_or a.lits n (pos 0)) t.1 ∙ get_or_default a.lits next (pos 0) l lt ∙ sym is))
      | inr t ↦ subst P (sym (grown_prefix es a b k (pos 0) grown (omega (arith, under, t.1, lt)))) (gives_way_still live es a.seen b.seen (get_or a.lits k (pos 0)) (before k le (omega (arith, under, t.1))) (λ m seen. grown_seen es a b m grown seen))
    ]

-- a literal that went and is kept after all
pub kept_again : (old : VisitedState) (v : ℕ) → status_of old.seen v ≡ Kept → record old { seen = set (set old.seen (v - 1) Followed) (v - 1) Kept } ≡ old
kept_again old v was =
    let table : set (set old.seen (v - 1) Followed) (v - 1) Kept ≡ old.seen = set-set old.seen (v - 1) Followed Kept ∙ ap (set old.seen (v - 1)) (sym was) ∙ set-get_or old.seen (v - 1) No in
    ap (λ (xs : List Seen). record { vars = old.vars; seen = xs; lits = old.lits }) table

pub releases : (live : List LiveClause) (trail : TrailState) (old new : VisitedState) (v : ℕ) → IsTrail trail → AreVisited old → AreVisited new → AreMarked trail old → 1 ≤ v → v ≤ old.vars → status_of old.seen v ≡ Kept
    → IsGrown trail.entries (record old { seen = set old.seen (v - 1) Followed }) new → ((l : ℤ) → variable_of l ≡ v → GivesWay live trail.entries new.seen l)
    → ((k : ℕ) → length old.lits ≤ k → k < length new.lits → GivesWay live trail.entries new.seen (get_or new.lits k (pos 0))) → Minimises live trail old new
unfolding mid
releases live trail old new v kept visited visited' marked low high was grown first rest = released live trail old new v kept visited visited' marked low high was grown first rest
