-- What changes where literals are made some of the clause.
use Rattle.std.proofs.Common.{◌≡◌, ◌≢◌, ℕ, zero, suc, ◌-◌, ◌<◌, ◌≤◌, Bool, true, false, cond, List, [], ◌∷◌, ◌++◌, length, get_or, set, Option, Some, None, refl, sym, ap, subst, ◌∙◌, inl, inr, arith}
use Rattle.std.specs.Prelude.{ℤ, Contains, count_by, fold}
use Rattle.std.proofs.lemmas.List.{get_or-set_other}
use Rattle.std.proofs.lemmas.Grind.{get_or-set_at}
use Rattle.std.proofs.lemmas.List.Elements.{Contains-append_left, Contains-push_cases}
use Rattle.std.proofs.lemmas.Bool.{and_parts}
use Rattle.std.proofs.lemmas.Bool.Decides.{Decides-eqb, eqb_tells}
use Rattle.lls_lit.specs.Literal.{variable_of}
use Rattle.lls_lit.specs.Formula.{is_literal_of, is_within}
use Rattle.lls_store.specs.Trail.{Entry, TrailState, HasNegated, IsConsistent, IsTrail, level_of}
use Rattle.lls_store.proofs.Tabled.{variable_bounds}
use Rattle.lls_analyse.specs.declared.visited.Seen.{Seen}
use Rattle.lls_analyse.specs.declared.visited.Seen.TheVariants.{No, Open, Kept, Followed}
use Rattle.lls_analyse.specs.Visited.{VisitedState, is_seen, is_open, is_held, status, AreVisited}
use Rattle.lls_analyse.specs.Marked.{is_level, holding, held_in, AreMarked}
use Rattle.lls_analyse.proofs.Visits.{AreVisited-visit, count_by-set, unlike}
use Rattle.lls_analyse.proofs.Trails.{same_false, false_within, consistent_trail}

-- a false literal of whose variable something is known was visited
pub visited_contains : (es : List Entry) (s : VisitedState) (l : ℤ) → IsConsistent es → AreVisited s → ((m : ℤ) → Contains s.lits m → HasNegated es m) → HasNegated es l → 1 ≤ variable_of l → is_seen (status s.seen l) ≡ true → Contains s.lits l
visited_contains es s l consistent h all_false false_ low seen =
    let at = h.listed (variable_of l - 1) seen in
    let same : variable_of at.lit ≡ variable_of l = omega (arith, at.of_variable, low) in
    let P : ℤ → Type 0 = λ m. Contains s.lits m in
    subst P (same_false es at.lit l consistent (all_false at.lit at.stands) false_ same) at.stands

abbrev one_if : Bool → ℕ
one_if b = cond b 1 0

seen_holding : (trail : TrailState) (l : ℤ) → is_seen (holding trail l) ≡ true
seen_holding trail l = both (is_level (level_of trail.entries (variable_of l)) trail.current) where
  both : (b : Bool) → is_seen (cond b Open Kept) ≡ true
  both true = refl
  both false = refl

held_holding : (trail : TrailState) (l : ℤ) → is_held (holding trail l) ≡ true
held_holding trail l = both (is_level (level_of trail.entries (variable_of l)) trail.current) where
  both : (b : Bool) → is_held (cond b Open Kept) ≡ true
  both true = refl
  both false = refl

level_told : (o : Option ℕ) (n : ℕ) → is_level o n ≡ true → o ≡ Some n
level_told None n is = absurd cc
level_told (Some k) n is = ap Some ((Decides-eqb k n).0 is)

level_tells : (o : Option ℕ) (n : ℕ) → o ≡ Some n → is_level o n ≡ true
level_tells o n is = ap (λ x. is_level x n) is ∙ (Decides-eqb n n).1 refl

holding_open : (trail : TrailState) (l : ℤ) → holding trail l ≡ Open → level_of trail.entries (variable_of l) ≡ Some trail.current
holding_open trail l is = level_told (level_of trail.entries (variable_of l)) trail.current (opened (is_level (level_of trail.entries (variable_of l)) trail.current) is) where
  opened : (b : Bool) → cond b Open Kept ≡ Open → b ≡ true
  opened true is' = refl
  opened false is' = absurd cc

holding_kept : (trail : TrailState) (l : ℤ) → holding trail l ≡ Kept → level_of trail.entries (variable_of l) ≢ Some trail.current
holding_kept trail l is at = kept (is_level (level_of trail.entries (variable_of l)) trail.current) is (level_tells (level_of trail.entries (variable_of l)) trail.current at) where
  kept : (b : Bool) → cond b Open Kept ≡ Kept → b ≡ true → ⊥
  kept true is' told = cc
  kept false is' told = cc

-- what literals that were made some of the clause changed
pub record Holds (trail : TrailState) (old new : VisitedState) (lits : List ℤ) : Type 0 where
  pub visited : AreVisited new
  pub marked : AreMarked trail new
  pub all_seen : (l : ℤ) → Contains lits l → is_seen (status new.seen l) ≡ true
  pub stays : (l : ℤ) → is_seen (status old.seen l) ≡ true → status new.seen l ≡ status old.seen l
  pub newly : (l : ℤ) → HasNegated trail.entries l → is_seen (status old.seen l) ≡ false → is_seen (status new.seen l) ≡ true → Contains lits l × (is_held (status new.seen l) ≡ true)
  pub lits_stay : (l : ℤ) → Contains old.lits l → Contains new.lits l
  pub opens_rise : count_by is_open old.seen ≤ count_by is_open new.seen

-- one literal
held_at : (trail : TrailState) (s : VisitedState) (l : ℤ) → IsTrail trail → AreVisited s → AreMarked trail s → is_literal_of trail.vars l ≡ true → HasNegated trail.entries l → is_seen (status s.seen l) ≡ false
    → Holds trail s (record { vars = s.vars; seen = set s.seen (variable_of l - 1) (holding trail l); lits = s.lits ++ l ∷ [] }) (l ∷ [])
held_at trail s l h visited marked literal false_ none =
    let i = variable_of l - 1 in
    let bounds = variable_bounds trail.vars (variable_of l) literal in
    let inside : i < length s.seen = omega (arith, bounds.0, bounds.1, visited.each, marked.same_vars) in
    let here : status (set s.seen i (holding trail l)) l ≡ holding trail l = get_or-set_at s.seen i i (holding trail l) No refl inside in
    let elsewhere : (m : ℤ) → variable_of m - 1 ≢ i → status (set s.seen i (holding trail l)) m ≡ status s.seen m = λ m other. get_or-set_other s.seen i (variable_of m - 1) (holding trail l) No other in
    let seen_elsewhere : (m : ℤ) → is_seen (status s.seen m) ≡ true → variable_of m - 1 ≢ i = λ m seen same. unlike seen (ap (λ n. is_seen (get_or s.seen n No)) same ∙ none) in
    record {
      visited = AreVisited-visit s.vars s.seen s.lits i l (holding trail l) visited (omega (arith, bounds.0)) (omega (arith, bounds.1, marked.same_vars)) none (seen_holding trail l);
      marked = record {
        same_vars = marked.same_vars;
        all_false = λ m stands. elim (Contains-push_cases s.lits l m stands) [
          | inl before ↦ marked.all_false m before
          | inr same ↦ (let P : ℤ → Type 0 = λ x. HasNegated trail.entries x in subst P same false_)
        ];
        current = λ m stands is. elim (Contains-push_cases s.lits l m stands) [
          | inl before ↦ marked.current m before (sym (elsewhere m (seen_elsewhere m (visited.all_seen m before))) ∙ is)
          | inr same ↦ (let P : ℤ → Type 0 = λ x. level_of trail.entries (variable_of x) ≡ Some trail.current in subst P same (holding_open trail l (sym here ∙ ap (status (set s.seen i (holding trail l))) same ∙ is)))
        ];
        lower = λ m stands is. elim (Contains-push_cases s.lits l m stands) [
          | inl before ↦ marked.lower m before (sym (elsewhere m (seen_elsewhere m (visited.all_seen m before))) ∙ is)
          | inr same ↦ λ at. holding_kept trail l (sym here ∙ ap (status (set s.seen i (holding trail l))) same ∙ is) (ap (λ x. level_of trail.entries (variable_of x)) same ∙ at)
        ];
      };
      all_seen = λ m stands. ap (λ x. is_seen (status (set s.seen i (holding trail l)) x)) (sym (only l m stands)) ∙ ap is_seen here ∙ seen_holding trail l;
      stays = λ m seen. elsewhere m (seen_elsewhere m seen);
      newly = λ m false_m unseen seen.
          elim (eqb_tells (variable_of m - 1) i) [
            | inl t ↦
                let same : l ≡ m = same_false trail.entries l m (consistent_trail trail h) false_ false_m (omega (arith, t.1, bounds.0, (false_within trail m h false_m).0)) in
                ((0, omega arith, same), ap (λ x. is_held (status (set s.seen i (holding trail l)) x)) (sym same) ∙ ap is_held here ∙ held_holding trail l)
            | inr t ↦ absurd (unlike seen (ap is_seen (elsewhere m t.1) ∙ unseen))
          ];
      lits_stay = λ m stands. Contains-append_left s.lits (l ∷ []) m stands;
      opens_rise = omega (arith, count_by-set is_open s.seen i (holding trail l) inside, ap one_if (not_open (get_or s.seen i No) none));
    } where
      only : (l m : ℤ) → Contains (l ∷ []) m → l ≡ m
      only l m (zero, lt, at) = at
      only l m (suc k, lt, at) = absurd (omega (arith, lt))

      not_open : (x : Seen) → is_seen x ≡ false → is_open x ≡ false
      not_open No none = refl
      not_open Open none = absurd cc
      not_open Kept none = refl
      not_open Followed none = refl

pub Holds-nothing : (trail : TrailState) (s : VisitedState) (lits : List ℤ) → AreVisited s → AreMarked trail s → ((l : ℤ) → Contains lits l → is_seen (status s.seen l) ≡ true) → Holds trail s s lits
Holds-nothing trail s lits visited marked seen = record {
  visited = visited;
  marked = marked;
  all_seen = seen;
  stays = λ m _. refl;
  newly = λ m _ unseen is. absurd (unlike is unseen);
  lits_stay = λ m stands. stands;
  opens_rise = omega arith;
}

hold_one : (trail : TrailState) (s : VisitedState) (l : ℤ) → IsTrail trail → AreVisited s → AreMarked trail s → is_literal_of trail.vars l ≡ true → (is_seen (status s.seen l) ≡ false → HasNegated trail.entries l) → Holds trail s (held_in trail s l) (l ∷ [])
hold_one trail s l h visited marked literal false_ = by_test (is_seen (status s.seen l)) refl where
  only : (b : Bool) → is_seen (status s.seen l) ≡ b → (m : ℤ) → Contains (l ∷ []) m → is_seen (status s.seen m) ≡ b
  only b is m (zero, lt, at) = ap (λ x. is_seen (status s.seen x)) (sym at) ∙ is
  only b is m (suc k, lt, at) = absurd (omega (arith, lt))

  by_test : (b : Bool) → is_seen (status s.seen l) ≡ b → Holds trail s (cond b s (record { vars = s.vars; seen = set s.seen (variable_of l - 1) (holding trail l); lits = s.lits ++ l ∷ [] })) (l ∷ [])
  by_test true is = Holds-nothing trail s (l ∷ []) visited marked (only true is)
  by_test false is = held_at trail s l h visited marked literal (false_ is) is

holds_then : (trail : TrailState) (s t u : VisitedState) (l : ℤ) (ls : List ℤ) → Holds trail s t (l ∷ []) → Holds trail t u ls → Holds trail s u (l ∷ ls)
holds_then trail s t u l ls first rest = record {
  visited = rest.visited;
  marked = rest.marked;
  all_seen = λ m (k, lt, at). seen_at k m lt at;
  stays = λ m seen. rest.stays m (ap is_seen (first.stays m seen) ∙ seen) ∙ first.stays m seen;
  newly = λ m false_ unseen seen. new_at m false_ unseen seen (is_seen (status t.seen m)) refl;
  lits_stay = λ m stands. rest.lits_stay m (first.lits_stay m stands);
  opens_rise = omega (arith, first.opens_rise, rest.opens_rise);
} where
  seen_at : (k : ℕ) (m : ℤ) → k < length (l ∷ ls) → get_or (l ∷ ls) k m ≡ m → is_seen (status u.seen m) ≡ true
  seen_at zero m lt at = let seen = first.all_seen m (0, omega arith, at) in ap is_seen (rest.stays m seen) ∙ seen
  seen_at (suc k) m lt at = rest.all_seen m (k, omega (arith, lt), at)

  later : (m : ℤ) → Contains ls m → Contains (l ∷ ls) m
  later m (k, lt, at) = (suc k, omega (arith, lt), at)

  front : (m : ℤ) → Contains (l ∷ []) m → Contains (l ∷ ls) m
  front m (zero, lt, at) = (zero, omega arith, at)
  front m (suc k, lt, at) = absurd (omega (arith, lt))

  new_at : (m : ℤ) → HasNegated trail.entries m → is_seen (status s.seen m) ≡ false → is_seen (status u.seen m) ≡ true → (b : Bool) → is_seen (status t.seen m) ≡ b → Contains (l ∷ ls) m × (is_held (status u.seen m) ≡ true)
  new_at m false_ unseen seen true is =
      let at = first.newly m false_ unseen is in
      (front m at.0, ap is_held (rest.stays m is) ∙ at.1)
  new_at m false_ unseen seen false is =
      let at = rest.newly m false_ is seen in
      (later m at.0, at.1)

pub holds : (trail : TrailState) (s : VisitedState) (lits : List ℤ) → IsTrail trail → AreVisited s → AreMarked trail s → is_within trail.vars lits ≡ true
    → ((l : ℤ) → Contains lits l → is_seen (status s.seen l) ≡ false → HasNegated trail.entries l) → Holds trail s (fold (held_in trail) s lits) lits
holds trail s [] h visited marked within false_ = Holds-nothing trail s [] visited marked (λ m (k, lt, at). absurd (omega (arith, lt)))
holds trail s (l ∷ ls) h visited marked within false_ =
    let parts = and_parts (is_literal_of trail.vars l) (is_within trail.vars ls) within in
    let first = hold_one trail s l h visited marked parts.0 (false_ l (0, omega arith, refl)) in
    holds_then trail s (held_in trail s l) (fold (held_in trail) (held_in trail s l) ls) l ls first
    (holds trail (held_in trail s l) ls h first.visited first.marked parts.1 (λ m inside unseen. still m inside unseen first (is_seen (status s.seen m)) refl)) where
      still : (m : ℤ) → Contains ls m → is_seen (status (held_in trail s l).seen m) ≡ false → Holds trail s (held_in trail s l) (l ∷ []) → (b : Bool) → is_seen (status s.seen m) ≡ b → HasNegated trail.entries m
      still m (k, lt, at) unseen first true is = absurd (unlike is (ap is_seen (sym (first.stays m is)) ∙ unseen))
      still m (k, lt, at) unseen first false is = false_ m (suc k, omega (arith, lt), at) is
