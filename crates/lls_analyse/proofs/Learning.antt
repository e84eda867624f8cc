-- What the followed and the held literals make together: a chain of hints, and a clause that may be learnt.
use Rattle.std.proofs.Common.{◌≡◌, ℕ, zero, suc, ◌<◌, ◌≤◌, true, false, cond, List, [], ◌∷◌, ◌++◌, length, get_or, Option, Some, None, is_none, refl, sym, ap, subst, ◌∙◌, inl, inr, arith}
use Rattle.std.specs.Prelude.{ℤ, pos, Contains, slice_get, option_and_then, map, IsSome, IfSome}
use Rattle.std.specs.List.{filter_map, cons_option}
use Rattle.std.proofs.lemmas.Bool.Decides.{nat_tests}
use Rattle.std.specs.List.Sorted.{IsPermutation, IsNonDecreasing}
use Rattle.std.proofs.lemmas.List.Sorted.{Contains-permutation, IsPermutation-sym, length_permutation}
use Rattle.std.proofs.lemmas.List.{length-append, length-map}
use Rattle.lls_store.proofs.Values.{variable_of-negation}
use Rattle.std.specs.List.{list_all}
use Rattle.std.specs.Cmp.Derive.{both_true}
use Rattle.lls_prooflog.specs.Range.{is_hint}
use Rattle.lls_prooflog.specs.Spent.{is_positive}
use Rattle.lls_store.specs.declared.store.TheConstants.{MOST_ID}
use Rattle.lls_store.specs.Store.{StoreState, AreLive}
use Rattle.lls_analyse.proofs.LiveClauses.{some_of, IsSome-from}
use Rattle.lls_analyse.proofs.HintLists.{id_in_range, hint_at-forced, length-filter_map-le, visited_few}
use Rattle.lls_lit.specs.Literal.{variable_of, negation}
use Rattle.lls_store.specs.Trail.{Entry, TrailState, HasNegated, IsTrail, entry_of, place_of}
use Rattle.lls_store.specs.Clauses.{LiveClause, IsIn, clause_numbered}
use Rattle.lls_store.specs.Sound.{IsSound}
use Rattle.lls_analyse.specs.declared.visited.Seen.{Seen}
use Rattle.lls_analyse.specs.declared.visited.Seen.TheVariants.{No, Open, Kept, Followed}
use Rattle.lls_analyse.specs.Visited.{VisitedState, AreVisited, is_seen, is_held, is_followed, status}
use Rattle.lls_analyse.specs.Marked.{AreMarked, GivesWay, IsExplained, IsAnalysed}
use Rattle.lls_analyse.specs.Hinted.{hint_of, hint_at, place_followed, IsCovered, IsFollowed, IsForcedPlace, ArePlaces, AreHints}
use Rattle.lls_analyse.proofs.Visits.{unlike}
use Rattle.lls_analyse.proofs.Trails.{has_some, false_within, consistent_trail, entry_at}
use Rattle.lls_analyse.proofs.Walk.{others_earlier, has_taken, IsChain}
use Rattle.lls_analyse.proofs.Holds.{visited_contains}

some_same : {X : Type 0} → {x y : X} → Some x ≡ Some y → x ≡ y
some_same is = cc

-- a false literal has an entry
pub false_entry : (es : List Entry) (l : ℤ) → HasNegated es l → (e : Entry) × (entry_of es (variable_of l) ≡ Some e)
false_entry es l false_ = by_entry (entry_of es (variable_of l)) refl where
  some : is_none (entry_of es (variable_of l)) ≡ false
  some = ap (λ v. is_none (entry_of es v)) (sym (variable_of-negation l)) ∙ has_some es (negation l) false_

  by_entry : (o : Option Entry) → entry_of es (variable_of l) ≡ o → (e : Entry) × (entry_of es (variable_of l) ≡ Some e)
  by_entry None is = absurd (unlike (ap is_none is) some)
  by_entry (Some e) is = (e, is)

-- what a filtering map gives
of_filter_map : (f : ℤ → Option ℕ) (xs : List ℤ) (k : ℕ) → Contains (filter_map f xs) k → (l : ℤ) × (Contains xs l × (f l ≡ Some k))
of_filter_map f [] k (i, lt, at) = absurd (omega (arith, lt))
of_filter_map f (x ∷ xs) k inside = by_case (f x) refl inside (of_filter_map f xs k) where
  later : (l : ℤ) → Contains xs l → Contains (x ∷ xs) l
  later l (i, lt, at) = (suc i, omega (arith, lt), at)

  first : (j i : ℕ) → f x ≡ Some j → i < length (j ∷ filter_map f xs) → get_or (j ∷ filter_map f xs) i k ≡ k → (Contains (filter_map f xs) k → (l : ℤ) × (Contains xs l × (f l ≡ Some k))) → (l : ℤ) × (Contains (x ∷ xs) l × (f l ≡ Some k))
  first j zero is lt at rest = (x, ((0, omega arith, refl), is ∙ ap Some at))
  first j (suc i) is lt at rest = let (l, r) = rest (i, omega (arith, lt), at) in (l, (later l r.0, r.1))

  by_case : (o : Option ℕ) → f x ≡ o → Contains (cons_option o (filter_map f xs)) k → (Contains (filter_map f xs) k → (l : ℤ) × (Contains xs l × (f l ≡ Some k))) → (l : ℤ) × (Contains (x ∷ xs) l × (f l ≡ Some k))
  by_case None is inside' rest = let (l, r) = rest inside' in (l, (later l r.0, r.1))
  by_case (Some j) is (i, lt, at) rest = first j i is lt at rest

in_filter_map : (f : ℤ → Option ℕ) (xs : List ℤ) (l : ℤ) (k : ℕ) → Contains xs l → f l ≡ Some k → Contains (filter_map f xs) k
in_filter_map f [] l k (i, lt, at) is = absurd (omega (arith, lt))
in_filter_map f (x ∷ xs) l k (zero, lt, at) is = here (f x) (ap f at ∙ is) where
  here : (o : Option ℕ) → o ≡ Some k → Contains (cons_option o (filter_map f xs)) k
  here None e = absurd cc
  here (Some j) e = (0, omega arith, some_same e)
in_filter_map f (x ∷ xs) l k (suc i, lt, at) is = there (f x) (in_filter_map f xs l k (i, omega (arith, lt), at) is) where
  there : (o : Option ℕ) → Contains (filter_map f xs) k → Contains (cons_option o (filter_map f xs)) k
  there None r = r
  there (Some j) (n, lt', at') = (suc n, omega (arith, lt'), at')

pub places_gathered : (trail : TrailState) (s : VisitedState) → AreMarked trail s → ArePlaces trail.entries s (filter_map (place_followed trail.entries s.seen) s.lits)
places_gathered trail s marked = record {
  stand = λ l stands is.
      let (e, found) = false_entry trail.entries l (marked.all_false l stands) in
      let (k, at) = entry_at trail.entries (variable_of l) e found in
      record {
        place = k;
        at = at.place;
        among = in_filter_map (place_followed trail.entries s.seen) s.lits l k stands (ap (λ x. cond (is_followed x) (place_of trail.entries (variable_of l)) None) is ∙ at.place);
      };
  of_followed = λ k inside.
      let (l, at) = of_filter_map (place_followed trail.entries s.seen) s.lits k inside in
      let is = followed_is (status s.seen l) (place_of trail.entries (variable_of l)) k at.1 in
      (l, (at.0, (is.0, is.1)));
} where
  followed_is : (x : Seen) (o : Option ℕ) (k : ℕ) → cond (is_followed x) o None ≡ Some k → (x ≡ Followed) × (o ≡ Some k)
  followed_is No o k e = absurd cc
  followed_is Open o k e = absurd cc
  followed_is Kept o k e = absurd cc
  followed_is Followed o k e = (refl, e)

-- the same places in another order
pub places_sorted : (entries : List Entry) (s : VisitedState) (places sorted : List ℕ) → ArePlaces entries s places → IsPermutation places sorted → ArePlaces entries s sorted
places_sorted entries s places sorted h moved = record {
  stand = λ l stands is. (let at = h.stand l stands is in record { place = at.place; at = at.at; among = Contains-permutation places sorted at.place moved at.among });
  of_followed = λ k inside. h.of_followed k (Contains-permutation sorted places k (IsPermutation-sym places sorted moved) inside);
}

-- the clause that forced the literal at one of the places
pub place_forced : (live : List LiveClause) (trail : TrailState) (conflict : LiveClause) (s : VisitedState) (places : List ℕ) → IsExplained live trail.entries conflict s → ArePlaces trail.entries s places → (k : ℕ) → Contains places k → IsForcedPlace live trail.entries k
place_forced live trail conflict s places explained are_places k inside =
    let (l, at) = are_places.of_followed k inside in
    let way = explained.followed l at.0 at.1.0 in
    by_entry l at.1.1 way (entry_of trail.entries (variable_of l)) refl way.has_reason where
      by_entry : (l : ℤ) → place_of trail.entries (variable_of l) ≡ Some k → (way : GivesWay live trail.entries s.seen l) → (o : Option Entry) → entry_of trail.entries (variable_of l) ≡ o → option_and_then (λ (e : Entry). e.reason) o ≡ Some way.reason → IsForcedPlace live trail.entries k
      by_entry l place way None found is = absurd cc
      by_entry l place way (Some e) found is =
          let (j, stands) = entry_at trail.entries (variable_of l) e found in
          let same : j ≡ k = some_same (sym stands.place ∙ place) in
          record { entry = e; reason = way.reason; clause = way.clause; at = ap (slice_get trail.entries) (sym same) ∙ stands.here; has_reason = is; is_live = way.is_live }

-- the hints are ids
hint_tests : (store : StoreState) (number : ℕ) → AreLive store → IsSome (clause_numbered store.live number) → (is_hint (hint_of store.live number) ≡ true) × (is_positive (hint_of store.live number) ≡ true)
hint_tests store number live some =
    let found = some_of (clause_numbered store.live number) some in
    let F : Option LiveClause → Type 0 = λ o. IfSome o (λ (clause : LiveClause). (found.0).id ≡ clause.id) in
    let range = id_in_range store number (found.0).id live some (subst F (sym found.1) refl) in
    (ap is_hint range.1.1 ∙ id_within (found.0).id range.0 range.1.0, ap is_positive range.1.1 ∙ id_positive (found.0).id range.0) where
      id_within : (n : ℕ) → 1 ≤ n → n ≤ MOST_ID → is_hint (pos n) ≡ true
      id_within n low high = grind (arith, nat_tests)

      id_positive : (n : ℕ) → 1 ≤ n → is_positive (pos n) ≡ true
      id_positive zero low = absurd (omega (arith, low))
      id_positive (suc n) low = refl

pub hints_in_range : (store : StoreState) (entries : List Entry) (number : ℕ) (places : List ℕ) → AreLive store → IsSome (clause_numbered store.live number) → ((k : ℕ) → Contains places k → IsForcedPlace store.live entries k)
    → (list_all is_hint (map (hint_at store.live entries) places ++ hint_of store.live number ∷ []) ≡ true) × (list_all is_positive (map (hint_at store.live entries) places ++ hint_of store.live number ∷ []) ≡ true)
hints_in_range store entries number [] live some forced =
    let tests = hint_tests store number live some in (both_true tests.0 refl, both_true tests.1 refl)
hints_in_range store entries number (k ∷ ks) live some forced =
    let f = forced k (0, omega arith, refl) in
    let tests = hint_tests store f.reason live (IsSome-from (clause_numbered store.live f.reason) f.clause f.is_live) in
    let same = hint_at-forced store.live entries k f in
    let rest = hints_in_range store entries number ks live some (λ j (i, lt, at). forced j (suc i, omega (arith, lt), at)) in
    (both_true (ap is_hint same ∙ tests.0) rest.0, both_true (ap is_positive same ∙ tests.1) rest.1)

-- the hints of the places, once these were sorted
pub record SortedPlaces (store : StoreState) (trail : TrailState) (s : VisitedState) (places : List ℕ) : Type 0 where
  pub are_places : ArePlaces trail.entries s places
  pub forced : (k : ℕ) → Contains places k → IsForcedPlace store.live trail.entries k
  pub few : length places ≤ s.vars

pub sorted_places : (store : StoreState) (trail : TrailState) (s : VisitedState) (number : ℕ) (gathered places : List ℕ) → AreVisited s → IsAnalysed store.live trail number s → gathered ≡ filter_map (place_followed trail.entries s.seen) s.lits → IsPermutation gathered places
    → SortedPlaces store trail s places
sorted_places store trail s number gathered places visited analysed is moved =
    let P : List ℕ → Type 0 = λ ks. ArePlaces trail.entries s ks in
    let all = places_sorted trail.entries s gathered places (subst P (sym is) (places_gathered trail s analysed.marked)) moved in
    record {
      are_places = all;
      forced = place_forced store.live trail analysed.conflict s places analysed.explained all;
      few = omega (arith, length_permutation gathered places moved, ap (λ (ks : List ℕ). length ks) is, length-filter_map-le (place_followed trail.entries s.seen) s.lits, visited_few s visited);
    }

pub hints_made : (store : StoreState) (trail : TrailState) (s : VisitedState) (number : ℕ) (places : List ℕ) (hints : List ℤ) → AreLive store → IsAnalysed store.live trail number s → SortedPlaces store trail s places → IsNonDecreasing places
    → hints ≡ map (hint_at store.live trail.entries) places ++ hint_of store.live number ∷ [] → AreHints store.live trail.entries s number hints
hints_made store trail s number places hints live analysed h ascending is =
    let tests = hints_in_range store trail.entries number places live (IsSome-from (clause_numbered store.live number) analysed.conflict analysed.is_live) h.forced in
    record {
      places = places;
      are_places = h.are_places;
      ascending = ascending;
      gathered = is;
      few = omega (arith, h.few, ap (λ (hs : List ℤ). length hs) is, length-append (map (hint_at store.live trail.entries) places) (hint_of store.live number ∷ []), length-map places (hint_at store.live trail.entries));
      in_range = ap (list_all is_hint) is ∙ tests.0;
      positive = ap (list_all is_positive) is ∙ tests.1;
    }

module _ (live : List LiveClause) (trail : TrailState) (conflict : LiveClause) (s : VisitedState) (lits : List ℤ) (places : List ℕ)
    (kept : IsTrail trail) (sound : IsSound live trail) (visited : AreVisited s) (marked : AreMarked trail s) (explained : IsExplained live trail.entries conflict s)
    (conflict_false : (l : ℤ) → IsIn conflict.lits l → HasNegated trail.entries l)
    (held_in : (l : ℤ) → Contains s.lits l → is_held (status s.seen l) ≡ true → Contains lits l) (are_places : ArePlaces trail.entries s places) where
  covered : (l : ℤ) → HasNegated trail.entries l → is_seen (status s.seen l) ≡ true → IsCovered trail.entries lits places l
  covered l false_ seen =
      let stands = visited_contains trail.entries s l (consistent_trail trail kept) visited marked.all_false false_ (false_within trail l kept false_).0 seen in
      by_status (status s.seen l) refl stands seen where
        by_status : (x : Seen) → status s.seen l ≡ x → Contains s.lits l → is_seen x ≡ true → IsCovered trail.entries lits places l
        by_status No is stands seen' = absurd cc
        by_status Open is stands seen' = inl (held_in l stands (ap is_held is))
        by_status Kept is stands seen' = inl (held_in l stands (ap is_held is))
        by_status Followed is stands seen' = inr (are_places.stand l stands is)

  followed_at : (k : ℕ) → Contains places k → IsFollowed live trail.entries lits places k
  followed_at k inside =
      let (l, at) = are_places.of_followed k inside in
      let way = explained.followed l at.0 at.1.0 in
      by_entry l at.1.1 way (entry_of trail.entries (variable_of l)) refl way.has_reason where
        by_entry : (l : ℤ) → place_of trail.entries (variable_of l) ≡ Some k → (way : GivesWay live trail.entries s.seen l) → (o : Option Entry) → entry_of trail.entries (variable_of l) ≡ o → option_and_then (λ (e : Entry). e.reason) o ≡ Some way.reason → IsFollowed live trail.entries lits places k
        by_entry l place way None found is = absurd cc
        by_entry l place way (Some e) found is =
            let (j, stands) = entry_at trail.entries (variable_of l) e found in
            let same : j ≡ k = some_same (sym stands.place ∙ place) in
            let here : slice_get trail.entries k ≡ Some e = ap (slice_get trail.entries) (sym same) ∙ stands.here in
            record {
              entry = e;
              reason = way.reason;
              clause = way.clause;
              at = here;
              has_reason = is;
              is_live = way.is_live;
              others = λ m within other. covered m (has_taken trail.entries k (negation m) (others_earlier live trail k e way.reason way.clause sound here is way.is_live m within other)) (way.all_seen m within);
            }

  pub chain : IsChain live trail conflict lits places
  chain = record {
    followed = followed_at;
    conflict_covered = λ m within. covered m (conflict_false m within) (explained.conflict_seen m within);
    conflict_false = conflict_false;
  }
