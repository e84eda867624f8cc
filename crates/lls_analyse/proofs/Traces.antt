-- The clauses that were resolved, kept on the way back from a conflict, and what is told of them at its end.
use Rattle.std.proofs.Common.{fold, cond, ◌≡◌, ◌≢◌, ℕ, zero, suc, ◌+◌, ◌-◌, ◌<◌, ◌≤◌, Bool, true, false, List, [], ◌∷◌, ◌++◌, length, get_or, set, Some, refl, sym, ap, subst, ◌∙◌, inl, inr, arith}
use Rattle.std.specs.Prelude.{AllPairs, ℤ, ◌⊎◌, Contains, All}
use Rattle.std.specs.FinSet as finset
use Rattle.std.proofs.lemmas.List.{append_assoc, append-nil, get_or-set_other}
use Rattle.std.proofs.lemmas.Grind.{get_or-set_at}
use Rattle.std.proofs.lemmas.List.Quantifiers.{all_pairs_push}
use Rattle.std.proofs.lemmas.List.Kept.{AllPairs-cons}
use Rattle.std.proofs.lemmas.List.Elements.{Contains-get_or, Contains-append_left, Contains-push, Contains-push_cases, All-weaker, All-contains_itself}
use Rattle.std.proofs.lemmas.Bool.Decides.{eqb_tells}
use Rattle.lls_lit.specs.Literal.{variable_of}
use Rattle.lls_lit.specs.Formula.{is_within}
use Rattle.lls_store.specs.Trail.{TrailState, HasNegated, IsTrail, reason_of}
use Rattle.lls_store.specs.Clauses.{LiveClause, Literals, IsIn, clause_numbered}
use Rattle.lls_store.specs.Sound.{IsSound}
use Rattle.lls_store.specs.Store.{StoreState, AreLive, IsConflict}
use Rattle.lls_store.proofs.Tabled.{variable_bounds}
use Rattle.lls_analyse.specs.declared.visited.Seen.{Seen}
use Rattle.lls_analyse.specs.declared.visited.Seen.TheVariants.{No, Open, Kept, Followed}
use Rattle.lls_analyse.specs.Visited.{VisitedState, AreVisited, IsListed, is_seen, is_held, status, status_of}
use Rattle.lls_analyse.specs.Marked.{holding, held_in, AreMarked, HoldsClause, IsResolved, nothing_seen}
use Rattle.lls_analyse.specs.Analyser.{BeginsWith, IsOfOne, IsForcedByOne, ComesBy}
use Rattle.lls_analyse.specs.Traced.{IsTraced}
use Rattle.lls_analyse.proofs.Visits.{unlike}
use Rattle.lls_analyse.proofs.Trails.{false_within, consistent_trail}
use Rattle.lls_analyse.proofs.Holds.{visited_contains}
use Rattle.lls_analyse.proofs.Forcing.{conflict_forces_none}
use Rattle.lls_analyse.proofs.Resolving.{IsResolving, HeldClause, first_held, same_found}
use Rattle.lls_analyse.proofs.LiveClauses.{IsSome-from, number_given, clause_within}

-- on the way as far as a place: each step before it is one clause at most
pub record IsTracing (live : List LiveClause) (trail : TrailState) (number left : ℕ) (s : VisitedState) (place : ℕ) (resolved : List ℕ) (room room_before : ℕ) : Type 0 where
  pub resolving : IsResolving live trail number left s place
  pub traced : IsTraced live trail.entries number s resolved
  pub few : length resolved + place ≤ length trail.entries + 1
  pub room_stays : room ≡ room_before

-- literals that were held were put behind those that were visited
grown : (trail : TrailState) (s : VisitedState) (lits : List ℤ) → (added : List ℤ) × ((fold (held_in trail) s lits).lits ≡ s.lits ++ added)
grown trail s [] = ([], sym (append-nil s.lits))
grown trail s (l ∷ ls) =
    let (first, is_first) = by_test (is_seen (status s.seen l)) in
    let (rest, is_rest) = grown trail (held_in trail s l) ls in
    (first ++ rest, is_rest ∙ ap (λ xs. xs ++ rest) is_first ∙ append_assoc s.lits first rest) where
      by_test : (b : Bool) → (added : List ℤ) × ((cond b s (record { vars = s.vars; seen = set s.seen (variable_of l - 1) (holding trail l); lits = s.lits ++ l ∷ [] })).lits ≡ s.lits ++ added)
      by_test true = ([], sym (append-nil s.lits))
      by_test false = (l ∷ [], refl)

pub grown_by : (live : List LiveClause) (trail : TrailState) (old new : VisitedState) (number : ℕ) → HoldsClause live trail old new number → (added : List ℤ) × (new.lits ≡ old.lits ++ added)
grown_by live trail old new number h =
    let (added, is) = grown trail old h.lits in
    (added, ap (λ (s : VisitedState). s.lits) h.held ∙ is)

begins_longer : (lits : Literals) (met longer added : List ℤ) → longer ≡ met ++ added → BeginsWith lits met → BeginsWith lits longer
begins_longer lits met longer added is b = record {
  own = b.own;
  others = b.others ++ added;
  parts = is ∙ ap (λ xs. xs ++ added) b.parts ∙ append_assoc b.own b.others added;
  each_own = b.each_own;
  all_own = b.all_own;
}

-- where nothing was followed, the conflict alone is resolved
pub traced_first : (live : List LiveClause) (trail : TrailState) (number : ℕ) (s : VisitedState) (clause : LiveClause) → IsTrail trail → IsConflict live trail number → clause_numbered live number ≡ Some clause → HeldClause live trail (nothing_seen trail.vars) s clause
    → IsTraced live trail.entries number s (number ∷ [])
traced_first live trail number s clause kept conflict is_live now = record {
  conflict = clause;
  is_live = is_live;
  conflict_first = record {
    own = s.lits;
    others = [];
    parts = sym (append-nil s.lits);
    each_own = λ l stands. (first_held live trail s clause now l stands).0;
    all_own = λ l inside. (let is = false_ l inside in visited_contains trail.entries s l (consistent_trail trail kept) now.visited now.marked.all_false is (false_within trail l kept is).0 (now.all_seen l inside));
  };
  reasons = [];
  begins = refl;
  are_reasons = λ n (k, lt, at). absurd (omega (arith, lt));
  once = λ i j d before lt. absurd (omega (arith, lt));
  all_followed = λ l n stands is _. absurd (unlike (first_held live trail s clause now l stands).1 (ap is_held is));
  of_resolved = λ l stands. record { number = number; clause = clause; among = (0, omega arith, refl); is_live = is_live; is_in = (first_held live trail s clause now l stands).0 };
} where
  false_ : (l : ℤ) → IsIn clause.lits l → HasNegated trail.entries l
  false_ l inside = conflict.all_false l (ap (λ (c : LiveClause). finset.contains c.lits l) (same_found conflict.clause clause conflict.is_live is_live) ∙ inside)

-- an open literal was followed, and the literals of the clause that forced its negation are held
module _ (live : List LiveClause) (trail : TrailState) (s new : VisitedState) (v : ℕ) (clause : LiveClause) (kept : IsTrail trail) (visited : AreVisited s) (marked : AreMarked trail s)
    (low : 1 ≤ v) (inside : v - 1 < length s.seen) (opened : status_of s.seen v ≡ Open) (now : HeldClause live trail (record s { seen = set s.seen (v - 1) Followed }) new clause) (added : List ℤ) (longer : new.lits ≡ s.lits ++ added) where
  mid_at : (m : ℤ) → variable_of m - 1 ≡ v - 1 → status (set s.seen (v - 1) Followed) m ≡ Followed
  mid_at m same = get_or-set_at s.seen (v - 1) (variable_of m - 1) Followed No same inside

  mid_else : (m : ℤ) → variable_of m - 1 ≢ v - 1 → status (set s.seen (v - 1) Followed) m ≡ status s.seen m
  mid_else m other = get_or-set_other s.seen (v - 1) (variable_of m - 1) Followed No other

  was_seen : (m : ℤ) → is_seen (status (set s.seen (v - 1) Followed) m) ≡ true → is_seen (status s.seen m) ≡ true
  was_seen m seen = elim (eqb_tells (variable_of m - 1) (v - 1)) [
    | inl t ↦ ap (λ n. is_seen (get_or s.seen n No)) t.1 ∙ ap is_seen opened
    | inr t ↦ ap is_seen (sym (mid_else m t.1)) ∙ seen
  ]

  -- a visited literal was visited before, or is one of the clause
  data Source (m : ℤ) : Type 0 where
    before : Contains s.lits m → status new.seen m ≡ status (set s.seen (v - 1) Followed) m → Source m
    fresh : IsIn clause.lits m → is_held (status new.seen m) ≡ true → Source m

  source : (m : ℤ) → Contains new.lits m → Source m
  source m stands = by_seen (is_seen (status (set s.seen (v - 1) Followed) m)) refl where
    false_ : HasNegated trail.entries m
    false_ = now.marked.all_false m stands

    by_seen : (b : Bool) → is_seen (status (set s.seen (v - 1) Followed) m) ≡ b → Source m
    by_seen true seen = before (visited_contains trail.entries s m (consistent_trail trail kept) visited marked.all_false false_ (false_within trail m kept false_).0 (was_seen m seen)) (now.stays m seen)
    by_seen false unseen = let at = now.newly m false_ unseen (now.visited.all_seen m stands) in fresh at.0 at.1

  still : (m : ℤ) → status (set s.seen (v - 1) Followed) m ≡ Followed → status new.seen m ≡ Followed
  still m is = now.stays m (ap is_seen is) ∙ is

  still_followed : (m : ℤ) → status s.seen m ≡ Followed → status new.seen m ≡ Followed
  still_followed m is = elim (eqb_tells (variable_of m - 1) (v - 1)) [
    | inl t ↦ still m (mid_at m t.1)
    | inr t ↦ still m (mid_else m t.1 ∙ is)
  ]

  -- the clause is resolved too
  pub traced_on : (number reason : ℕ) (resolved : List ℕ) → reason_of trail.entries v ≡ Some reason → ((u : ℕ) → reason_of trail.entries u ≡ Some reason → u ≡ v) → clause_numbered live reason ≡ Some clause → IsTraced live trail.entries number s resolved → IsTraced live trail.entries number new (resolved ++ reason ∷ [])
  traced_on number reason resolved has_reason alone is_live t = record {
    conflict = t.conflict;
    is_live = t.is_live;
    conflict_first = begins_longer t.conflict.lits s.lits new.lits added longer t.conflict_first;
    reasons = t.reasons ++ reason ∷ [];
    begins = ap (λ ns. ns ++ reason ∷ []) t.begins;
    are_reasons = λ n among. elim (Contains-push_cases t.reasons reason n among) [
      | inl old ↦
          let f = t.are_reasons n old in
          record { lit = f.lit; stands = now.lits_stay f.lit f.stands; is_followed = still_followed f.lit f.is_followed; has_reason = f.has_reason }
      | inr same ↦ record {
        lit = here.lit;
        stands = now.lits_stay here.lit here.stands;
        is_followed = still here.lit (mid_at here.lit (ap (λ n. n - 1) of_v));
        has_reason = ap (reason_of trail.entries) of_v ∙ has_reason ∙ ap Some same;
      }
    ];
    once = all_pairs_push (λ a b. a ≢ b) t.reasons reason t.once new_reason;
    all_followed = λ m n stands is has. elim (source m stands) [
      | before stood same ↦ elim (eqb_tells (variable_of m - 1) (v - 1)) [
        | inl t' ↦
            let is_v : variable_of m ≡ v = omega (arith, t'.1, low, (false_within trail m kept (marked.all_false m stood)).0) in
            let P : ℕ → Type 0 = λ k. Contains (t.reasons ++ reason ∷ []) k in
            subst P (same_found reason n has_reason (ap (reason_of trail.entries) (sym is_v) ∙ has)) (Contains-push t.reasons reason)
        | inr t' ↦ Contains-append_left t.reasons (reason ∷ []) n (t.all_followed m n stood (sym (mid_else m t'.1) ∙ sym same ∙ is) has)
      ]
      | fresh _ held ↦ absurd (unlike held (ap is_held is))
    ];
    of_resolved = λ m stands. elim (source m stands) [
      | before stood _ ↦
          let one = t.of_resolved m stood in
          record { number = one.number; clause = one.clause; among = Contains-append_left resolved (reason ∷ []) one.number one.among; is_live = one.is_live; is_in = one.is_in }
      | fresh is_in _ ↦ record { number = reason; clause = clause; among = Contains-push resolved reason; is_live = is_live; is_in = is_in }
    ];
  } where
    here : IsListed s.lits (v - 1 + 1)
    here = visited.listed (v - 1) (ap is_seen opened)

    of_v : variable_of here.lit ≡ v
    of_v = omega (arith, here.of_variable, low)

    open_followed : Open ≡ Followed → ⊥
    open_followed is = cc

    new_reason : (k d : ℕ) → k < length t.reasons → get_or t.reasons k d ≢ reason
    new_reason k d lt same =
        let f = t.are_reasons (get_or t.reasons k d) (Contains-get_or t.reasons k d lt) in
        let is_v = alone (variable_of f.lit) (f.has_reason ∙ ap Some same) in
        open_followed (sym opened ∙ ap (status_of s.seen) (sym is_v) ∙ f.is_followed)

-- a clause that was resolved, and that something is known of each of its literals
record IsSpent (live : List LiveClause) (seen : List Seen) (number : ℕ) : Type 0 where
  pub clause : LiveClause
  pub is_live : clause_numbered live number ≡ Some clause
  pub all_seen : (m : ℤ) → IsIn clause.lits m → is_seen (status seen m) ≡ true

spent : (live : List LiveClause) (trail : TrailState) (number : ℕ) (s : VisitedState) (resolved : List ℕ) → IsResolved live trail number 1 s → IsTraced live trail.entries number s resolved → (n : ℕ) → Contains resolved n → IsSpent live s.seen n
spent live trail number s resolved r t n among =
    let P : List ℕ → Type 0 = λ ns. Contains ns n in
    by_place (subst P t.begins among) where
      of_conflict : (m : ℕ) → number ≡ m → IsSpent live s.seen m
      of_conflict m same = record {
        clause = r.analysed.conflict;
        is_live = ap (clause_numbered live) (sym same) ∙ r.analysed.is_live;
        all_seen = r.analysed.explained.conflict_seen;
      }

      by_place : Contains (number ∷ t.reasons) n → IsSpent live s.seen n
      by_place (zero, lt, at) = of_conflict n at
      by_place (suc k, lt, at) =
          let f = t.are_reasons n (k, omega (arith, lt), at) in
          let g = r.analysed.explained.followed f.lit f.stands f.is_followed in
          record {
            clause = g.clause;
            is_live = ap (clause_numbered live) (same_found n g.reason f.has_reason g.has_reason) ∙ g.is_live;
            all_seen = g.all_seen;
          }

-- what is told at the end
pub comes_by : (store : StoreState) (trail : TrailState) (number : ℕ) (s : VisitedState) (resolved : List ℕ) → IsTrail trail → IsSound store.live trail → IsConflict store.live trail number → AreLive store → AreVisited s → IsResolved store.live trail number 1 s → 0 < trail.current → IsTraced store.live trail.entries number s resolved
    → ComesBy store.live trail number s.lits resolved
comes_by store trail number s resolved kept sound conflict live visited r above t =
    let part = r.part refl above in
    record {
      from_clause = r.analysed.conflict;
      from_live = r.analysed.is_live;
      uip = part.uip;
      is_uip = part.is_uip;
      reasons = t.reasons;
      begins = t.begins;
      are_reasons = λ n among. (let f = t.are_reasons n among in record { lit = f.lit; stands = f.stands; has_reason = f.has_reason });
      once = (let P : List ℕ → Type 0 = λ ns. AllPairs (λ a b. a ≢ b) ns in subst P (sym t.begins) (AllPairs-cons (λ a b. a ≢ b) number t.reasons apart t.once));
      are_live = λ n among. (let is = spent store.live trail number s resolved r t n among in IsSome-from (clause_numbered store.live n) is.clause is.is_live);
      are_met = record {
        within = ap (λ n. is_within n s.lits) (sym r.analysed.marked.same_vars) ∙ visited.within;
        once = visited.once;
        all_false = r.analysed.marked.all_false;
        of_resolved = t.of_resolved;
        no_other = no_other;
      };
      conflict_first = (let P : LiveClause → Type 0 = λ c. BeginsWith c.lits s.lits in subst P (same_found t.conflict r.analysed.conflict t.is_live r.analysed.is_live) t.conflict_first);
      gave_way = λ l stands. by_status l stands (status s.seen l) refl;
    } where
      apart : (k d : ℕ) → k < length t.reasons → number ≢ get_or t.reasons k d
      apart k d lt same =
          let f = t.are_reasons (get_or t.reasons k d) (Contains-get_or t.reasons k d lt) in
          conflict_forces_none store.live trail (variable_of f.lit) number kept sound conflict (f.has_reason ∙ ap Some (sym same))

      no_other : (l : ℤ) → IsOfOne store.live resolved l → IsListed s.lits (variable_of l)
      no_other l one =
          let is = spent store.live trail number s resolved r t one.number one.among in
          let same : one.clause ≡ is.clause = same_found one.clause is.clause one.is_live is.is_live in
          let seen = is.all_seen l (ap (λ (c : LiveClause). finset.contains c.lits l) (sym same) ∙ one.is_in) in
          let low = (variable_bounds store.vars (variable_of l) (clause_within store one.number one.clause live one.is_live l one.is_in)).0 in
          let at = visited.listed (variable_of l - 1) seen in
          record { lit = at.lit; stands = at.stands; of_variable = omega (arith, at.of_variable, low) }

      by_status : (l : ℤ) → Contains s.lits l → (x : Seen) → status s.seen l ≡ x → IsIn (r.part refl above).uip l ⊎ IsForcedByOne trail.entries t.reasons l
      by_status l stands No is = absurd (unlike (visited.all_seen l stands) (ap is_seen is))
      by_status l stands Open is = inl ((r.part refl above).among l stands (ap is_held is))
      by_status l stands Kept is = inl ((r.part refl above).among l stands (ap is_held is))
      by_status l stands Followed is =
          let g = r.analysed.explained.followed l stands is in
          inr (record { number = g.reason; among = t.all_followed l g.reason stands is g.has_reason; has_reason = g.has_reason })

-- the store gave each of these numbers
pub resolved_given : (store : StoreState) (trail : TrailState) (number : ℕ) (met : List ℤ) (resolved : List ℕ) → AreLive store → ComesBy store.live trail number met resolved → All (λ n. n < store.count) resolved
resolved_given store trail number met resolved live c = All-weaker (Contains resolved) (λ n. n < store.count) (λ n among. number_given store n live (c.are_live n among)) resolved (All-contains_itself resolved)
