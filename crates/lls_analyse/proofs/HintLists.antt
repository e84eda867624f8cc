-- Ids as hints, and the places of the literals that gave way.
use Rattle.std.proofs.Common.{◌≡◌, ℕ, ◌+◌, ◌<◌, ◌≤◌, List, [], ◌∷◌, ◌++◌, length, get_or, take, Option, Some, None, sym, ap, subst, ◌∙◌, arith}
use Rattle.std.specs.Prelude.{ℤ, pos, IsSome, slice_get, unwrap_or, option_map, option_and_then, IfSome}
use Rattle.std.specs.List.{filter_map, cons_option}
use Rattle.std.proofs.lemmas.List.{take_more}
use Rattle.std.proofs.lemmas.List.Elements.{filter_map-append, All-contains}
use Rattle.std.proofs.lemmas.Option.{slice_get-map}
use Rattle.lls_lit.specs.Literal.{variable_of}
use Rattle.lls_store.specs.declared.store.TheConstants.{MOST_ID}
use Rattle.lls_store.specs.Trail.{Entry, TrailState, literals_of, IsTrail, reason_of}
use Rattle.lls_store.specs.Clauses.{LiveClause, clause_numbered}
use Rattle.lls_store.specs.Store.{StoreState, AreLive}
use Rattle.lls_analyse.specs.Visited.{VisitedState, AreVisited, is_seen}
use Rattle.lls_analyse.specs.Hinted.{hint_of, hint_at, IsForcedPlace}
use Rattle.lls_analyse.proofs.LiveClauses.{some_of, numbered}
use Rattle.lls_analyse.proofs.Trails.{entry_of_here}
use Rattle.std.proofs.lemmas.List.Sums.{count_by-le-length}

-- the id of a live clause is in range
pub id_in_range : (store : StoreState) (number id : ℕ) → AreLive store → IsSome (clause_numbered store.live number) → IfSome (clause_numbered store.live number) (λ clause. id ≡ clause.id) → (1 ≤ id) × ((id ≤ MOST_ID) × (hint_of store.live number ≡ pos id))
id_in_range store number id live some is =
    let found = some_of (clause_numbered store.live number) some in
    let Q : Option LiveClause → Type 0 = λ o. IfSome o (λ (clause : LiveClause). id ≡ clause.id) in
    let same : id ≡ (found.0).id = subst Q found.1 is in
    let fits = All-contains (λ (c : LiveClause). (1 ≤ c.id) × (c.id ≤ MOST_ID)) store.live found.0 live.ids_fit (numbered store.live number found.0 found.1).contains in
    (omega (arith, same, fits.0), (omega (arith, same, fits.1), ap (λ (o : Option LiveClause). pos (unwrap_or (option_map (λ (c : LiveClause). c.id) o) 0)) found.1 ∙ ap pos (sym same)))

-- the reason of the variable whose literal stands at a place
pub reason_at : (live : List LiveClause) (trail : TrailState) (k v : ℕ) (lit : ℤ) → IsTrail trail → (f : IsForcedPlace live trail.entries k) → slice_get (literals_of trail.entries) k ≡ Some lit → v ≡ variable_of lit → reason_of trail.entries v ≡ Some f.reason
reason_at live trail k v lit kept f here var =
    let same : f.entry.lit ≡ lit = told (ap (option_map (λ (e : Entry). e.lit)) (sym f.at) ∙ sym (slice_get-map (λ (e : Entry). e.lit) trail.entries k) ∙ here) in
    ap (reason_of trail.entries) (var ∙ ap variable_of (sym same)) ∙ ap (option_and_then (λ (e : Entry). e.reason)) (entry_of_here trail.entries k f.entry kept.once f.at) ∙ f.has_reason where
      told : {a b : ℤ} → Some a ≡ Some b → a ≡ b
      told is = cc

pub hint_at-forced : (live : List LiveClause) (entries : List Entry) (k : ℕ) → (f : IsForcedPlace live entries k) → hint_at live entries k ≡ hint_of live f.reason
hint_at-forced live entries k f =
    ap (λ (o : Option LiveClause). pos (unwrap_or (option_map (λ (c : LiveClause). c.id) o) 0))
    (ap (λ (o : Option Entry). option_and_then (clause_numbered live) (option_and_then (λ (e : Entry). e.reason) o)) f.at ∙ ap (option_and_then (clause_numbered live)) f.has_reason)

-- one more literal
pub filter_map-take_more : (f : ℤ → Option ℕ) (lits : List ℤ) (i : ℕ) (l : ℤ) → i < length lits → l ≡ get_or lits i l → filter_map f (take (i + 1) lits) ≡ filter_map f (take i lits) ++ cons_option (f l) []
filter_map-take_more f lits i l lt is =
    ap (filter_map f) (take_more lits i l lt ∙ ap (λ m. take i lits ++ m ∷ []) (sym is)) ∙ filter_map-append f (take i lits) (l ∷ [])

pub length-filter_map-le : (f : ℤ → Option ℕ) (lits : List ℤ) → length (filter_map f lits) ≤ length lits
length-filter_map-le f [] = omega arith
length-filter_map-le f (l ∷ ls) = by_case (f l) (length-filter_map-le f ls) where
  by_case : (o : Option ℕ) → length (filter_map f ls) ≤ length ls → length (cons_option o (filter_map f ls)) ≤ length (l ∷ ls)
  by_case None rest = omega (arith, rest)
  by_case (Some k) rest = omega (arith, rest)

-- there are at most as many visited literals as variables
pub visited_few : (s : VisitedState) → AreVisited s → length s.lits ≤ s.vars
visited_few s h = omega (arith, h.counted, h.each, count_by-le-length is_seen s.seen)
