-- Clauses found and taken out by their ids, in lists that are put together.
use Rattle.std.proofs.Common.{◌≡◌, ℕ, ◌+◌, ◌<◌, Bool, true, false, not, cond, eqb, ◌||◌, List, [], ◌∷◌, ◌++◌, length, get_or, take, Option, Some, None, refl, sym, ap, ◌∙◌}
use Rattle.std.specs.Prelude.{filter}
use Rattle.std.specs.List.{list_any}
use Rattle.std.proofs.lemmas.List.Folds.{list_any_more}
use Rattle.lls_lit.specs.Formula.{Clause}
use Rattle.lls_prooflog.specs.UnitWalk.{Live, find_clause}

find-front : (b : Bool) (clause found : Clause) (front rest : Option Clause) → (front ≡ Some found → rest ≡ Some found) → cond b (Some clause) front ≡ Some found → cond b (Some clause) rest ≡ Some found
find-front true clause found front rest h e = e
find-front false clause found front rest h e = h e

-- a clause of the first list is found
pub find-append_some : (front back : Live) (id : ℕ) (clause : Clause) → find_clause front id ≡ Some clause → find_clause (front ++ back) id ≡ Some clause
find-append_some [] back id clause e = absurd cc
find-append_some (pair ∷ rest) back id clause e =
    find-front (eqb pair.0 id) pair.1 clause (find_clause rest id) (find_clause (rest ++ back) id) (find-append_some rest back id clause) e

find-behind : (b : Bool) (clause : Clause) (front whole back : Option Clause) → (front ≡ None → whole ≡ back) → cond b (Some clause) front ≡ None → cond b (Some clause) whole ≡ back
find-behind true clause front whole back h e = absurd cc
find-behind false clause front whole back h e = h e

-- else one of the second
pub find-append_none : (front back : Live) (id : ℕ) → find_clause front id ≡ None → find_clause (front ++ back) id ≡ find_clause back id
find-append_none [] back id e = refl
find-append_none (pair ∷ rest) back id e =
    find-behind (eqb pair.0 id) pair.1 (find_clause rest id) (find_clause (rest ++ back) id) (find_clause back id) (find-append_none rest back id) e

-- so an id that isn't found in both together is in neither
pub find-append_back : (front back : Live) (id : ℕ) → find_clause (front ++ back) id ≡ None → find_clause back id ≡ None
find-append_back front back id e =
    elim (find_clause front id) as (λ o. find_clause front id ≡ o → find_clause back id ≡ None) [
      | None ↦ λ none. sym (find-append_none front back id none) ∙ e
      | Some clause ↦ λ some. let clash : Some clause ≡ None = sym (find-append_some front back id clause some) ∙ e in absurd cc
    ] refl

filter_step : (a b : Bool) (pair : ℕ × Clause) (inner outer : Live) (keep : ℕ × Clause → Bool) → keep pair ≡ not b → filter keep inner ≡ outer → filter keep (cond (not a) (pair ∷ inner) inner) ≡ cond (not (a || b)) (pair ∷ outer) outer
filter_step true b pair inner outer keep k e = e
filter_step false true pair inner outer keep k e = rw k e
filter_step false false pair inner outer keep k e = rw k (ap (λ (l : Live). pair ∷ l) e)

-- to take out one set of ids and then another
filter-both : (a b both : ℕ → Bool) (all : Live) → ((q : ℕ) → both q ≡ (a q || b q)) → filter (λ pair. not (b pair.0)) (filter (λ pair. not (a pair.0)) all) ≡ filter (λ pair. not (both pair.0)) all
filter-both a b both [] h = refl
filter-both a b both (pair ∷ rest) h =
    rw (h pair.0) (filter_step (a pair.0) (b pair.0) pair (filter (λ p. not (a p.0)) rest) (filter (λ p. not (both p.0)) rest) (λ p. not (b p.0)) refl (filter-both a b both rest h))

-- no id is taken out
pub filter-none : (all : Live) → filter (λ pair. not (list_any (λ id. eqb id pair.0) [])) all ≡ all
filter-none [] = refl
filter-none (pair ∷ rest) = ap (λ (l : Live). pair ∷ l) (filter-none rest)

-- one more id is taken out
pub filter-more : (ids : List ℕ) (i d : ℕ) (all : Live) → i < length ids → filter (λ pair. not (eqb (get_or ids i d) pair.0)) (filter (λ pair. not (list_any (λ id. eqb id pair.0) (take i ids))) all) ≡ filter (λ pair. not (list_any (λ id. eqb id pair.0) (take (i + 1) ids))) all
filter-more ids i d all lt =
    filter-both (λ q. list_any (λ id. eqb id q) (take i ids)) (λ q. eqb (get_or ids i d) q) (λ q. list_any (λ id. eqb id q) (take (i + 1) ids)) all (λ q. list_any_more (λ id. eqb id q) ids i d lt)
