-- The map from ids to the places of the clauses that are stored under them.
use Rattle.std.proofs.Common.{◌≡◌, ℕ, zero, suc, ◌+◌, ◌<◌, true, false, cond, eqb, List, [], ◌∷◌, ◌++◌, length, get_or, Option, Some, None, refl, sym, ap, ◌∙◌, arith}
use Rattle.std.specs.Prelude.{slice_get}
use Rattle.std.specs.List.{zip}
use Rattle.std.proofs.lemmas.Bool.{eqb-true}
use Rattle.std.proofs.lemmas.List.{length-append}
use Rattle.std.proofs.lemmas.Option.{same_Some, slice_get_within, slice_get-get_or}
use Rattle.lls_lit.specs.Formula.{Clause}
use Rattle.lls_prooflog.specs.UnitWalk.{Live, find_clause}
use Rattle.lls_lrat.specs.Stored.{kept, IsIndexed}
use Rattle.lls_lrat.proofs.Kept.{find-kept_some}

pub zip-push : (ids : List ℕ) (clauses : List Clause) (id : ℕ) (lits : Clause) → length ids ≡ length clauses → zip (ids ++ id ∷ []) (clauses ++ lits ∷ []) ≡ zip ids clauses ++ (id, lits) ∷ []
zip-push [] [] id lits e = refl
zip-push [] (c ∷ cs) id lits e = absurd (omega arith)
zip-push (i ∷ is) [] id lits e = absurd (omega arith)
zip-push (i ∷ is) (c ∷ cs) id lits e = ap (λ (l : Live). (i, c) ∷ l) (zip-push is cs id lits (omega arith))

pub length-zip : (ids : List ℕ) (clauses : List Clause) → length ids ≡ length clauses → length (zip ids clauses) ≡ length ids
length-zip [] clauses e = refl
length-zip (i ∷ is) [] e = absurd (omega arith)
length-zip (i ∷ is) (c ∷ cs) e = ap suc (length-zip is cs (omega arith))

pub get-zip : (ids : List ℕ) (clauses : List Clause) (k id : ℕ) (clause : Clause) → slice_get ids k ≡ Some id → slice_get clauses k ≡ Some clause → slice_get (zip ids clauses) k ≡ Some (id, clause)
get-zip [] clauses k id clause e h = absurd cc
get-zip (i ∷ is) [] k id clause e h = absurd cc
get-zip (i ∷ is) (c ∷ cs) zero id clause e h =
    ap (λ (n : ℕ). Some (n, c)) (same_Some i id e) ∙ ap (λ (l : Clause). Some (id, l)) (same_Some c clause h)
get-zip (i ∷ is) (c ∷ cs) (suc k) id clause e h = get-zip is cs k id clause e h

get_front : {X : Type 0} (xs ys : List X) (k : ℕ) (x : X) → slice_get xs k ≡ Some x → slice_get (xs ++ ys) k ≡ Some x
get_front [] ys k x e = absurd cc
get_front (z ∷ zs) ys zero x e = e
get_front (z ∷ zs) ys (suc k) x e = get_front zs ys k x e

get_last : {X : Type 0} (xs : List X) (x : X) → slice_get (xs ++ x ∷ []) (length xs) ≡ Some x
get_last [] x = refl
get_last (z ∷ zs) x = get_last zs x

-- the place of an id is one of a stored clause
pub place_within : (place_of : ℕ → Option ℕ) (ids : List ℕ) (clauses : List Clause) (id place : ℕ) → IsIndexed place_of ids clauses → place_of id ≡ Some place → place < length clauses
place_within place_of ids clauses id place h e =
    let within = slice_get_within ids place id (h.under id place e) in
    omega (arith, within, h.same_many)

-- the clause at the place of an id is the live clause of that id
pub find-stored : (place_of : ℕ → Option ℕ) (ids : List ℕ) (clauses : List Clause) (id place : ℕ) (clause : Clause) → IsIndexed place_of ids clauses → place_of id ≡ Some place → slice_get clauses place ≡ Some clause → find_clause (kept place_of 0 (zip ids clauses)) id ≡ Some clause
find-stored place_of ids clauses id place clause h e c =
    find-kept_some place_of 0 (zip ids clauses) id place clause (e ∙ ap (λ (n : ℕ). Some n) (let z : place ≡ 0 + place = omega arith in z)) (get-zip ids clauses place id clause (h.under id place e) c)

-- one more clause at the next place
pub IsIndexed-push : (place_of place_of' : ℕ → Option ℕ) (ids : List ℕ) (clauses : List Clause) (id : ℕ) (lits : Clause) → IsIndexed place_of ids clauses → ((q : ℕ) → place_of' q ≡ cond (eqb id q) (Some (length ids)) (place_of q)) → IsIndexed place_of' (ids ++ id ∷ []) (clauses ++ lits ∷ [])
IsIndexed-push place_of place_of' ids clauses id lits h at = record {
  same_many = omega (arith, length-append ids (id ∷ []), length-append clauses (lits ∷ []), h.same_many);
  under = λ q place is.
      elim (eqb id q) as (λ b. eqb id q ≡ b → slice_get (ids ++ id ∷ []) place ≡ Some q) [
        | true ↦ λ same.
            let there : length ids ≡ place = same_Some (length ids) place (sym (at q ∙ ap (λ b. cond b (Some (length ids)) (place_of q)) same) ∙ is) in
            rw (← there) (get_last ids id ∙ ap (λ (m : ℕ). Some m) (eqb-true id q same))
        | false ↦ λ other. get_front ids (id ∷ []) place q (h.under q place (sym (at q ∙ ap (λ b. cond b (Some (length ids)) (place_of q)) other) ∙ is))
      ] refl;
}

-- the same under a map that agrees, or from which an id is taken out
pub IsIndexed-same : (place_of place_of' : ℕ → Option ℕ) (ids : List ℕ) (clauses : List Clause) → IsIndexed place_of ids clauses → ((q : ℕ) → place_of' q ≡ place_of q) → IsIndexed place_of' ids clauses
IsIndexed-same place_of place_of' ids clauses h same = record {
  same_many = h.same_many;
  under = λ q place is. h.under q place (sym (same q) ∙ is);
}

pub IsIndexed-remove : (place_of place_of' : ℕ → Option ℕ) (ids : List ℕ) (clauses : List Clause) (id : ℕ) → IsIndexed place_of ids clauses → ((q : ℕ) → place_of' q ≡ cond (eqb id q) None (place_of q)) → IsIndexed place_of' ids clauses
IsIndexed-remove place_of place_of' ids clauses id h at = record {
  same_many = h.same_many;
  under = λ q place is.
      elim (eqb id q) as (λ b. eqb id q ≡ b → slice_get ids place ≡ Some q) [
        | true ↦ λ same.
            let clash : None ≡ Some place = sym (at q ∙ ap (λ b. cond b None (place_of q)) same) ∙ is in
            absurd cc
        | false ↦ λ other. h.under q place (sym (at q ∙ ap (λ b. cond b None (place_of q)) other) ∙ is)
      ] refl;
}

-- an id that isn't live leads nowhere
pub free_id : (place_of : ℕ → Option ℕ) (ids : List ℕ) (clauses : List Clause) (id : ℕ) → IsIndexed place_of ids clauses → find_clause (kept place_of 0 (zip ids clauses)) id ≡ None → place_of id ≡ None
free_id place_of ids clauses id h none =
    elim (place_of id) as (λ o. place_of id ≡ o → o ≡ None) [
      | None ↦ λ _. refl
      | Some place ↦ λ is.
          let there = slice_get-get_or clauses place [] (place_within place_of ids clauses id place h is) in
          let some = find-stored place_of ids clauses id place (get_or clauses place []) h is there in
          let clash : None ≡ Some (get_or clauses place []) = sym none ∙ some in
          absurd cc
    ] refl
