-- Stored clauses, of which the dead ones are made empty in place.
use Rattle.std.proofs.Common.{◌≡◌, ◌≢◌, ℕ, zero, suc, ◌+◌, ◌-◌, ◌/◌, ◌<◌, ◌≤◌, Bool, true, false, cond, eqb, List, [], ◌∷◌, ◌++◌, length, get_or, set, take, drop, Option, Some, None, refl, sym, ap, ◌∙◌, arith}
use Rattle.std.specs.Prelude.{ℤ, slice_get}
use Rattle.std.specs.List.{zip, copy_within}
use Rattle.std.proofs.Math.Seq.{paste}
use Rattle.std.proofs.lemmas.List.Edits.{drop-paste}
use Rattle.std.proofs.lemmas.Bool.{eqb-true}
use Rattle.std.proofs.lemmas.List.{length-take-le, take_more_set, take_all, length-drop, get_or-drop, get_or_read, drop-drop}
use Rattle.std.proofs.lemmas.Option.{same_Some, slice_get-get_or}
use Rattle.lls_lit.specs.Formula.{Clause}
use Rattle.lls_cnf.specs.Pieces.{pieces, AreEnds}
use Rattle.lls_cnf.proofs.Cut.{from_le, bounds, length-pieces, slice_get-pieces, pieces-push, AreEnds-push}
use Rattle.lls_cnf.proofs.Elements.{take-next}
use Rattle.lls_prooflog.specs.UnitWalk.{Live}
use Rattle.lls_lrat.specs.Checking.{literals_of}
use Rattle.lls_lrat.specs.Stored.{is_at, kept, emptied, literals_in, IsStored}
use Rattle.lls_lrat.proofs.Kept.{kept-push}
use Rattle.lls_lrat.proofs.Indexed.{zip-push, length-zip, get-zip, IsIndexed-push, IsIndexed-same, IsIndexed-remove}

-- the buffer has just the literals of the clauses
literals_in-pieces : (from : ℕ) (ends : List ℕ) (buffer : List ℤ) → AreEnds from ends (length buffer) → from + literals_in (pieces from ends buffer) ≡ length buffer
literals_in-pieces from [] buffer h = omega arith
literals_in-pieces from (e ∷ es) buffer h =
    let within : e ≤ length buffer = from_le e es (length buffer) h.1 in
    let piece : length (take (e - from) (drop from buffer)) ≡ e - from = length-take-le (e - from) (drop from buffer) (omega (arith, length-drop from buffer)) in
    omega (arith, piece, h.0, literals_in-pieces e es buffer h.1)

pub buffer_length : (ends : List ℕ) (buffer : List ℤ) → AreEnds 0 ends (length buffer) → length buffer ≡ literals_in (pieces 0 ends buffer)
buffer_length ends buffer h = omega (arith, literals_in-pieces 0 ends buffer h)

module _ (place_of : ℕ → Option ℕ) where
  pub length-emptied : (place : ℕ) (all : Live) → length (emptied place_of place all) ≡ length all
  length-emptied place [] = refl
  length-emptied place (pair ∷ rest) = ap suc (length-emptied (place + 1) rest)

  emptied-at : (place : ℕ) (all : Live) (j id : ℕ) (clause : Clause) → slice_get all j ≡ Some (id, clause) → slice_get (emptied place_of place all) j ≡ Some (cond (is_at (place_of id) (place + j)) clause [])
  emptied-at place [] j id clause e = absurd cc
  emptied-at place (pair ∷ rest) zero id clause e =
      let both : pair ≡ (id, clause) = same_Some pair (id, clause) e in
      let z : place + 0 ≡ place = omega arith in
      rw (both, z) refl
  emptied-at place (pair ∷ rest) (suc j) id clause e =
      let s : place + suc j ≡ place + 1 + j = omega arith in
      rw s (emptied-at (place + 1) rest j id clause e)

  -- one more clause
  pub emptied-next : (all : Live) (j id : ℕ) (clause : Clause) → slice_get all j ≡ Some (id, clause) → take (j + 1) (emptied place_of 0 all) ≡ take j (emptied place_of 0 all) ++ cond (is_at (place_of id) j) clause [] ∷ []
  emptied-next all j id clause e =
      let z : 0 + j ≡ j = omega arith in
      take-next (emptied place_of 0 all) j (cond (is_at (place_of id) j) clause []) (emptied-at 0 all j id clause e ∙ ap (λ (n : ℕ). Some (cond (is_at (place_of id) n) clause [])) z)

  kept_one : (b : Bool) (id : ℕ) (clause : Clause) (others rest : Live) → others ≡ rest → cond b ((id, cond b clause []) ∷ others) others ≡ cond b ((id, clause) ∷ rest) rest
  kept_one true id clause others rest e = ap (λ (l : Live). (id, clause) ∷ l) e
  kept_one false id clause others rest e = e

  -- the live clauses stay
  pub kept-emptied : (place : ℕ) (ids : List ℕ) (clauses : List Clause) → length ids ≡ length clauses → kept place_of place (zip ids (emptied place_of place (zip ids clauses))) ≡ kept place_of place (zip ids clauses)
  kept-emptied place [] clauses e = refl
  kept-emptied place (i ∷ is) [] e = absurd (omega arith)
  kept-emptied place (i ∷ is) (c ∷ cs) e = kept_one (is_at (place_of i) place) i c _ _ (kept-emptied (place + 1) is cs (omega arith))

  literals_one : (b : Bool) (pair : ℕ × Clause) (others : ℕ) (rest : Live) → others ≡ literals_of rest → length (cond b pair.1 []) + others ≡ literals_of (cond b (pair ∷ rest) rest)
  literals_one true pair others rest e = ap (λ n. length pair.1 + n) e
  literals_one false pair others rest e = let z : 0 + others ≡ others = omega arith in z ∙ e

  -- and the others have no literals
  pub literals_in-emptied : (place : ℕ) (all : Live) → literals_in (emptied place_of place all) ≡ literals_of (kept place_of place all)
  literals_in-emptied place [] = refl
  literals_in-emptied place (pair ∷ rest) = literals_one (is_at (place_of pair.0) place) pair _ _ (literals_in-emptied (place + 1) rest)

-- where the ends and the clauses are once one more clause was moved
pub ends_step : (ends : List ℕ) (k to to' : ℕ) (more : List ℤ) → k < length ends → AreEnds 0 (take k ends) to → to' ≡ to + length more → AreEnds 0 (take (k + 1) (set ends k to')) to'
ends_step ends k to to' more lt h is =
    rw (take_more_set ends k to' lt, is) (AreEnds-push 0 (take k ends) to (length more) h)

pub pieces_step : (ends : List ℕ) (lits lits' : List ℤ) (k to to' : ℕ) (more : List ℤ) (all : List Clause) → k < length ends → AreEnds 0 (take k ends) to → to ≤ length lits → to' ≡ to + length more
    → take to' lits' ≡ take to lits ++ more → pieces 0 (take k ends) (take to lits) ≡ take k all → take (k + 1) all ≡ take k all ++ more ∷ []
    → pieces 0 (take (k + 1) (set ends k to')) (take to' lits') ≡ take (k + 1) all
pieces_step ends lits lits' k to to' more all lt h within is front done next =
    let buffer = take to lits in
    let size : length buffer ≡ to = length-take-le to lits within in
    let end : to' ≡ length buffer + length more = omega arith in
    let are : AreEnds 0 (take k ends) (length buffer) = rw size h in
    ap (λ (es : List ℕ). pieces 0 es (take to' lits')) (take_more_set ends k to' lt)
    ∙ ap (λ (b : List ℤ). pieces 0 (take k ends ++ to' ∷ []) b) front
    ∙ ap (λ (n : ℕ). pieces 0 (take k ends ++ n ∷ []) (buffer ++ more)) end
    ∙ pieces-push 0 (take k ends) buffer more are
    ∙ ap (λ (ps : List Clause). ps ++ more ∷ []) done
    ∙ sym next

not_same : (a b : ℕ) → a ≢ b → eqb a b ≡ false
not_same a b other =
    elim (eqb a b) as (λ e. eqb a b ≡ e → e ≡ false) [
      | true ↦ λ same. absurd (other (eqb-true a b same))
      | false ↦ λ _. refl
    ] refl

-- an id is taken out whose place is n
module _ (place_of place_of' : ℕ → Option ℕ) (id n : ℕ) (there : place_of id ≡ Some n) (gone : (q : ℕ) → place_of' q ≡ cond (eqb id q) None (place_of q)) where
  elsewhere : (q place : ℕ) → n ≢ place → is_at (place_of' q) place ≡ is_at (place_of q) place
  elsewhere q place other =
      elim (eqb id q) as (λ b. eqb id q ≡ b → is_at (place_of' q) place ≡ is_at (place_of q) place) [
        | true ↦ λ same.
            let none : place_of' q ≡ None = gone q ∙ ap (λ b. cond b None (place_of q)) same in
            let some : place_of q ≡ Some n = ap place_of (sym (eqb-true id q same)) ∙ there in
            ap (λ o. is_at o place) none ∙ sym (ap (λ o. is_at o place) some ∙ not_same n place other)
        | false ↦ λ apart. ap (λ o. is_at o place) (gone q ∙ ap (λ b. cond b None (place_of q)) apart)
      ] refl

  same_beyond : (place : ℕ) (all : Live) → n < place → kept place_of' place all ≡ kept place_of place all
  same_beyond place [] lt = refl
  same_beyond place (pair ∷ rest) lt =
      rw (elsewhere pair.0 place (λ e. omega arith), same_beyond (place + 1) rest (omega arith)) refl

  first_counts : (b b' : Bool) (pair : ℕ × Clause) (rest rest' : Live) → rest' ≡ rest → literals_of (cond b (pair ∷ rest) rest) ≤ literals_of (cond b' (pair ∷ rest') rest') + length pair.1
  first_counts true true pair rest rest' e = rw e (omega arith)
  first_counts true false pair rest rest' e = rw e (omega arith)
  first_counts false true pair rest rest' e = rw e (omega arith)
  first_counts false false pair rest rest' e = rw e (omega arith)

  more_counts : (b : Bool) (pair : ℕ × Clause) (rest rest' : Live) (more : ℕ) → literals_of rest ≤ literals_of rest' + more → literals_of (cond b (pair ∷ rest) rest) ≤ literals_of (cond b (pair ∷ rest') rest') + more
  more_counts true pair rest rest' more le = omega arith
  more_counts false pair rest rest' more le = le

  -- no more literals die than the clause at the place has
  fewer_from : (place : ℕ) (all : Live) (j : ℕ) (pair : ℕ × Clause) → n ≡ place + j → slice_get all j ≡ Some pair → literals_of (kept place_of place all) ≤ literals_of (kept place_of' place all) + length pair.1
  fewer_from place [] j pair is e = absurd cc
  fewer_from place (x ∷ rest) zero pair is e =
      let same : x ≡ pair = same_Some x pair e in
      rw (← same) (first_counts (is_at (place_of x.0) place) (is_at (place_of' x.0) place) x (kept place_of (place + 1) rest) (kept place_of' (place + 1) rest) (same_beyond (place + 1) rest (omega arith)))
  fewer_from place (x ∷ rest) (suc j) pair is e =
      rw (elsewhere x.0 place (λ same. omega arith))
      (more_counts (is_at (place_of x.0) place) x (kept place_of (place + 1) rest) (kept place_of' (place + 1) rest) (length pair.1) (fewer_from (place + 1) rest j pair (omega arith) e))

  pub fewer_literals : (all : Live) (pair : ℕ × Clause) → slice_get all n ≡ Some pair → literals_of (kept place_of 0 all) ≤ literals_of (kept place_of' 0 all) + length pair.1
  fewer_literals all pair e = let z : n ≡ 0 + n = omega arith in fewer_from 0 all n pair z e

literals_of-push : (live : Live) (id : ℕ) (lits : Clause) → literals_of (live ++ (id, lits) ∷ []) ≡ literals_of live + length lits
literals_of-push [] id lits = omega arith
literals_of-push (pair ∷ rest) id lits = omega (arith, literals_of-push rest id lits)

literals_in-push : (clauses : List Clause) (lits : Clause) → literals_in (clauses ++ lits ∷ []) ≡ literals_in clauses + length lits
literals_in-push [] lits = omega arith
literals_in-push (c ∷ cs) lits = omega (arith, literals_in-push cs lits)

-- one more clause
pub IsStored-push : (place_of place_of' : ℕ → Option ℕ) (ids : List ℕ) (clauses : List Clause) (dead id : ℕ) (lits : Clause) → IsStored place_of ids clauses dead → place_of id ≡ None → ((q : ℕ) → place_of' q ≡ cond (eqb id q) (Some (length ids)) (place_of q))
    → IsStored place_of' (ids ++ id ∷ []) (clauses ++ lits ∷ []) dead
IsStored-push place_of place_of' ids clauses dead id lits h free at =
    let all = zip ids clauses in
    let size : length ids ≡ 0 + length all = omega (arith, length-zip ids clauses h.indexed.same_many) in
    let live : kept place_of' 0 (zip (ids ++ id ∷ []) (clauses ++ lits ∷ [])) ≡ kept place_of 0 all ++ (id, lits) ∷ [] =
    ap (kept place_of' 0) (zip-push ids clauses id lits h.indexed.same_many) ∙ kept-push place_of place_of' 0 all id (length ids) lits free size at
    in let more = ap literals_of live ∙ literals_of-push (kept place_of 0 all) id lits in
    record {
      indexed = IsIndexed-push place_of place_of' ids clauses id lits h.indexed at;
      dead_at_most = omega (arith, more, literals_in-push clauses lits, h.dead_at_most);
      few_dead = omega (arith, literals_in-push clauses lits, h.few_dead);
    }

-- a buffer has no fewer literals than its live clauses
kept_at_most : (b : Bool) (pair : ℕ × Clause) (rest : Live) (all : ℕ) → literals_of rest ≤ all → literals_of (cond b (pair ∷ rest) rest) ≤ length pair.1 + all
kept_at_most true pair rest all le = omega arith
kept_at_most false pair rest all le = omega arith

pub literals_of-kept : (place_of : ℕ → Option ℕ) (place : ℕ) (ids : List ℕ) (clauses : List Clause) → literals_of (kept place_of place (zip ids clauses)) ≤ literals_in clauses
literals_of-kept place_of place [] clauses = omega arith
literals_of-kept place_of place (i ∷ is) [] = omega arith
literals_of-kept place_of place (i ∷ is) (c ∷ cs) =
    kept_at_most (is_at (place_of i) place) (i, c) (kept place_of (place + 1) (zip is cs)) (literals_in cs) (literals_of-kept place_of (place + 1) is cs)

-- what stands behind a clause that is moved down stays
pub rest_moved : (lits : List ℤ) (from last to : ℕ) → from ≤ last → last ≤ length lits → to ≤ from → drop last (copy_within lits from last to) ≡ drop last lits
rest_moved lits from last to start within down =
    let n = last - from in
    let split : last ≡ to + n + (last - (to + n)) = omega arith in
    let rest = drop from lits in
    let some : n ≤ length rest = omega (arith, length-drop from lits) in
    let behind : drop (to + n) (paste lits to rest n) ≡ drop (to + n) lits = drop-paste lits to rest n (omega arith) some in
    let parts : (xs : List ℤ) → drop last xs ≡ drop (last - (to + n)) (drop (to + n) xs) = λ xs. ap (λ m. drop m xs) split ∙ sym (drop-drop (last - (to + n)) (to + n) xs) in
    parts (paste lits to rest n) ∙ ap (drop (last - (to + n))) behind ∙ sym (parts lits)

-- two lists that are the same from a place on
at_same : (xs ys : List ℕ) (k d : ℕ) → drop k xs ≡ drop k ys → get_or xs k d ≡ get_or ys k d
at_same xs ys k d e =
    let z : k + 0 ≡ k = omega arith in
    let first : (zs : List ℕ) → get_or zs k d ≡ get_or (drop k zs) 0 d = λ zs. sym (get_or-drop k zs 0 d ∙ ap (λ n. get_or zs n d) z) in
    first xs ∙ ap (λ (zs : List ℕ). get_or zs 0 d) e ∙ sym (first ys)

pub later_same : {X : Type 0} (xs ys : List X) (k n : ℕ) → k ≤ n → drop k xs ≡ drop k ys → drop n xs ≡ drop n ys
later_same xs ys k n le e =
    let split : n ≡ k + (n - k) = omega arith in
    let parts : (zs : List _) → drop n zs ≡ drop (n - k) (drop k zs) = λ zs. ap (λ m. drop m zs) split ∙ sym (drop-drop (n - k) k zs) in
    parts xs ∙ ap (drop (n - k)) e ∙ sym (parts ys)

-- the end of a clause that wasn't moved yet
pub end_is : (now before : List ℕ) (k x : ℕ) → k < length now → x ≡ get_or now k x → drop k now ≡ drop k before → x ≡ get_or before k 0
end_is now before k x lt read same = get_or_read now k x lt read 0 ∙ at_same now before k 0 same

pub piece_bounds : (ends : List ℕ) (total k from last : ℕ) → AreEnds 0 ends total → k < length ends → from ≡ get_or (0 ∷ ends) k 0 → last ≡ get_or ends k 0 → (from ≤ last) × (last ≤ total)
piece_bounds ends total k from last h lt start end =
    let b = bounds 0 ends total k h lt in (omega (arith, b.0), omega (arith, b.1))

pub next_start : (ends : List ℕ) (k last : ℕ) → last ≡ get_or ends k 0 → last ≡ get_or (0 ∷ ends) (k + 1) 0
next_start ends k last e = let s : suc k ≡ k + 1 = omega arith in e ∙ ap (λ n. get_or (0 ∷ ends) n 0) s

module _ (place_of : ℕ → Option ℕ) (ids ends : List ℕ) (lits : List ℤ) (same : length ids ≡ length ends) where
  -- the clauses as they are made
  abbrev made : List Clause
  made = emptied place_of 0 (zip ids (pieces 0 ends lits))

  pub next_piece : (now : List ℤ) (k from last : ℕ) (live : Bool) → k < length ids → from ≡ get_or (0 ∷ ends) k 0 → last ≡ get_or ends k 0 → drop from now ≡ drop from lits → live ≡ is_at (place_of (get_or ids k 0)) k
      → take (k + 1) made ≡ take k made ++ cond live (take (last - from) (drop from now)) [] ∷ []
  next_piece now k from last live lt start end rest is =
      let id = get_or ids k 0 in
      let clause = take (last - from) (drop from now) in
      let there : slice_get (pieces 0 ends lits) k ≡ Some clause =
      slice_get-pieces 0 ends lits k (omega arith)
      ∙ ap (λ (n : ℕ). Some (take (n - get_or (0 ∷ ends) k 0) (drop (get_or (0 ∷ ends) k 0) lits))) (sym end)
      ∙ ap (λ (n : ℕ). Some (take (last - n) (drop n lits))) (sym start)
      ∙ ap (λ (ls : List ℤ). Some (take (last - from) ls)) (sym rest)
      in rw is (emptied-next place_of (zip ids (pieces 0 ends lits)) k id clause (get-zip ids (pieces 0 ends lits) k id clause (slice_get-get_or ids k 0 lt) there))

  pub all_made : (k : ℕ) → length ids ≤ k → take k made ≡ made
  all_made k le =
      let many = length-pieces 0 ends lits in
      let size : length made ≤ k = omega (arith, length-emptied place_of 0 (zip ids (pieces 0 ends lits)), length-zip ids (pieces 0 ends lits) (omega (arith, many, same))) in
      take_all k made size

-- under a map that agrees
kept-same : (place_of place_of' : ℕ → Option ℕ) (place : ℕ) (all : Live) → ((q : ℕ) → place_of' q ≡ place_of q) → kept place_of' place all ≡ kept place_of place all
kept-same place_of place_of' place [] h = refl
kept-same place_of place_of' place (pair ∷ rest) h = rw (h pair.0, kept-same place_of place_of' (place + 1) rest h) refl

-- an id is taken out that leads nowhere
pub IsStored-none : (place_of place_of' : ℕ → Option ℕ) (ids : List ℕ) (clauses : List Clause) (dead id : ℕ) → IsStored place_of ids clauses dead → place_of id ≡ None → ((q : ℕ) → place_of' q ≡ cond (eqb id q) None (place_of q)) → IsStored place_of' ids clauses dead
IsStored-none place_of place_of' ids clauses dead id h none gone =
    let same : (q : ℕ) → place_of' q ≡ place_of q =
    λ q. elim (eqb id q) as (λ b. eqb id q ≡ b → place_of' q ≡ place_of q) [
      | true ↦ λ is. gone q ∙ ap (λ b. cond b None (place_of q)) is ∙ sym (ap place_of (sym (eqb-true id q is)) ∙ none)
      | false ↦ λ other. gone q ∙ ap (λ b. cond b None (place_of q)) other
    ] refl
    in record {
      indexed = IsIndexed-same place_of place_of' ids clauses h.indexed same;
      dead_at_most = rw (kept-same place_of place_of' 0 (zip ids clauses) same) h.dead_at_most;
      few_dead = h.few_dead;
    }

-- one that leads to a place, and the buffer is as it was or closed up
pub IsStored-remove : (place_of place_of' : ℕ → Option ℕ) (ids : List ℕ) (clauses clauses' : List Clause) (dead dead' id : ℕ) → IsStored place_of ids clauses dead → ((q : ℕ) → place_of' q ≡ cond (eqb id q) None (place_of q)) → length clauses' ≡ length clauses
    → kept place_of' 0 (zip ids clauses') ≡ kept place_of' 0 (zip ids clauses) → literals_in clauses' ≤ literals_of (kept place_of' 0 (zip ids clauses)) + dead' → dead' ≤ literals_in clauses' / 2 + 2048 → IsStored place_of' ids clauses' dead'
IsStored-remove place_of place_of' ids clauses clauses' dead dead' id h gone many live at_most few =
    let before = IsIndexed-remove place_of place_of' ids clauses id h.indexed gone in
    record {
      indexed = record { same_many = before.same_many ∙ sym many; under = before.under };
      dead_at_most = rw live at_most;
      few_dead = few;
    }
