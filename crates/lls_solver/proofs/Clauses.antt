-- A store's clauses and those of a proof, one by one.
use Rattle.std.proofs.Common.{◌≡◌, ℕ, zero, suc, ◌+◌, ◌<◌, ◌≤◌, List, [], ◌∷◌, ◌++◌, length, length-append, map, get_or, take, Some, refl, sym, ap, subst, ◌∙◌, arith}
use Rattle.std.specs.Prelude.{ℤ, slice_get}
use Rattle.std.specs.List.{enumerate_from}
use Rattle.std.specs.FinSet as set
use Rattle.std.proofs.lemmas.List.{get_or-map, length-map, map-append}
use Rattle.std.proofs.lemmas.List.Elements.{Contains-append_right}
use Rattle.std.proofs.lemmas.Option.{same_Some}
use Rattle.lls_lit.specs.Formula.{Clause, Cnf}
use Rattle.lls_prooflog.specs.UnitWalk.{Live}
use Rattle.lls_prooflog.specs.Spent.{live_after}
use Rattle.lls_prooflog.specs.declared.step.Step.{Step}
use Rattle.lls_store.specs.declared.store.TheConstants.{MOST_ID}
use Rattle.lls_store.specs.Clauses.{LiveClause, clause_numbered}
use Rattle.lls_store.proofs.Live.{clause_numbered-contained}
use Rattle.lls_store.specs.Store.{StoreState, AreLive, IsNewId, empty_store, sealed, with_clause}
use Rattle.lls_store.specs.Sound.{IsSound}
use Rattle.lls_store.specs.Changes.{empty_trail}
use Rattle.lls_analyse.specs.Spelled.{Spells}
use Rattle.lls_solver.specs.Searching.{additions, AreAscending, HoldsClauses, ids_of}

pub spells_push : (live : List LiveClause) (pairs : Live) (number id : ℕ) (lits : List ℤ) → Spells live pairs → Spells (live ++ record { number = number; id = id; lits = set.from_list lits } ∷ []) (pairs ++ (id, lits) ∷ [])
spells_push [] [] number id lits h = (refl, (refl, tt))
spells_push [] (pair ∷ pairs) number id lits h = absurd h
spells_push (clause ∷ live) [] number id lits h = absurd h
spells_push (clause ∷ live) (pair ∷ pairs) number id lits h = (h.0, (h.1.0, spells_push live pairs number id lits h.1.1))

id_of : LiveClause → ℕ
id_of clause = clause.id

pub spells_ids : (live : List LiveClause) (pairs : Live) → Spells live pairs → map (λ (c : LiveClause). c.id) live ≡ ids_of pairs
spells_ids [] [] h = refl
spells_ids [] (pair ∷ pairs) h = absurd h
spells_ids (clause ∷ live) [] h = absurd h
spells_ids (clause ∷ live) (pair ∷ pairs) h = rw (h.0, spells_ids live pairs h.1.1) refl

pub ascending_below : (least : ℕ) (ids : List ℕ) (bound : ℕ) → AreAscending least ids bound → least ≤ bound
ascending_below least [] bound h = h
ascending_below least (id ∷ ids) bound h = omega (arith, h.0, ascending_below (id + 1) ids bound h.1)

ascending_each : (least : ℕ) (ids : List ℕ) (bound k : ℕ) → AreAscending least ids bound → k < length ids → get_or ids k 0 < bound
ascending_each least [] bound k h lt = absurd (omega (arith, lt))
ascending_each least (id ∷ ids) bound zero h lt = omega (arith, ascending_below (id + 1) ids bound h.1)
ascending_each least (id ∷ ids) bound (suc k) h lt = ascending_each (id + 1) ids bound k h.1 (omega (arith, lt))

pub ascending_push : (least : ℕ) (ids : List ℕ) (bound : ℕ) → AreAscending least ids bound → AreAscending least (ids ++ bound ∷ []) (bound + 1)
ascending_push least [] bound h = (h, omega arith)
ascending_push least (id ∷ ids) bound h = (h.0, ascending_push (id + 1) ids bound h.1)

pub ascending_many : (least : ℕ) (ids : List ℕ) (bound : ℕ) → AreAscending least ids bound → least + length ids ≤ bound
ascending_many least [] bound h = omega (arith, h)
ascending_many least (id ∷ ids) bound h = omega (arith, h.0, ascending_many (id + 1) ids bound h.1)

-- no more numbers were given than ids
pub count_most : (store : StoreState) (vars : ℕ) (pairs : Live) (last : ℕ) → HoldsClauses store vars pairs last → store.count ≤ last
count_most store vars pairs last h = omega (arith, h.count, length-map pairs (λ (pair : ℕ × Clause). pair.0), ascending_many 1 (ids_of pairs) (last + 1) h.ids)

-- behind the last id that was given, the next one is new
pub next_id : (store : StoreState) (vars : ℕ) (pairs : Live) (last : ℕ) → HoldsClauses store vars pairs last → last + 1 ≤ MOST_ID → IsNewId store.live (last + 1)
next_id store vars pairs last h most = record {
  least = omega arith;
  most = most;
  new = λ clause contains same.
      let ids = spells_ids store.live pairs h.spelled in
      let many : length store.live ≡ length (ids_of pairs) = sym (length-map store.live (λ (c : LiveClause). c.id)) ∙ ap length ids in
      let k = contains.0 in
      let id_at : get_or (ids_of pairs) k 0 ≡ clause.id = ap (λ ns. get_or ns k 0) (sym ids) ∙ get_or-map (λ (c : LiveClause). c.id) store.live k clause 0 contains.1 ∙ ap (λ (c : LiveClause). c.id) contains.2 in
      omega (arith, same, id_at, ascending_each 1 (ids_of pairs) (last + 1) k h.ids (omega (arith, contains.1, many)));
}

pub holds_push : (store : StoreState) (vars : ℕ) (pairs : Live) (last : ℕ) (lits : List ℤ) → HoldsClauses store vars pairs last → HoldsClauses (with_clause store (last + 1) lits) vars (pairs ++ (last + 1, lits) ∷ []) (last + 1)
holds_push store vars pairs last lits h = record {
  store_vars = h.store_vars;
  no_tail = h.no_tail;
  spelled = spells_push store.live pairs store.count (last + 1) lits h.spelled;
  count = omega (arith, h.count, length-append pairs ((last + 1, lits) ∷ []));
  ids = rw (map-append (λ (pair : ℕ × Clause). pair.0) pairs ((last + 1, lits) ∷ [])) (ascending_push 1 (ids_of pairs) (last + 1) h.ids);
}

pub holds_none : (vars : ℕ) → HoldsClauses (empty_store vars) vars [] 0
holds_none vars = record { store_vars = refl; no_tail = refl; spelled = tt; count = omega arith; ids = omega arith }

-- the first clauses under their ids
pub take-numbered : (clauses : List Clause) (n k : ℕ) (clause : Clause) → slice_get clauses k ≡ Some clause → take (k + 1) (enumerate_from n clauses) ≡ take k (enumerate_from n clauses) ++ (n + k, clause) ∷ []
take-numbered [] n k clause is = absurd cc
take-numbered (x ∷ xs) n zero clause is =
    let same : x ≡ clause = same_Some x clause is in
    let id : n ≡ n + 0 = omega arith in
    rw same (ap (λ (i : ℕ). (i, clause) ∷ []) id)
take-numbered (x ∷ xs) n (suc k) clause is =
    let next : suc k + 1 ≡ suc (k + 1) = omega arith in
    let id : (n + 1) + k ≡ n + suc k = omega arith in
    rw (next, take-numbered xs (n + 1) k clause is, id) refl

pub sound_empty : (live : List LiveClause) (vars : ℕ) → IsSound live (empty_trail vars)
sound_empty live vars [] after e reason splits is = absurd cc
sound_empty live vars (x ∷ before) after e reason splits is = absurd cc

-- a clause that was built at the tail
pub holds_sealed : (store : StoreState) (vars : ℕ) (pairs : Live) (last : ℕ) (lits : List ℤ) → HoldsClauses store vars pairs last → HoldsClauses (sealed (record store { tail = lits }) (last + 1)) vars (pairs ++ (last + 1, lits) ∷ []) (last + 1)
holds_sealed store vars pairs last lits h =
    let more = holds_push store vars pairs last lits h in
    record { store_vars = more.store_vars; no_tail = refl; spelled = more.spelled; count = more.count; ids = more.ids }

-- the id behind the formula's clauses and the additions is new
pub fresh_id : (formula : Cnf) (steps : List Step) (store : StoreState) (m k : ℕ) → HoldsClauses store formula.vars (live_after formula steps) (length formula.clauses + additions steps) → m ≡ length formula.clauses → k ≡ additions steps → m + k + 1 ≤ MOST_ID → IsNewId store.live (m + k + 1)
fresh_id formula steps store m k h m_is k_is most =
    let same : length formula.clauses + additions steps ≡ m + k = omega (arith, m_is, k_is) in
    subst (λ (n : ℕ). IsNewId store.live (n + 1)) same (next_id store formula.vars (live_after formula steps) (length formula.clauses + additions steps) h (omega (arith, same, most)))

-- the clause that was sealed is the one of its number
pub sealed_clause : (store : StoreState) (id : ℕ) (lits : List ℤ) → AreLive (sealed (record store { tail = lits }) id)
    → clause_numbered (sealed (record store { tail = lits }) id).live store.count ≡ Some (record { number = store.count; id = id; lits = set.from_list lits })
sealed_clause store id lits live =
    let clause : LiveClause = record { number = store.count; id = id; lits = set.from_list lits } in
    clause_numbered-contained (store.live ++ clause ∷ []) clause live.numbers (Contains-append_right store.live (clause ∷ []) clause (0, omega arith, refl))
