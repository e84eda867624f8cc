-- The clauses of a formula in a store, and an engine as it is made and grows.
use Rattle.std.proofs.Common.{◌≡◌, ℕ, zero, suc, ◌+◌, ◌≤◌, Bool, true, false, List, [], ◌∷◌, ◌++◌, length, take, replicate, Option, Some, None, refl, sym, ap, subst, ◌∙◌, inl, inr, arith}
use Rattle.std.specs.Prelude.{ℤ, Contains, slice_get, slice_index_or}
use Rattle.std.specs.List.{enumerate_from}
use Rattle.std.specs.FinSet as set
use Rattle.std.specs.Cmp.Derive.{both_true}
use Rattle.std.proofs.lemmas.Bool.{and_parts}
use Rattle.std.proofs.lemmas.Bool.Decides.{nat_tests}
use Rattle.std.proofs.lemmas.List.{length-replicate}
use Rattle.std.proofs.lemmas.List.Elements.{Contains-push_cases}
use Rattle.std.proofs.lemmas.Option.{same_Some}
use Rattle.lls_lit.specs.Formula.{Clause, Cnf, is_literal_of, is_within}
use Rattle.lls_prooflog.specs.Spent.{EachStep, IsGood, log_start}
use Rattle.lls_prooflog.specs.declared.step.Step.{Step}
use Rattle.lls_store.specs.Trail.{TrailState, IsTrail}
use Rattle.lls_store.specs.Clauses.{LiveClause}
use Rattle.lls_store.specs.Sound.{IsSound}
use Rattle.lls_store.specs.Changes.{empty_trail}
use Rattle.lls_store.specs.Store.{StoreState, with_clause}
use Rattle.lls_lemmas.specs.Lemmas.{HasNoFault}
use Rattle.lls_lemmas.specs.Behind.{HoldsLive}
use Rattle.lls_lemmas.specs.declared.index.Index.{Index}
use Rattle.lls_lemmas.specs.Engine.{IsEngine}
use Rattle.lls_lemmas.specs.Indexed.{IsFound, IsIndexed, IsLinked}
use Rattle.lls_lemmas.specs.Units.{HasSettled, HasUnits, IsAtRest}
use Rattle.lls_lemmas.proofs.Indexing.{found_kept}
use Rattle.lls_lemmas.proofs.UnitTables.{units_more}

-- the first clauses under their ids
pub take-numbered : (clauses : List Clause) (n k : ℕ) (clause : Clause) → slice_get clauses k ≡ Some clause → take (k + 1) (enumerate_from n clauses) ≡ take k (enumerate_from n clauses) ++ (n + k, clause) ∷ []
take-numbered [] n k clause is = absurd cc
take-numbered (x ∷ xs) n zero clause is =
    let same : x ≡ clause = same_Some x clause is in
    let id : n ≡ n + 0 = omega arith in
    rw same (ap (λ (i : ℕ). (i, clause) ∷ []) id)
take-numbered (x ∷ xs) n (suc k) clause is =
    let next : suc k + 1 ≡ suc (k + 1) = omega arith in
    let id : (n + 1) + k ≡ n + suc k = omega arith in
    rw (next, take-numbered xs (n + 1) k clause is, id) refl

pub sound_empty : (live : List LiveClause) (vars : ℕ) → IsSound live (empty_trail vars)
sound_empty live vars [] after e reason splits is = absurd cc
sound_empty live vars (x ∷ before) after e reason splits is = absurd cc

-- literals of some variables are of more
pub within_wider : (few many : ℕ) (lits : Clause) → few ≤ many → is_within few lits ≡ true → is_within many lits ≡ true
within_wider few many [] le all = refl
within_wider few many (l ∷ ls) le all =
    let parts = and_parts (is_literal_of few l) (is_within few ls) all in
    both_true (one l parts.0) (within_wider few many ls le parts.1)
  where
    one : (m : ℤ) → is_literal_of few m ≡ true → is_literal_of many m ≡ true
    one m is = grind (arith, nat_tests)

pub ids_push : (store : StoreState) (k : ℕ) (lits : List ℤ) → ((clause : LiveClause) → Contains store.live clause → clause.id ≤ k) → (clause : LiveClause) → Contains (with_clause store (k + 1) lits).live clause → clause.id ≤ k + 1
ids_push store k lits ids clause inside = elim (Contains-push_cases store.live (record { number = store.count; id = k + 1; lits = set.from_list lits }) clause inside) [
  | inl old ↦ omega (arith, ids clause old)
  | inr same ↦ omega (arith, ap (λ (c : LiveClause). c.id) same)
]

pub none_in-replicate : (n i : ℕ) → slice_index_or (replicate {A = Option ℕ} n None) i None ≡ None
none_in-replicate zero i = refl
none_in-replicate (suc n) zero = refl
none_in-replicate (suc n) (suc i) = none_in-replicate n i

-- a store that was just filled has no unit clauses
pub units_none : (store : StoreState) (vars : ℕ) → IsTrail (empty_trail vars) → store.vars ≡ vars → HasUnits store (empty_trail vars) (replicate vars None) 0
units_none store vars kept same = record {
  level = refl;
  is_trail = kept;
  sound = sound_empty store.live vars;
  same_vars = same;
  unit_each = length-replicate vars None;
  are_units = λ i id is. (let clash : None ≡ Some id = sym (none_in-replicate vars i) ∙ is in absurd cc);
  complete = λ k e lt at. absurd (omega (arith, lt));
  done_within = omega arith;
}

-- a store that was just filled, with an empty trail
pub rest_start : (formula : Cnf) (store : StoreState) (trail : TrailState) (vars : ℕ) (ids : List (Option ℕ)) (last : ℕ) → trail ≡ empty_trail vars → IsTrail trail → HoldsLive formula [] store (length formula.clauses) → store.vars ≡ trail.vars → ids ≡ replicate vars None → last ≡ length formula.clauses
    → IsAtRest formula [] store trail ids 0 last
rest_start formula store trail vars ids last empty kept holds store_vars no_ids end =
    let trail_vars : trail.vars ≡ vars = ap (λ (t : TrailState). t.vars) empty in
    let units = units_none store vars (subst IsTrail empty kept) (store_vars ∙ trail_vars) in
    let P : TrailState → Type 0 = λ t. HasUnits store t (replicate vars None) 0 in
    let Q : List (Option ℕ) → Type 0 = λ us. HasUnits store trail us 0 in
    let H : ℕ → Type 0 = λ n. HoldsLive formula [] store n in
    record { holds = subst H (sym end) holds; has_units = subst Q (sym no_ids) (subst P (sym empty) units) }

-- an engine that goes on
pub engine_going : (formula : Cnf) (steps : List Step) (store : StoreState) (trail : TrailState) (ids : List (Option ℕ)) (index : Index) (done last : ℕ) (has_redundant settled refuted : Bool) (marks : ℕ) → refuted ≡ false → EachStep HasNoFault (log_start formula) steps → (has_redundant ≡ false → EachStep IsGood (log_start formula) steps)
    → IsAtRest formula steps store trail ids done last → IsFound trail.vars index store.live → (settled ≡ true → HasSettled store trail done) → marks ≡ trail.vars → IsEngine formula steps store trail ids index done last has_redundant settled refuted marks
engine_going formula steps store trail ids index done last has_redundant settled refuted marks going well good rest found open_ marked = record {
  well = well;
  good = good;
  rising = rest.holds.rising;
  ends = λ ended. (let clash : false ≡ true = sym going ∙ ended in absurd cc);
  unsatisfiable = λ ended. (let clash : false ≡ true = sym going ∙ ended in absurd cc);
  rest = λ _. rest;
  found = λ _. found;
  open_ = λ _ is. open_ is;
  marks_vars = marked;
}

-- an engine to which a clause was added
pub engine_added : (formula : Cnf) (steps : List Step) (store middle new : StoreState) (trail trail' : TrailState) (ids : List (Option ℕ)) (index : Index) (done last id marks : ℕ) (lits : List ℤ) (has_redundant refuted : Bool) → refuted ≡ false → EachStep HasNoFault (log_start formula) steps → (has_redundant ≡ false → EachStep IsGood (log_start formula) steps) → HasUnits store trail ids done → trail' ≡ trail → middle ≡ store → new ≡ with_clause middle id lits
    → HoldsLive formula steps new last → IsFound trail.vars index new.live → marks ≡ trail.vars → IsEngine formula steps new trail' ids index done last has_redundant false refuted marks
engine_added formula steps store middle new trail trail' ids index done last id marks lits has_redundant refuted going well good units same stays is holds found marked =
    let P : StoreState → Type 0 = λ s. HasUnits s trail ids done in
    let Q : TrailState → Type 0 = λ t. HasUnits new t ids done in
    let rest : IsAtRest formula steps new trail' ids done last = record { holds = holds; has_units = subst Q (sym same) (subst P (sym is) (units_more middle trail ids done id lits (subst P (sym stays) units))) } in
    engine_going formula steps new trail' ids index done last has_redundant false refuted marks going well good rest (subst (λ (t : TrailState). IsFound t.vars index new.live) (sym same) found) (λ settled. absurd cc) (marked ∙ ap (λ (t : TrailState). t.vars) (sym same))

-- an engine at rest whose trail and units are those of the begin
pub engine_start : (formula : Cnf) (steps : List Step) (store : StoreState) (trail : TrailState) (ids : List (Option ℕ)) (index : Index) (last marks : ℕ) → EachStep HasNoFault (log_start formula) steps → EachStep IsGood (log_start formula) steps
    → IsAtRest formula steps store trail ids 0 last → IsFound trail.vars index store.live → marks ≡ trail.vars → IsEngine formula steps store trail ids index 0 last false false false marks
engine_start formula steps store trail ids index last marks well good rest found marked =
    engine_going formula steps store trail ids index 0 last false false false marks refl well (λ _. good) rest found (λ is. absurd cc) marked

-- an engine of the same steps and clauses, with an index that has all it had
pub engine_same : (formula : Cnf) (steps steps' : List Step) (store store' : StoreState) (trail trail' : TrailState) (ids : List (Option ℕ)) (index index' : Index) (done last last' : ℕ) (has_redundant settled refuted : Bool) (marks marks' : ℕ) → refuted ≡ false
    → IsEngine formula steps store trail ids index done last has_redundant settled refuted marks → steps' ≡ steps → store' ≡ store → trail' ≡ trail → HoldsLive formula steps' store' last' → IsLinked index' → ((clause : LiveClause) → Contains store.live clause → IsIndexed trail.vars index clause → IsIndexed trail.vars index' clause)
    → marks' ≡ trail.vars → IsEngine formula steps' store' trail' ids index' done last' has_redundant settled refuted marks'
engine_same formula steps steps' store store' trail trail' ids index index' done last last' has_redundant settled refuted marks marks' going i steps_same store_same trail_same holds linked keeps marked =
    let W : List Step → Type 0 = λ ss. EachStep HasNoFault (log_start formula) ss in
    let G : List Step → Type 0 = λ ss. EachStep IsGood (log_start formula) ss in
    let P : StoreState → Type 0 = λ s. HasUnits s trail' ids done in
    let Q : TrailState → Type 0 = λ t. HasUnits store t ids done in
    let F : StoreState → Type 0 = λ s. IsFound trail'.vars index' s.live in
    let T : TrailState → Type 0 = λ t. IsFound t.vars index' store.live in
    let O : StoreState → Type 0 = λ s. HasSettled s trail' done in
    let S : TrailState → Type 0 = λ t. HasSettled store t done in
    engine_going formula steps' store' trail' ids index' done last' has_redundant settled refuted marks' going (subst W (sym steps_same) i.well) (λ none. subst G (sym steps_same) (i.good none))
    (record { holds = holds; has_units = subst P (sym store_same) (subst Q (sym trail_same) (i.rest going).has_units) })
    (subst F (sym store_same) (subst T (sym trail_same) (found_kept trail.vars index index' store.live (i.found going) linked keeps)))
    (λ is. subst O (sym store_same) (subst S (sym trail_same) (i.open_ going is)))
    (marked ∙ ap (λ (t : TrailState). t.vars) (sym trail_same))
