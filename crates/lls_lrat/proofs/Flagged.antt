-- The places of a formula's clauses whose flags are set.
use Rattle.std.proofs.Common.{◌≡◌, ℕ, zero, suc, ◌+◌, ◌<◌, Bool, true, false, List, [], ◌∷◌, length, Option, Some, None, refl, sym, ap, ◌∙◌, arith, eq-eqb}
use Rattle.std.specs.Prelude.{slice_get, replicate}
use Rattle.std.specs.List.{enumerate_from}
use Rattle.std.proofs.lemmas.Option.{same_Some}
use Rattle.lls_lit.specs.Formula.{Clause}
use Rattle.lls_prooflog.specs.UnitWalk.{numbered, find_clause}
use Rattle.lls_lrat.specs.Stored.{is_at, kept, flagged, where_set}
use Rattle.lls_lrat.proofs.Kept.{find-kept_some, kept-enumerate_from}

pub get-enumerate_from : (n : ℕ) (clauses : List Clause) (k : ℕ) (clause : Clause) → slice_get clauses k ≡ Some clause → slice_get (enumerate_from n clauses) k ≡ Some (n + k, clause)
get-enumerate_from n [] k clause e = absurd cc
get-enumerate_from n (c ∷ cs) zero clause e =
    let z : n ≡ n + 0 = omega arith in
    ap (λ (l : Clause). Some (n, l)) (same_Some c clause e) ∙ ap (λ (m : ℕ). Some (m, clause)) z
get-enumerate_from n (c ∷ cs) (suc k) clause e =
    let s : n + 1 + k ≡ n + suc k = omega arith in
    get-enumerate_from (n + 1) cs k clause e ∙ ap (λ (m : ℕ). Some (m, clause)) s

where_set-Some : (o : Option Bool) (place found : ℕ) → where_set o place ≡ Some found → place ≡ found
where_set-Some (Some true) place found e = same_Some place found e
where_set-Some (Some false) place found e = absurd cc
where_set-Some None place found e = absurd cc

flagged-Some : (flags : List Bool) (id place : ℕ) → flagged flags id ≡ Some place → id ≡ 1 + place
flagged-Some flags zero place e = absurd cc
flagged-Some flags (suc p) place e = let same = where_set-Some (slice_get flags p) p place e in omega arith

-- the clause at the place of an id is the live clause of that id
pub find-flagged : (flags : List Bool) (clauses : List Clause) (id place : ℕ) (clause : Clause) → flagged flags id ≡ Some place → slice_get clauses place ≡ Some clause → find_clause (kept (flagged flags) 0 (numbered clauses)) id ≡ Some clause
find-flagged flags clauses id place clause e c =
    let same : 1 + place ≡ id = sym (flagged-Some flags id place e) in
    find-kept_some (flagged flags) 0 (numbered clauses) id place clause (e ∙ ap (λ (n : ℕ). Some n) (let z : place ≡ 0 + place = omega arith in z))
    (get-enumerate_from 1 clauses place clause c ∙ ap (λ (n : ℕ). Some (n, clause)) same)

get-replicate : (n k : ℕ) → k < n → slice_get (replicate n true) k ≡ Some true
get-replicate zero k lt = absurd (omega arith)
get-replicate (suc n) zero lt = refl
get-replicate (suc n) (suc k) lt = get-replicate n k (omega arith)

-- where all flags are set, each clause is kept
pub kept-flagged : (clauses : List Clause) → kept (flagged (replicate (length clauses) true)) 0 (numbered clauses) ≡ numbered clauses
kept-flagged clauses =
    kept-enumerate_from (flagged (replicate (length clauses) true)) 0 clauses (λ j lt.
    let e : 0 + 1 + j ≡ suc j = omega arith in
    let z : j ≡ 0 + j = omega arith in
    rw e (ap (λ o. where_set o j) (get-replicate (length clauses) j lt) ∙ ap (λ (n : ℕ). Some n) z))

-- the clause behind a place is live where the flag there is set
pub is_at-flagged : (flags : List Bool) (place : ℕ) (set : Bool) → slice_get flags place ≡ Some set → is_at (flagged flags (1 + place)) place ≡ set
is_at-flagged flags place set e =
    let next : 1 + place ≡ suc place = omega arith in
    rw next (ap (λ o. is_at (where_set o place) place) e ∙ by_flag set)
  where
    by_flag : (b : Bool) → is_at (where_set (Some b) place) place ≡ b
    by_flag true = eq-eqb place place refl
    by_flag false = refl
