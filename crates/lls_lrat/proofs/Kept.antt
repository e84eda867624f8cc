-- The live clauses among those that are stored.
use Rattle.std.proofs.Common.{◌≡◌, ℕ, zero, suc, ◌+◌, ◌<◌, ◌≤◌, ◌≢◌, Bool, true, false, not, cond, eqb, List, [], ◌∷◌, ◌++◌, length, take, Option, Some, None, refl, sym, ap, ◌∙◌, arith, eq-eqb, add-zero}
use Rattle.std.specs.Prelude.{slice_get, filter}
use Rattle.std.specs.List.{enumerate_from}
use Rattle.std.proofs.lemmas.Bool.{eqb-true}
use Rattle.std.proofs.lemmas.Option.{same_Some}
use Rattle.lls_lit.specs.Formula.{Clause}
use Rattle.lls_prooflog.specs.UnitWalk.{Live, find_clause}
use Rattle.lls_lrat.specs.Stored.{is_at, kept}

not_same : (a b : ℕ) → a ≢ b → eqb a b ≡ false
not_same a b other =
    elim (eqb a b) as (λ e. eqb a b ≡ e → e ≡ false) [
      | true ↦ λ same. absurd (other (eqb-true a b same))
      | false ↦ λ _. refl
    ] refl

is_at-None : (o : Option ℕ) (place : ℕ) → o ≡ None → is_at o place ≡ false
is_at-None None place e = refl
is_at-None (Some p) place e = absurd cc

is_at-Some : (o : Option ℕ) (p place : ℕ) → o ≡ Some p → is_at o place ≡ eqb p place
is_at-Some o p place e = rw e refl

pub is_at-true : (o : Option ℕ) (place : ℕ) → true ≡ is_at o place → o ≡ Some place
is_at-true None place e = absurd cc
is_at-true (Some p) place e = ap (λ (n : ℕ). Some n) (eqb-true p place (sym e))

differ : true ≡ false → ⊥
differ e = cc

-- a clause of another id is passed over
skip_other : (b : Bool) (pair : ℕ × Clause) (rest : Live) (id : ℕ) → (b ≡ true → pair.0 ≡ id → ⊥) → find_clause (cond b (pair ∷ rest) rest) id ≡ find_clause rest id
skip_other true pair rest id h = rw (not_same pair.0 id (h refl)) refl
skip_other false pair rest id h = refl

-- a clause whose id the map doesn't have isn't kept
pub find-kept_none : (place_of : ℕ → Option ℕ) (place : ℕ) (all : Live) (id : ℕ) → place_of id ≡ None → find_clause (kept place_of place all) id ≡ None
find-kept_none place_of place [] id h = refl
find-kept_none place_of place (pair ∷ rest) id h =
    skip_other (is_at (place_of pair.0) place) pair (kept place_of (place + 1) rest) id (λ at same. differ (sym at ∙ is_at-None (place_of pair.0) place (ap place_of same ∙ h)))
    ∙ find-kept_none place_of (place + 1) rest id h

-- a clause to which the map leads is found
pub find-kept_some : (place_of : ℕ → Option ℕ) (place : ℕ) (all : Live) (id j : ℕ) (clause : Clause) → place_of id ≡ Some (place + j) → slice_get all j ≡ Some (id, clause) → find_clause (kept place_of place all) id ≡ Some clause
find-kept_some place_of place [] id j clause h e = absurd cc
find-kept_some place_of place (pair ∷ rest) id zero clause h e =
    let both : pair ≡ (id, clause) = same_Some pair (id, clause) e in
    let same : pair.0 ≡ id = ap (λ (p : ℕ × Clause). p.0) both in
    let here : is_at (place_of pair.0) place ≡ true = is_at-Some (place_of pair.0) (place + 0) place (ap place_of same ∙ h) ∙ eq-eqb (place + 0) place (omega arith) in
    rw (here, eq-eqb pair.0 id same) (ap (λ (p : ℕ × Clause). Some p.1) both)
find-kept_some place_of place (pair ∷ rest) id (suc j) clause h e =
    let later : place_of id ≡ Some (place + 1 + j) = h ∙ ap (λ (n : ℕ). Some n) (let n : place + suc j ≡ place + 1 + j = omega arith in n) in
    let elsewhere : eqb (place + suc j) place ≡ false = not_same (place + suc j) place (λ same. omega arith) in
    skip_other (is_at (place_of pair.0) place) pair (kept place_of (place + 1) rest) id (λ at same. differ (sym at ∙ is_at-Some (place_of pair.0) (place + suc j) place (ap place_of same ∙ h) ∙ elsewhere))
    ∙ find-kept_some place_of (place + 1) rest id j clause later e

kept_one : (b : Bool) (pair : ℕ × Clause) (before now last : Live) → now ≡ before ++ last → cond b (pair ∷ now) now ≡ cond b (pair ∷ before) before ++ last
kept_one true pair before now last e = ap (λ (l : Live). pair ∷ l) e
kept_one false pair before now last e = e

-- one more clause under a new id
pub kept-push : (place_of place_of' : ℕ → Option ℕ) (place : ℕ) (all : Live) (id n : ℕ) (lits : Clause) → place_of id ≡ None → n ≡ place + length all → ((q : ℕ) → place_of' q ≡ cond (eqb id q) (Some n) (place_of q)) → kept place_of' place (all ++ (id, lits) ∷ []) ≡ kept place_of place all ++ (id, lits) ∷ []
kept-push place_of place_of' place [] id n lits none e h =
    let there : place_of' id ≡ Some n = h id ∙ ap (λ b. cond b (Some n) (place_of id)) (eq-eqb id id refl) in
    let here : is_at (place_of' id) place ≡ true = is_at-Some (place_of' id) n place there ∙ eq-eqb n place (omega arith) in
    rw here refl
kept-push place_of place_of' place (pair ∷ rest) id n lits none e h =
    let elsewhere : eqb n place ≡ false = not_same n place (λ same. omega arith) in
    let same : is_at (place_of' pair.0) place ≡ is_at (place_of pair.0) place =
    elim (eqb id pair.0) as (λ b. eqb id pair.0 ≡ b → is_at (place_of' pair.0) place ≡ is_at (place_of pair.0) place) [
      | true ↦ λ is.
          is_at-Some (place_of' pair.0) n place (h pair.0 ∙ ap (λ b. cond b (Some n) (place_of pair.0)) is)
          ∙ elsewhere
          ∙ sym (is_at-None (place_of pair.0) place (ap place_of (sym (eqb-true id pair.0 is)) ∙ none))
      | false ↦ λ is. ap (λ o. is_at o place) (h pair.0 ∙ ap (λ b. cond b (Some n) (place_of pair.0)) is)
    ] refl
    in rw same (kept_one (is_at (place_of pair.0) place) pair (kept place_of (place + 1) rest) (kept place_of' (place + 1) (rest ++ (id, lits) ∷ [])) ((id, lits) ∷ []) (kept-push place_of place_of' (place + 1) rest id n lits none (omega arith) h))

filter_one : (b : Bool) (keep : ℕ × Clause → Bool) (pair : ℕ × Clause) (before now : Live) → keep pair ≡ true → now ≡ filter keep before → cond b (pair ∷ now) now ≡ filter keep (cond b (pair ∷ before) before)
filter_one true keep pair before now is e = rw is (ap (λ (l : Live). pair ∷ l) e)
filter_one false keep pair before now is e = e

filter_out : (b : Bool) (keep : ℕ × Clause → Bool) (pair : ℕ × Clause) (before now : Live) → keep pair ≡ false → now ≡ filter keep before → now ≡ filter keep (cond b (pair ∷ before) before)
filter_out true keep pair before now is e = rw is e
filter_out false keep pair before now is e = e

-- ids are taken out of the map
pub kept-filter : (place_of place_of' : ℕ → Option ℕ) (gone : ℕ → Bool) (place : ℕ) (all : Live) → ((q : ℕ) → place_of' q ≡ cond (gone q) None (place_of q)) → kept place_of' place all ≡ filter (λ pair. not (gone pair.0)) (kept place_of place all)
kept-filter place_of place_of' gone place [] h = refl
kept-filter place_of place_of' gone place (pair ∷ rest) h =
    let keep : ℕ × Clause → Bool = λ p. not (gone p.0) in
    let before = kept place_of (place + 1) rest in
    let now = kept place_of' (place + 1) rest in
    let others : now ≡ filter keep before = kept-filter place_of place_of' gone (place + 1) rest h in
    elim (gone pair.0) as (λ g. gone pair.0 ≡ g → cond (is_at (place_of' pair.0) place) (pair ∷ now) now ≡ filter keep (cond (is_at (place_of pair.0) place) (pair ∷ before) before)) [
      | true ↦ λ is.
          let none : is_at (place_of' pair.0) place ≡ false = is_at-None (place_of' pair.0) place (h pair.0 ∙ ap (λ b. cond b None (place_of pair.0)) is) in
          rw none (filter_out (is_at (place_of pair.0) place) keep pair before now (ap not is) others)
      | false ↦ λ is.
          let same : place_of' pair.0 ≡ place_of pair.0 = h pair.0 ∙ ap (λ b. cond b None (place_of pair.0)) is in
          rw same (filter_one (is_at (place_of pair.0) place) keep pair before now (ap not is) others)
    ] refl

-- a map that leads each number to the place before it keeps all of a numbered list
pub kept-enumerate_from : (place_of : ℕ → Option ℕ) (place : ℕ) (clauses : List Clause) → ((j : ℕ) → j < length clauses → place_of (place + 1 + j) ≡ Some (place + j)) → kept place_of place (enumerate_from (place + 1) clauses) ≡ enumerate_from (place + 1) clauses
kept-enumerate_from place_of place [] h = refl
kept-enumerate_from place_of place (c ∷ cs) h =
    let first : place_of (place + 1) ≡ Some place = rw (← add-zero (place + 1)) (h 0 (omega arith) ∙ ap (λ (n : ℕ). Some n) (add-zero place)) in
    let here : is_at (place_of (place + 1)) place ≡ true = is_at-Some (place_of (place + 1)) place place first ∙ eq-eqb place place refl in
    rw here (ap (λ (l : Live). (place + 1, c) ∷ l) (kept-enumerate_from place_of (place + 1) cs (λ j lt.
    let i : place + 1 + 1 + j ≡ place + 1 + suc j = omega arith in
    let k : place + suc j ≡ place + 1 + j = omega arith in
    rw i (h (suc j) (omega arith) ∙ ap (λ (n : ℕ). Some n) k))))

-- an id that leads behind these places isn't found among them
pub find-kept_later : (place_of : ℕ → Option ℕ) (place : ℕ) (all : Live) (id n : ℕ) → place_of id ≡ Some n → place + length all ≤ n → find_clause (kept place_of place all) id ≡ None
find-kept_later place_of place [] id n h far = refl
find-kept_later place_of place (pair ∷ rest) id n h far =
    let elsewhere : eqb n place ≡ false = not_same n place (λ same. omega arith) in
    skip_other (is_at (place_of pair.0) place) pair (kept place_of (place + 1) rest) id (λ at same. differ (sym at ∙ is_at-Some (place_of pair.0) n place (ap place_of same ∙ h) ∙ elsewhere))
    ∙ find-kept_later place_of (place + 1) rest id n h (omega arith)

append_one : (b c : Bool) (pair one : ℕ × Clause) (before now : Live) → now ≡ cond c (before ++ one ∷ []) before → cond b (pair ∷ now) now ≡ cond c (cond b (pair ∷ before) before ++ one ∷ []) (cond b (pair ∷ before) before)
append_one true true pair one before now e = ap (λ (l : Live). pair ∷ l) e
append_one true false pair one before now e = ap (λ (l : Live). pair ∷ l) e
append_one false true pair one before now e = e
append_one false false pair one before now e = e

-- the clause at the next place is kept, or not
kept-more : (place_of : ℕ → Option ℕ) (place : ℕ) (all : Live) (j id : ℕ) (clause : Clause) → slice_get all j ≡ Some (id, clause) → kept place_of place (take (j + 1) all) ≡ cond (is_at (place_of id) (place + j)) (kept place_of place (take j all) ++ (id, clause) ∷ []) (kept place_of place (take j all))
kept-more place_of place [] j id clause e = absurd cc
kept-more place_of place (pair ∷ rest) zero id clause e =
    let both : pair ≡ (id, clause) = same_Some pair (id, clause) e in
    let z : place + 0 ≡ place = omega arith in
    rw (both, z) refl
kept-more place_of place (pair ∷ rest) (suc j) id clause e =
    let s : place + suc j ≡ place + 1 + j = omega arith in
    let t : suc j + 1 ≡ suc (j + 1) = omega arith in
    rw (s, t) (append_one (is_at (place_of pair.0) place) (is_at (place_of id) (place + 1 + j)) pair (id, clause) (kept place_of (place + 1) (take j rest)) (kept place_of (place + 1) (take (j + 1) rest)) (kept-more place_of (place + 1) rest j id clause e))

pub kept-next : (place_of : ℕ → Option ℕ) (all : Live) (j id : ℕ) (clause : Clause) → slice_get all j ≡ Some (id, clause) → kept place_of 0 (take (j + 1) all) ≡ cond (is_at (place_of id) j) (kept place_of 0 (take j all) ++ (id, clause) ∷ []) (kept place_of 0 (take j all))
kept-next place_of all j id clause e =
    let z : 0 + j ≡ j = omega arith in
    kept-more place_of 0 all j id clause e ∙ ap (λ (n : ℕ). cond (is_at (place_of id) n) (kept place_of 0 (take j all) ++ (id, clause) ∷ []) (kept place_of 0 (take j all))) z
