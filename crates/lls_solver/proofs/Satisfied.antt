-- A trail that is closed and has a value for each variable satisfies the clauses.
use Rattle.std.proofs.Common.{◌≡◌, ℕ, zero, suc, ◌+◌, ◌<◌, Bool, true, false, not, List, [], ◌∷◌, ◌++◌, length, get_or, refl, sym, ap, subst, ◌∙◌, arith, true≢false}
use Rattle.std.specs.Prelude.{ℤ, pos, negsuc, All, ◌||◌, ◌&&◌}
use Rattle.std.specs.List.{list_any, enumerate_from}
use Rattle.std.specs.FinSet as set
use Rattle.std.proofs.lemmas.Bool.{and_from, and_parts}
use Rattle.std.proofs.Math.Bool.{or-true}
use Rattle.std.proofs.lemmas.List.{map-append}
use Rattle.std.proofs.lemmas.List.Folds.{list_all-append}
use Rattle.lls_lit.specs.Formula.{Clause, is_literal_of, is_true, satisfies, satisfies_clause}
use Rattle.lls_prooflog.specs.UnitWalk.{Live, numbered}
use Rattle.lls_prooflog.specs.Steps.{clauses_of}
use Rattle.lls_store.specs.Trail.{Entry, Has, HasNegated, has, IsConsistent}
use Rattle.lls_store.specs.Clauses.{LiveClause}
use Rattle.lls_store.specs.Closed.{IsSettled, satisfied, two_left, AreSettled}
use Rattle.lls_store.specs.Store.{AreWithin}
use Rattle.lls_store.proofs.Sets.{Contains-from_IsIn}
use Rattle.lls_solver.specs.Course.{AllSet}
use Rattle.lls_solver.specs.Values.{AreValues}
use Rattle.lls_analyse.specs.Spelled.{Spells}
use Rattle.lls_store.proofs.Tabled.{variable_bounds}

contains_any : (p : ℤ → Bool) (xs : List ℤ) (k : ℕ) (x : ℤ) → k < length xs → get_or xs k x ≡ x → p x ≡ true → list_any p xs ≡ true
contains_any p [] k x lt is passes = absurd (omega (arith, lt))
contains_any p (y ∷ ys) zero x lt is passes = ap (λ b. b || list_any p ys) (ap p is ∙ passes)
contains_any p (y ∷ ys) (suc k) x lt is passes = ap (λ b. p y || b) (contains_any p ys k x (omega (arith, lt)) is passes) ∙ or-true (p y)

false_value : (entries : List Entry) (l : ℤ) → ¬ Has entries l → has entries l ≡ false
false_value entries l none = elim (has entries l) as (λ b. has entries l ≡ b → b ≡ false) [ true ↦ λ is. absurd (none is) | false ↦ λ _. refl ] refl

-- a true literal of the trail is true under its values
literal_true : (vars : ℕ) (entries : List Entry) (values : List Bool) (l : ℤ) → AreValues entries values → length values ≡ vars → IsConsistent entries → is_literal_of vars l ≡ true → Has entries l → is_true values l ≡ true
literal_true vars entries values (pos zero) are many consistent within stands = absurd cc
literal_true vars entries values (pos (suc n)) are many consistent within stands =
    let lt : n < length values = omega (arith, (variable_bounds vars (suc n) within).1, many) in
    let same : n + 1 ≡ suc n = omega arith in
    are n lt ∙ ap (λ k. has entries (pos k)) same ∙ stands
literal_true vars entries values (negsuc n) are many consistent within stands =
    let lt : n < length values = omega (arith, (variable_bounds vars (n + 1) within).1, many) in
    ap not (are n lt ∙ false_value entries (pos (n + 1)) (consistent (negsuc n) stands))

-- where all have values, a literal that isn't false is true
not_false_true : (vars : ℕ) (entries : List Entry) (l : ℤ) → AllSet vars entries → is_literal_of vars l ≡ true → ¬ HasNegated entries l → Has entries l
not_false_true vars entries l all within not_false =
    elim (has entries l) as (λ b. has entries l ≡ b → b ≡ true) [
      | true ↦ λ _. refl
      | false ↦ λ is. absurd (all l within (record { not_true = λ stands. true≢false (sym stands ∙ is); not_false = not_false }))
    ] refl

-- what is known of a trail whose values these are
pub record IsWhole (vars : ℕ) (entries : List Entry) (values : List Bool) : Type 0 where
  pub are_values : AreValues entries values
  pub many : length values ≡ vars
  pub consistent : IsConsistent entries
  pub all_set : AllSet vars entries

clause_true : (vars : ℕ) (entries : List Entry) (values : List Bool) (clause : List ℤ) → IsWhole vars entries values → AreWithin vars (set.from_list clause) → IsSettled entries (set.from_list clause) → satisfies_clause values clause ≡ true
clause_true vars entries values clause h within (satisfied l is stands) =
    let at = Contains-from_IsIn clause l is in
    contains_any (is_true values) clause at.0 l at.1 at.2 (literal_true vars entries values l h.are_values h.many h.consistent (within l is) stands)
clause_true vars entries values clause h within (two_left l m is is_m apart not_false other) =
    let at = Contains-from_IsIn clause l is in
    contains_any (is_true values) clause at.0 l at.1 at.2 (literal_true vars entries values l h.are_values h.many h.consistent (within l is) (not_false_true vars entries l h.all_set (within l is) not_false))

pub clauses_true : (vars : ℕ) (entries : List Entry) (values : List Bool) (live : List LiveClause) (pairs : Live) → IsWhole vars entries values → Spells live pairs → All (λ (c : LiveClause). AreWithin vars c.lits) live → AreSettled live entries → satisfies values (clauses_of pairs) ≡ true
clauses_true vars entries values [] [] h spelled within settled = refl
clauses_true vars entries values [] (pair ∷ pairs) h spelled within settled = absurd spelled
clauses_true vars entries values (clause ∷ live) [] h spelled within settled = absurd spelled
clauses_true vars entries values (clause ∷ live) (pair ∷ pairs) h spelled within settled =
    let first = clause_true vars entries values pair.1 h (subst (AreWithin vars) (sym spelled.1.0) (within 0 clause (omega arith))) (subst (IsSettled entries) (sym spelled.1.0) (settled clause (0, omega arith, refl))) in
    and_from (satisfies_clause values pair.1) (satisfies values (clauses_of pairs)) first
    (clauses_true vars entries values live pairs h spelled.1.1 (λ k d lt. within (suc k) d (omega (arith, lt))) (λ c contains. settled c (suc contains.0, omega (arith, contains.1), contains.2)))

pub clauses_of-enumerate : (n : ℕ) (clauses : List Clause) → clauses_of (enumerate_from n clauses) ≡ clauses
clauses_of-enumerate n [] = refl
clauses_of-enumerate n (c ∷ cs) = ap (λ (rest : List Clause). c ∷ rest) (clauses_of-enumerate (n + 1) cs)

-- the formula's clauses among others
pub satisfies_front : (values : List Bool) (clauses : List Clause) (more : Live) → satisfies values (clauses_of (numbered clauses ++ more)) ≡ true → satisfies values clauses ≡ true
satisfies_front values clauses more all =
    let split : satisfies values (clauses_of (numbered clauses ++ more)) ≡ (satisfies values (clauses_of (numbered clauses)) && satisfies values (clauses_of more)) =
    ap (satisfies values) (map-append (λ (pair : ℕ × Clause). pair.1) (numbered clauses) more) ∙ list_all-append (satisfies_clause values) (clauses_of (numbered clauses)) (clauses_of more)
    in
    ap (satisfies values) (sym (clauses_of-enumerate 1 clauses)) ∙ (and_parts (satisfies values (clauses_of (numbered clauses))) (satisfies values (clauses_of more)) (sym split ∙ all)).0
