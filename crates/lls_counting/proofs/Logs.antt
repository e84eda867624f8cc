-- Logs of fresh additions and late deletions.
use Rattle.std.proofs.Common.{◌≡◌, ◌<◌, ◌≤◌, ◌+◌, ◌-◌, ◌*◌, ◌^◌, ℕ, Bool, true, false, not, ◌||◌, ◌&&◌, cond, List, [], ◌∷◌, ◌++◌, length, map, refl, sym, ap, ◌∙◌, arith}
use Rattle.std.specs.Prelude.{filter, count_by, fold, ℤ, ◌==◌}
use Rattle.std.specs.List.{list_all, list_any, AllByRecursion}
use Rattle.std.proofs.Math.Dec.{eqb}
use Rattle.std.proofs.lemmas.Bool.{and_parts, eqb-true}
use Rattle.std.proofs.Math.Nat.{add-mul, add-zero, mul-lt-mul_of_pos_left, mul-le-mul_right}
use Rattle.std.proofs.lemmas.Nat.{mul-pow}
use Rattle.std.proofs.lemmas.List.{map-append, length-map, length-append}
use Rattle.std.proofs.lemmas.List.Folds.{list_all-append, list_all-map}
use Rattle.lls_lit.specs.Formula.{Clause, Cnf, is_within}
use Rattle.lls_prooflog.specs.declared.step.Step.{Step}
use Rattle.lls_prooflog.specs.declared.step.Step.TheVariants.{Add, Del}
use Rattle.lls_prooflog.specs.UnitWalk.{Live}
use Rattle.lls_prooflog.specs.Steps.{clauses_of}
use Rattle.lls_prooflog.specs.Fresh.{ShowsFresh, is_settled, is_closed}
use Rattle.lls_prooflog.specs.Spent.{LogState, log_start, log_after, is_addition, EachStep, IsFreshAddition, AddsFresh, IsLateDeletion, DeletesLate, has_variables_once}
use Rattle.lls_prooflog.proofs.FreshClauses.{no_weaker_clause}
use Rattle.lls_counting.specs.Counting.{FreshClausesDiffer, number_of, state_after, IsFreshLog, AddedClausesAreFew, AdditionsAreFew, BudgetsDecide, KeptBudgetsDecide}
use Rattle.lls_counting.proofs.Digits.{number_below}
use Rattle.lls_counting.proofs.Sets.{numbers_tell, numbered, part_of_same}
use Rattle.lls_counting.proofs.Apart.{IsApart, all_push, all_filter, all_map, apart_push, apart_filter, fewer_than_bound}

pub fresh_differs : FreshClausesDiffer
fresh_differs clauses clause other fresh contains same = no_weaker_clause clauses clause other contains (part_of_same other clause same) fresh

-- what a clause needs for a number of its own
record IsPlain (vars : ℕ) (clause : Clause) : Type 0 where
  some : 0 < length clause
  within : is_within vars clause ≡ true
  once : has_variables_once clause ≡ true

-- no clause at which unit propagation has nothing to do has the number of the fresh one
others_apart : (vars : ℕ) (clause : Clause) (unset : ℤ) (trues : List ℤ) (added : Live) → IsPlain vars clause
    → ((others : List Clause) → is_closed trues others ≡ true → ShowsFresh others clause unset trues)
    → list_all (λ pair. is_settled trues pair.1) added ≡ true → AllByRecursion (λ pair. IsPlain vars pair.1) added
    → AllByRecursion (λ n. eqb n (number_of vars clause) ≡ false) (map (λ pair. number_of vars pair.1) added)
others_apart vars clause unset trues [] plain shows settled all = tt
others_apart vars clause unset trues (pair ∷ pairs) plain shows settled all =
    let parts = and_parts (is_settled trues pair.1) (list_all (λ p. is_settled trues p.1) pairs) settled in (
      elim (eqb (number_of vars pair.1) (number_of vars clause)) as (λ b. eqb (number_of vars pair.1) (number_of vars clause) ≡ b → b ≡ false) [
        | true ↦ λ is. absurd (clash parts.0 (eqb-true (number_of vars pair.1) (number_of vars clause) is))
        | false ↦ λ _. refl
      ] refl,
      others_apart vars clause unset trues pairs plain shows parts.1 all.1,
    )
  where
    clash : is_settled trues pair.1 ≡ true → number_of vars pair.1 ≡ number_of vars clause → ⊥
    clash is e =
        let same = numbers_tell vars pair.1 clause all.0.within plain.within all.0.once plain.once e in
        fresh_differs (pair.1 ∷ []) clause pair.1 (unset, (trues, shows (pair.1 ∷ []) (rw is refl))) (0, omega arith, refl) same

-- what holds after some steps
record IsCounted (vars : ℕ) (state : LogState) (additions : ℕ) : Type 0 where
  plain : AllByRecursion (λ pair. IsPlain vars pair.1) state.added
  live : (test : ℕ × Clause → Bool) → list_all test state.live ≡ true → list_all test state.added ≡ true
  apart : IsApart (map (λ pair. number_of vars pair.1) state.added)
  few : additions ≤ state.deletions * (3 ^ vars - 1) + length state.added
  late : 64 * state.deletions < 3 ^ vars

added_below : (vars : ℕ) (state : LogState) (additions : ℕ) → IsCounted vars state additions → length state.added < 3 ^ vars
added_below vars state additions counted =
    let within = all_map (λ pair. IsPlain vars pair.1) (λ n. (1 ≤ n) × (n < 3 ^ vars)) (λ pair. number_of vars pair.1) state.added
    (λ pair plain. numbered vars pair.1 plain.some plain.within) counted.plain in
    let many = fewer_than_bound (map (λ pair. number_of vars pair.1) state.added) (3 ^ vars) counted.apart within (let late = counted.late in omega (arith, late)) in
    let long : length (map (λ pair. number_of vars pair.1) state.added) ≡ length state.added = length-map state.added (λ pair. number_of vars pair.1) in
    omega (arith, many, long)

-- freshness against the live clauses shows that no added one has the number
counted_add : (vars : ℕ) (state : LogState) (additions id : ℕ) (lits : Clause) → IsCounted vars state additions → AddsFresh vars state.live lits
    → IsCounted vars (record { live = state.live ++ (id, lits) ∷ []; added = state.added ++ (id, lits) ∷ []; deletions = state.deletions }) (additions + 1)
counted_add vars state additions id lits counted adds = record {
  plain = all_push (λ pair. IsPlain vars pair.1) state.added (id, lits) counted.plain plain;
  live = λ test all. both test all;
  apart = rw (map-append (λ pair. number_of vars pair.1) state.added ((id, lits) ∷ [])) (apart_push (map (λ pair. number_of vars pair.1) state.added) (number_of vars lits) counted.apart others);
  few = let few = counted.few in let long = length-append state.added ((id, lits) ∷ []) in omega (arith, few, long);
  late = counted.late;
}
  where
    plain : IsPlain vars lits
    plain = record { some = adds.some; within = adds.within; once = adds.once }

    both : (test : ℕ × Clause → Bool) → list_all test (state.live ++ (id, lits) ∷ []) ≡ true → list_all test (state.added ++ (id, lits) ∷ []) ≡ true
    both test all =
        let parts = and_parts (list_all test state.live) (list_all test ((id, lits) ∷ [])) (sym (list_all-append test state.live ((id, lits) ∷ [])) ∙ all) in
        rw (list_all-append test state.added ((id, lits) ∷ []), counted.live test parts.0) parts.1

    shown : (unset : ℤ) (trues : List ℤ) (found : ShowsFresh (clauses_of state.live) lits unset trues) (others : List Clause) → is_closed trues others ≡ true → ShowsFresh others lits unset trues
    shown unset trues found others closed = record {
      in_clause = found.in_clause;
      consistent = found.consistent;
      others_false = found.others_false;
      unset_not_true = found.unset_not_true;
      unset_not_false = found.unset_not_false;
      closed = closed;
    }

    others : AllByRecursion (λ n. eqb n (number_of vars lits) ≡ false) (map (λ pair. number_of vars pair.1) state.added)
    others =
        let unset = adds.fresh.0 in
        let trues = adds.fresh.1.0 in
        let found = adds.fresh.1.1 in
        let closed : list_all (λ pair. is_settled trues pair.1) state.live ≡ true = sym (list_all-map (is_settled trues) (λ pair. pair.1) state.live) ∙ found.closed in
        others_apart vars lits unset trues state.added plain (shown unset trues found) (counted.live (λ pair. is_settled trues pair.1) closed) counted.plain

all_of_filter : {X : Type 0} (keep test : X → Bool) (xs : List X) → list_all test (filter keep xs) ≡ list_all (λ x. not (keep x) || test x) xs
all_of_filter keep test [] = refl
all_of_filter keep test (x ∷ xs) =
    elim (keep x) as (λ b. list_all test (cond b (x ∷ filter keep xs) (filter keep xs)) ≡ ((not b || test x) && list_all (λ y. not (keep y) || test y) xs)) [
      | true ↦ ap (λ b. test x && b) (all_of_filter keep test xs)
      | false ↦ all_of_filter keep test xs
    ]

-- a late deletion finds few enough live, and so do all before it
counted_delete : (vars : ℕ) (state : LogState) (additions : ℕ) (ids : List ℕ) → IsCounted vars state additions → DeletesLate state ids
    → IsCounted vars (log_after state (Del ids)) additions
counted_delete vars state additions ids counted deletes = record {
  plain = all_filter (λ pair. IsPlain vars pair.1) keep state.added counted.plain;
  live = λ test all. rw (all_of_filter keep test state.added) (counted.live (λ pair. not (keep pair) || test pair) (sym (all_of_filter keep test state.live) ∙ all));
  apart = apart_filter (λ pair. number_of vars pair.1) keep state.added counted.apart;
  few = more (state.deletions) (3 ^ vars - 1) (length state.added) (length (filter keep state.added)) counted.few (let below = added_below vars state additions counted in omega (arith, below));
  late = let below = added_below vars state additions counted in let late = deletes.late in omega (arith, below, late);
}
  where
    keep : ℕ × Clause → Bool
    keep pair = not (list_any (λ id. id == pair.0) ids)

    more : (r n before now : ℕ) → additions ≤ r * n + before → before ≤ n → additions ≤ (r + 1) * n + now
    more r n before now few less = let e = add-mul r 1 n in omega (arith, few, less, e)

abbrev counting : ℕ → Step → ℕ
counting additions step = additions + cond (is_addition step) 1 0

counted_all : (vars : ℕ) (steps : List Step) (state : LogState) (additions : ℕ) → IsCounted vars state additions
    → EachStep (IsFreshAddition vars) state steps → EachStep IsLateDeletion state steps
    → IsCounted vars (fold log_after state steps) (fold counting additions steps)
counted_all vars [] state additions counted fresh late = counted
counted_all vars (Add id lits hints ∷ steps) state additions counted fresh late =
    counted_all vars steps (log_after state (Add id lits hints)) (additions + 1) (counted_add vars state additions id lits counted fresh.0) fresh.1 late.1
counted_all vars (Del ids ∷ steps) state additions counted fresh late =
    counted_all vars steps (log_after state (Del ids)) (additions + 0) (rw (add-zero additions) (counted_delete vars state additions ids counted late.0)) fresh.1 late.1

counted_start : (formula : Cnf) → IsCounted formula.vars (log_start formula) 0
counted_start formula = record {
  plain = tt;
  live = λ test all. refl;
  apart = tt;
  few = omega arith;
  late = let positive = number_below formula.vars [] in omega (arith, positive);
}

counted : (formula : Cnf) (steps : List Step) → IsFreshLog formula steps → IsCounted formula.vars (state_after formula steps) (count_by is_addition steps)
counted formula steps log = counted_all formula.vars steps (log_start formula) 0 (counted_start formula) log.additions log.deletions

pub added_are_few : AddedClausesAreFew
added_are_few formula steps log = added_below formula.vars (state_after formula steps) (count_by is_addition steps) (counted formula steps log)

pub additions_are_few : AdditionsAreFew
additions_are_few formula steps log =
    let known = counted formula steps log in
    let state = state_after formula steps in
    let few = known.few in
    let less = added_are_few formula steps log in
    let e = add-mul state.deletions 1 (3 ^ formula.vars - 1) in
    (omega (arith, few, less, e), known.late)

pub budgets_decide : BudgetsDecide
budgets_decide formula steps budget spent =
    let few = additions_are_few formula steps (record { additions = spent.additions; deletions = spent.deletions }) in
    let budgeted = spent.budgeted in
    let below : (state.deletions + 1) * (3 ^ formula.vars - 1) < 3 ^ formula.vars * 3 ^ formula.vars = products state.deletions (3 ^ formula.vars) few.1 in
    let squares : 9 ^ formula.vars ≡ 3 ^ formula.vars * 3 ^ formula.vars = mul-pow 3 3 formula.vars in
    let most = few.0 in
    omega (arith, most, budgeted, below, squares)
  where
    state : LogState
    state = state_after formula steps

    products : (r p : ℕ) → 64 * r < p → (r + 1) * (p - 1) < p * p
    products r p late =
        let fewer : r + 1 ≤ p = omega (arith, late) in
        let first : (r + 1) * (p - 1) ≤ p * (p - 1) = mul-le-mul_right (p - 1) fewer in
        let second : p * (p - 1) < p * p = mul-lt-mul_of_pos_left (omega (arith, late)) (omega (arith, late)) in
        omega (arith, first, second)

no_deletion : (steps : List Step) (state : LogState) → list_all is_addition steps ≡ true → (fold log_after state steps).deletions ≡ state.deletions
no_deletion [] state all = refl
no_deletion (Add id lits hints ∷ steps) state all = no_deletion steps (log_after state (Add id lits hints)) all
no_deletion (Del ids ∷ steps) state all = absurd cc

pub kept_budgets_decide : KeptBudgetsDecide
kept_budgets_decide formula steps budget spent all =
    let few = additions_are_few formula steps (record { additions = spent.additions; deletions = spent.deletions }) in
    let budgeted = spent.budgeted in
    let none : state.deletions ≡ 0 = no_deletion steps (log_start formula) all in
    let once : (state.deletions + 1) * (3 ^ formula.vars - 1) ≡ 3 ^ formula.vars - 1 = rw none (omega arith) in
    let positive = number_below formula.vars [] in
    let most = few.0 in
    omega (arith, most, budgeted, once, positive)
  where
    state : LogState
    state = state_after formula steps
