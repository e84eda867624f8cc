-- A good step keeps the live clauses satisfiable where the formula is.
use Rattle.std.proofs.Common.{◌≡◌, ℕ, Bool, true, false, ◌||◌, cond, List, [], ◌∷◌, ◌++◌, Some, None, refl}
use Rattle.std.specs.Prelude.{ℤ, is_some, is_none}
use Rattle.std.specs.List.{list_all}
use Rattle.std.proofs.lemmas.Bool.{and_parts}
use Rattle.std.proofs.lemmas.List.{map-append}
use Rattle.std.proofs.lemmas.List.Folds.{list_all-append}
use Rattle.lls_lit.specs.Formula.{Clause, Cnf, satisfies_clause, satisfies, IsUnsatisfiable}
use Rattle.lls_prooflog.specs.declared.step.Step.{Step}
use Rattle.lls_prooflog.specs.declared.step.Step.TheVariants.{Add, Del}
use Rattle.lls_prooflog.specs.declared.step_fault.StepFault.TheVariants.{IdLive}
use Rattle.lls_prooflog.specs.UnitWalk.{Live, find_clause, walk_on, unit_walk}
use Rattle.lls_prooflog.specs.Rat.{Group, groups_of, rat_fault}
use Rattle.lls_prooflog.specs.Steps.{numbered, rup_fault, fault_of, after, is_empty_addition, are_accepted, clauses_of, AreSatisfiable, KeepsSatisfiable, are_literals, has_literals, AreProper}
use Rattle.lls_prooflog.specs.Spent.{LogState, log_start, log_after, EachStep, IsGood}
use Rattle.lls_prooflog.proofs.Walks.{walk_ends, walk_refutes, walk_closes, none_true}
use Rattle.lls_prooflog.proofs.Proper.{AreProper-after, clauses_of-numbered, clauses_pass-kept}
use Rattle.lls_prooflog.proofs.Turned.{turns}

-- an addition that is good by unit propagation alone is good
pub good_by_propagation : (live : Live) (id : ℕ) (lits hints : List ℤ) → rup_fault live id lits hints ≡ None → fault_of live (Add id lits hints) ≡ None
good_by_propagation live id lits hints good =
    elim (is_some (find_clause live id)) as (λ b. cond b (Some (IdLive id)) (unit_walk live lits hints) ≡ None → cond b (Some (IdLive id)) (walk_on live (rat_fault live lits (groups_of hints)) lits hints) ≡ None) [
      | true ↦ λ h. absurd cc
      | false ↦ λ h. walk_closes live (rat_fault live lits (groups_of hints)) lits hints h
    ] good

-- and so is each step of a log
pub fault_of_good : (state : LogState) (step : Step) → IsGood state step → fault_of state.live step ≡ None
fault_of_good state (Add id lits hints) adds = good_by_propagation state.live id lits hints adds.good
fault_of_good state (Del ids) good = refl

-- and its hints lead to a conflict
pub walk_is_good : (live : Live) (id : ℕ) (lits hints : List ℤ) → rup_fault live id lits hints ≡ None → unit_walk live lits hints ≡ None
walk_is_good live id lits hints e =
    elim (is_some (find_clause live id)) as (λ b. cond b (Some (IdLive id)) (unit_walk live lits hints) ≡ None → unit_walk live lits hints ≡ None) [
      | true ↦ λ h. absurd cc
      | false ↦ λ h. h
    ] e

-- a good addition has a new id, and its walk ends well
pub record AddsWell (live : Live) (id : ℕ) (lits hints : List ℤ) : Type 0 where
  pub new : find_clause live id ≡ None
  pub walk : walk_on live (rat_fault live lits (groups_of hints)) lits hints ≡ None

pub adds_well : (live : Live) (id : ℕ) (lits hints : List ℤ) → fault_of live (Add id lits hints) ≡ None → AddsWell live id lits hints
adds_well live id lits hints e =
    elim (find_clause live id) as (λ o. find_clause live id ≡ o → cond (is_some o) (Some (IdLive id)) (walk_on live (rat_fault live lits (groups_of hints)) lits hints) ≡ None → AddsWell live id lits hints) [
      | None ↦ λ new h. record { new = new; walk = h }
      | Some clause ↦ λ _ h. absurd cc
    ] refl e

-- bits that satisfy the live clauses satisfy the clause where unit propagation gives it
given_clause : (values : List Bool) (live : Live) (lits hints : List ℤ) → satisfies values (clauses_of live) ≡ true → unit_walk live lits hints ≡ None → satisfies_clause values lits ≡ true
given_clause values live lits hints all walk = elim (satisfies_clause values lits) as (λ b. satisfies_clause values lits ≡ b → b ≡ true) [
  | true ↦ λ _. refl
  | false ↦ λ none. absurd (walk_refutes values live lits hints all (none_true values lits none) walk)
] refl

pushed_satisfied : (values : List Bool) (live : Live) (id : ℕ) (lits : List ℤ) → satisfies values (clauses_of live) ≡ true → satisfies_clause values lits ≡ true → satisfies values (clauses_of (live ++ (id, lits) ∷ [])) ≡ true
pushed_satisfied values live id lits all one =
    rw (map-append (λ (pair : ℕ × Clause). pair.1) live ((id, lits) ∷ []), list_all-append (satisfies_clause values) (clauses_of live) (lits ∷ []), all, one) refl

-- what satisfies the live clauses satisfies the clause too, or some other bits satisfy both
AreSatisfiable-added : (live : Live) (id : ℕ) (lits hints : List ℤ) → AreProper live → are_literals lits ≡ true → AreSatisfiable (clauses_of live) → AddsWell live id lits hints → AreSatisfiable (clauses_of (live ++ (id, lits) ∷ []))
AreSatisfiable-added live id lits hints proper literals (values, all) good =
    elim (satisfies_clause values lits) as (λ b. satisfies_clause values lits ≡ b → AreSatisfiable (clauses_of (live ++ (id, lits) ∷ []))) [
      | true ↦ λ one. (values, pushed_satisfied values live id lits all one)
      | false ↦ λ none.
          let end = walk_ends values live (rat_fault live lits (groups_of hints)) lits hints all (none_true values lits none) good.walk in
          let turned = turns values live lits (groups_of hints) end.assumed proper literals all end.all_false end.ends in
          (turned.bits, pushed_satisfied turned.bits live id lits turned.live_satisfied turned.satisfied)
    ] refl

AreSatisfiable-after : (live : Live) (step : Step) → AreProper live → has_literals step ≡ true → AreSatisfiable (clauses_of live) → fault_of live step ≡ None → AreSatisfiable (clauses_of (after live step))
AreSatisfiable-after live (Add id lits hints) proper literals some good = AreSatisfiable-added live id lits hints proper literals some (adds_well live id lits hints good)
AreSatisfiable-after live (Del ids) proper literals (values, all) good = (values, clauses_pass-kept (satisfies_clause values) _ live all)

pub KeepsSatisfiable-numbered : (formula : Cnf) → KeepsSatisfiable formula (numbered formula.clauses)
KeepsSatisfiable-numbered formula values len all = (values, rw (clauses_of-numbered 1 formula.clauses) all)

pub KeepsSatisfiable-after : (formula : Cnf) (live : Live) (step : Step) → AreProper live → has_literals step ≡ true → KeepsSatisfiable formula live → fault_of live step ≡ None → KeepsSatisfiable formula (after live step)
KeepsSatisfiable-after formula live step proper literals kept good values len all = AreSatisfiable-after live step proper literals (kept values len all) good

-- where the empty clause can be added, no list of bits satisfies the live clauses
refuted_at_empty : (live : Live) (id : ℕ) (hints : List ℤ) → fault_of live (Add id [] hints) ≡ None → AreSatisfiable (clauses_of live) → ⊥
refuted_at_empty live id hints good some =
    let end = walk_ends some.0 live (rat_fault live [] (groups_of hints)) [] hints some.1 refl (adds_well live id [] hints good).walk in
    no_pivot (groups_of hints) end.assumed end.ends
  where
    no_pivot : (groups : List Group) (assumed : List ℤ) → rat_fault live [] groups assumed ≡ None → ⊥
    no_pivot [] assumed h = cc
    no_pivot (group ∷ groups) assumed h = cc

-- and so no assignment satisfies the formula
pub unsatisfiable_at_empty : (formula : Cnf) (live : Live) (step : Step) → KeepsSatisfiable formula live → fault_of live step ≡ None → is_empty_addition step ≡ true → IsUnsatisfiable formula
unsatisfiable_at_empty formula live (Add id [] hints) kept good empty values len =
    elim (satisfies values formula.clauses) as (λ b. satisfies values formula.clauses ≡ b → b ≡ false) [
      | true ↦ λ all. absurd (refuted_at_empty live id hints good (kept values len all))
      | false ↦ λ _. refl
    ] refl
unsatisfiable_at_empty formula live (Add id (l ∷ ls) hints) kept good empty values len = absurd cc
unsatisfiable_at_empty formula live (Del ids) kept good empty values len = absurd cc

-- no assignment satisfies a formula with an accepted proof
pub unsatisfiable_if_accepted : (formula : Cnf) (live : Live) (steps : List Step) → AreProper live → list_all has_literals steps ≡ true → KeepsSatisfiable formula live → are_accepted live steps ≡ true → IsUnsatisfiable formula
unsatisfiable_if_accepted formula live [] proper literals kept e = absurd cc
unsatisfiable_if_accepted formula live (step ∷ steps) proper literals kept e =
    let both = and_parts (has_literals step) (list_all has_literals steps) literals in
    elim (fault_of live step) as (λ o. fault_of live step ≡ o → cond (is_none o) (is_empty_addition step || are_accepted (after live step) steps) false ≡ true → IsUnsatisfiable formula) [
      | None ↦ λ good h. elim (is_empty_addition step) as (λ b. is_empty_addition step ≡ b → (b || are_accepted (after live step) steps) ≡ true → IsUnsatisfiable formula) [
        | true ↦ λ empty _. unsatisfiable_at_empty formula live step kept good empty
        | false ↦ λ _ k. unsatisfiable_if_accepted formula (after live step) steps (AreProper-after live step proper both.0 good) both.1 (KeepsSatisfiable-after formula live step proper both.0 kept good) k
      ] refl h
      | Some fault ↦ λ _ h. absurd cc
    ] refl e

-- bits that satisfy the live clauses satisfy what unit propagation adds to them, and so no empty clause
no_bits : (values : List Bool) (state : LogState) (steps : List Step) → satisfies values (clauses_of state.live) ≡ true → EachStep IsGood state steps → are_accepted state.live steps ≡ true → ⊥
no_bits values state [] all good e = cc
no_bits values state (Add id lits hints ∷ steps) all good e =
    let walk = walk_is_good state.live id lits hints good.0.good in
    let one = given_clause values state.live lits hints all walk in
    let none = good_by_propagation state.live id lits hints good.0.good in
    let rest : (is_empty_addition (Add id lits hints) || are_accepted (after state.live (Add id lits hints)) steps) ≡ true = rw none at e in
    by_empty lits one rest (no_bits values (log_after state (Add id lits hints)) steps (pushed_satisfied values state.live id lits all one) good.1)
  where
    by_empty : (ls : List ℤ) → satisfies_clause values ls ≡ true → (is_empty_addition (Add id ls hints) || are_accepted (after state.live (Add id lits hints)) steps) ≡ true → (are_accepted (after state.live (Add id lits hints)) steps ≡ true → ⊥) → ⊥
    by_empty [] true_one h on = cc
    by_empty (l ∷ ls) true_one h on = on h
no_bits values state (Del ids ∷ steps) all good e = no_bits values (log_after state (Del ids)) steps (clauses_pass-kept (satisfies_clause values) _ state.live all) good.1 e

-- no assignment satisfies a formula with an accepted log of additions by unit propagation
pub unsatisfiable_by_propagation : (formula : Cnf) (steps : List Step) → EachStep IsGood (log_start formula) steps → are_accepted (numbered formula.clauses) steps ≡ true → IsUnsatisfiable formula
unsatisfiable_by_propagation formula steps good accepted values len =
    elim (satisfies values formula.clauses) as (λ b. satisfies values formula.clauses ≡ b → b ≡ false) [
      | true ↦ λ all. absurd (no_bits values (log_start formula) steps (rw (clauses_of-numbered 1 formula.clauses) all) good accepted)
      | false ↦ λ _. refl
    ] refl
