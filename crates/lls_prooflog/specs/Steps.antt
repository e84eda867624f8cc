-- Good steps, the clauses that are live after a step, and accepted proofs.
use Rattle.std.specs.Prelude.{◌≡◌, ℕ, ℤ, Bool, true, false, not, ◌||◌, List, [], ◌∷◌, ◌++◌, map, length, Option, Some, None, is_some, is_none, filter, if◌then◌else◌, ◌==◌, ◌&&◌, nat_le}
use Rattle.std.specs.List.{list_any, list_all}
use Rattle.lls_prooflog.specs.declared.step.Step.{Step}
use Rattle.lls_prooflog.specs.declared.step.Step.TheVariants.{Add, Del}
use Rattle.lls_prooflog.specs.declared.step_fault.StepFault.{StepFault}
use Rattle.lls_prooflog.specs.declared.step_fault.StepFault.TheVariants.{IdLive}
use Rattle.lls_lit.specs.Literal.{variable_of}
use Rattle.lls_lit.specs.Formula.{Clause, Cnf, satisfies}
pub use Rattle.lls_prooflog.specs.UnitWalk.{Live, numbered, find_clause, walk_on, unit_walk}
use Rattle.lls_prooflog.specs.Rat.{groups_of, rat_fault}

-- what is wrong with an addition by unit propagation alone: None where its id is new and its hints lead to a conflict
abbrev pub rup_fault : Live → ℕ → List ℤ → List ℤ → Option StepFault
rup_fault live id lits hints = if is_some (find_clause live id) then Some (IdLive id) else unit_walk live lits hints

-- what is wrong with an addition: None where its id is new, and its hints lead to a conflict or show it by its pivot
abbrev pub addition_fault : Live → ℕ → List ℤ → List ℤ → Option StepFault
addition_fault live id lits hints =
    if is_some (find_clause live id) then Some (IdLive id) else walk_on live (rat_fault live lits (groups_of hints)) lits hints

-- what is wrong with a step: None where it is good. Every deletion is
abbrev pub fault_of : Live → Step → Option StepFault
fault_of live (Add id lits hints) = addition_fault live id lits hints
fault_of live (Del ids) = None

-- the live clauses after a good step
abbrev pub after : Live → Step → Live
after live (Add id lits hints) = live ++ (id, lits) ∷ []
after live (Del ids) = filter (λ pair. not (list_any (λ id. id == pair.0) ids)) live

abbrev pub is_empty_addition : Step → Bool
is_empty_addition (Add id [] hints) = true
is_empty_addition (Add id (l ∷ ls) hints) = false
is_empty_addition (Del ids) = false

-- the steps up to and with the first addition of the empty clause are good in turn, and there is one
abbrev pub are_accepted : Live → List Step → Bool
are_accepted live [] = false
are_accepted live (step ∷ steps) =
    if is_none (fault_of live step) then (is_empty_addition step || are_accepted (after live step) steps) else false

abbrev pub clauses_of : Live → List Clause
clauses_of live = map (λ pair. pair.1) live

-- some list of bits, of any length, satisfies the clauses
abbrev pub AreSatisfiable : List Clause → Type 0
AreSatisfiable clauses = (values : List Bool) × (satisfies values clauses ≡ true)

-- where an assignment of the formula's variables satisfies the formula, the live clauses are satisfiable
abbrev pub KeepsSatisfiable : Cnf → Live → Type 0
KeepsSatisfiable formula live = (values : List Bool) → length values ≡ formula.vars → satisfies values formula.clauses ≡ true → AreSatisfiable (clauses_of live)

-- each live clause is the one that its id finds
abbrev pub ids_differ : Live → Bool
ids_differ [] = true
ids_differ (pair ∷ rest) = is_none (find_clause rest pair.0) && ids_differ rest

-- no literal is 0
abbrev pub are_literals : List ℤ → Bool
are_literals lits = list_all (λ l. nat_le 1 (variable_of l)) lits

abbrev pub has_literals : Step → Bool
has_literals (Add id lits hints) = are_literals lits
has_literals (Del ids) = true

-- live clauses with ids of their own and without the literal 0
pub record AreProper (live : Live) : Type 0 where
  pub apart : ids_differ live ≡ true
  pub literals : list_all are_literals (clauses_of live) ≡ true
