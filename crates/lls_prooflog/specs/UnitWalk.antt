-- Unit propagation by hints, over live clauses that have ids (LRAT).
use Rattle.std.specs.Prelude.{ℕ, ℤ, pos, negsuc, Bool, not, List, [], ◌∷◌, ◌++◌, Option, Some, None, filter, if◌then◌else◌, ◌==◌}
use Rattle.std.specs.List.{list_any, list_all, enumerate_from}
use Rattle.std.specs.Ordering.{int_eq}
use Rattle.lls_lit.specs.Literal.{negation}
use Rattle.lls_lit.specs.Formula.{Clause}
use Rattle.lls_prooflog.specs.declared.step_fault.StepFault.{StepFault}
use Rattle.lls_prooflog.specs.declared.step_fault.StepFault.TheVariants.{NoClause, NotUnit, NoConflict}

-- clauses with their ids
abbrev pub Live : Type 0
Live = List (ℕ × Clause)

-- a formula's clauses under the ids from 1
abbrev pub numbered : List Clause → Live
numbered clauses = enumerate_from 1 clauses

-- the first clause of that id
abbrev pub find_clause : Live → ℕ → Option Clause
find_clause [] id = None
find_clause (pair ∷ rest) id = if pair.0 == id then Some pair.1 else find_clause rest id

abbrev pub is_among : List ℤ → ℤ → Bool
is_among lits l = list_any (int_eq l) lits

-- the literals of a clause that aren't taken as false
abbrev pub remaining : List ℤ → Clause → List ℤ
remaining assumed clause = filter (λ l. not (is_among assumed l)) clause

-- nothing remains: a conflict. One literal remains, however often: it must be true, and the walk goes on. Else the hint is no unit clause
abbrev pub at_clause : ℤ → List ℤ → (ℤ → Option StepFault) → Option StepFault
at_clause hint [] goes_on = None
at_clause hint (l ∷ ls) goes_on = if list_all (int_eq l) ls then goes_on l else Some (NotUnit hint)

abbrev pub at_hint : ℤ → List ℤ → Option Clause → (ℤ → Option StepFault) → Option StepFault
at_hint hint assumed None goes_on = Some (NoClause hint)
at_hint hint assumed (Some clause) goes_on = at_clause hint (remaining assumed clause) goes_on

-- unit propagation along the hints before the first negative one, where the assumed literals are taken as false: None where they lead to a
-- conflict, or the fault of a hint; where they end, what is said of the literals that are taken as false by then
abbrev pub walk_on : Live → (List ℤ → Option StepFault) → List ℤ → List ℤ → Option StepFault
walk_on live at_end assumed [] = at_end assumed
walk_on live at_end assumed (pos id ∷ hints) =
    at_hint (pos id) assumed (find_clause live id) (λ l. walk_on live at_end (assumed ++ negation l ∷ []) hints)
walk_on live at_end assumed (negsuc n ∷ hints) = at_end assumed

-- what keeps these hints from a conflict: None where they lead to one
abbrev pub unit_walk : Live → List ℤ → List ℤ → Option StepFault
unit_walk live assumed hints = walk_on live (λ _. Some NoConflict) assumed hints
