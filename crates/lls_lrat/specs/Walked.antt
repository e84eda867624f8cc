-- For private contracts alone: how a walk along hints ends, with the place of the hint where it does.
use Rattle.std.specs.Prelude.{◌≡◌, ℕ, ◌+◌, ℤ, pos, negsuc, List, [], ◌∷◌, ◌++◌, Option, Some, None, Result, Ok, Err}
use Rattle.lls_lit.specs.Literal.{negation}
use Rattle.lls_lit.specs.Formula.{Clause}
use Rattle.lls_prooflog.specs.UnitWalk.{Live, find_clause, remaining}
use Rattle.lls_prooflog.specs.declared.step_fault.StepFault.{StepFault}
use Rattle.lls_prooflog.specs.declared.step_fault.StepFault.TheVariants.{NoClause, NotUnit}
use Rattle.lls_lrat.specs.declared.walk.Left.{Left}
use Rattle.lls_lrat.specs.declared.walk.Left.TheVariants.{Nothing, One, More}
use Rattle.lls_lrat.specs.declared.walk.WalkEnd.{WalkEnd}
use Rattle.lls_lrat.specs.declared.walk.WalkEnd.TheVariants.{Conflict, Open}
use Rattle.lls_lrat.specs.declared.refusal.Refusal.{Refusal}
use Rattle.lls_lrat.specs.declared.refusal.Refusal.TheVariants.{Fault, Memory}
use Rattle.lls_lrat.specs.Left.{left_in}

-- how a walk ends
pub data Walk : Type 0 where
  -- nothing is left of a clause; the place behind its hint
  Closes : ℕ → Walk
  -- the hints from a place on weren't followed; what is taken as false there
  Stays : ℕ → List ℤ → Walk
  -- a hint is at fault
  Stops : StepFault → Walk

abbrev pub at_left : ℤ → ℕ → Left → (ℤ → Walk) → Walk
at_left hint place Nothing goes_on = Closes (place + 1)
at_left hint place (One l) goes_on = goes_on l
at_left hint place More goes_on = Stops (NotUnit hint)

abbrev pub at_found : ℤ → ℕ → List ℤ → Option Clause → (ℤ → Walk) → Walk
at_found hint place assumed None goes_on = Stops (NoClause hint)
at_found hint place assumed (Some clause) goes_on = at_left hint place (left_in (remaining assumed clause)) goes_on

-- the walk along these hints, of which the first has that place
abbrev pub walk_from : Live → List ℤ → ℕ → List ℤ → Walk
walk_from live assumed place [] = Stays place assumed
walk_from live assumed place (pos id ∷ hints) =
    at_found (pos id) place assumed (find_clause live id) (λ l. walk_from live (assumed ++ negation l ∷ []) (place + 1) hints)
walk_from live assumed place (negsuc n ∷ hints) = Stays place assumed

-- a call answered so, with these literals taken as false behind it
abbrev pub EndsAs : Result WalkEnd Refusal → List ℤ → Walk → Type 0
EndsAs (Ok (Conflict place)) assumed walk = walk ≡ Closes place
EndsAs (Ok (Open place)) assumed walk = walk ≡ Stays place assumed
EndsAs (Err (Fault fault)) assumed walk = walk ≡ Stops fault
EndsAs (Err Memory) assumed walk = Unit {0}
