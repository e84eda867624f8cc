-- For private contracts alone: groups of hints as a walk through the hints finds them.
use Rattle.std.specs.Prelude.{◌≡◌, ◌≤◌, ℕ, ℤ, pos, negsuc, Bool, true, false, not, ◌&&◌, ◌==◌, List, [], ◌∷◌, map, length, drop, Option, Some, None, Result, Ok, Err}
use Rattle.std.specs.List.{list_any}
use Rattle.std.specs.Result.{result_err}
use Rattle.lls_lit.specs.Formula.{Clause}
use Rattle.lls_prooflog.specs.UnitWalk.{is_among}
use Rattle.lls_prooflog.specs.Rat.{Group, groups_of}
use Rattle.lls_prooflog.specs.declared.step_fault.StepFault.{StepFault}
use Rattle.lls_lrat.specs.declared.walk.WalkEnd.{WalkEnd}
use Rattle.lls_lrat.specs.declared.walk.WalkEnd.TheVariants.{Conflict, Open}
use Rattle.lls_lrat.specs.declared.refusal.Refusal.{Refusal}
use Rattle.lls_lrat.specs.declared.refusal.Refusal.TheVariants.{Fault, Memory}

-- the first of these hints begins a group, or there is none
abbrev pub begins_group : List ℤ → Bool
begins_group [] = true
begins_group (pos id ∷ hints) = false
begins_group (negsuc n ∷ hints) = true

abbrev pub is_negative : ℤ → Bool
is_negative (pos n) = false
is_negative (negsuc n) = true

abbrev pub ids_of_groups : List Group → List ℕ
ids_of_groups groups = map (λ group. group.id) groups

-- a clause that holds the literal, and whose id isn't one of these
abbrev pub is_lacking : ℤ → List ℕ → ℕ × Clause → Bool
is_lacking l ids pair = is_among pair.1 l && not (list_any (λ id. id == pair.0) ids)

-- where a call refused for a fault, it is this one; where it didn't refuse, there is none
abbrev pub IsTold : Option Refusal → Option StepFault → Type 0
IsTold None fault = fault ≡ None
IsTold (Some (Fault f)) fault = fault ≡ Some f
IsTold (Some Memory) fault = Unit {0}

abbrev pub TellsFault : {X : Type 0} → Result X Refusal → Option StepFault → Type 0
TellsFault result fault = IsTold (result_err result) fault

-- from a place on, the hints before another aren't negative, and there the first group begins or the hints end
pub record IsNextGroup (hints : List ℤ) (from place : ℕ) : Type 0 where
  pub groups : groups_of (drop place hints) ≡ groups_of (drop from hints)
  pub begins : begins_group (drop place hints) ≡ true
  pub behind : from ≤ place
  pub within : place ≤ length hints

-- where a walk stays, the next group is there
abbrev pub StaysAtGroup : List ℤ → ℕ → Result WalkEnd Refusal → Type 0
StaysAtGroup hints from (Ok (Open place)) = IsNextGroup hints from place
StaysAtGroup hints from (Ok (Conflict place)) = Unit {0}
StaysAtGroup hints from (Err error) = Unit {0}
