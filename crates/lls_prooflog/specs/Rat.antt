-- Additions that unit propagation alone doesn't give: resolution asymmetric tautologies (RAT) on the first literal of the clause, its pivot
-- (LRAT: Cruz-Filipe, Heule, Hunt, Kaufmann and Schneider-Kamp, Efficient Certified RAT Verification, 2017).
use Rattle.std.specs.Prelude.{ℕ, ◌+◌, ℤ, pos, negsuc, Bool, not, ◌&&◌, List, [], ◌∷◌, ◌++◌, filter, find, Option, Some, None, if◌then◌else◌, ◌==◌}
use Rattle.std.specs.List.{list_any}
use Rattle.std.specs.Option.{option_map, option_or}
use Rattle.std.specs.Ordering.{int_eq}
use Rattle.lls_lit.specs.Literal.{negation}
use Rattle.lls_lit.specs.Formula.{Clause}
use Rattle.lls_prooflog.specs.declared.step_fault.StepFault.{StepFault}
use Rattle.lls_prooflog.specs.declared.step_fault.StepFault.TheVariants.{NoClause, NoConflict, RatMissing, RatOther}
use Rattle.lls_prooflog.specs.UnitWalk.{Live, find_clause, is_among, unit_walk}

-- a group of hints: the id of another clause, and the hints behind it, of which those before the next group belong to this one
pub record Group : Type 0 where
  pub id : ℕ
  pub hints : List ℤ

-- each negative hint begins a group
abbrev pub groups_of : List ℤ → List Group
groups_of [] = []
groups_of (pos id ∷ hints) = groups_of hints
groups_of (negsuc n ∷ hints) = record { id = n + 1; hints = hints } ∷ groups_of hints

-- the literals of a clause but one that is left out
abbrev pub others : ℤ → Clause → List ℤ
others left_out clause = filter (λ l. not (int_eq left_out l)) clause

-- among literals that are taken as false there is the negation of one of these
abbrev pub has_true : List ℤ → List ℤ → Bool
has_true assumed lits = list_any (λ l. is_among assumed (negation l)) lits

-- what is wrong with the resolvent with another clause. Nothing where it has a true literal; otherwise its literals are taken as false too, and
-- the hints have to lead to a conflict
abbrev pub resolvent_fault : Live → List ℤ → List ℤ → List ℤ → Option StepFault
resolvent_fault live assumed rest hints = if has_true assumed rest then None else unit_walk live (assumed ++ rest) hints

abbrev pub other_fault : Live → ℤ → List ℤ → Group → Option Clause → Option StepFault
other_fault live pivot assumed group None = Some (NoClause (negation (pos group.id)))
other_fault live pivot assumed group (Some clause) =
    if is_among clause (negation pivot) then resolvent_fault live assumed (others (negation pivot) clause) group.hints else Some (RatOther group.id)

abbrev pub group_fault : Live → ℤ → List ℤ → Group → Option StepFault
group_fault live pivot assumed group = other_fault live pivot assumed group (find_clause live group.id)

-- the first fault of the groups in their order
abbrev pub groups_fault : Live → ℤ → List ℤ → List Group → Option StepFault
groups_fault live pivot assumed [] = None
groups_fault live pivot assumed (group ∷ groups) =
    option_or (group_fault live pivot assumed group) (groups_fault live pivot assumed groups)

-- a live clause that holds the literal and has no group
abbrev pub lacks_group : ℤ → List Group → ℕ × Clause → Bool
lacks_group l groups pair = is_among pair.1 l && not (list_any (λ group. group.id == pair.0) groups)

-- the first such clause is at fault
abbrev pub missing_fault : Live → ℤ → List Group → Option StepFault
missing_fault live l groups = option_map (λ pair. RatMissing pair.0) (find (lacks_group l groups) live)

-- without groups no live clause may hold the negation of the pivot
abbrev pub pivot_fault : Live → ℤ → List ℤ → List Group → Option StepFault
pivot_fault live pivot assumed [] = if list_any (λ pair. is_among pair.1 (negation pivot)) live then Some NoConflict else None
pivot_fault live pivot assumed (group ∷ groups) =
    option_or (groups_fault live pivot assumed (group ∷ groups)) (missing_fault live (negation pivot) (group ∷ groups))

-- what is wrong with a clause for which unit propagation comes to no conflict, with these literals taken as false by then. The empty clause has no pivot
abbrev pub rat_fault : Live → Clause → List Group → List ℤ → Option StepFault
rat_fault live [] [] assumed = Some NoConflict
rat_fault live [] (group ∷ groups) assumed = Some (RatOther group.id)
rat_fault live (pivot ∷ lits) groups assumed = pivot_fault live pivot assumed groups
