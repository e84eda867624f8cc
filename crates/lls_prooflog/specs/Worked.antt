-- Small formulas for worked steps and logs.
use Rattle.std.specs.Prelude.{pos, negsuc, List, [], ◌∷◌}
use Rattle.lls_lit.specs.Formula.{Cnf}
use Rattle.lls_prooflog.specs.declared.step.Step.{Step}
use Rattle.lls_prooflog.specs.declared.step.Step.TheVariants.{Add}
use Rattle.lls_prooflog.specs.UnitWalk.{Live, numbered}

-- the clauses 1, 2, 1 -2 and -1 -2, which unit propagation refutes
abbrev pub refuted : Cnf
refuted = record { vars = 2; clauses = (pos 1 ∷ []) ∷ (pos 2 ∷ []) ∷ (pos 1 ∷ negsuc 1 ∷ []) ∷ (negsuc 0 ∷ negsuc 1 ∷ []) ∷ [] }

abbrev pub worked : Live
worked = numbered refuted.clauses

-- the clauses 1 2, 1 -2, -1 2 and -1 -2, and 3 behind them
abbrev pub with_three : Live
with_three = numbered ((pos 1 ∷ pos 2 ∷ []) ∷ (pos 1 ∷ negsuc 1 ∷ []) ∷ (negsuc 0 ∷ pos 2 ∷ []) ∷ (negsuc 0 ∷ negsuc 1 ∷ []) ∷ (pos 3 ∷ []) ∷ [])

-- the clauses 1 2 3, 1 2 -3, 1 -2 3 and 1 -2 -3, of which none is unit
abbrev pub searched : Cnf
searched = record {
  vars = 3;
  clauses = (pos 1 ∷ pos 2 ∷ pos 3 ∷ []) ∷ (pos 1 ∷ pos 2 ∷ negsuc 2 ∷ []) ∷ (pos 1 ∷ negsuc 1 ∷ pos 3 ∷ []) ∷ (pos 1 ∷ negsuc 1 ∷ negsuc 2 ∷ []) ∷ [];
}

-- a log of a search of it: the clause 1 2 is learnt
abbrev pub one_learnt : List Step
one_learnt = Add 5 (pos 1 ∷ pos 2 ∷ []) (pos 1 ∷ pos 2 ∷ []) ∷ []
