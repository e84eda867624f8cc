use Rattle.std.proofs.Common.{◌≡◌, ◌-◌, length}
use Rattle.lls_solver.specs.Searching.{additions}
use Rattle.lls_crew.specs.declared.stage.Stage.TheVariants.{Going}
use Rattle.lls_crew.specs.Crew.{ArePlayed}
use Rattle.lls_crew.proofs.searching.take_turns.Given as goal

abbrev pub invariant-turns : goal.invariant-turns
invariant-turns l = record {
  going : l.crew.stage ≡ Going;
  searchers : length l.crew.held ≡ l.turns.searchers;
  stays : l.turns.searchers ≡ l.initial.turns.searchers;
  played : ArePlayed l.initial.crew l.initial.turns.last l.initial.turns.searchers l.crew l.turns.last;
  formula : l.crew.formula ≡ l.initial.crew.formula;
  budget : l.crew.budget ≡ l.initial.crew.budget;
  keep_all : l.crew.keep_all ≡ l.initial.crew.keep_all;
}

abbrev pub decreases-turns : goal.decreases-turns
decreases-turns l = l.crew.budget - additions l.crew.steps
