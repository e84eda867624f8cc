use Rattle.std.proofs.Common.{◌≡◌, length}
use Rattle.std.specs.Prelude.{Ok}
use Rattle.std.specs.Option.{option_map}
use Rattle.lls_lrat.specs.Feeding.{run_over}
use Rattle.lls_lrat.specs.UnderWay.{answer_at}
use Rattle.lls_lrat.specs.declared.checker.Progress.TheVariants.{Going}
use Rattle.lls_lrat.proofs.feed.take_lines.Given as goal

abbrev pub invariant-loop-check : goal.invariant-loop-check
invariant-loop-check l = record {
  formula : l.check.formula ≡ l.initial.check.formula;
  going : answer_at l.check.state ≡ Ok Going;
  taken : option_map (λ s. run_over s l.lines) l.check.state ≡ option_map (λ s. run_over s l.initial.lines) l.initial.check.state;
}

abbrev pub decreases-loop-check : goal.decreases-loop-check
decreases-loop-check l = length l.lines
