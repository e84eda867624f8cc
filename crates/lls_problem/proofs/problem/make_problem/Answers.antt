use Rattle.std.proofs.Common.{sym, ◌∙◌, rules}
use Rattle.lls_problem.proofs.Fitting.{bounded-by_none, named-by_none, ordered-by_none, shorter-by_none, counters-by_none}
use Rattle.lls_problem.proofs.problem.make_problem.Goals as goal

pub invariant_of-result : goal.invariant_of-result
invariant_of-result c = record {
  square = search rules;
  period = c.requires.period;
  bounds = c.requires.bounds;
  bounded = bounded-by_none c.args.posed c.args.demands (sym c.in_default.is ∙ c.missing_generation.ensures);
  ordered = ordered-by_none c.args.posed c.args.demands (sym c.in_default-crossing.is ∙ c.crossing.ensures);
  counters = counters-by_none c.args.posed c.args.demands (sym c.in_default-too_many.is ∙ c.too_many.ensures);
  shorter = shorter-by_none c.args.posed c.args.demands (sym c.in_default-too_long.is ∙ c.too_long.ensures);
  named = named-by_none c.args.posed c.args.demands (sym c.in_default.is ∙ c.missing_generation.ensures);
  listed = c.requires.listed;
}
