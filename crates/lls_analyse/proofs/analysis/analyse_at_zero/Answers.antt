use Rattle.lls_analyse.proofs.analysis.analyse_at_zero.Goals as goal

pub returns-clause-refutation : goal.returns-clause-refutation
returns-clause-refutation g c = record {
  seen = c.resolve.new.visited;
  visited = c.resolve.ensures.visited;
  resolved = c.resolve.ensures.resolved;
  hinted = c.gather_hints.ensures.hints;
}
