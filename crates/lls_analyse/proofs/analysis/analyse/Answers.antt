use Rattle.lls_analyse.proofs.Minimising.{minimised}
use Rattle.lls_analyse.proofs.Valued.{all_have_values}
use Rattle.lls_analyse.proofs.analysis.analyse.Goals as goal

pub returns-clause-analysis : goal.returns-clause-analysis
returns-clause-analysis g c = record {
  seen = c.minimise.new.visited;
  visited = c.minimise.ensures.visited;
  resolved = minimised (g.S.Store.state c.args.store.now).live c.args.trail.now c.args.conflict 1 c.args.visited.now c.minimise.new.visited c.minimise.ensures.visited c.requires.resolved c.minimise.ensures.minimises;
  hinted = c.gather_hints.ensures.hints;
  gathered = c.gather_clause.ensures.clause;
}

pub gather_hints-requires-clause-analysed : goal.gather_hints-requires-clause-analysed
gather_hints-requires-clause-analysed g c =
    (minimised (g.S.Store.state c.args.store.now).live c.args.trail.now c.args.conflict 1 c.args.visited.now c.minimise.new.visited c.minimise.ensures.visited c.requires.resolved c.minimise.ensures.minimises).analysed

pub gather_clause-requires-clause-have_values : goal.gather_clause-requires-clause-have_values
gather_clause-requires-clause-have_values g c = all_have_values c.args.trail.now.entries c.minimise.new.visited.lits c.minimise.ensures.minimises.marked.all_false
