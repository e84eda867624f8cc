use Rattle.std.proofs.Common.{ap, arith}
use Rattle.lls_cnf.proofs.Within.{is_within-more}
use Rattle.lls_cardinality.proofs.Count.{satisfies_counts}
use Rattle.lls_cardinality.proofs.Extended.{extended}
use Rattle.lls_cardinality.proofs.counter.push_counter.Goals as goal

pub push_rows-requires-clause-cells : goal.push_rows-requires-clause-cells
push_rows-requires-clause-cells c =
    is_within-more c.args.formula.now.vars c.more_vars.new.self.vars c.args.cells.now (omega (arith, ap (λ f. f.vars) c.more_vars.ensures.more)) c.requires.within

pub returns-in-Ok-clause-counts : goal.returns-in-Ok-clause-counts
returns-in-Ok-clause-counts c =
    λ values. satisfies_counts values c.args.formula.now.vars c.args.top c.args.cells.now c.requires.within

pub returns-in-Ok-clause-extends : goal.returns-in-Ok-clause-extends
returns-in-Ok-clause-extends c =
    λ values len. extended values c.args.formula.now.vars c.args.top c.args.cells.now c.requires.within len

pub returns-in-Err-clause-counts : goal.returns-in-Err-clause-counts
returns-in-Err-clause-counts c =
    λ values. satisfies_counts values c.args.formula.now.vars c.args.top c.args.cells.now c.requires.within

pub returns-in-Err-clause-extends : goal.returns-in-Err-clause-extends
returns-in-Err-clause-extends c =
    λ values len. extended values c.args.formula.now.vars c.args.top c.args.cells.now c.requires.within len
