use Rattle.std.proofs.Common.{◌≤◌, ap, arith, length}
use Rattle.lls_cnf.specs.declared.formula.TheConstants.Formula.{MOST_CLAUSES}
use Rattle.lls_lrat.specs.Checking.{Checking}
use Rattle.lls_trim.specs.Buffers.{names_in}
use Rattle.lls_trim.proofs.Numbered.{numbered-start}
use Rattle.lls_trim.proofs.recorder.Recorder.new.Goals as goal

pub returns-clause-numbered : goal.returns-clause-numbered
returns-clause-numbered c =
    let few : length c.args.formula.now.clauses ≤ MOST_CLAUSES = omega (arith, c.len.ensures.len, c.len.ensures.most) in
    numbered-start c.args.formula.now c.in_ok-checker.checker.live (names_in c.new-2.result) few (ap (λ (k : Checking). k.live) c.in_ok-checker.ensures) c.new-2.ensures
