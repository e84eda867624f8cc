use Rattle.std.proofs.Common.{sym, ap}
use Rattle.lls_lrat.specs.UnderWay.{LineChecking}
use Rattle.lls_lrat.proofs.LineChecks.{line_state}
use Rattle.lls_lrat.proofs.line_checker.LineChecker.take.Goals as goal

pub returns-clause-taken : goal.returns-clause-taken
returns-clause-taken c =
    let l = c.self.inside in
    let going = rw c.in-Ok-Going.field-0-is at c.in-Ok-Going.ensures in
    line_state l.checker c.take_line-taken.new.checker l.lines l.fault c.err-self-inside.result c.args.self.now.state c.args.line.now c.take_line-taken.result
    (ap (λ (v : LineChecking). v.state) c.self.view_is) (sym going) c.take_line-taken.ensures.taken c.take_line-taken.ensures.kept c.err-self-inside.ensures.value
