use Rattle.std.proofs.Common.{false}
use Rattle.lls_prooflog.specs.Lent.{ids_of}
use Rattle.lls_lrat.specs.Checking.{IsChecking}
use Rattle.lls_lrat.proofs.Checks.{IsChecking-delete}
use Rattle.lls_lrat.proofs.checker.Checker.take.Goals as goal

pub invariant_of-self : goal.invariant_of-self
invariant_of-self c =
    let k = c.self.inside in
    let before : IsChecking k.formula.now k.live.all k.assumed.vars false = rw c.if-self.false at c.self.invariant in
    rw (c.delete.ensures, c.if-self.false) (IsChecking-delete k.formula.now k.live.all k.assumed.vars (ids_of c.in-Del.ids) before)

pub returns-in_ok-add-in-Add-clause-keeps : goal.returns-in_ok-add-in-Add-clause-keeps
returns-in_ok-add-in-Add-clause-keeps c = c.in_ok-add-in-Add.ensures.keeps

pub returns-in-Del-clause-keeps : goal.returns-in-Del-clause-keeps
returns-in-Del-clause-keeps c = (invariant_of-self c).kept
