use Rattle.std.proofs.Common.{◌≤◌, not, ap}
use Rattle.lls_lit.specs.Literal.{variable_of}
use Rattle.lls_lrat.specs.Entered.{AssumedState}
use Rattle.lls_lrat.proofs.Entries.{AreEntered-put}
use Rattle.lls_lrat.proofs.assumed.Assumed.put.Goals as goal

pub invariant_of-self-2 : goal.invariant_of-self-2
invariant_of-self-2 c =
    let a = c.self.inside in
    let within : variable_of c.args.lit ≤ a.marks.vars = rw (ap (λ (s : AssumedState). s.vars) c.self.view_is) c.requires in
    rw (c.put.ensures, c.in_ok-push.ensures.items) (AreEntered-put a.marks a.entries.items (record { lit = c.args.lit; is_first = _ }) c.self.invariant (ap not c.has-is_first.ensures) within)
