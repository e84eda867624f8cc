use Rattle.std.proofs.Common.{arith}
use Rattle.lls_lrat.specs.Placed.{place_of}
use Rattle.lls_lrat.proofs.Emptied.{literals_of-kept}
use Rattle.lls_lrat.proofs.added.Added.held.Goals as goal

pub returns-clause-least : goal.returns-clause-least
returns-clause-least c =
    let a = c.self.inside in
    rw (← c.self.view_is) (omega (arith, c.held.ensures, literals_of-kept (place_of a.places) 0 a.ids.items a.clauses))
