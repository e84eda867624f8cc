use Rattle.std.proofs.Common.{◌≡◌, ◌+◌, ◌∙◌}
use Rattle.std.specs.Prelude.{vec_capacity}
use Rattle.lls_lit.specs.Literal.{variable_of}
use Rattle.lls_analyse.proofs.Visits.{AreKept-forget}
use Rattle.lls_analyse.proofs.visited.Visited.forget.Goals as goal

pub invariant_of-self : goal.invariant_of-self
invariant_of-self c =
    let m = c.self.inside in
    let at : c.index-place.result + 1 ≡ variable_of c.in-Some.lit = c.index-place.ensures.place ∙ c.var.ensures.var in
    rw (c.one_if_open.ensures, c.in-Some.ensures.capacity)
    (AreKept-forget m.vars m.seen.items m.lits.items c.pop.new.self.items (vec_capacity m.lits) m.opens c.index-place.result c.in-Some.lit c.index.result.now c.self.invariant c.in-Some.ensures.items at c.index.ensures)
