use Rattle.std.proofs.Common.{◌<◌, ◌≤◌, ◌-◌, ap, length, arith}
use Rattle.lls_lit.specs.Literal.{variable_of, index_of}
use Rattle.lls_lit.specs.Marked.{Marked}
use Rattle.lls_lit.proofs.Stamps.{marked-take, index_within}
use Rattle.lls_lit.proofs.marks.Marks.take.Goals as goal

pub returns : goal.returns
returns c =
    let m = c.self.inside in
    let l = c.args.lit in
    let within : variable_of l ≤ m.vars = rw (ap (λ (v : Marked). v.vars) c.self.view_is) c.requires in
    let in_table : index_of l < length m.stamps.items = omega (arith, c.self.invariant.two_each, index_within l m.vars c.index.ensures.literal within) in
    rw (c.index.ensures.place, ← c.self.view_is) (marked-take m.vars m.stamps.items m.stamp (m.stamp - 1) l c.index.ensures.literal in_table (omega (arith, c.self.invariant.some)))
