use Rattle.std.proofs.Common.{◌≡◌, ◌<◌, ◌≤◌, sym, ap, get_or, length, arith}
use Rattle.std.proofs.lemmas.List.{get_or_read}
use Rattle.lls_lit.specs.Literal.{variable_of, index_of}
use Rattle.lls_lit.specs.Marked.{Marked}
use Rattle.lls_lit.proofs.Stamps.{contains-marked, index_within}
use Rattle.lls_lit.proofs.marks.Marks.has.Goals as goal

pub returns : goal.returns
returns c =
    let m = c.self.inside in
    let l = c.args.lit in
    let within : variable_of l ≤ m.vars = rw (ap (λ (v : Marked). v.vars) c.self.view_is) c.requires in
    let in_table : index_of l < length m.stamps.items = omega (arith, c.self.invariant.two_each, index_within l m.vars c.index.ensures.literal within) in
    let read : c.index-2.result.now ≡ get_or m.stamps.items (index_of l) 0 = get_or_read m.stamps.items (index_of l) c.index-2.result.now in_table (rw c.index.ensures.place at c.index-2.ensures) 0 in
    rw (read, ← c.self.view_is) (sym (contains-marked m.stamps.items m.stamp l c.index.ensures.literal in_table))
