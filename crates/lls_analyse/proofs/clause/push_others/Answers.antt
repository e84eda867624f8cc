use Rattle.std.proofs.Common.{ap, sym, ◌∙◌, arith, length, take}
use Rattle.std.specs.Prelude.{ℤ, List, filter, count_by}
use Rattle.std.proofs.lemmas.List.{length-append}
use Rattle.lls_analyse.specs.Gathered.{is_other}
use Rattle.lls_analyse.proofs.Clauses.{fewer_so_far}
use Rattle.lls_analyse.proofs.clause.push_others.Goals as goal

pub push_reserved-requires : goal.push_reserved-requires
push_reserved-requires c =
    let p = is_other c.args.visited.now.seen c.args.second in
    let fewer = fewer_so_far p c.lits-lit-items.result.now c.loop-lit.lit-index c.lit-item.result c.loop-lit-test.true c.lit-item.is (sym c.is_other.ensures ∙ c.if-is_other.true) in
    omega (arith, fewer, ap (λ ls. count_by p ls) c.lits-lit-items.ensures.lits, ap (λ (ls : List ℤ). length ls) c.loop-lit.invariant.0, length-append c.args.clause.now.items (filter p (take c.loop-lit.lit-index c.lits-lit-items.result.now)), c.loop-lit.invariant.1, c.requires)
