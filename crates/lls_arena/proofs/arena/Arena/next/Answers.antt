use Rattle.std.proofs.Common.{◌≡◌, ◌<◌, length, get_or, ap, arith}
use Rattle.std.proofs.lemmas.List.{get_or_default}
use Rattle.lls_arena.specs.Links.{no_pair, side_in}
use Rattle.lls_arena.specs.Arena.{ArenaState}
use Rattle.lls_arena.specs.Parts.{spans_in}
use Rattle.lls_arena.proofs.Heads.{inside, link_at, same_length}
use Rattle.lls_arena.proofs.arena.Arena.next.Goals as goal

pub named-requires-clause-within : goal.named-requires-clause-within
named-requires-clause-within c = λ k is.
    let a = c.self.inside in
    let spans = spans_in a.spans.items a.lives.items a.ids.items in
    omega (arith, inside c.args.self.now a.lits.items a.edges.pairs spans k (ap (λ (x : ArenaState). x.heads) c.self.view_is) c.self.invariant.0.watched (c.requires.within k is), same_length a.lits.items a.edges.pairs spans c.self.invariant.0.watched)

pub returns : goal.returns
returns c = λ k is.
    let a = c.self.inside in
    let spans = spans_in a.spans.items a.lives.items a.ids.items in
    let lt : k < length spans = inside c.args.self.now a.lits.items a.edges.pairs spans k (ap (λ (x : ArenaState). x.heads) c.self.view_is) c.self.invariant.0.watched (c.requires.within k is) in
    let e = get_or a.edges.pairs k no_pair in
    let at : e ≡ get_or a.edges.pairs k e = get_or_default a.edges.pairs k no_pair e (omega (arith, lt, same_length a.lits.items a.edges.pairs spans c.self.invariant.0.watched)) in
    rw (← c.self.view_is)
    (link_at a.lits.items a.edges.pairs spans k (side_in c.args.link) e c.named.result c.self.invariant.0.watched lt at (c.named.ensures k is))
