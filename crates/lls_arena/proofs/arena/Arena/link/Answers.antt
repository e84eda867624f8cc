use Rattle.std.proofs.Common.{◌≡◌, ◌<◌, length, get_or, ap, arith}
use Rattle.std.proofs.lemmas.List.{get_or_default}
use Rattle.lls_arena.specs.Links.{no_pair}
use Rattle.lls_arena.specs.Arena.{ArenaState}
use Rattle.lls_arena.specs.Parts.{spans_in}
use Rattle.lls_arena.proofs.Heads.{inside, link_at, same_length}
use Rattle.lls_arena.proofs.arena.Arena.link.Goals as goal

pub edge-requires-clause-within : goal.edge-requires-clause-within
edge-requires-clause-within c =
    let a = c.self.inside in
    let spans = spans_in a.spans.items a.lives.items a.ids.items in
    let lt : c.args.c < length spans = inside c.args.self.now a.lits.items a.edges.pairs spans c.args.c (ap (λ (x : ArenaState). x.heads) c.self.view_is) c.self.invariant.0.watched c.requires in
    omega (arith, lt, same_length a.lits.items a.edges.pairs spans c.self.invariant.0.watched)

pub edge-requires-clause-few : goal.edge-requires-clause-few
edge-requires-clause-few c =
    let a = c.self.inside in
    let spans = spans_in a.spans.items a.lives.items a.ids.items in
    omega (arith, inside c.args.self.now a.lits.items a.edges.pairs spans c.args.c (ap (λ (x : ArenaState). x.heads) c.self.view_is) c.self.invariant.0.watched c.requires, c.self.invariant.0.few)

pub returns : goal.returns
returns c =
    let a = c.self.inside in
    let spans = spans_in a.spans.items a.lives.items a.ids.items in
    let lt : c.args.c < length spans = inside c.args.self.now a.lits.items a.edges.pairs spans c.args.c (ap (λ (x : ArenaState). x.heads) c.self.view_is) c.self.invariant.0.watched c.requires in
    let e = get_or a.edges.pairs c.args.c no_pair in
    let at : e ≡ get_or a.edges.pairs c.args.c e = get_or_default a.edges.pairs c.args.c no_pair e (omega (arith, lt, same_length a.lits.items a.edges.pairs spans c.self.invariant.0.watched)) in
    rw (← c.self.view_is)
    (link_at a.lits.items a.edges.pairs spans c.args.c c.args.w e c.edge.result c.self.invariant.0.watched lt at c.edge.ensures)
