use Rattle.std.proofs.Common.{◌<◌, get_or, length, ap, arith}
use Rattle.std.proofs.lemmas.List.{get_or_default}
use Rattle.lls_arena.specs.Arena.{ArenaState, HeadState}
use Rattle.lls_arena.specs.Parts.{spans_in}
use Rattle.lls_arena.proofs.Heads.{inside, no_span, read_span}
use Rattle.lls_arena.proofs.Rows.{id_at_row, length-spans_in}
use Rattle.lls_arena.proofs.arena.Arena.id.Goals as goal

pub index-requires : goal.index-requires
index-requires c =
    let a = c.self.inside in
    let spans = spans_in a.spans.items a.lives.items a.ids.items in
    let lt : c.args.c < length spans = inside c.args.self.now a.lits.items a.edges.pairs spans c.args.c (ap (λ (x : ArenaState). x.heads) c.self.view_is) c.self.invariant.0.watched c.requires in
    omega (arith, lt, length-spans_in a.spans.items a.lives.items a.ids.items c.self.invariant.3, c.self.invariant.3.ids_each)

pub returns : goal.returns
returns c =
    let a = c.self.inside in
    let spans = spans_in a.spans.items a.lives.items a.ids.items in
    let lt : c.args.c < length spans = inside c.args.self.now a.lits.items a.edges.pairs spans c.args.c (ap (λ (x : ArenaState). x.heads) c.self.view_is) c.self.invariant.0.watched c.requires in
    let s = get_or spans c.args.c no_span in
    rw (← c.self.view_is) (read_span (λ (head : HeadState). head.id) c.index.result.now a.lits.items a.edges.pairs spans c.args.c s c.self.invariant.0.watched lt (get_or_default spans c.args.c no_span s lt) (λ e. id_at_row a.spans.items a.lives.items a.ids.items c.args.c no_span c.index.result.now lt c.index.ensures))
