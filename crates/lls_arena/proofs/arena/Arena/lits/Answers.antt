use Rattle.std.proofs.Common.{◌<◌, length, refl, ap, arith}
use Rattle.lls_arena.specs.Arena.{ArenaState, HeadState}
use Rattle.lls_arena.specs.Parts.{spans_in}
use Rattle.lls_arena.proofs.Heads.{inside, read_span, span_at}
use Rattle.lls_arena.proofs.Rows.{length-spans_in, row_with_span, with_span}
use Rattle.lls_arena.proofs.arena.Arena.lits.Goals as goal

pub index-span-requires : goal.index-span-requires
index-span-requires c =
    let a = c.self.inside in
    let spans = spans_in a.spans.items a.lives.items a.ids.items in
    let lt : c.args.c < length spans = inside c.args.self.now a.lits.items a.edges.pairs spans c.args.c (ap (λ (x : ArenaState). x.heads) c.self.view_is) c.self.invariant.0.watched c.requires in
    omega (arith, lt, length-spans_in a.spans.items a.lives.items a.ids.items c.self.invariant.3)

pub piece-requires-clause-straight : goal.piece-requires-clause-straight
piece-requires-clause-straight c =
    let a = c.self.inside in
    let spans = spans_in a.spans.items a.lives.items a.ids.items in
    let lt : c.args.c < length spans = inside c.args.self.now a.lits.items a.edges.pairs spans c.args.c (ap (λ (x : ArenaState). x.heads) c.self.view_is) c.self.invariant.0.watched c.requires in
    let s = with_span a.lives.items a.ids.items c.args.c c.index-span.result.now in
    let at_span = row_with_span a.spans.items a.lives.items a.ids.items c.args.c c.index-span.result.now lt c.index-span.ensures in
    (span_at spans a.tail c.args.c s c.self.invariant.0.in_order lt at_span).in_order

pub piece-requires-clause-within : goal.piece-requires-clause-within
piece-requires-clause-within c =
    let a = c.self.inside in
    let spans = spans_in a.spans.items a.lives.items a.ids.items in
    let lt : c.args.c < length spans = inside c.args.self.now a.lits.items a.edges.pairs spans c.args.c (ap (λ (x : ArenaState). x.heads) c.self.view_is) c.self.invariant.0.watched c.requires in
    let s = with_span a.lives.items a.ids.items c.args.c c.index-span.result.now in
    let at_span = row_with_span a.spans.items a.lives.items a.ids.items c.args.c c.index-span.result.now lt c.index-span.ensures in
    let at = span_at spans a.tail c.args.c s c.self.invariant.0.in_order lt at_span in
    rw c.deref.ensures.value (omega (arith, at.ends, c.self.invariant.0.tail_begins))

pub returns : goal.returns
returns c =
    let a = c.self.inside in
    let spans = spans_in a.spans.items a.lives.items a.ids.items in
    let lt : c.args.c < length spans = inside c.args.self.now a.lits.items a.edges.pairs spans c.args.c (ap (λ (x : ArenaState). x.heads) c.self.view_is) c.self.invariant.0.watched c.requires in
    let s = with_span a.lives.items a.ids.items c.args.c c.index-span.result.now in
    let at_span = row_with_span a.spans.items a.lives.items a.ids.items c.args.c c.index-span.result.now lt c.index-span.ensures in
    rw (← c.self.view_is, c.piece.ensures, c.deref.ensures.value)
    (read_span (λ (head : HeadState). head.lits) _ a.lits.items a.edges.pairs spans c.args.c s c.self.invariant.0.watched lt at_span (λ e. refl))
