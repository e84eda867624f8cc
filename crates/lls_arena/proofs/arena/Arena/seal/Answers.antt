use Rattle.std.proofs.Common.{◌≡◌, ◌-◌, List, [], ◌∷◌, ◌++◌, drop, true, length, ap, refl, ◌∙◌, arith}
use Rattle.std.specs.Prelude.{ℤ, false}
use Rattle.std.specs.List.{slice_range}
use Rattle.std.proofs.lemmas.List.{drop_all, length_push}
use Rattle.lls_arena.specs.declared.arena.Span.{Span}
use Rattle.lls_arena.specs.Arena.{ArenaState, HeadState, sealed}
use Rattle.lls_arena.specs.Links.{EdgeTableState}
use Rattle.lls_arena.specs.Parts.{SpanState, arena_in, heads_in, span_of, spans_in}
use Rattle.lls_arena.proofs.Heads.{AreAllWatched-push, AreInOrder-push, AreWatched-of, head_at-sealed, heads_in-push, length-heads_in}
use Rattle.lls_arena.proofs.Told.{no_plan}
use Rattle.lls_arena.proofs.Rows.{length-spans_in, spans_in-push}
use Rattle.lls_arena.proofs.arena.Arena.seal.Goals as goal

pub overflow_cast-number : goal.overflow_cast-number
overflow_cast-number c =
    let a = c.self.inside in
    omega (arith, c.len-number.ensures, length-spans_in a.spans.items a.lives.items a.ids.items c.self.invariant.3, c.self.invariant.0.few)

pub push-requires : goal.push-requires
push-requires c = omega (arith, ap (λ (x : ArenaState). x.spare_heads) c.self.view_is, c.requires, c.self.invariant.1.for_edges)

pub invariant_of-self : goal.invariant_of-self
invariant_of-self c =
    let a = c.self.inside in
    let spans = spans_in a.spans.items a.lives.items a.ids.items in
    let place : Span = record { start = a.tail; end = c.len-end.result } in
    let span : SpanState = span_of place true c.args.id in
    let pushed = spans_in-push a.spans.items a.lives.items a.ids.items place true c.args.id c.self.invariant.3 in
    let end : c.len-end.result ≡ length a.lits.items = omega (arith, c.len-end.ensures) in
    let handed : c.piece.result.now ≡ slice_range a.lits.items a.tail c.len-end.result = c.piece.ensures ∙ ap (λ (lits : List ℤ). slice_range lits a.tail c.len-end.result) c.deref.ensures.value in
    let watches = AreWatched-of a.lits.items c.piece.result.now a.tail c.len-end.result c.of.result span handed refl refl end c.of.ensures.first c.of.ensures.second in
    let known = ap (λ (x : ArenaState). length x.heads) c.self.view_is in
    let counted = length-heads_in a.lits.items a.edges.pairs spans c.self.invariant.0.watched in
    let rows = length-spans_in a.spans.items a.lives.items a.ids.items c.self.invariant.3 in
    let more_spans = ap length c.push_reserved.ensures.items in
    let pairs = ap (λ (t : EdgeTableState). t.pairs) c.push.ensures in
    let more_edges = ap length pairs in
    let longer = length_push spans span in
    let span_pushed = length_push a.spans.items place in
    let life_pushed = length_push a.lives.items true in
    let id_pushed = length_push a.ids.items c.args.id in
    let more_lives = ap length c.push_reserved-2.ensures.items in
    let more_ids = ap length c.push_reserved-3.ensures.items in
    let edges_pushed = length_push a.edges.pairs c.of.result in
    let spare = ap (λ (x : ArenaState). x.spare_heads) c.self.view_is in (
      record {
        few = rw (c.push_reserved.ensures.items, c.push_reserved-2.ensures.items, c.push_reserved-3.ensures.items, pushed) (omega (arith, longer, known, counted, rows, spare, c.requires, c.self.invariant.1.few_heads));
        in_order = rw (c.push_reserved.ensures.items, c.push_reserved-2.ensures.items, c.push_reserved-3.ensures.items, pushed) (AreInOrder-push 0 spans a.tail c.len-end.result span c.self.invariant.0.in_order (omega arith) (omega (arith, end, c.self.invariant.0.tail_begins)) (omega arith));
        tail_begins = omega (arith, end);
        watched = rw (pairs, c.push_reserved.ensures.items, c.push_reserved-2.ensures.items, c.push_reserved-3.ensures.items, pushed) (AreAllWatched-push a.lits.items a.edges.pairs spans c.of.result span c.self.invariant.0.watched watches);
      },
      record {
        for_edges = omega (arith, more_edges, edges_pushed, spare, c.requires, ap (λ (t : EdgeTableState). t.room) c.push.ensures, c.self.invariant.1.for_edges);
        for_spans = omega (arith, more_spans, span_pushed, spare, c.requires, c.push_reserved.ensures.capacity, c.self.invariant.1.for_spans);
        for_lives = omega (arith, more_spans, span_pushed, spare, c.requires, c.push_reserved-2.ensures.capacity, c.self.invariant.1.for_lives);
        for_ids = omega (arith, more_spans, span_pushed, spare, c.requires, c.push_reserved-3.ensures.capacity, c.self.invariant.1.for_ids);
        for_lits = c.self.invariant.1.for_lits;
        few_heads = omega (arith, more_spans, span_pushed, spare, c.requires, c.self.invariant.1.few_heads);
        few_lits = c.self.invariant.1.few_lits;
      },
      no_plan _,
      record {
        lives_each = omega (arith, more_lives, life_pushed, more_spans, span_pushed, c.self.invariant.3.lives_each);
        ids_each = omega (arith, more_ids, id_pushed, more_spans, span_pushed, c.self.invariant.3.ids_each);
      },
    )

pub returns-clause-number : goal.returns-clause-number
returns-clause-number c =
    let a = c.self.inside in
    let spans = spans_in a.spans.items a.lives.items a.ids.items in
    omega (arith, c.len-number.ensures, length-heads_in a.lits.items a.edges.pairs spans c.self.invariant.0.watched, length-spans_in a.spans.items a.lives.items a.ids.items c.self.invariant.3, ap (λ (x : ArenaState). length x.heads) c.self.view_is)

pub returns-clause-state : goal.returns-clause-state
returns-clause-state c =
    let a = c.self.inside in
    let spans = spans_in a.spans.items a.lives.items a.ids.items in
    let place : Span = record { start = a.tail; end = c.len-end.result } in
    let span : SpanState = span_of place true c.args.id in
    let pushed = spans_in-push a.spans.items a.lives.items a.ids.items place true c.args.id c.self.invariant.3 in
    let end : c.len-end.result ≡ length a.lits.items = omega (arith, c.len-end.ensures) in
    rw (← c.self.view_is, ap (λ (t : EdgeTableState). t.pairs) c.push.ensures, c.push_reserved.ensures.items, c.push_reserved-2.ensures.items, c.push_reserved-3.ensures.items, pushed)
    (ap (λ (heads : List HeadState). record { heads = heads; tail = drop c.len-end.result a.lits.items; spare_heads = a.spare_heads - 1; spare_lits = a.spare_lits; planned = false })
    (heads_in-push a.lits.items a.edges.pairs spans c.of.result span c.self.invariant.0.watched
    ∙ ap (λ (head : HeadState). heads_in a.lits.items a.edges.pairs spans ++ head ∷ []) (head_at-sealed a.lits.items a.tail c.len-end.result c.of.result span refl refl end c.of.ensures.first_link c.of.ensures.second_link))
    ∙ ap (λ (tail : List ℤ). record (sealed (arena_in a.edges.pairs spans a.lits.items a.tail a.spare_heads a.spare_lits a.planned) c.args.id) { tail = tail }) (drop_all c.len-end.result a.lits.items (omega (arith, end))))
