use Rattle.std.proofs.Common.{◌≡◌, ◌+◌, ◌<◌, drop, length, ap, ◌∙◌, sym, subst, arith, get_or}
use Rattle.std.specs.Prelude.{pos}
use Rattle.std.specs.List.{SwappedAt}
use Rattle.std.proofs.lemmas.List.{get_or_default, length-set}
use Rattle.lls_arena.specs.Arena.{ArenaState, place_of, swapped}
use Rattle.lls_arena.specs.declared.edges.Edges.{Edges}
use Rattle.lls_arena.specs.Links.{EdgeTableState, no_pair, with_lit}
use Rattle.lls_arena.specs.Parts.{AreWatched, DifferWithin, head_at, spans_in}
use Rattle.lls_arena.proofs.Heads.{literal_inside, literal_read, live_inside, same_arena, same_length, span_at, watched_at}
use Rattle.lls_arena.proofs.Pieces.{AreAllWatched-changed, AreWatched-swapped, DifferWithin-swapped, drop-outside, head_at-swapped, heads_in-changed, slice_range-swapped, with_lit_links}
use Rattle.lls_arena.proofs.Told.{SayWhereTo-set}
use Rattle.lls_arena.proofs.Rows.{length-spans_in, row_with_span, with_span}
use Rattle.lls_arena.proofs.arena.Arena.swap.Goals as goal

pub index-requires : goal.index-requires
index-requires c =
    let a = c.self.inside in
    let spans = spans_in a.spans.items a.lives.items a.ids.items in
    let lt : c.args.c < length spans = live_inside c.args.self.now a.lits.items a.edges.pairs spans c.args.c (ap (λ (x : ArenaState). x.heads) c.self.view_is) c.self.invariant.0.watched c.requires.live in
    omega (arith, lt, length-spans_in a.spans.items a.lives.items a.ids.items c.self.invariant.3)

pub overflow_add-here : goal.overflow_add-here
overflow_add-here c =
    let a = c.self.inside in
    let spans = spans_in a.spans.items a.lives.items a.ids.items in
    let parts = c.self.invariant.0 in
    let view = ap (λ (x : ArenaState). x.heads) c.self.view_is in
    let s = with_span a.lives.items a.ids.items c.args.c c.index.result.now in
    let lt : c.args.c < length spans = live_inside c.args.self.now a.lits.items a.edges.pairs spans c.args.c view parts.watched c.requires.live in
    let at_span = row_with_span a.spans.items a.lives.items a.ids.items c.args.c c.index.result.now lt c.index.ensures in
    let at = span_at spans a.tail c.args.c s parts.in_order lt at_span in
    let first : s.start + place_of c.args.w < s.end = literal_inside c.args.self.now a.lits.items a.edges.pairs spans c.args.c (place_of c.args.w) s view parts.watched lt at_span c.requires.first in
    omega (arith, first, at.ends, parts.tail_begins, c.place.ensures)

pub overflow_add-there : goal.overflow_add-there
overflow_add-there c =
    let a = c.self.inside in
    let spans = spans_in a.spans.items a.lives.items a.ids.items in
    let parts = c.self.invariant.0 in
    let view = ap (λ (x : ArenaState). x.heads) c.self.view_is in
    let s = with_span a.lives.items a.ids.items c.args.c c.index.result.now in
    let lt : c.args.c < length spans = live_inside c.args.self.now a.lits.items a.edges.pairs spans c.args.c view parts.watched c.requires.live in
    let at_span = row_with_span a.spans.items a.lives.items a.ids.items c.args.c c.index.result.now lt c.index.ensures in
    let at = span_at spans a.tail c.args.c s parts.in_order lt at_span in
    let second : s.start + c.args.n < s.end = literal_inside c.args.self.now a.lits.items a.edges.pairs spans c.args.c c.args.n s view parts.watched lt at_span c.requires.second in
    omega (arith, second, at.ends, parts.tail_begins)

pub swap-requires-clause-i_in_bounds : goal.swap-requires-clause-i_in_bounds
swap-requires-clause-i_in_bounds c =
    let a = c.self.inside in
    let spans = spans_in a.spans.items a.lives.items a.ids.items in
    let parts = c.self.invariant.0 in
    let view = ap (λ (x : ArenaState). x.heads) c.self.view_is in
    let s = with_span a.lives.items a.ids.items c.args.c c.index.result.now in
    let lt : c.args.c < length spans = live_inside c.args.self.now a.lits.items a.edges.pairs spans c.args.c view parts.watched c.requires.live in
    let at_span = row_with_span a.spans.items a.lives.items a.ids.items c.args.c c.index.result.now lt c.index.ensures in
    let at = span_at spans a.tail c.args.c s parts.in_order lt at_span in
    let first : s.start + place_of c.args.w < s.end = literal_inside c.args.self.now a.lits.items a.edges.pairs spans c.args.c (place_of c.args.w) s view parts.watched lt at_span c.requires.first in
    omega (arith, first, at.ends, parts.tail_begins, c.place.ensures)

pub swap-requires-clause-j_in_bounds : goal.swap-requires-clause-j_in_bounds
swap-requires-clause-j_in_bounds c =
    let a = c.self.inside in
    let spans = spans_in a.spans.items a.lives.items a.ids.items in
    let parts = c.self.invariant.0 in
    let view = ap (λ (x : ArenaState). x.heads) c.self.view_is in
    let s = with_span a.lives.items a.ids.items c.args.c c.index.result.now in
    let lt : c.args.c < length spans = live_inside c.args.self.now a.lits.items a.edges.pairs spans c.args.c view parts.watched c.requires.live in
    let at_span = row_with_span a.spans.items a.lives.items a.ids.items c.args.c c.index.result.now lt c.index.ensures in
    let at = span_at spans a.tail c.args.c s parts.in_order lt at_span in
    let second : s.start + c.args.n < s.end = literal_inside c.args.self.now a.lits.items a.edges.pairs spans c.args.c c.args.n s view parts.watched lt at_span c.requires.second in
    omega (arith, second, at.ends, parts.tail_begins)

pub index-lit-requires : goal.index-lit-requires
index-lit-requires c =
    let a = c.self.inside in
    let spans = spans_in a.spans.items a.lives.items a.ids.items in
    let parts = c.self.invariant.0 in
    let view = ap (λ (x : ArenaState). x.heads) c.self.view_is in
    let s = with_span a.lives.items a.ids.items c.args.c c.index.result.now in
    let lt : c.args.c < length spans = live_inside c.args.self.now a.lits.items a.edges.pairs spans c.args.c view parts.watched c.requires.live in
    let at_span = row_with_span a.spans.items a.lives.items a.ids.items c.args.c c.index.result.now lt c.index.ensures in
    let at = span_at spans a.tail c.args.c s parts.in_order lt at_span in
    let second : s.start + c.args.n < s.end = literal_inside c.args.self.now a.lits.items a.edges.pairs spans c.args.c c.args.n s view parts.watched lt at_span c.requires.second in
    omega (arith, second, at.ends, parts.tail_begins)

pub watch-requires-clause-within : goal.watch-requires-clause-within
watch-requires-clause-within c =
    let a = c.self.inside in
    let spans = spans_in a.spans.items a.lives.items a.ids.items in
    let parts = c.self.invariant.0 in
    let view = ap (λ (x : ArenaState). x.heads) c.self.view_is in
    let s = with_span a.lives.items a.ids.items c.args.c c.index.result.now in
    let lt : c.args.c < length spans = live_inside c.args.self.now a.lits.items a.edges.pairs spans c.args.c view parts.watched c.requires.live in
    let at_span = row_with_span a.spans.items a.lives.items a.ids.items c.args.c c.index.result.now lt c.index.ensures in
    let at = span_at spans a.tail c.args.c s parts.in_order lt at_span in
    omega (arith, lt, same_length a.lits.items a.edges.pairs spans parts.watched)

pub watch-requires-clause-few : goal.watch-requires-clause-few
watch-requires-clause-few c =
    let a = c.self.inside in
    let spans = spans_in a.spans.items a.lives.items a.ids.items in
    omega (arith, live_inside c.args.self.now a.lits.items a.edges.pairs spans c.args.c (ap (λ (x : ArenaState). x.heads) c.self.view_is) c.self.invariant.0.watched c.requires.live, c.self.invariant.0.few)

pub invariant_of-self : goal.invariant_of-self
invariant_of-self c =
    let a = c.self.inside in
    let spans = spans_in a.spans.items a.lives.items a.ids.items in
    let parts = c.self.invariant.0 in
    let view = ap (λ (x : ArenaState). x.heads) c.self.view_is in
    let s = with_span a.lives.items a.ids.items c.args.c c.index.result.now in
    let lt : c.args.c < length spans = live_inside c.args.self.now a.lits.items a.edges.pairs spans c.args.c view parts.watched c.requires.live in
    let at_span = row_with_span a.spans.items a.lives.items a.ids.items c.args.c c.index.result.now lt c.index.ensures in
    let at = span_at spans a.tail c.args.c s parts.in_order lt at_span in
    let first : s.start + place_of c.args.w < s.end = literal_inside c.args.self.now a.lits.items a.edges.pairs spans c.args.c (place_of c.args.w) s view parts.watched lt at_span c.requires.first in
    let second : s.start + c.args.n < s.end = literal_inside c.args.self.now a.lits.items a.edges.pairs spans c.args.c c.args.n s view parts.watched lt at_span c.requires.second in
    let lits = c.swap.new.self.items in
    let e = get_or a.edges.pairs c.args.c no_pair in
    let at_edges : e ≡ get_or a.edges.pairs c.args.c e = get_or_default a.edges.pairs c.args.c no_pair e (omega (arith, lt, same_length a.lits.items a.edges.pairs spans parts.watched)) in
    let new = with_lit c.args.w c.index-lit.result.now e in
    let pairs = ap (λ (t : EdgeTableState). t.pairs) c.watch.ensures in
    let room = ap (λ (t : EdgeTableState). t.room) c.watch.ensures in
    let same : length lits ≡ length a.lits.items = omega (arith, c.swap.ensures.len) in
    let swaps : SwappedAt a.lits.items lits (s.start + place_of c.args.w) (s.start + c.args.n) = subst (λ p. SwappedAt a.lits.items lits (s.start + p) (s.start + c.args.n)) c.place.ensures c.swap.ensures.by_index in
    let differ : DifferWithin a.lits.items lits s.start s.end = DifferWithin-swapped a.lits.items lits s.start s.end (place_of c.args.w) c.args.n swaps same first second in
    let known : c.args.c < length a.edges.pairs = omega (arith, lt, same_length a.lits.items a.edges.pairs spans parts.watched) in
    let read : c.index-lit.result.now ≡ get_or a.lits.items (s.start + c.args.n) (pos 0) =
    sym (get_or_default a.lits.items (s.start + c.args.n) (pos 0) c.index-lit.result.now (omega (arith, second, at.ends, parts.tail_begins)) ∙ sym c.index-lit.ensures) in
    let came : c.index-lit.result.now ≡ get_or lits (s.start + place_of c.args.w) (pos 0) = read ∙ sym (swaps.0 (pos 0)) in
    let was : AreWatched a.lits.items e s = subst (λ (x : Edges). AreWatched a.lits.items x s) (sym at_edges) (subst (AreWatched a.lits.items (get_or a.edges.pairs c.args.c e)) (sym at_span) (watched_at a.lits.items a.edges.pairs spans c.args.c e s parts.watched lt)) in
    let watches : AreWatched lits new s = (AreWatched-swapped a.lits.items lits e s c.args.w c.args.n c.index-lit.result.now swaps c.requires.beside came was) in
    let links : new.first.next ≡ e.first.next = (with_lit_links c.args.w c.index-lit.result.now e).0 in (
      record {
        few = parts.few;
        in_order = parts.in_order;
        tail_begins = omega (arith, same, parts.tail_begins);
        watched = rw pairs (AreAllWatched-changed a.lits.items lits (λ head. head) e new s a.tail differ parts.tail_begins a.edges.pairs spans 0 c.args.c watches parts.in_order parts.watched lt at_span);
      },
      record {
        for_edges = omega (arith, ap length pairs, room, length-set a.edges.pairs c.args.c new, c.self.invariant.1.for_edges);
        for_spans = c.self.invariant.1.for_spans;
        for_lives = c.self.invariant.1.for_lives;
        for_ids = c.self.invariant.1.for_ids;
        for_lits = omega (arith, same, c.swap.ensures.capacity, c.self.invariant.1.for_lits);
        few_heads = c.self.invariant.1.few_heads;
        few_lits = omega (arith, same, c.self.invariant.1.few_lits);
      },
      λ planned. rw pairs (SayWhereTo-set a.edges.pairs a.lives.items c.args.c e new known at_edges links (c.self.invariant.2 planned)),
      c.self.invariant.3,
    )

pub returns-clause-state : goal.returns-clause-state
returns-clause-state c =
    let a = c.self.inside in
    let spans = spans_in a.spans.items a.lives.items a.ids.items in
    let parts = c.self.invariant.0 in
    let view = ap (λ (x : ArenaState). x.heads) c.self.view_is in
    let s = with_span a.lives.items a.ids.items c.args.c c.index.result.now in
    let lt : c.args.c < length spans = live_inside c.args.self.now a.lits.items a.edges.pairs spans c.args.c view parts.watched c.requires.live in
    let at_span = row_with_span a.spans.items a.lives.items a.ids.items c.args.c c.index.result.now lt c.index.ensures in
    let at = span_at spans a.tail c.args.c s parts.in_order lt at_span in
    let first : s.start + place_of c.args.w < s.end = literal_inside c.args.self.now a.lits.items a.edges.pairs spans c.args.c (place_of c.args.w) s view parts.watched lt at_span c.requires.first in
    let second : s.start + c.args.n < s.end = literal_inside c.args.self.now a.lits.items a.edges.pairs spans c.args.c c.args.n s view parts.watched lt at_span c.requires.second in
    let lits = c.swap.new.self.items in
    let e = get_or a.edges.pairs c.args.c no_pair in
    let at_edges : e ≡ get_or a.edges.pairs c.args.c e = get_or_default a.edges.pairs c.args.c no_pair e (omega (arith, lt, same_length a.lits.items a.edges.pairs spans parts.watched)) in
    let new = with_lit c.args.w c.index-lit.result.now e in
    let pairs = ap (λ (t : EdgeTableState). t.pairs) c.watch.ensures in
    let room = ap (λ (t : EdgeTableState). t.room) c.watch.ensures in
    let same : length lits ≡ length a.lits.items = omega (arith, c.swap.ensures.len) in
    let swaps : SwappedAt a.lits.items lits (s.start + place_of c.args.w) (s.start + c.args.n) = subst (λ p. SwappedAt a.lits.items lits (s.start + p) (s.start + c.args.n)) c.place.ensures c.swap.ensures.by_index in
    let differ : DifferWithin a.lits.items lits s.start s.end = DifferWithin-swapped a.lits.items lits s.start s.end (place_of c.args.w) c.args.n swaps same first second in
    let piece = slice_range-swapped a.lits.items lits s.start s.end (place_of c.args.w) c.args.n swaps first second (omega (arith, at.ends, parts.tail_begins)) in
    let links = with_lit_links c.args.w c.index-lit.result.now e in
    let says : head_at lits new s ≡ swapped (place_of c.args.w) c.args.n (head_at a.lits.items e s) =
    head_at-swapped a.lits.items lits e new s (place_of c.args.w) c.args.n piece links.0 links.1 in
    let tails : drop a.tail lits ≡ drop a.tail a.lits.items = drop-outside a.lits.items lits s.start s.end a.tail differ at.ends in
    rw (← c.self.view_is, pairs)
    (same_arena _ _ _ _ a.spare_heads a.spare_lits a.planned (heads_in-changed a.lits.items lits (swapped (place_of c.args.w) c.args.n) e new s a.tail differ parts.tail_begins a.edges.pairs spans 0 c.args.c says parts.in_order parts.watched lt at_edges at_span) tails)

pub returns-clause-came : goal.returns-clause-came
returns-clause-came c =
    let a = c.self.inside in
    let spans = spans_in a.spans.items a.lives.items a.ids.items in
    let parts = c.self.invariant.0 in
    let view = ap (λ (x : ArenaState). x.heads) c.self.view_is in
    let s = with_span a.lives.items a.ids.items c.args.c c.index.result.now in
    let lt : c.args.c < length spans = live_inside c.args.self.now a.lits.items a.edges.pairs spans c.args.c view parts.watched c.requires.live in
    let at_span = row_with_span a.spans.items a.lives.items a.ids.items c.args.c c.index.result.now lt c.index.ensures in
    let at = span_at spans a.tail c.args.c s parts.in_order lt at_span in
    let second : s.start + c.args.n < s.end = literal_inside c.args.self.now a.lits.items a.edges.pairs spans c.args.c c.args.n s view parts.watched lt at_span c.requires.second in
    let read : c.index-lit.result.now ≡ get_or a.lits.items (s.start + c.args.n) (pos 0) =
    sym (get_or_default a.lits.items (s.start + c.args.n) (pos 0) c.index-lit.result.now (omega (arith, second, at.ends, parts.tail_begins)) ∙ sym c.index-lit.ensures) in
    literal_read c.args.self.now a.lits.items a.edges.pairs spans c.args.c c.args.n s c.index-lit.result.now view parts.watched lt at_span second (omega (arith, at.ends, parts.tail_begins)) read
