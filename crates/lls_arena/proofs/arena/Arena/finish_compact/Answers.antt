use Rattle.std.proofs.Common.{◌≡◌, ◌≤◌, [], false, take, drop, length, ap, sym, subst, ◌∙◌, arith}
use Rattle.std.proofs.lemmas.List.{drop_all, length-drop, length-take, take-take, with_items_is}
use Rattle.lls_arena.specs.Arena.{ArenaState}
use Rattle.lls_arena.specs.Parts.{AreInOrder, AreSlid, HaveRows, heads_in, spans_in}
use Rattle.lls_arena.proofs.Buffer.{AreAllWatched-same, heads_in-same}
use Rattle.lls_arena.specs.Links.{EdgeTableState}
use Rattle.lls_arena.proofs.Heads.{same_arena, same_length}
use Rattle.lls_arena.proofs.Told.{no_plan}
use Rattle.lls_arena.proofs.Rows.{length-spans_in, spans_in-take}
use Rattle.lls_arena.proofs.arena.Arena.finish_compact.Goals as goal

pub slide_live-kept-requires-clause-in_order : goal.slide_live-kept-requires-clause-in_order
slide_live-kept-requires-clause-in_order c =
    let a = c.self.inside in
    let none : length (drop a.tail a.lits.items) ≡ 0 = ap (λ (x : ArenaState). length x.tail) c.self.view_is ∙ ap length c.requires.tail in
    let whole : a.tail ≡ length a.lits.items = omega (arith, none, length-drop a.tail a.lits.items, c.self.invariant.0.tail_begins) in
    rw (c.deref_mut.ensures.value, c.deref_mut-2.ensures.value, c.deref_mut-3.ensures.value, c.deref_mut-4.ensures.value) (subst (AreInOrder 0 (spans_in a.spans.items a.lives.items a.ids.items)) whole c.self.invariant.0.in_order)

pub truncate-requires : goal.truncate-requires
truncate-requires c =
    let a = c.self.inside in
    let spans = spans_in a.spans.items a.lives.items a.ids.items in
    let slid = c.slide_live-kept.ensures.slid in
    let places : length c.slide_live-kept.new.spans ≡ length a.spans.items = omega (arith, c.slide_live-kept.auto.spans, ap length c.deref_mut.ensures.value) in
    let lives : length c.slide_live-kept.new.lives ≡ length a.lives.items = omega (arith, c.slide_live-kept.auto.lives, ap length c.deref_mut-2.ensures.value) in
    let ids : length c.slide_live-kept.new.ids ≡ length a.ids.items = omega (arith, c.slide_live-kept.auto.ids, ap length c.deref_mut-3.ensures.value) in
    let rows : HaveRows c.slide_live-kept.new.spans c.slide_live-kept.new.lives c.slide_live-kept.new.ids = record { lives_each = omega (arith, places, lives, c.self.invariant.3.lives_each); ids_each = omega (arith, places, ids, c.self.invariant.3.ids_each) } in
    omega (arith, slid.fewer, length-spans_in c.slide_live-kept.new.spans c.slide_live-kept.new.lives c.slide_live-kept.new.ids rows, places, length-spans_in a.spans.items a.lives.items a.ids.items c.self.invariant.3, same_length a.lits.items a.edges.pairs spans c.self.invariant.0.watched, c.slide_live-kept.ensures.edges)

pub invariant_of-self : goal.invariant_of-self
invariant_of-self c =
    let a = c.self.inside in
    let parts = c.self.invariant.0 in
    let kept = c.slide_live-kept.result.0 in
    let end = c.slide_live-kept.result.1 in
    let edges = c.slide_live-kept.new.edges.pairs in
    let places = c.slide_live-kept.new.spans in
    let lives = c.slide_live-kept.new.lives in
    let ids = c.slide_live-kept.new.ids in
    let spans = spans_in places lives ids in
    let lits = c.slide_live-kept.new.lits in
    let slid : AreSlid (heads_in a.lits.items a.edges.pairs (spans_in a.spans.items a.lives.items a.ids.items)) edges spans lits kept end = rw (c.deref_mut.ensures.value, c.deref_mut-2.ensures.value, c.deref_mut-3.ensures.value, c.deref_mut-4.ensures.value) at c.slide_live-kept.ensures.slid in
    let new_edges : c.truncate.new.self.pairs ≡ take kept edges = ap (λ (t : EdgeTableState). t.pairs) c.truncate.ensures in
    let new_places : c.truncate-2.new.self.items ≡ take kept places = c.truncate-2.ensures.items ∙ ap (take kept) (with_items_is a.spans places (c.slide_live-kept.auto.spans ∙ c.deref_mut.ensures.len)) in
    let new_lives : c.truncate-3.new.self.items ≡ take kept lives = c.truncate-3.ensures.items ∙ ap (take kept) (with_items_is a.lives lives (c.slide_live-kept.auto.lives ∙ c.deref_mut-2.ensures.len)) in
    let new_ids : c.truncate-4.new.self.items ≡ take kept ids = c.truncate-4.ensures.items ∙ ap (take kept) (with_items_is a.ids ids (c.slide_live-kept.auto.ids ∙ c.deref_mut-3.ensures.len)) in
    let new_spans = spans_in-take places lives ids kept in
    let new_lits : c.truncate-5.new.self.items ≡ take end lits = c.truncate-5.ensures.items ∙ ap (take end) (with_items_is a.lits lits (c.slide_live-kept.auto.lits ∙ c.deref_mut-4.ensures.len)) in
    let front : take end lits ≡ take end (take end lits) = sym (take-take end end lits (omega arith)) in
    let fewer = length-take kept places in
    let fewer_lives = length-take kept lives in
    let fewer_ids = length-take kept ids in
    let fewer_edges = length-take kept edges in
    let shorter = length-take end lits in
    let counted = ap length new_places in
    let counted_lives = ap length new_lives in
    let counted_ids = ap length new_ids in
    let counted_edges = ap length new_edges in
    let counted_lits = ap length new_lits in
    let old_places : length places ≡ length a.spans.items = omega (arith, c.slide_live-kept.auto.spans, ap length c.deref_mut.ensures.value) in
    let old_lives : length lives ≡ length a.lives.items = omega (arith, c.slide_live-kept.auto.lives, ap length c.deref_mut-2.ensures.value) in
    let old_ids : length ids ≡ length a.ids.items = omega (arith, c.slide_live-kept.auto.ids, ap length c.deref_mut-3.ensures.value) in
    let rows : HaveRows places lives ids = record { lives_each = omega (arith, old_places, old_lives, c.self.invariant.3.lives_each); ids_each = omega (arith, old_places, old_ids, c.self.invariant.3.ids_each) } in
    let old_spans = length-spans_in a.spans.items a.lives.items a.ids.items c.self.invariant.3 in
    let same_spans = length-spans_in places lives ids rows in
    let old_edges : length edges ≤ length a.edges.pairs = omega (arith, c.slide_live-kept.ensures.edges) in
    let old_lits : length lits ≤ length a.lits.items = omega (arith, c.slide_live-kept.auto.lits, ap length c.deref_mut-4.ensures.value) in (
      record {
        few = rw (new_places, new_lives, new_ids, new_spans) (omega (arith, length-take kept spans, old_spans, same_spans, old_places, parts.few));
        in_order = rw (new_places, new_lives, new_ids, new_spans) slid.in_order;
        tail_begins = omega (arith, counted_lits, shorter, slid.shorter);
        watched = rw (new_edges, new_places, new_lives, new_ids, new_spans, new_lits) (AreAllWatched-same lits (take end lits) (take kept edges) (take kept spans) 0 end front slid.in_order slid.watched);
      },
      record {
        for_edges = omega (arith, counted_edges, fewer_edges, old_edges, ap (λ (t : EdgeTableState). t.room) c.truncate.ensures, c.slide_live-kept.ensures.room, c.self.invariant.1.for_edges);
        for_spans = omega (arith, counted, fewer, old_places, c.truncate-2.ensures.capacity, c.self.invariant.1.for_spans);
        for_lives = omega (arith, counted, fewer, old_places, c.truncate-3.ensures.capacity, c.self.invariant.1.for_lives);
        for_ids = omega (arith, counted, fewer, old_places, c.truncate-4.ensures.capacity, c.self.invariant.1.for_ids);
        for_lits = omega (arith, counted_lits, shorter, old_lits, c.truncate-5.ensures.capacity, c.self.invariant.1.for_lits);
        few_heads = omega (arith, counted, fewer, old_places, c.self.invariant.1.few_heads);
        few_lits = omega (arith, counted_lits, shorter, old_lits, c.self.invariant.1.few_lits);
      },
      no_plan _,
      record {
        lives_each = omega (arith, counted, counted_lives, fewer, fewer_lives, rows.lives_each);
        ids_each = omega (arith, counted, counted_ids, fewer, fewer_ids, rows.ids_each);
      },
    )

pub returns : goal.returns
returns c =
    let a = c.self.inside in
    let parts = c.self.invariant.0 in
    let kept = c.slide_live-kept.result.0 in
    let end = c.slide_live-kept.result.1 in
    let edges = c.slide_live-kept.new.edges.pairs in
    let places = c.slide_live-kept.new.spans in
    let lives = c.slide_live-kept.new.lives in
    let ids = c.slide_live-kept.new.ids in
    let spans = spans_in places lives ids in
    let lits = c.slide_live-kept.new.lits in
    let slid : AreSlid (heads_in a.lits.items a.edges.pairs (spans_in a.spans.items a.lives.items a.ids.items)) edges spans lits kept end = rw (c.deref_mut.ensures.value, c.deref_mut-2.ensures.value, c.deref_mut-3.ensures.value, c.deref_mut-4.ensures.value) at c.slide_live-kept.ensures.slid in
    let new_edges : c.truncate.new.self.pairs ≡ take kept edges = ap (λ (t : EdgeTableState). t.pairs) c.truncate.ensures in
    let new_places : c.truncate-2.new.self.items ≡ take kept places = c.truncate-2.ensures.items ∙ ap (take kept) (with_items_is a.spans places (c.slide_live-kept.auto.spans ∙ c.deref_mut.ensures.len)) in
    let new_lives : c.truncate-3.new.self.items ≡ take kept lives = c.truncate-3.ensures.items ∙ ap (take kept) (with_items_is a.lives lives (c.slide_live-kept.auto.lives ∙ c.deref_mut-2.ensures.len)) in
    let new_ids : c.truncate-4.new.self.items ≡ take kept ids = c.truncate-4.ensures.items ∙ ap (take kept) (with_items_is a.ids ids (c.slide_live-kept.auto.ids ∙ c.deref_mut-3.ensures.len)) in
    let new_spans = spans_in-take places lives ids kept in
    let new_lits : c.truncate-5.new.self.items ≡ take end lits = c.truncate-5.ensures.items ∙ ap (take end) (with_items_is a.lits lits (c.slide_live-kept.auto.lits ∙ c.deref_mut-4.ensures.len)) in
    let front : take end lits ≡ take end (take end lits) = sym (take-take end end lits (omega arith)) in
    let gone : drop end (take end lits) ≡ [] = drop_all end (take end lits) (omega (arith, length-take end lits)) in
    let none : drop a.tail a.lits.items ≡ [] = ap (λ (x : ArenaState). x.tail) c.self.view_is ∙ c.requires.tail in
    rw (← c.self.view_is, new_edges, new_places, new_lives, new_ids, new_spans, new_lits)
    (same_arena _ _ _ _ a.spare_heads a.spare_lits false (sym (heads_in-same lits (take end lits) (take kept edges) (take kept spans) 0 end front slid.in_order) ∙ slid.live) (gone ∙ sym none))
