use Rattle.std.proofs.Common.{◌≡◌, ◌+◌, ◌-◌, drop, take, length, ap, refl, sym, arith}
use Rattle.std.proofs.lemmas.List.{drop-take, length-drop, length-take, take-take}
use Rattle.lls_arena.specs.Parts.{spans_in}
use Rattle.lls_arena.proofs.Buffer.{AreAllWatched-same, heads_in-same}
use Rattle.lls_arena.proofs.arena.Arena.cut.Goals as goal

pub invariant_of-self : goal.invariant_of-self
invariant_of-self c =
    let a = c.self.inside in
    let spans = spans_in a.spans.items a.lives.items a.ids.items in
    let shorter = length-take (a.tail + c.args.keep) a.lits.items in
    let same_front : take a.tail a.lits.items ≡ take a.tail c.truncate.new.self.items = rw c.truncate.ensures.items (sym (take-take a.tail (a.tail + c.args.keep) a.lits.items (omega arith))) in
    let cut = ap length c.truncate.ensures.items in (
      record {
        few = c.self.invariant.0.few;
        in_order = c.self.invariant.0.in_order;
        tail_begins = omega (arith, shorter, cut, c.self.invariant.0.tail_begins);
        watched = AreAllWatched-same a.lits.items c.truncate.new.self.items a.edges.pairs spans 0 a.tail same_front c.self.invariant.0.in_order c.self.invariant.0.watched;
      },
      record {
        for_edges = c.self.invariant.1.for_edges;
        for_spans = c.self.invariant.1.for_spans;
        for_lives = c.self.invariant.1.for_lives;
        for_ids = c.self.invariant.1.for_ids;
        for_lits = omega (arith, shorter, cut, c.len-end.ensures, c.if-keep-end.true, c.self.invariant.1.for_lits, c.truncate.ensures.capacity);
        few_heads = c.self.invariant.1.few_heads;
        few_lits = omega (arith, shorter, cut, c.len-end.ensures, c.if-keep-end.true, c.self.invariant.1.few_lits);
      },
      c.self.invariant.2,
      c.self.invariant.3,
    )

pub returns-then-keep-end : goal.returns-then-keep-end
returns-then-keep-end c =
    let a = c.self.inside in
    let spans = spans_in a.spans.items a.lives.items a.ids.items in
    let same_front : take a.tail a.lits.items ≡ take a.tail c.truncate.new.self.items = rw c.truncate.ensures.items (sym (take-take a.tail (a.tail + c.args.keep) a.lits.items (omega arith))) in
    let more : a.spare_lits + (c.len-end.result - (a.tail + c.args.keep)) ≡ a.spare_lits + (length (drop a.tail a.lits.items) - c.args.keep) = omega (arith, c.len-end.ensures, length-drop a.tail a.lits.items) in
    rw (← c.self.view_is)
    (rw (sym (heads_in-same a.lits.items c.truncate.new.self.items a.edges.pairs spans 0 a.tail same_front c.self.invariant.0.in_order), c.truncate.ensures.items, drop-take a.tail c.args.keep a.lits.items, more) refl)
