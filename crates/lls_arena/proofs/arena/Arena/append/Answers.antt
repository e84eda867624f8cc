use Rattle.std.proofs.Common.{◌≡◌, [], ◌∷◌, take, length, ap, refl, sym, arith}
use Rattle.std.proofs.lemmas.List.{drop-append-le, length_push, take-append-le}
use Rattle.lls_arena.specs.Arena.{ArenaState}
use Rattle.lls_arena.specs.Parts.{spans_in}
use Rattle.lls_arena.proofs.Buffer.{AreAllWatched-same, heads_in-same}
use Rattle.lls_arena.proofs.arena.Arena.append.Goals as goal

pub invariant_of-self : goal.invariant_of-self
invariant_of-self c =
    let a = c.self.inside in
    let spans = spans_in a.spans.items a.lives.items a.ids.items in
    let longer = length_push a.lits.items c.args.lit in
    let same_front : take a.tail a.lits.items ≡ take a.tail c.push_reserved.new.self.items = rw c.push_reserved.ensures.items (sym (take-append-le a.tail a.lits.items (c.args.lit ∷ []) c.self.invariant.0.tail_begins)) in
    let grown = ap length c.push_reserved.ensures.items in (
      record {
        few = c.self.invariant.0.few;
        in_order = c.self.invariant.0.in_order;
        tail_begins = omega (arith, longer, grown, c.self.invariant.0.tail_begins);
        watched = AreAllWatched-same a.lits.items c.push_reserved.new.self.items a.edges.pairs spans 0 a.tail same_front c.self.invariant.0.in_order c.self.invariant.0.watched;
      },
      record {
        for_edges = c.self.invariant.1.for_edges;
        for_spans = c.self.invariant.1.for_spans;
        for_lives = c.self.invariant.1.for_lives;
        for_ids = c.self.invariant.1.for_ids;
        for_lits = omega (arith, longer, grown, c.self.invariant.1.for_lits, c.push_reserved.ensures.capacity, ap (λ (x : ArenaState). x.spare_lits) c.self.view_is, c.requires);
        few_heads = c.self.invariant.1.few_heads;
        few_lits = omega (arith, longer, grown, c.self.invariant.1.few_lits, ap (λ (x : ArenaState). x.spare_lits) c.self.view_is, c.requires);
      },
      c.self.invariant.2,
      c.self.invariant.3,
    )

pub returns : goal.returns
returns c =
    let a = c.self.inside in
    let spans = spans_in a.spans.items a.lives.items a.ids.items in
    let same_front : take a.tail a.lits.items ≡ take a.tail c.push_reserved.new.self.items = rw c.push_reserved.ensures.items (sym (take-append-le a.tail a.lits.items (c.args.lit ∷ []) c.self.invariant.0.tail_begins)) in
    rw (← c.self.view_is)
    (rw (sym (heads_in-same a.lits.items c.push_reserved.new.self.items a.edges.pairs spans 0 a.tail same_front c.self.invariant.0.in_order), c.push_reserved.ensures.items, drop-append-le a.tail a.lits.items (c.args.lit ∷ []) c.self.invariant.0.tail_begins) refl)
