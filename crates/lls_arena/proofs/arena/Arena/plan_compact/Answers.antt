use Rattle.std.proofs.Common.{length, ap, arith}
use Rattle.lls_arena.specs.Parts.{AreTold, spans_in}
use Rattle.lls_arena.proofs.Heads.{same_length}
use Rattle.lls_arena.proofs.Told.{AreAllWatched-told, unlinked-told}
use Rattle.lls_arena.proofs.Rows.{length-spans_in}
use Rattle.lls_arena.proofs.arena.Arena.plan_compact.Goals as goal

pub tell_where_to-requires-clause-each : goal.tell_where_to-requires-clause-each
tell_where_to-requires-clause-each c =
    let a = c.self.inside in
    let spans = spans_in a.spans.items a.lives.items a.ids.items in
    omega (arith, same_length a.lits.items a.edges.pairs spans c.self.invariant.0.watched, ap length c.deref.ensures.value, length-spans_in a.spans.items a.lives.items a.ids.items c.self.invariant.3, c.self.invariant.3.lives_each)

pub tell_where_to-requires-clause-few : goal.tell_where_to-requires-clause-few
tell_where_to-requires-clause-few c =
    let a = c.self.inside in
    omega (arith, ap length c.deref.ensures.value, length-spans_in a.spans.items a.lives.items a.ids.items c.self.invariant.3, c.self.invariant.3.lives_each, c.self.invariant.0.few)

pub invariant_of-self : goal.invariant_of-self
invariant_of-self c =
    let a = c.self.inside in
    let spans = spans_in a.spans.items a.lives.items a.ids.items in
    let new = c.tell_where_to.new.edges.pairs in
    let told : AreTold a.edges.pairs new a.lives.items = rw c.deref.ensures.value at c.tell_where_to.ensures.told in (
      record {
        few = c.self.invariant.0.few;
        in_order = c.self.invariant.0.in_order;
        tail_begins = c.self.invariant.0.tail_begins;
        watched = AreAllWatched-told a.lits.items a.edges.pairs new spans told.length_same told.first told.second c.self.invariant.0.watched;
      },
      record {
        for_edges = omega (arith, c.tell_where_to.ensures.room, told.length_same, c.self.invariant.1.for_edges);
        for_spans = c.self.invariant.1.for_spans;
        for_lives = c.self.invariant.1.for_lives;
        for_ids = c.self.invariant.1.for_ids;
        for_lits = c.self.invariant.1.for_lits;
        few_heads = c.self.invariant.1.few_heads;
        few_lits = c.self.invariant.1.few_lits;
      },
      λ planned. told.told,
      c.self.invariant.3,
    )

pub returns-clause-heads : goal.returns-clause-heads
returns-clause-heads c =
    let a = c.self.inside in
    let spans = spans_in a.spans.items a.lives.items a.ids.items in
    let new = c.tell_where_to.new.edges.pairs in
    let told : AreTold a.edges.pairs new a.lives.items = rw c.deref.ensures.value at c.tell_where_to.ensures.told in
    rw (← c.self.view_is)
    (unlinked-told a.lits.items a.edges.pairs new spans told.length_same)
