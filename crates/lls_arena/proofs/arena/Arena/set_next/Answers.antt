use Rattle.std.proofs.Common.{◌≡◌, ◌<◌, List, drop, false, length, get_or, ap, arith}
use Rattle.std.proofs.lemmas.List.{get_or_default, length-set}
use Rattle.lls_arena.specs.Links.{EdgeTableState, link_in, no_pair, side_in, with_next}
use Rattle.lls_arena.specs.Arena.{ArenaState, HeadState}
use Rattle.lls_arena.specs.Parts.{spans_in}
use Rattle.lls_arena.proofs.Heads.{inside, same_length}
use Rattle.lls_arena.proofs.Changed.{AreAllWatched-linked, heads_in-linked}
use Rattle.lls_arena.proofs.Paired.{led_to}
use Rattle.lls_arena.proofs.Told.{no_plan}
use Rattle.lls_arena.proofs.arena.Arena.set_next.Goals as goal

pub lead-requires-clause-within : goal.lead-requires-clause-within
lead-requires-clause-within c = λ k is.
    let a = c.self.inside in
    let spans = spans_in a.spans.items a.lives.items a.ids.items in
    omega (arith, inside c.args.self.now a.lits.items a.edges.pairs spans k (ap (λ (x : ArenaState). x.heads) c.self.view_is) c.self.invariant.0.watched (c.requires.within k is), same_length a.lits.items a.edges.pairs spans c.self.invariant.0.watched)

pub invariant_of-self : goal.invariant_of-self
invariant_of-self c =
    let a = c.self.inside in
    let to = led_to (link_in c.args.link) c.requires.leads in
    let spans = spans_in a.spans.items a.lives.items a.ids.items in
    let lt : to.0 < length spans = inside c.args.self.now a.lits.items a.edges.pairs spans to.0 (ap (λ (x : ArenaState). x.heads) c.self.view_is) c.self.invariant.0.watched (c.requires.within to.0 to.1) in
    let known : to.0 < length a.edges.pairs = omega (arith, lt, same_length a.lits.items a.edges.pairs spans c.self.invariant.0.watched) in
    let e = get_or a.edges.pairs to.0 no_pair in
    let at : e ≡ get_or a.edges.pairs to.0 e = get_or_default a.edges.pairs to.0 no_pair e known in
    let pairs = ap (λ (t : EdgeTableState). t.pairs) (c.lead.ensures to.0 to.1) in
    let room = ap (λ (t : EdgeTableState). t.room) (c.lead.ensures to.0 to.1) in
    let longer = length-set a.edges.pairs to.0 (with_next (side_in c.args.link) c.args.next e) in (
      record {
        few = c.self.invariant.0.few;
        in_order = c.self.invariant.0.in_order;
        tail_begins = c.self.invariant.0.tail_begins;
        watched = rw pairs (AreAllWatched-linked a.lits.items a.edges.pairs spans to.0 (side_in c.args.link) c.args.next e at c.self.invariant.0.watched);
      },
      record {
        for_edges = omega (arith, longer, ap length pairs, room, c.self.invariant.1.for_edges);
        for_spans = c.self.invariant.1.for_spans;
        for_lives = c.self.invariant.1.for_lives;
        for_ids = c.self.invariant.1.for_ids;
        for_lits = c.self.invariant.1.for_lits;
        few_heads = c.self.invariant.1.few_heads;
        few_lits = c.self.invariant.1.few_lits;
      },
      no_plan _,
      c.self.invariant.3,
    )

pub returns : goal.returns
returns c = λ k is.
    let a = c.self.inside in
    let spans = spans_in a.spans.items a.lives.items a.ids.items in
    let lt : k < length spans = inside c.args.self.now a.lits.items a.edges.pairs spans k (ap (λ (x : ArenaState). x.heads) c.self.view_is) c.self.invariant.0.watched (c.requires.within k is) in
    let known : k < length a.edges.pairs = omega (arith, lt, same_length a.lits.items a.edges.pairs spans c.self.invariant.0.watched) in
    let e = get_or a.edges.pairs k no_pair in
    let at : e ≡ get_or a.edges.pairs k e = get_or_default a.edges.pairs k no_pair e known in
    let pairs = ap (λ (t : EdgeTableState). t.pairs) (c.lead.ensures k is) in
    let room = ap (λ (t : EdgeTableState). t.room) (c.lead.ensures k is) in
    rw (← c.self.view_is, pairs)
    (ap (λ (heads : List HeadState). record { heads = heads; tail = drop a.tail a.lits.items; spare_heads = a.spare_heads; spare_lits = a.spare_lits; planned = false })
    (heads_in-linked a.lits.items a.edges.pairs spans k (side_in c.args.link) c.args.next e at known))
