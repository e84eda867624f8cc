use Rattle.std.proofs.lemmas.List.{get_or_default, length-set}
use Rattle.lls_arena.specs.declared.edges.Edges.{Edges}
use Rattle.lls_arena.specs.Links.{EdgeTableState, no_pair}
use Rattle.std.proofs.Common.{◌≡◌, ap, ◌∙◌, ◌+◌, ◌-◌, ◌<◌, length, get_or, refl, arith}
use Rattle.lls_arena.specs.Parts.{heads_in, spans_in}
use Rattle.lls_arena.proofs.Heads.{length-heads_in, same_length}
use Rattle.lls_arena.proofs.Rows.{length-spans_in, no_place}
use Rattle.lls_arena.proofs.Sliding.{AreRowsSliding-dead, AreRowsSliding-end, AreRowsSliding-live, AreSliding-start, is_next}
use Rattle.lls_arena.proofs.arena.slide_live.Goals as goal
use Rattle.lls_arena.proofs.arena.slide_live.Goals.{then-lives-k, else-lives-k}

pub loop-k-init : goal.loop-k-init
loop-k-init c =
    let spans = spans_in c.args.spans.now c.args.lives.now c.args.ids.now in (
      refl,
      refl,
      record {
        rows = c.requires.rows;
        each = omega (arith, same_length c.args.lits.now c.args.edges.now.pairs spans c.requires.watched, length-spans_in c.args.spans.now c.args.lives.now c.args.ids.now c.requires.rows);
        sliding = AreSliding-start c.args.edges.now.pairs spans c.args.lits.now c.requires.in_order c.requires.watched;
      },
    )

pub overflow_sub-end : goal.overflow_sub-end
overflow_sub-end c =
    let lt : c.loop-k.k < length c.loop-k.spans = omega (arith, c.loop-k-test.true, c.loop-k.auto.spans) in
    let next = is_next (heads_in c.args.lits.now c.args.edges.now.pairs (spans_in c.args.spans.now c.args.lives.now c.args.ids.now)) c.loop-k.edges.pairs c.loop-k.spans c.loop-k.lives c.loop-k.ids c.loop-k.lits c.loop-k.k c.loop-k.kept c.loop-k.end c.loop-k.invariant.2 lt in
    omega (arith, next.straight)

pub overflow_add-end : goal.overflow_add-end
overflow_add-end c =
    let lt : c.loop-k.k < length c.loop-k.spans = omega (arith, c.loop-k-test.true, c.loop-k.auto.spans) in
    let next = is_next (heads_in c.args.lits.now c.args.edges.now.pairs (spans_in c.args.spans.now c.args.lives.now c.args.ids.now)) c.loop-k.edges.pairs c.loop-k.spans c.loop-k.lives c.loop-k.ids c.loop-k.lits c.loop-k.k c.loop-k.kept c.loop-k.end c.loop-k.invariant.2 lt in
    omega (arith, next.begins, next.straight, next.ends, c.loop-k.auto.lits, c.requires.few)

pub overflow_cast-start : goal.overflow_cast-start
overflow_cast-start c =
    let lt : c.loop-k.k < length c.loop-k.spans = omega (arith, c.loop-k-test.true, c.loop-k.auto.spans) in
    let next = is_next (heads_in c.args.lits.now c.args.edges.now.pairs (spans_in c.args.spans.now c.args.lives.now c.args.ids.now)) c.loop-k.edges.pairs c.loop-k.spans c.loop-k.lives c.loop-k.ids c.loop-k.lits c.loop-k.k c.loop-k.kept c.loop-k.end c.loop-k.invariant.2 lt in
    omega (arith, next.begins, next.straight, next.ends, c.loop-k.auto.lits, c.requires.few)

pub slide-requires-clause-down : goal.slide-requires-clause-down
slide-requires-clause-down c =
    let lt : c.loop-k.k < length c.loop-k.spans = omega (arith, c.loop-k-test.true, c.loop-k.auto.spans) in
    let next = is_next (heads_in c.args.lits.now c.args.edges.now.pairs (spans_in c.args.spans.now c.args.lives.now c.args.ids.now)) c.loop-k.edges.pairs c.loop-k.spans c.loop-k.lives c.loop-k.ids c.loop-k.lits c.loop-k.k c.loop-k.kept c.loop-k.end c.loop-k.invariant.2 lt in
    next.begins

pub slide-requires-clause-straight : goal.slide-requires-clause-straight
slide-requires-clause-straight c =
    let lt : c.loop-k.k < length c.loop-k.spans = omega (arith, c.loop-k-test.true, c.loop-k.auto.spans) in
    let next = is_next (heads_in c.args.lits.now c.args.edges.now.pairs (spans_in c.args.spans.now c.args.lives.now c.args.ids.now)) c.loop-k.edges.pairs c.loop-k.spans c.loop-k.lives c.loop-k.ids c.loop-k.lits c.loop-k.k c.loop-k.kept c.loop-k.end c.loop-k.invariant.2 lt in
    next.straight

pub slide-requires-clause-within : goal.slide-requires-clause-within
slide-requires-clause-within c =
    let lt : c.loop-k.k < length c.loop-k.spans = omega (arith, c.loop-k-test.true, c.loop-k.auto.spans) in
    let next = is_next (heads_in c.args.lits.now c.args.edges.now.pairs (spans_in c.args.spans.now c.args.lives.now c.args.ids.now)) c.loop-k.edges.pairs c.loop-k.spans c.loop-k.lives c.loop-k.ids c.loop-k.lits c.loop-k.k c.loop-k.kept c.loop-k.end c.loop-k.invariant.2 lt in
    next.ends

pub both-requires : goal.both-requires
both-requires c = omega (arith, c.loop-k-test.true, c.loop-k.auto.spans, c.loop-k.invariant.2.each)

pub put-requires : goal.put-requires
put-requires c = omega (arith, c.loop-k-test.true, c.loop-k.auto.spans, c.loop-k.invariant.2.each, c.loop-k.invariant.2.sliding.behind)

pub loop-k-preserved : goal.loop-k-preserved
loop-k-preserved c =
    let heads = heads_in c.args.lits.now c.args.edges.now.pairs (spans_in c.args.spans.now c.args.lives.now c.args.ids.now) in
    let lt : c.loop-k.k < length c.loop-k.spans = omega (arith, c.loop-k-test.true, c.loop-k.auto.spans) in
    let s = get_or c.loop-k.spans c.loop-k.k no_place in
    let to = c.loop-k.end + (s.end - s.start) in
    elim c.if-lives-k.branch [
      | then-lives-k w ↦
          let e = get_or c.loop-k.edges.pairs c.loop-k.k no_pair in
          let among : c.loop-k.k < length c.loop-k.edges.pairs = omega (arith, lt, c.loop-k.invariant.2.each) in
          let at : e ≡ get_or c.loop-k.edges.pairs c.loop-k.k e = get_or_default c.loop-k.edges.pairs c.loop-k.k no_pair e among in
          let pairs = ap (λ (t : EdgeTableState). t.pairs) w.put.ensures in
          rw (w.edges-is, w.spans-is, w.lives-is, w.ids-is, w.lits-is, w.kept-is, w.end-is, pairs) (
            length-set c.loop-k.edges.pairs c.loop-k.kept w.unlinked.result ∙ c.loop-k.invariant.0,
            ap (λ (t : EdgeTableState). t.room) w.put.ensures ∙ c.loop-k.invariant.1,
            AreRowsSliding-live heads c.loop-k.edges.pairs c.loop-k.spans c.loop-k.lives c.loop-k.ids c.loop-k.lits c.loop-k.k c.loop-k.kept c.loop-k.end c.loop-k.invariant.2 w.slide.new.lits to e w.unlinked.result (record { start = c.loop-k.end; end = to }) lt at w.if-lives-k.true
                (record {
                  starts = refl;
                  ends = refl;
                  same_id = refl;
                  is_live = refl;
                  long = refl;
                  piece = w.slide.ensures.moved;
                  outside = w.slide.ensures.outside;
                  first_lit = w.unlinked.ensures.first ∙ ap (λ (x : Edges). x.first.lit) w.both.ensures;
                  second_lit = w.unlinked.ensures.second ∙ ap (λ (x : Edges). x.second.lit) w.both.ensures;
                  first_link = w.unlinked.ensures.first_link;
                  second_link = w.unlinked.ensures.second_link;
                }),
          )
      | else-lives-k w ↦
          rw (w.edges-is, w.spans-is, w.lives-is, w.ids-is, w.lits-is, w.kept-is, w.end-is)
          (c.loop-k.invariant.0, c.loop-k.invariant.1, AreRowsSliding-dead heads c.loop-k.edges.pairs c.loop-k.spans c.loop-k.lives c.loop-k.ids c.loop-k.lits c.loop-k.k c.loop-k.kept c.loop-k.end c.loop-k.invariant.2 lt w.if-lives-k.false)
    ]

pub returns-clause-slid : goal.returns-clause-slid
returns-clause-slid c =
    let spans = spans_in c.args.spans.now c.args.lives.now c.args.ids.now in
    AreRowsSliding-end (heads_in c.args.lits.now c.args.edges.now.pairs spans) c.loop-k.edges.pairs c.loop-k.spans c.loop-k.lives c.loop-k.ids c.loop-k.lits c.loop-k.k c.loop-k.kept c.loop-k.end c.loop-k.invariant.2
    (omega (arith, length-heads_in c.args.lits.now c.args.edges.now.pairs spans c.requires.watched, length-spans_in c.args.spans.now c.args.lives.now c.args.ids.now c.requires.rows, c.loop-k-test.false))
    (omega (arith, c.loop-k.auto.spans, c.loop-k.auto.k-end))
