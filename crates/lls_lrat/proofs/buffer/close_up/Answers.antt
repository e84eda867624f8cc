use Rattle.std.proofs.Common.{◌≡◌, ◌≤◌, ◌<◌, ◌+◌, ◌-◌, cond, length, get_or, take, drop, [], sym, ap, ◌∙◌, arith}
use Rattle.std.specs.List.{zip}
use Rattle.std.proofs.lemmas.List.{length-set, length-take-le, take_all, drop-set-lt}
use Rattle.lls_cnf.specs.Pieces.{pieces}
use Rattle.lls_cnf.proofs.Cut.{end_within}
use Rattle.lls_lrat.specs.Placed.{place_of}
use Rattle.lls_lrat.specs.Stored.{is_at, emptied}
use Rattle.lls_lrat.proofs.Emptied.{end_is, piece_bounds, next_start, next_piece, all_made, later_same, ends_step, pieces_step}
use Rattle.lls_lrat.proofs.buffer.close_up.Goals as goal

pub moved-to-requires-clause-start : goal.moved-to-requires-clause-start
moved-to-requires-clause-start c =
    let ends = c.args.ends.now.items in
    let lt : c.loop-place.place < length ends = omega (arith, c.loop-place-test.true, c.requires.same_many) in
    let end = end_is c.loop-place.ends.items ends c.loop-place.place c.index-end.result.now (omega (arith, lt, c.loop-place.invariant.many)) c.index-end.ensures c.loop-place.invariant.later in
    (piece_bounds ends _ c.loop-place.place c.loop-place.from c.index-end.result.now c.requires.ends lt c.loop-place.invariant.from end).0

pub moved-to-requires-clause-end : goal.moved-to-requires-clause-end
moved-to-requires-clause-end c =
    let ends = c.args.ends.now.items in
    let lt : c.loop-place.place < length ends = omega (arith, c.loop-place-test.true, c.requires.same_many) in
    let end = end_is c.loop-place.ends.items ends c.loop-place.place c.index-end.result.now (omega (arith, lt, c.loop-place.invariant.many)) c.index-end.ensures c.loop-place.invariant.later in
    let bounds = piece_bounds ends (length c.args.lits.now.items) c.loop-place.place c.loop-place.from c.index-end.result.now c.requires.ends lt c.loop-place.invariant.from end in
    omega (arith, bounds.1, c.loop-place.invariant.size)

pub loop-place-preserved : goal.loop-place-preserved
loop-place-preserved c =
    let i = c.loop-place.invariant in
    let ends = c.args.ends.now.items in
    let lits = c.args.lits.now.items in
    let ids = c.args.ids.now in
    let now = c.loop-place.ends.items in
    let buffer = c.loop-place.lits.items in
    let k = c.loop-place.place in
    let from = c.loop-place.from in
    let last = c.index-end.result.now in
    let to = c.moved-to.result in
    let live = c.leads_to-is_live.result in
    let more = cond live (take (last - from) (drop from buffer)) [] in
    let lt : k < length ends = omega (arith, c.loop-place-test.true, c.requires.same_many) in
    let lt_now : k < length now = omega (arith, lt, i.many) in
    let end = end_is now ends k last lt_now c.index-end.ensures i.later in
    let bounds = piece_bounds ends (length lits) k from last c.requires.ends lt i.from end in
    let is_live : live ≡ is_at (place_of c.args.places.now (get_or ids k 0)) k = c.leads_to-is_live.ensures ∙ ap (λ o. is_at o k) c.get.ensures in
    let next = next_piece (place_of c.args.places.now) ids ends lits c.requires.same_many buffer k from last live c.loop-place-test.true i.from end i.rest is_live in
    let within : c.loop-place.to ≤ length buffer = omega (arith, i.down, bounds.0, bounds.1, i.size) in
    record {
      size = c.moved-to.ensures.len ∙ i.size;
      many = length-set now k to ∙ i.many;
      down = c.moved-to.ensures.within;
      from = next_start ends k last end;
      rest = c.moved-to.ensures.rest ∙ later_same buffer lits from last bounds.0 i.rest;
      later = drop-set-lt (k + 1) now k to (omega arith) ∙ later_same now ends k (k + 1) (omega arith) i.later;
      are_ends = ends_step now k c.loop-place.to to more lt_now i.are_ends c.moved-to.ensures.place;
      done = pieces_step now buffer c.moved-to.new.lits.items k c.loop-place.to to more (emptied (place_of c.args.places.now) 0 (zip ids (pieces 0 ends lits))) lt_now i.are_ends within c.moved-to.ensures.place c.moved-to.ensures.front i.done next;
    }

pub returns-clause-clauses : goal.returns-clause-clauses
returns-clause-clauses c =
    let i = c.loop-place.invariant in
    let ends = c.loop-place.ends.items in
    let k = c.loop-place.place in
    let beyond : length c.args.ids.now ≤ k = c.loop-place-test.false in
    let all : take k ends ≡ ends = take_all k ends (omega (arith, beyond, c.requires.same_many, i.many)) in
    rw c.truncate.ensures.items
    (ap (λ (es : _). pieces 0 es (take c.loop-place.to c.loop-place.lits.items)) (sym all)
    ∙ i.done ∙ all_made (place_of c.args.places.now) c.args.ids.now c.args.ends.now.items c.args.lits.now.items c.requires.same_many k beyond)

pub returns-clause-ends : goal.returns-clause-ends
returns-clause-ends c =
    let i = c.loop-place.invariant in
    let ends = c.loop-place.ends.items in
    let k = c.loop-place.place in
    let beyond : length c.args.ids.now ≤ k = c.loop-place-test.false in
    let all : take k ends ≡ ends = take_all k ends (omega (arith, beyond, c.requires.same_many, i.many)) in
    let at : k ≤ length c.args.ends.now.items = omega (arith, c.loop-place.auto.place-end, c.requires.same_many) in
    let start = end_within 0 c.args.ends.now.items (length c.args.lits.now.items) k c.requires.ends at in
    let size : length (take c.loop-place.to c.loop-place.lits.items) ≡ c.loop-place.to = length-take-le c.loop-place.to c.loop-place.lits.items (omega (arith, i.down, i.from, start, i.size)) in
    rw (c.truncate.ensures.items, size) (rw all at i.are_ends)
