-- Live clauses that slide down over the dead ones, one after another.
use Rattle.std.proofs.Common.{◌≡◌, ℕ, ◌+◌, ◌-◌, ◌<◌, ◌≤◌, Bool, true, false, cond, List, [], ◌∷◌, ◌++◌, length, get_or, set, take, drop, None, refl, sym, ap, subst, ◌∙◌, arith}
use Rattle.std.specs.Prelude.{ℤ, pos, filter, map}
use Rattle.std.specs.List.{slice_range}
use Rattle.std.proofs.lemmas.List.{append-nil, drop_more, drop-set-lt, get_or_default, length-drop, length-set, map-append, same_lists, take_all, take_more, take_more_set}
use Rattle.std.proofs.lemmas.List.Elements.{filter-append}
use Rattle.lls_arena.specs.declared.edges.Edges.{Edges}
use Rattle.lls_arena.specs.declared.arena.Span.{Span}
use Rattle.lls_arena.specs.Arena.{HeadState, unlinked}
use Rattle.lls_arena.specs.Links.{link_in}
use Rattle.lls_arena.specs.Parts.{AreAllWatched, AreInOrder, AreSlid, AreWatched, DifferWithin, HaveRows, SpanState, head_at, heads_in, span_of, spans_in}
use Rattle.lls_arena.proofs.Buffer.{AreAllWatched-same, AreInOrder-le, heads_in-same}
use Rattle.lls_arena.proofs.Heads.{AreAllWatched-push, AreInOrder-push, heads_in-push, no_edges}
use Rattle.lls_arena.proofs.Pieces.{AreAllWatched-behind, get_or-slice_range, heads_in-behind, length-slice_range, take-outside}
use Rattle.lls_arena.proofs.Rows.{length-spans_in, no_place, row, row_with_span, spans_in-set}

-- a piece that was copied
pub slice_range-moved : (xs ys : List ℤ) (s e to n : ℕ) → length ys ≡ length xs → to ≤ s → s ≤ e → e ≤ length xs → n ≡ e - s → ((j : ℕ) (d : ℤ) → j < n → get_or ys (to + j) d ≡ get_or xs (s + j) d) → slice_range ys to (to + (e - s)) ≡ slice_range xs s e
slice_range-moved xs ys s e to n same down straight within whole moved =
    same_lists (slice_range ys to (to + (e - s))) (slice_range xs s e)
    (omega (arith, length-slice_range xs s e within, length-slice_range ys to (to + (e - s)) (omega (arith, same))))
    (λ k d lt.
    let short : k < e - s = omega (arith, length-slice_range ys to (to + (e - s)) (omega (arith, same))) in
    get_or-slice_range ys to (to + (e - s)) k d (omega (arith, short)) ∙ moved k d (omega (arith, short, whole)) ∙ sym (get_or-slice_range xs s e k d short))

abbrev live_of : HeadState → Bool
live_of head = head.live

abbrev left_of : List HeadState → List HeadState
left_of heads = map unlinked (filter live_of heads)

-- the live clauses among the first k stand at the front, and the others where they were
pub record AreSliding (heads : List HeadState) (edges : List Edges) (spans : List SpanState) (lits : List ℤ) (k kept end : ℕ) : Type 0 where
  pub behind : kept ≤ k
  pub done : heads_in lits (take kept edges) (take kept spans) ≡ left_of (take k heads)
  pub done_order : AreInOrder 0 (take kept spans) end
  pub done_watched : AreAllWatched lits (take kept edges) (take kept spans)
  pub rest : heads_in lits (drop k edges) (drop k spans) ≡ drop k heads
  pub rest_order : AreInOrder end (drop k spans) (length lits)
  pub rest_watched : AreAllWatched lits (drop k edges) (drop k spans)

pub AreSliding-start : (edges : List Edges) (spans : List SpanState) (lits : List ℤ) → AreInOrder 0 spans (length lits) → AreAllWatched lits edges spans → AreSliding (heads_in lits edges spans) edges spans lits 0 0 0
AreSliding-start edges spans lits order watched = record {
  behind = omega arith;
  done = refl;
  done_order = omega arith;
  done_watched = tt;
  rest = refl;
  rest_order = order;
  rest_watched = watched;
}

same_heads : (x y : HeadState) (xs ys : List HeadState) → x ∷ xs ≡ y ∷ ys → (x ≡ y) × (xs ≡ ys)
same_heads x y xs ys is = (cc, cc)

no_head : HeadState
no_head = record { id = 0; live = false; lits = []; first = None; second = None }

left_of-push : (heads : List HeadState) (h : HeadState) → left_of (heads ++ h ∷ []) ≡ left_of heads ++ left_of (h ∷ [])
left_of-push heads h = ap (map unlinked) (filter-append live_of heads (h ∷ [])) ∙ map-append unlinked (filter live_of heads) (filter live_of (h ∷ []))

-- the next clause, and those behind it
record IsAt (heads : List HeadState) (edges : List Edges) (spans : List SpanState) (lits : List ℤ) (k end : ℕ) (e : Edges) (s : SpanState) : Type 0 where
  among : k < length edges
  known : k < length heads
  next : get_or heads k (head_at lits e s) ≡ head_at lits e s
  more : left_of (take (k + 1) heads) ≡ left_of (take k heads) ++ left_of (head_at lits e s ∷ [])
  rest : heads_in lits (drop (k + 1) edges) (drop (k + 1) spans) ≡ drop (k + 1) heads
  begins : end ≤ s.start
  straight : s.start ≤ s.end
  rest_order : AreInOrder s.end (drop (k + 1) spans) (length lits)
  watched : AreWatched lits e s
  rest_watched : AreAllWatched lits (drop (k + 1) edges) (drop (k + 1) spans)

is_at : (heads : List HeadState) (edges : List Edges) (spans : List SpanState) (lits : List ℤ) (k kept end : ℕ) (e : Edges) (s : SpanState) → AreSliding heads edges spans lits k kept end → length edges ≡ length spans → k < length spans → e ≡ get_or edges k e → s ≡ get_or spans k s → IsAt heads edges spans lits k end e s
is_at heads edges spans lits k kept end e s sliding each lt at_edges at_span =
    let among : k < length edges = omega (arith, each) in
    let es : drop k edges ≡ e ∷ drop (k + 1) edges = drop_more edges k e among ∙ ap (λ x. x ∷ drop (k + 1) edges) (sym at_edges) in
    let ss : drop k spans ≡ s ∷ drop (k + 1) spans = drop_more spans k s lt ∙ ap (λ x. x ∷ drop (k + 1) spans) (sym at_span) in
    let parts : heads_in lits (e ∷ drop (k + 1) edges) (s ∷ drop (k + 1) spans) ≡ drop k heads = sym (ap (λ (xs : List Edges). heads_in lits xs (s ∷ drop (k + 1) spans)) es) ∙ sym (ap (heads_in lits (drop k edges)) ss) ∙ sliding.rest in
    let known : k < length heads = omega (arith, ap length parts, length-drop k heads) in
    let both = same_heads (head_at lits e s) (get_or heads k (head_at lits e s)) (heads_in lits (drop (k + 1) edges) (drop (k + 1) spans)) (drop (k + 1) heads) (parts ∙ drop_more heads k (head_at lits e s) known) in
    let order : AreInOrder end (s ∷ drop (k + 1) spans) (length lits) = subst (λ (xs : List SpanState). AreInOrder end xs (length lits)) ss sliding.rest_order in
    let watched : AreAllWatched lits (e ∷ drop (k + 1) edges) (s ∷ drop (k + 1) spans) = subst (λ (xs : List Edges). AreAllWatched lits xs (s ∷ drop (k + 1) spans)) es (subst (AreAllWatched lits (drop k edges)) ss sliding.rest_watched) in
    record {
      among = among;
      known = known;
      next = sym both.0;
      more =
          ap left_of (take_more heads k (head_at lits e s) known)
          ∙ ap (λ h. left_of (take k heads ++ h ∷ [])) (sym both.0)
          ∙ left_of-push (take k heads) (head_at lits e s);
      rest = both.1;
      begins = order.0;
      straight = order.1;
      rest_order = order.2;
      watched = watched.0;
      rest_watched = watched.1;
    }

AreInOrder-from : (low from : ℕ) (spans : List SpanState) (tail : ℕ) → low ≤ from → AreInOrder from spans tail → AreInOrder low spans tail
AreInOrder-from low from [] tail le order = omega (arith, le, order)
AreInOrder-from low from (s ∷ spans) tail le order = (omega (arith, le, order.0), order.1, order.2)

left_of-one : (h : HeadState) (b : Bool) → h.live ≡ b → left_of (h ∷ []) ≡ cond b (unlinked h ∷ []) []
left_of-one h true is = ap (λ b. map unlinked (cond b (h ∷ []) [])) is
left_of-one h false is = ap (λ b. map unlinked (cond b (h ∷ []) [])) is

-- a dead clause goes
pub AreSliding-dead : (heads : List HeadState) (edges : List Edges) (spans : List SpanState) (lits : List ℤ) (k kept end : ℕ) (s : SpanState) → AreSliding heads edges spans lits k kept end → length edges ≡ length spans → k < length spans → s ≡ get_or spans k s → s.live ≡ false → AreSliding heads edges spans lits (k + 1) kept end
AreSliding-dead heads edges spans lits k kept end s sliding each lt at_span dead =
    let e = get_or edges k no_edges in
    let at = is_at heads edges spans lits k kept end e s sliding each lt (get_or_default edges k no_edges e (omega (arith, each))) at_span in
    record {
      behind = omega (arith, sliding.behind);
      done = sliding.done ∙ sym (append-nil (left_of (take k heads))) ∙ ap (λ (more : List HeadState). left_of (take k heads) ++ more) (sym (left_of-one (head_at lits e s) false dead)) ∙ sym at.more;
      done_order = sliding.done_order;
      done_watched = sliding.done_watched;
      rest = at.rest;
      rest_order = AreInOrder-from end s.end (drop (k + 1) spans) (length lits) (omega (arith, at.begins, at.straight)) at.rest_order;
      rest_watched = at.rest_watched;
    }

-- a live one slides down
pub record HasSlid (lits new : List ℤ) (e moved : Edges) (s put : SpanState) (end to : ℕ) : Type 0 where
  pub starts : put.start ≡ end
  pub ends : put.end ≡ to
  pub same_id : put.id ≡ s.id
  pub is_live : put.live ≡ true
  pub long : to ≡ end + (s.end - s.start)
  pub piece : slice_range new end to ≡ slice_range lits s.start s.end
  pub outside : DifferWithin lits new end to
  pub first_lit : moved.first.lit ≡ e.first.lit
  pub second_lit : moved.second.lit ≡ e.second.lit
  pub first_link : link_in moved.first.next ≡ None
  pub second_link : link_in moved.second.next ≡ None

head_at-slid : (lits new : List ℤ) (e moved : Edges) (s put : SpanState) (end to : ℕ) → HasSlid lits new e moved s put end to → s.live ≡ true → head_at new moved put ≡ unlinked (head_at lits e s)
head_at-slid lits new e moved s put end to slid live =
    rw (slid.starts, slid.ends, slid.piece, slid.same_id, slid.is_live, live, slid.first_link, slid.second_link) refl

AreWatched-slid : (lits new : List ℤ) (e moved : Edges) (s put : SpanState) (end to : ℕ) → HasSlid lits new e moved s put end to → s.start ≤ s.end → AreWatched lits e s → AreWatched new moved put
AreWatched-slid lits new e moved s put end to slid straight watched =
    let at : (k : ℕ) → k < s.end - s.start → get_or lits (s.start + k) (pos 0) ≡ get_or new (put.start + k) (pos 0) = λ k lt.
    sym (get_or-slice_range lits s.start s.end k (pos 0) lt)
    ∙ ap (λ (ls : List ℤ). get_or ls k (pos 0)) (sym slid.piece)
    ∙ get_or-slice_range new end to k (pos 0) (omega (arith, slid.long))
    ∙ ap (λ n. get_or new (n + k) (pos 0)) (sym slid.starts)
    in
    record {
      first = λ lt.
          let short : 0 < s.end - s.start = omega (arith, slid.starts, slid.ends, slid.long) in
          slid.first_lit
          ∙ watched.first (omega arith)
          ∙ ap (λ n. get_or lits n (pos 0)) (omega arith)
          ∙ at 0 short
          ∙ ap (λ n. get_or new n (pos 0)) (omega arith);
      second = λ lt.
          let short : 1 < s.end - s.start = omega (arith, slid.starts, slid.ends, slid.long) in
          slid.second_lit ∙ watched.second (omega arith) ∙ at 1 short;
    }

pub AreSliding-live : (heads : List HeadState) (edges : List Edges) (spans : List SpanState) (lits new : List ℤ) (k kept end to : ℕ) (e moved : Edges) (s put : SpanState) → AreSliding heads edges spans lits k kept end → length edges ≡ length spans → k < length spans → e ≡ get_or edges k e → s ≡ get_or spans k s → s.live ≡ true → HasSlid lits new e moved s put end to → AreSliding heads (set edges kept moved) (set spans kept put) new (k + 1) (kept + 1) to
AreSliding-live heads edges spans lits new k kept end to e moved s put sliding each lt at_edges at_span live slid =
    let at = is_at heads edges spans lits k kept end e s sliding each lt at_edges at_span in
    let early : kept < length spans = omega (arith, sliding.behind) in
    let early_edges : kept < length edges = omega (arith, early, each) in
    let done_edges : take (kept + 1) (set edges kept moved) ≡ take kept edges ++ moved ∷ [] = take_more_set edges kept moved early_edges in
    let done_spans : take (kept + 1) (set spans kept put) ≡ take kept spans ++ put ∷ [] = take_more_set spans kept put early in
    let rest_edges : drop (k + 1) (set edges kept moved) ≡ drop (k + 1) edges = drop-set-lt (k + 1) edges kept moved (omega (arith, sliding.behind)) in
    let rest_spans : drop (k + 1) (set spans kept put) ≡ drop (k + 1) spans = drop-set-lt (k + 1) spans kept put (omega (arith, sliding.behind)) in
    let fits : to ≤ s.end = omega (arith, slid.long, at.begins, at.straight) in
    let front : take end lits ≡ take end new = sym (take-outside lits new end to slid.outside) in
    let front_watched : AreAllWatched new (take kept edges) (take kept spans) = AreAllWatched-same lits new (take kept edges) (take kept spans) 0 end front sliding.done_order sliding.done_watched in
    let front_heads : heads_in new (take kept edges) (take kept spans) ≡ left_of (take k heads) = sym (heads_in-same lits new (take kept edges) (take kept spans) 0 end front sliding.done_order) ∙ sliding.done in
    let put_watched : AreWatched new moved put = AreWatched-slid lits new e moved s put end to slid at.straight at.watched in
    record {
      behind = omega (arith, sliding.behind);
      done =
          ap (λ (xs : List Edges). heads_in new xs (take (kept + 1) (set spans kept put))) done_edges
          ∙ ap (heads_in new (take kept edges ++ moved ∷ [])) done_spans
          ∙ heads_in-push new (take kept edges) (take kept spans) moved put front_watched
          ∙ ap (λ (xs : List HeadState). xs ++ head_at new moved put ∷ []) front_heads
          ∙ ap (λ h. left_of (take k heads) ++ h ∷ []) (head_at-slid lits new e moved s put end to slid live)
          ∙ ap (λ (more : List HeadState). left_of (take k heads) ++ more) (sym (left_of-one (head_at lits e s) true live))
          ∙ sym at.more;
      done_order = rw done_spans (AreInOrder-push 0 (take kept spans) end to put sliding.done_order (omega (arith, slid.starts)) (omega (arith, slid.starts, slid.ends, slid.long)) (omega (arith, slid.ends)));
      done_watched = rw (done_edges, done_spans) (AreAllWatched-push new (take kept edges) (take kept spans) moved put front_watched put_watched);
      rest = rw (rest_edges, rest_spans) (heads_in-behind lits new (drop (k + 1) edges) (drop (k + 1) spans) s.end (length lits) end to slid.outside fits (omega arith) at.rest_order ∙ at.rest);
      rest_order = rw (rest_spans, slid.outside.length_same) (AreInOrder-from to s.end (drop (k + 1) spans) (length lits) fits at.rest_order);
      rest_watched = rw (rest_edges, rest_spans) (AreAllWatched-behind lits new (drop (k + 1) edges) (drop (k + 1) spans) s.end (length lits) end to slid.outside fits at.rest_order at.rest_watched);
    }

pub AreSlid-end : (heads : List HeadState) (edges : List Edges) (spans : List SpanState) (lits : List ℤ) (k kept end : ℕ) → AreSliding heads edges spans lits k kept end → length heads ≤ k → k ≤ length spans → AreSlid heads edges spans lits kept end
AreSlid-end heads edges spans lits k kept end sliding all within = record {
  fewer = omega (arith, sliding.behind);
  shorter = AreInOrder-le end (drop k spans) (length lits) sliding.rest_order;
  live = sliding.done ∙ ap left_of (take_all k heads all);
  in_order = sliding.done_order;
  watched = sliding.done_watched;
}

-- the same, as three tables tell of the clauses
pub record AreRowsSliding (heads : List HeadState) (edges : List Edges) (spans : List Span) (lives : List Bool) (ids : List ℕ) (lits : List ℤ) (k kept end : ℕ) : Type 0 where
  pub rows : HaveRows spans lives ids
  pub each : length edges ≡ length spans
  pub sliding : AreSliding heads edges (spans_in spans lives ids) lits k kept end

-- the next clause stands behind the live ones before it, within the buffer
pub record IsNext (lits : List ℤ) (end : ℕ) (s : Span) : Type 0 where
  pub begins : end ≤ s.start
  pub straight : s.start ≤ s.end
  pub ends : s.end ≤ length lits

module _ (heads : List HeadState) (edges : List Edges) (spans : List Span) (lives : List Bool) (ids : List ℕ) (lits : List ℤ) (k kept end : ℕ) (sliding : AreRowsSliding heads edges spans lives ids lits k kept end) where
  each_row : length (spans_in spans lives ids) ≡ length spans
  each_row = length-spans_in spans lives ids sliding.rows

  each_edge : length edges ≡ length (spans_in spans lives ids)
  each_edge = sliding.each ∙ sym each_row

  next_is : k < length spans → row spans lives ids k ≡ get_or (spans_in spans lives ids) k (row spans lives ids k)
  next_is lt = row_with_span spans lives ids k (get_or spans k no_place) (omega (arith, lt, each_row)) (get_or_default spans k no_place (get_or spans k no_place) lt)

  pub is_next : k < length spans → IsNext lits end (get_or spans k no_place)
  is_next lt =
      let e = get_or edges k no_edges in
      let at = is_at heads edges (spans_in spans lives ids) lits k kept end e (row spans lives ids k) sliding.sliding each_edge (omega (arith, lt, each_row)) (get_or_default edges k no_edges e (omega (arith, lt, sliding.each))) (next_is lt) in
      record { begins = at.begins; straight = at.straight; ends = AreInOrder-le (get_or spans k no_place).end (drop (k + 1) (spans_in spans lives ids)) (length lits) at.rest_order }

  pub AreRowsSliding-dead : k < length spans → get_or lives k false ≡ false → AreRowsSliding heads edges spans lives ids lits (k + 1) kept end
  AreRowsSliding-dead lt dead = record {
    rows = sliding.rows;
    each = sliding.each;
    sliding = AreSliding-dead heads edges (spans_in spans lives ids) lits k kept end (row spans lives ids k) sliding.sliding each_edge (omega (arith, lt, each_row)) (next_is lt) dead;
  }

  pub AreRowsSliding-live : (new : List ℤ) (to : ℕ) (e moved : Edges) (put : Span) → k < length spans → e ≡ get_or edges k e → get_or lives k false ≡ true → HasSlid lits new e moved (row spans lives ids k) (span_of put true (get_or ids k 0)) end to → AreRowsSliding heads (set edges kept moved) (set spans kept put) (set lives kept true) (set ids kept (get_or ids k 0)) new (k + 1) (kept + 1) to
  AreRowsSliding-live new to e moved put lt at_edges live slid = record {
    rows = record {
      lives_each = omega (arith, length-set lives kept true, length-set spans kept put, sliding.rows.lives_each);
      ids_each = omega (arith, length-set ids kept (get_or ids k 0), length-set spans kept put, sliding.rows.ids_each);
    };
    each = omega (arith, length-set edges kept moved, length-set spans kept put, sliding.each);
    sliding = rw (spans_in-set spans lives ids kept put true (get_or ids k 0))
        (AreSliding-live heads edges (spans_in spans lives ids) lits new k kept end to e moved (row spans lives ids k) (span_of put true (get_or ids k 0)) sliding.sliding each_edge (omega (arith, lt, each_row)) at_edges (next_is lt) live slid);
  }

  pub AreRowsSliding-end : length heads ≤ k → k ≤ length spans → AreSlid heads edges (spans_in spans lives ids) lits kept end
  AreRowsSliding-end all within = AreSlid-end heads edges (spans_in spans lives ids) lits k kept end sliding.sliding all (omega (arith, within, each_row))
