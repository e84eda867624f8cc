-- What is read of one clause, and one clause more.
use Rattle.std.proofs.Common.{◌≡◌, ℕ, zero, suc, ◌+◌, ◌<◌, ◌≤◌, ◌-◌, List, [], ◌∷◌, ◌++◌, length, get_or, drop, cond, Some, None, refl, sym, ap, subst, ◌∙◌, arith}
use Rattle.std.specs.Prelude.{ℤ, pos, Bool, true, false, map, slice_get, option_map, IfSome}
use Rattle.std.specs.Option.{ForSome}
use Rattle.std.specs.List.{slice_range}
use Rattle.std.proofs.lemmas.List.{get_or_default, get_or-drop, get_or-take, length-drop, length-map, length-take, take_all}
use Rattle.std.proofs.lemmas.Option.{slice_get-get_or, slice_get-map, slice_get_within}
use Rattle.lls_arena.specs.declared.edges.Edge.{Edge}
use Rattle.lls_arena.specs.declared.edges.Edges.{Edges}
use Rattle.lls_arena.specs.Arena.{ArenaState, HeadState, IsLive, link_of, lives_of, place_of}
use Rattle.lls_arena.specs.Links.{link_in}
use Rattle.lls_arena.specs.Parts.{AreAllWatched, AreInOrder, AreWatched, SpanState, head_at, heads_in}
use Rattle.lls_arena.proofs.Buffer.{AreInOrder-le}

pub same_length : (lits : List ℤ) (es : List Edges) (spans : List SpanState) → AreAllWatched lits es spans → length es ≡ length spans
same_length lits [] [] watched = refl
same_length lits [] (s ∷ spans) watched = absurd watched
same_length lits (e ∷ es) [] watched = absurd watched
same_length lits (e ∷ es) (s ∷ spans) watched = ap suc (same_length lits es spans watched.1)

pub length-heads_in : (lits : List ℤ) (es : List Edges) (spans : List SpanState) → AreAllWatched lits es spans → length (heads_in lits es spans) ≡ length spans
length-heads_in lits [] [] watched = refl
length-heads_in lits [] (s ∷ spans) watched = absurd watched
length-heads_in lits (e ∷ es) [] watched = absurd watched
length-heads_in lits (e ∷ es) (s ∷ spans) watched = ap suc (length-heads_in lits es spans watched.1)

abbrev pub no_edges : Edges
no_edges = record { first = record { next = record { after = 0 }; lit = pos 1 }; second = record { next = record { after = 0 }; lit = pos 1 } }

abbrev pub no_span : SpanState
no_span = record { start = 0; end = 0; id = 0; live = false }

get_or-heads_in : (lits : List ℤ) (es : List Edges) (spans : List SpanState) (k : ℕ) (e : Edges) (s : SpanState) (d : HeadState) → AreAllWatched lits es spans → k < length spans → get_or (heads_in lits es spans) k d ≡ head_at lits (get_or es k e) (get_or spans k s)
get_or-heads_in lits [] [] k e s d watched lt = absurd (omega arith)
get_or-heads_in lits [] (x ∷ spans) k e s d watched lt = absurd watched
get_or-heads_in lits (x ∷ es) [] k e s d watched lt = absurd watched
get_or-heads_in lits (x ∷ es) (y ∷ spans) zero e s d watched lt = refl
get_or-heads_in lits (x ∷ es) (y ∷ spans) (suc k) e s d watched lt = get_or-heads_in lits es spans k e s d watched.1 (omega arith)

pub slice_get-heads_in : (lits : List ℤ) (es : List Edges) (spans : List SpanState) (k : ℕ) (e : Edges) (s : SpanState) → AreAllWatched lits es spans → k < length spans → e ≡ get_or es k e → s ≡ get_or spans k s → slice_get (heads_in lits es spans) k ≡ Some (head_at lits e s)
slice_get-heads_in lits es spans k e s watched lt at_edges at_span =
    slice_get-get_or (heads_in lits es spans) k (head_at lits e s) (omega (arith, lt, length-heads_in lits es spans watched))
    ∙ ap Some (get_or-heads_in lits es spans k e s (head_at lits e s) watched lt)
    ∙ ap (λ x. Some (head_at lits x (get_or spans k s))) (sym at_edges)
    ∙ ap (λ x. Some (head_at lits e x)) (sym at_span)

-- what a head says of itself
pub read_at : {Y : Type 0} (f : HeadState → Y) (lits : List ℤ) (es : List Edges) (spans : List SpanState) (k : ℕ) (e : Edges) (s : SpanState) → AreAllWatched lits es spans → k < length spans → e ≡ get_or es k e → s ≡ get_or spans k s → slice_get (map f (heads_in lits es spans)) k ≡ Some (f (head_at lits e s))
read_at f lits es spans k e s watched lt at_edges at_span =
    slice_get-map f (heads_in lits es spans) k
    ∙ ap (option_map f) (slice_get-heads_in lits es spans k e s watched lt at_edges at_span)

-- a span ends by the tail
pub record IsBetween (from tail : ℕ) (s : SpanState) : Type 0 where
  pub begins : from ≤ s.start
  pub in_order : s.start ≤ s.end
  pub ends : s.end ≤ tail

pub between : (from : ℕ) (spans : List SpanState) (tail k : ℕ) (d : SpanState) → AreInOrder from spans tail → k < length spans → IsBetween from tail (get_or spans k d)
between from [] tail k d order lt = absurd (omega arith)
between from (s ∷ spans) tail zero d order lt = record { begins = order.0; in_order = order.1; ends = AreInOrder-le s.end spans tail order.2 }
between from (s ∷ spans) tail (suc k) d order lt =
    let rest = between s.end spans tail k d order.2 (omega arith) in
    record { begins = omega (arith, order.0, order.1, rest.begins); in_order = rest.in_order; ends = rest.ends }

-- the edges of a clause watch its first two literals
pub watched_at : (lits : List ℤ) (es : List Edges) (spans : List SpanState) (k : ℕ) (e : Edges) (s : SpanState) → AreAllWatched lits es spans → k < length spans → AreWatched lits (get_or es k e) (get_or spans k s)
watched_at lits [] [] k e s watched lt = absurd (omega arith)
watched_at lits [] (x ∷ spans) k e s watched lt = absurd watched
watched_at lits (x ∷ es) [] k e s watched lt = absurd watched
watched_at lits (x ∷ es) (y ∷ spans) zero e s watched lt = watched.0
watched_at lits (x ∷ es) (y ∷ spans) (suc k) e s watched lt = watched_at lits es spans k e s watched.1 (omega arith)

-- one clause more
pub heads_in-push : (lits : List ℤ) (es : List Edges) (spans : List SpanState) (e : Edges) (s : SpanState) → AreAllWatched lits es spans → heads_in lits (es ++ e ∷ []) (spans ++ s ∷ []) ≡ heads_in lits es spans ++ head_at lits e s ∷ []
heads_in-push lits [] [] e s watched = refl
heads_in-push lits [] (y ∷ spans) e s watched = absurd watched
heads_in-push lits (x ∷ es) [] e s watched = absurd watched
heads_in-push lits (x ∷ es) (y ∷ spans) e s watched = ap (λ (heads : List HeadState). head_at lits x y ∷ heads) (heads_in-push lits es spans e s watched.1)

pub AreInOrder-push : (from : ℕ) (spans : List SpanState) (tail new : ℕ) (s : SpanState) → AreInOrder from spans tail → tail ≤ s.start → s.start ≤ s.end → s.end ≤ new → AreInOrder from (spans ++ s ∷ []) new
AreInOrder-push from [] tail new s order begins straight ends = (omega (arith, order), straight, ends)
AreInOrder-push from (y ∷ spans) tail new s order begins straight ends = (order.0, order.1, AreInOrder-push y.end spans tail new s order.2 begins straight ends)

pub AreAllWatched-push : (lits : List ℤ) (es : List Edges) (spans : List SpanState) (e : Edges) (s : SpanState) → AreAllWatched lits es spans → AreWatched lits e s → AreAllWatched lits (es ++ e ∷ []) (spans ++ s ∷ [])
AreAllWatched-push lits [] [] e s watched new = (new, tt)
AreAllWatched-push lits [] (y ∷ spans) e s watched new = absurd watched
AreAllWatched-push lits (x ∷ es) [] e s watched new = absurd watched
AreAllWatched-push lits (x ∷ es) (y ∷ spans) e s watched new = (watched.0, AreAllWatched-push lits es spans e s watched.1 new)

-- what is said by a span alone
pub read_span : {Y : Type 0} (f : HeadState → Y) (y : Y) (lits : List ℤ) (es : List Edges) (spans : List SpanState) (k : ℕ) (s : SpanState) → AreAllWatched lits es spans → k < length spans → s ≡ get_or spans k s → ((e : Edges) → f (head_at lits e s) ≡ y) → slice_get (map f (heads_in lits es spans)) k ≡ Some y
read_span f y lits es spans k s watched lt is says =
    let e = get_or es k no_edges in
    let at : e ≡ get_or es k e = get_or_default es k no_edges e (omega (arith, same_length lits es spans watched)) in
    read_at f lits es spans k e s watched lt at is ∙ ap Some (says e)

-- what is said by edges alone
pub read_edges : {Y : Type 0} (f : HeadState → Y) (y : Y) (lits : List ℤ) (es : List Edges) (spans : List SpanState) (k : ℕ) (e : Edges) → AreAllWatched lits es spans → k < length spans → e ≡ get_or es k e → ((s : SpanState) → f (head_at lits e s) ≡ y) → slice_get (map f (heads_in lits es spans)) k ≡ Some y
read_edges f y lits es spans k e watched lt is says =
    let s = get_or spans k no_span in
    read_at f lits es spans k e s watched lt is (get_or_default spans k no_span s lt) ∙ ap Some (says s)

-- a clause that is known is among the spans
pub inside : (arena : ArenaState) (lits : List ℤ) (es : List Edges) (spans : List SpanState) (k : ℕ) → heads_in lits es spans ≡ arena.heads → AreAllWatched lits es spans → k < length arena.heads → k < length spans
inside arena lits es spans k is watched lt = omega (arith, lt, ap length is, length-heads_in lits es spans watched)

pub live_inside : (arena : ArenaState) (lits : List ℤ) (es : List Edges) (spans : List SpanState) (k : ℕ) → heads_in lits es spans ≡ arena.heads → AreAllWatched lits es spans → IsLive arena.heads k → k < length spans
live_inside arena lits es spans k is watched live =
    let lt = slice_get_within (lives_of arena.heads) k true live in
    inside arena lits es spans k is watched (omega (arith, lt, length-map arena.heads (λ (head : HeadState). head.live)))

pub span_at : (spans : List SpanState) (tail k : ℕ) (s : SpanState) → AreInOrder 0 spans tail → k < length spans → s ≡ get_or spans k s → IsBetween 0 tail s
span_at spans tail k s order lt is = subst (IsBetween 0 tail) (sym is) (between 0 spans tail k s order lt)

link_read : (w : Bool) (e : Edges) (edge : Edge) → edge ≡ cond w e.second e.first → (lits : List ℤ) (s : SpanState) → link_of w (head_at lits e s) ≡ link_in edge.next
link_read true e edge is lits s = ap (λ (x : Edge). link_in x.next) (sym is)
link_read false e edge is lits s = ap (λ (x : Edge). link_in x.next) (sym is)

pub link_at : (lits : List ℤ) (es : List Edges) (spans : List SpanState) (k : ℕ) (w : Bool) (e : Edges) (edge : Edge) → AreAllWatched lits es spans → k < length spans → e ≡ get_or es k e → edge ≡ cond w e.second e.first → slice_get (map (link_of w) (heads_in lits es spans)) k ≡ Some (link_in edge.next)
link_at lits es spans k w e edge watched lt at is = read_edges (link_of w) (link_in edge.next) lits es spans k e watched lt at (link_read w e edge is lits)

slice_get-slice_range : (lits : List ℤ) (s e k : ℕ) → k < length (slice_range lits s e) → (s + k < e) × (slice_get (slice_range lits s e) k ≡ Some (get_or lits (s + k) (pos 0)))
slice_get-slice_range lits s e k lt =
    let short : k < e - s = omega (arith, lt, length-take (e - s) (drop s lits)) in (
      omega arith,
      slice_get-get_or (slice_range lits s e) k (pos 0) lt
          ∙ ap Some (get_or-take (e - s) (drop s lits) k (pos 0) short ∙ get_or-drop s lits k (pos 0)),
    )

watched_read : (lits : List ℤ) (w : Bool) (e : Edges) (s : SpanState) (edge : Edge) → AreWatched lits e s → edge ≡ cond w e.second e.first → place_of w < length (slice_range lits s.start s.end) → slice_get (slice_range lits s.start s.end) (place_of w) ≡ Some edge.lit
watched_read lits true e s edge watched is lt =
    let at = slice_get-slice_range lits s.start s.end 1 lt in
    at.1 ∙ ap Some (sym (ap (λ (x : Edge). x.lit) is ∙ watched.second at.0))
watched_read lits false e s edge watched is lt =
    let at = slice_get-slice_range lits s.start s.end 0 lt in
    at.1 ∙ ap Some (ap (λ n. get_or lits n (pos 0)) (omega arith) ∙ sym (ap (λ (x : Edge). x.lit) is ∙ watched.first (omega (arith, at.0))))

-- the literal that an edge watches
pub watched_literal : (lits : List ℤ) (es : List Edges) (spans : List SpanState) (k : ℕ) (w : Bool) (e : Edges) (l : ℤ) → AreAllWatched lits es spans → k < length spans → e ≡ get_or es k e → l ≡ cond w e.second.lit e.first.lit
    → ForSome (slice_get (heads_in lits es spans) k) (λ head. place_of w < length head.lits)
    → IfSome (slice_get (heads_in lits es spans) k) (λ head. slice_get head.lits (place_of w) ≡ Some l)
watched_literal lits es spans k w e l watched lt at is long =
    let s = get_or spans k no_span in
    let read = slice_get-heads_in lits es spans k e s watched lt at (get_or_default spans k no_span s lt) in
    let watches : AreWatched lits e s = subst (λ (x : Edges). AreWatched lits x s) (sym at) (watched_at lits es spans k e no_span watched lt) in
    rw read (watched_read lits w e s (cond w e.second e.first) watches refl (long (head_at lits e s) read) ∙ ap Some (edge_lit w ∙ sym is)) where
      edge_lit : (v : Bool) → (cond v e.second e.first).lit ≡ cond v e.second.lit e.first.lit
      edge_lit true = refl
      edge_lit false = refl

slice_range-from : (lits : List ℤ) (tail end : ℕ) → end ≡ length lits → slice_range lits tail end ≡ drop tail lits
slice_range-from lits tail end is = take_all (end - tail) (drop tail lits) (omega (arith, length-drop tail lits, is))

-- edges that watch the first two literals of the tail
pub AreWatched-of : (lits piece : List ℤ) (tail end : ℕ) (e : Edges) (s : SpanState) → piece ≡ slice_range lits tail end → s.start ≡ tail → s.end ≡ end → end ≡ length lits
    → (0 < length piece → e.first.lit ≡ get_or piece 0 (pos 0))
    → (1 < length piece → e.second.lit ≡ get_or piece 1 (pos 0))
    → AreWatched lits e s
AreWatched-of lits piece tail end e s is starts ends whole first second =
    let all : piece ≡ drop tail lits = is ∙ slice_range-from lits tail end whole in
    let long : length piece ≡ length lits - tail = ap length all ∙ length-drop tail lits in
    let at = λ (k : ℕ). ap (λ (ls : List ℤ). get_or ls k (pos 0)) all ∙ get_or-drop tail lits k (pos 0) in
    record {
      first = λ lt. first (omega (arith, lt, long, starts, ends, whole)) ∙ at 0 ∙ ap (λ n. get_or lits n (pos 0)) (omega (arith, starts));
      second = λ lt. second (omega (arith, lt, long, starts, ends, whole)) ∙ at 1 ∙ ap (λ n. get_or lits n (pos 0)) (omega (arith, starts));
    }

-- the clause that was at the tail
pub head_at-sealed : (lits : List ℤ) (tail end : ℕ) (e : Edges) (s : SpanState) → s.start ≡ tail → s.end ≡ end → end ≡ length lits → link_in e.first.next ≡ None → link_in e.second.next ≡ None
    → head_at lits e s ≡ record { id = s.id; live = s.live; lits = drop tail lits; first = None; second = None }
head_at-sealed lits tail end e s starts ends whole first second =
    rw (starts, ends, first, second, slice_range-from lits tail end whole) refl

-- a clause that is known has its literals within its span
pub literal_inside : (arena : ArenaState) (lits : List ℤ) (es : List Edges) (spans : List SpanState) (k i : ℕ) (s : SpanState) → heads_in lits es spans ≡ arena.heads → AreAllWatched lits es spans → k < length spans → s ≡ get_or spans k s
    → ForSome (slice_get arena.heads k) (λ head. i < length head.lits)
    → s.start + i < s.end
literal_inside arena lits es spans k i s is watched lt at_span long =
    let e = get_or es k no_edges in
    let at_edges : e ≡ get_or es k e = get_or_default es k no_edges e (omega (arith, same_length lits es spans watched)) in
    let read = slice_get-heads_in lits es spans k e s watched lt at_edges at_span in
    let short : i < length (slice_range lits s.start s.end) = long (head_at lits e s) (ap (λ (heads : List HeadState). slice_get heads k) (sym is) ∙ read) in
    omega (arith, short, length-take (s.end - s.start) (drop s.start lits))

-- a literal of a clause that is known
pub literal_read : (arena : ArenaState) (lits : List ℤ) (es : List Edges) (spans : List SpanState) (k i : ℕ) (s : SpanState) (l : ℤ) → heads_in lits es spans ≡ arena.heads → AreAllWatched lits es spans → k < length spans → s ≡ get_or spans k s
    → s.start + i < s.end → s.end ≤ length lits → l ≡ get_or lits (s.start + i) (pos 0)
    → IfSome (slice_get arena.heads k) (λ head. slice_get head.lits i ≡ Some l)
literal_read arena lits es spans k i s l is watched lt at_span within fits read =
    let e = get_or es k no_edges in
    let at_edges : e ≡ get_or es k e = get_or_default es k no_edges e (omega (arith, same_length lits es spans watched)) in
    let found : slice_get arena.heads k ≡ Some (head_at lits e s) = ap (λ (heads : List HeadState). slice_get heads k) (sym is) ∙ slice_get-heads_in lits es spans k e s watched lt at_edges at_span in
    let short : i < length (slice_range lits s.start s.end) = omega (arith, within, fits, length-take (s.end - s.start) (drop s.start lits), length-drop s.start lits) in
    rw found ((slice_get-slice_range lits s.start s.end i short).1 ∙ ap Some (sym read))

abbrev pub arena_of : List HeadState → List ℤ → ℕ → ℕ → Bool → ArenaState
arena_of heads tail spare_heads spare_lits planned = record { heads = heads; tail = tail; spare_heads = spare_heads; spare_lits = spare_lits; planned = planned }

-- the same clauses and the same tail make the same arena
pub same_arena : (xs ys : List HeadState) (tail rest : List ℤ) (spare_heads spare_lits : ℕ) (planned : Bool) → xs ≡ ys → tail ≡ rest → arena_of xs tail spare_heads spare_lits planned ≡ arena_of ys rest spare_heads spare_lits planned
same_arena xs ys tail rest spare_heads spare_lits planned heads tails = rw (heads, tails) refl
