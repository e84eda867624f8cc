-- Pieces of a buffer that changes within one span.
use Rattle.std.proofs.Common.{◌≡◌, ◌≢◌, ◌⊎◌, inl, inr, ℕ, zero, suc, ◌+◌, ◌-◌, ◌<◌, ◌≤◌, List, [], ◌∷◌, length, get_or, set, take, drop, refl, sym, ap, subst, ◌∙◌, arith}
use Rattle.std.specs.Prelude.{ℤ, pos, Bool, true, false, not, swap}
use Rattle.std.specs.List.{SwappedAt, slice_range}
use Rattle.std.proofs.lemmas.List.{drop-set-add, get_or-drop, get_or-take, length-drop, length-take, same_lists}
use Rattle.std.proofs.lemmas.List.Edits.{swap_is}
use Rattle.lls_arena.specs.declared.edges.Edges.{Edges}
use Rattle.lls_arena.specs.Arena.{HeadState, changed_at, place_of, swapped}
use Rattle.lls_arena.specs.Links.{with_lit}
use Rattle.lls_arena.specs.Parts.{AreAllWatched, AreInOrder, AreWatched, DifferWithin, SpanState, head_at, heads_in}
use Rattle.lls_arena.proofs.Buffer.{AreInOrder-le}
use Rattle.lls_arena.proofs.Heads.{between}

pub length-slice_range : (xs : List ℤ) (s e : ℕ) → e ≤ length xs → length (slice_range xs s e) ≡ e - s
length-slice_range xs s e within = omega (arith, length-take (e - s) (drop s xs), length-drop s xs)

pub get_or-slice_range : (xs : List ℤ) (s e k : ℕ) (d : ℤ) → k < e - s → get_or (slice_range xs s e) k d ≡ get_or xs (s + k) d
get_or-slice_range xs s e k d lt = get_or-take (e - s) (drop s xs) k d lt ∙ get_or-drop s xs k d

slice_range-outside : (xs ys : List ℤ) (low high s e : ℕ) → DifferWithin xs ys low high → e ≤ length xs → (e ≤ low) ⊎ (high ≤ s) → slice_range ys s e ≡ slice_range xs s e
slice_range-outside xs ys low high s e differ within beside =
    same_lists (slice_range ys s e) (slice_range xs s e)
    (omega (arith, length-slice_range xs s e within, length-slice_range ys s e (omega (arith, differ.length_same))))
    (λ k d lt.
    let short : k < e - s = omega (arith, length-slice_range ys s e (omega (arith, differ.length_same))) in
    let place : (s + k < low) ⊎ (high ≤ s + k) = elim beside [ inl before ↦ inl (omega arith) | inr after ↦ inr (omega arith) ] in
    get_or-slice_range ys s e k d short ∙ differ.outside (s + k) d place ∙ sym (get_or-slice_range xs s e k d short))

AreWatched-outside : (xs ys : List ℤ) (low high : ℕ) (e : Edges) (s : SpanState) → DifferWithin xs ys low high → (s.end ≤ low) ⊎ (high ≤ s.start) → AreWatched xs e s → AreWatched ys e s
AreWatched-outside xs ys low high e s differ beside watched =
    let place : (k : ℕ) → s.start ≤ k → k < s.end → (k < low) ⊎ (high ≤ k) = λ k from to. elim beside [ inl before ↦ inl (omega arith) | inr after ↦ inr (omega arith) ] in
    record {
      first = λ lt. watched.first lt ∙ sym (differ.outside s.start (pos 0) (place s.start (omega arith) lt));
      second = λ lt. watched.second lt ∙ sym (differ.outside (s.start + 1) (pos 0) (place (s.start + 1) (omega arith) lt));
    }

-- the clauses behind the span
pub heads_in-behind : (xs ys : List ℤ) (es : List Edges) (spans : List SpanState) (from tail low high : ℕ) → DifferWithin xs ys low high → high ≤ from → tail ≤ length xs → AreInOrder from spans tail → heads_in ys es spans ≡ heads_in xs es spans
heads_in-behind xs ys [] spans from tail low high differ behind within order = refl
heads_in-behind xs ys (e ∷ es) [] from tail low high differ behind within order = refl
heads_in-behind xs ys (e ∷ es) (s ∷ spans) from tail low high differ behind within order =
    let ends = AreInOrder-le s.end spans tail order.2 in
    ap (λ (lits : List ℤ). record (head_at ys e s) { lits = lits } ∷ heads_in ys es spans) (slice_range-outside xs ys low high s.start s.end differ (omega arith) (inr (omega (arith, order.0))))
    ∙ ap (λ (heads : List HeadState). head_at xs e s ∷ heads) (heads_in-behind xs ys es spans s.end tail low high differ (omega (arith, order.0, order.1)) within order.2)

pub AreAllWatched-behind : (xs ys : List ℤ) (es : List Edges) (spans : List SpanState) (from tail low high : ℕ) → DifferWithin xs ys low high → high ≤ from → AreInOrder from spans tail → AreAllWatched xs es spans → AreAllWatched ys es spans
AreAllWatched-behind xs ys [] [] from tail low high differ behind order watched = tt
AreAllWatched-behind xs ys [] (s ∷ spans) from tail low high differ behind order watched = watched
AreAllWatched-behind xs ys (e ∷ es) [] from tail low high differ behind order watched = watched
AreAllWatched-behind xs ys (e ∷ es) (s ∷ spans) from tail low high differ behind order watched = (
  AreWatched-outside xs ys low high e s differ (inr (omega (arith, order.0))) watched.0,
  AreAllWatched-behind xs ys es spans s.end tail low high differ (omega (arith, order.0, order.1)) order.2 watched.1,
)

-- the span of a clause begins behind those before it
begins_behind : (from : ℕ) (spans : List SpanState) (tail c : ℕ) (s : SpanState) → AreInOrder from spans tail → c < length spans → s ≡ get_or spans c s → from ≤ s.start
begins_behind from spans tail c s order lt is = omega (arith, (between from spans tail c s order lt).begins, ap (λ (x : SpanState). x.start) is)

-- one clause changes within its span
module _ (xs ys : List ℤ) (change : HeadState → HeadState) (e new : Edges) (s : SpanState) (tail : ℕ) (differ : DifferWithin xs ys s.start s.end) (within : tail ≤ length xs) where
  pub heads_in-changed : (es : List Edges) (spans : List SpanState) (from c : ℕ) → head_at ys new s ≡ change (head_at xs e s) → AreInOrder from spans tail → AreAllWatched xs es spans → c < length spans → e ≡ get_or es c e → s ≡ get_or spans c s → heads_in ys (set es c new) spans ≡ changed_at change c (heads_in xs es spans)
  heads_in-changed [] [] from c says order watched lt at_edges at_span = absurd (omega arith)
  heads_in-changed [] (y ∷ spans) from c says order watched lt at_edges at_span = absurd watched
  heads_in-changed (x ∷ es) [] from c says order watched lt at_edges at_span = absurd watched
  heads_in-changed (x ∷ es) (y ∷ spans) from zero says order watched lt at_edges at_span =
      let ends : s.end ≡ y.end = ap (λ (z : SpanState). z.end) at_span in
      ap (λ z. head_at ys new z ∷ heads_in ys es spans) (sym at_span)
      ∙ ap (λ head. head ∷ heads_in ys es spans) (says ∙ ap (λ z. change (head_at xs z s)) at_edges ∙ ap (λ z. change (head_at xs x z)) at_span)
      ∙ ap (λ (heads : List HeadState). change (head_at xs x y) ∷ heads) (heads_in-behind xs ys es spans y.end tail s.start s.end differ (omega (arith, ends)) within order.2)
  heads_in-changed (x ∷ es) (y ∷ spans) from (suc c) says order watched lt at_edges at_span =
      let behind : y.end ≤ s.start = begins_behind y.end spans tail c s order.2 (omega arith) at_span in
      let ends = AreInOrder-le y.end spans tail order.2 in
      ap (λ (lits : List ℤ). record (head_at ys x y) { lits = lits } ∷ heads_in ys (set es c new) spans) (slice_range-outside xs ys s.start s.end y.start y.end differ (omega arith) (inl behind))
      ∙ ap (λ (heads : List HeadState). head_at xs x y ∷ heads) (heads_in-changed es spans y.end c says order.2 watched.1 (omega arith) at_edges at_span)

  pub AreAllWatched-changed : (es : List Edges) (spans : List SpanState) (from c : ℕ) → AreWatched ys new s → AreInOrder from spans tail → AreAllWatched xs es spans → c < length spans → s ≡ get_or spans c s → AreAllWatched ys (set es c new) spans
  AreAllWatched-changed [] [] from c watches order watched lt at_span = absurd (omega arith)
  AreAllWatched-changed [] (y ∷ spans) from c watches order watched lt at_span = absurd watched
  AreAllWatched-changed (x ∷ es) [] from c watches order watched lt at_span = absurd watched
  AreAllWatched-changed (x ∷ es) (y ∷ spans) from zero watches order watched lt at_span =
      let ends : s.end ≡ y.end = ap (λ (z : SpanState). z.end) at_span in
      (subst (AreWatched ys new) at_span watches, AreAllWatched-behind xs ys es spans y.end tail s.start s.end differ (omega (arith, ends)) order.2 watched.1)
  AreAllWatched-changed (x ∷ es) (y ∷ spans) from (suc c) watches order watched lt at_span =
      let behind : y.end ≤ s.start = begins_behind y.end spans tail c s order.2 (omega arith) at_span in
      (AreWatched-outside xs ys s.start s.end x y differ (inl behind) watched.0, AreAllWatched-changed es spans y.end c watches order.2 watched.1 (omega arith) at_span)

take-set : (m : ℕ) (xs : List ℤ) (i : ℕ) (a : ℤ) → take m (set xs i a) ≡ set (take m xs) i a
take-set zero xs i a = refl
take-set (suc m) [] i a = refl
take-set (suc m) (x ∷ xs) zero a = refl
take-set (suc m) (x ∷ xs) (suc i) a = ap (λ (ys : List ℤ). x ∷ ys) (take-set m xs i a)

slice_range-set : (xs : List ℤ) (s e i : ℕ) (a : ℤ) → slice_range (set xs (s + i) a) s e ≡ set (slice_range xs s e) i a
slice_range-set xs s e i a = ap (take (e - s)) (drop-set-add s xs i a) ∙ take-set (e - s) (drop s xs) i a

-- two literals of a piece change places
pub slice_range-swapped : (xs ys : List ℤ) (s e i j : ℕ) → SwappedAt xs ys (s + i) (s + j) → s + i < e → s + j < e → e ≤ length xs → slice_range ys s e ≡ swap (slice_range xs s e) i j
slice_range-swapped xs ys s e i j swaps first second within =
    let d : ℤ = pos 0 in
    let a = get_or xs (s + j) d in
    let b = get_or xs (s + i) d in
    let piece = slice_range xs s e in
    let long = length-slice_range xs s e within in
    ap (λ (zs : List ℤ). slice_range zs s e) (swaps.3 d)
    ∙ slice_range-set (set xs (s + i) a) s e j b
    ∙ ap (λ (zs : List ℤ). set zs j b) (slice_range-set xs s e i a)
    ∙ ap (λ z. set (set piece i z) j b) (sym (get_or-slice_range xs s e j d (omega arith)))
    ∙ ap (λ z. set (set piece i (get_or piece j d)) j z) (sym (get_or-slice_range xs s e i d (omega arith)))
    ∙ swap_is piece i j d (omega (arith, long)) (omega (arith, long))

pub DifferWithin-swapped : (xs ys : List ℤ) (s e i j : ℕ) → SwappedAt xs ys (s + i) (s + j) → length ys ≡ length xs → s + i < e → s + j < e → DifferWithin xs ys s e
DifferWithin-swapped xs ys s e i j swaps same first second = record {
  length_same = same;
  outside = λ k d beside. swaps.2 k d (λ at. clash k beside (s + i) at (omega arith) first) (λ at. clash k beside (s + j) at (omega arith) second);
} where
  clash : (k : ℕ) → (k < s) ⊎ (e ≤ k) → (n : ℕ) → k ≡ n → s ≤ n → n < e → ⊥
  clash k (inl before) n at from to = omega arith
  clash k (inr after) n at from to = omega arith

-- an edge that watches the literal which came to its place
pub AreWatched-swapped : (xs ys : List ℤ) (e : Edges) (s : SpanState) (w : Bool) (n : ℕ) (lit : ℤ) → SwappedAt xs ys (s.start + place_of w) (s.start + n) → n ≢ place_of (not w)
    → lit ≡ get_or ys (s.start + place_of w) (pos 0) → AreWatched xs e s → AreWatched ys (with_lit w lit e) s
AreWatched-swapped xs ys e s false n lit swaps beside is watched = record {
  first = λ lt. is ∙ ap (λ k. get_or ys k (pos 0)) (omega arith);
  second = λ lt. watched.second lt ∙ sym (swaps.2 (s.start + 1) (pos 0) (λ same. omega (arith, same)) (λ same. beside (omega (arith, same))));
}
AreWatched-swapped xs ys e s true n lit swaps beside is watched = record {
  first = λ lt. watched.first lt ∙ sym (swaps.2 s.start (pos 0) (λ same. omega (arith, same)) (λ same. beside (omega (arith, same))));
  second = λ lt. is;
}

-- it leads where it led
pub with_lit_links : (w : Bool) (lit : ℤ) (e : Edges) → ((with_lit w lit e).first.next ≡ e.first.next) × ((with_lit w lit e).second.next ≡ e.second.next)
with_lit_links false lit e = (refl, refl)
with_lit_links true lit e = (refl, refl)

-- a clause whose literals changed places
pub head_at-swapped : (xs ys : List ℤ) (e new : Edges) (s : SpanState) (i j : ℕ) → slice_range ys s.start s.end ≡ swap (slice_range xs s.start s.end) i j → new.first.next ≡ e.first.next → new.second.next ≡ e.second.next → head_at ys new s ≡ swapped i j (head_at xs e s)
head_at-swapped xs ys e new s i j is first second = rw (is, first, second) refl

-- what stands behind the span
pub drop-outside : (xs ys : List ℤ) (low high n : ℕ) → DifferWithin xs ys low high → high ≤ n → drop n ys ≡ drop n xs
drop-outside xs ys low high n differ behind =
    same_lists (drop n ys) (drop n xs)
    (omega (arith, length-drop n xs, length-drop n ys, differ.length_same))
    (λ k d lt. get_or-drop n ys k d ∙ differ.outside (n + k) d (inr (omega arith)) ∙ sym (get_or-drop n xs k d))

-- what stands before the span
pub take-outside : (xs ys : List ℤ) (low high : ℕ) → DifferWithin xs ys low high → take low ys ≡ take low xs
take-outside xs ys low high differ =
    same_lists (take low ys) (take low xs)
    (omega (arith, length-take low xs, length-take low ys, differ.length_same))
    (λ k d lt.
    let before : k < low = omega (arith, length-take low ys) in
    get_or-take low ys k d before ∙ differ.outside k d (inl before) ∙ sym (get_or-take low xs k d before))
