-- What stands in a buffer before the tail stays while the tail changes.
use Rattle.std.proofs.Common.{◌≡◌, ℕ, suc, ◌+◌, ◌-◌, ◌<◌, ◌≤◌, List, [], ◌∷◌, ◌++◌, length, get_or, take, drop, map, Some, refl, sym, ap, subst, ◌∙◌, arith}
use Rattle.std.specs.Prelude.{ℤ, All, remove, slice_get}
use Rattle.std.specs.List.{slice_range}
use Rattle.std.proofs.lemmas.List.{take-append-le, drop-append-le, drop-take, take-take, take-map, drop-map, map-append, length-map, get_or-map}
use Rattle.std.proofs.lemmas.List.Elements.{All-append, All-take, All-drop}
use Rattle.std.proofs.lemmas.Simd.{map-map}
use Rattle.std.proofs.lemmas.Option.{slice_get-map, slice_get_read}
use Rattle.lls_store.specs.declared.flat.Head.{Head}
use Rattle.lls_store.specs.Flat.{KeptClause, kept_at, kept_in, flat_in, EndsBy, AreHeads, AreNumbered, AreRenumbered}

slice_range-front : (xs : List ℤ) (s e n : ℕ) → s ≤ e → e ≤ n → slice_range xs s e ≡ drop s (take e (take n xs))
slice_range-front xs s e n le within =
    sym (drop-take s (e - s) xs)
    ∙ ap (λ k. drop s (take k xs)) (omega arith)
    ∙ ap (drop s) (sym (take-take e n xs within))

-- a piece depends on the front of the buffer alone
slice_range-same : (xs ys : List ℤ) (s e n : ℕ) → take n xs ≡ take n ys → s ≤ e → e ≤ n → slice_range xs s e ≡ slice_range ys s e
slice_range-same xs ys s e n same le within =
    slice_range-front xs s e n le within
    ∙ ap (λ (front : List ℤ). drop s (take e front)) same
    ∙ sym (slice_range-front ys s e n le within)

kept_in-same : (xs ys : List ℤ) (heads : List Head) (n : ℕ) → take n xs ≡ take n ys → All (EndsBy n) heads → kept_in xs heads ≡ kept_in ys heads
kept_in-same xs ys [] n same ends = refl
kept_in-same xs ys (h ∷ hs) n same ends =
    let first : EndsBy n h = ends 0 h (omega arith) in
    let rest : All (EndsBy n) hs = λ k d lt. ends (suc k) d (omega arith) in
    let piece : slice_range xs h.start h.end ≡ slice_range ys h.start h.end = slice_range-same xs ys h.start h.end n same first.in_order first.ends in
    ap (λ (lits : List ℤ). record { number = h.number; id = h.id; lits = lits } ∷ kept_in xs hs) piece
    ∙ ap (λ (more : List KeptClause). kept_at ys h ∷ more) (kept_in-same xs ys hs n same rest)

-- literals behind the tail
pub flat_in-append : (heads : List Head) (lits more : List ℤ) (tail heads_capacity lits_capacity : ℕ) → AreHeads heads tail (length lits) → flat_in heads (lits ++ more) tail heads_capacity lits_capacity ≡ record (flat_in heads lits tail heads_capacity lits_capacity) { tail = drop tail lits ++ more }
flat_in-append heads lits more tail hc lc h =
    rw (kept_in-same (lits ++ more) lits heads tail (take-append-le tail lits more h.tail_begins) h.end, drop-append-le tail lits more h.tail_begins) refl

-- the first literals of the tail
pub flat_in-take : (heads : List Head) (lits : List ℤ) (tail keep heads_capacity lits_capacity : ℕ) → AreHeads heads tail (length lits) → flat_in heads (take (tail + keep) lits) tail heads_capacity lits_capacity ≡ record (flat_in heads lits tail heads_capacity lits_capacity) { tail = take keep (drop tail lits) }
flat_in-take heads lits tail keep hc lc h =
    rw (kept_in-same (take (tail + keep) lits) lits heads tail (take-take tail (tail + keep) lits (omega arith)) h.end, drop-take tail keep lits) refl

-- what a head says of its clause
pub ids_read : (lits : List ℤ) (heads : List Head) (k : ℕ) (h : Head) → k < length heads → h ≡ get_or heads k h → slice_get (map (λ (clause : KeptClause). clause.id) (kept_in lits heads)) k ≡ Some h.id
ids_read lits heads k h lt is =
    slice_get-map (λ (clause : KeptClause). clause.id) (kept_in lits heads) k
    ∙ rw (slice_get-map (kept_at lits) heads k, slice_get_read heads (length heads) k h refl lt is) refl

pub lits_read : (lits : List ℤ) (heads : List Head) (k : ℕ) (h : Head) → k < length heads → h ≡ get_or heads k h → slice_get (map (λ (clause : KeptClause). clause.lits) (kept_in lits heads)) k ≡ Some (slice_range lits h.start h.end)
lits_read lits heads k h lt is =
    slice_get-map (λ (clause : KeptClause). clause.lits) (kept_in lits heads) k
    ∙ rw (slice_get-map (kept_at lits) heads k, slice_get_read heads (length heads) k h refl lt is) refl

pub numbers_read : (lits : List ℤ) (heads : List Head) (k : ℕ) (h : Head) → k < length heads → h ≡ get_or heads k h → slice_get (map (λ (clause : KeptClause). clause.number) (kept_in lits heads)) k ≡ Some h.number
numbers_read lits heads k h lt is =
    slice_get-map (λ (clause : KeptClause). clause.number) (kept_in lits heads) k
    ∙ rw (slice_get-map (kept_at lits) heads k, slice_get_read heads (length heads) k h refl lt is) refl

-- clauses have the numbers of their heads
pub numbers_of : (lits : List ℤ) (heads : List Head) → map (λ (clause : KeptClause). clause.number) (kept_in lits heads) ≡ map (λ (head : Head). head.number) heads
numbers_of lits heads = map-map (λ (clause : KeptClause). clause.number) (kept_at lits) heads

-- a head less
pub kept_in-remove : (lits : List ℤ) (heads : List Head) (k : ℕ) → kept_in lits (remove heads k) ≡ remove (kept_in lits heads) k
kept_in-remove lits heads k =
    map-append (kept_at lits) (take k heads) (drop (suc k) heads)
    ∙ rw (take-map (kept_at lits) k heads, drop-map (kept_at lits) (suc k) heads) refl

pub AreHeads-remove : (heads : List Head) (tail length_of k : ℕ) → k < length heads → AreHeads heads tail length_of → AreHeads (remove heads k) tail length_of
AreHeads-remove heads tail n k lt h = record {
  end = All-append (EndsBy tail) (take k heads) (drop (suc k) heads) (All-take (EndsBy tail) k heads h.end) (All-drop (EndsBy tail) (suc k) heads h.end);
  tail_begins = h.tail_begins;
}

-- heads with other numbers
pub kept_in-numbered : (lits : List ℤ) (old new : List Head) → AreNumbered old new → AreRenumbered (kept_in lits old) (kept_in lits new)
kept_in-numbered lits old new numbered = record {
  length_same = length-map new (kept_at lits) ∙ numbered.length_same ∙ sym (length-map old (kept_at lits));
  each = λ k d lt.
      let inside : k < length old = omega (arith, length-map old (kept_at lits)) in
      let blank : Head = record { start = 0; end = 0; number = 0; id = 0 } in
      get_or-map (kept_at lits) new k blank d (omega (arith, numbered.length_same))
      ∙ ap (kept_at lits) (numbered.each k blank inside)
      ∙ ap (λ (c : KeptClause). record c { number = k }) (sym (get_or-map (kept_at lits) old k blank d inside));
}

pub AreHeads-numbered : (old new : List Head) (tail length_of : ℕ) → AreNumbered old new → AreHeads old tail length_of → AreHeads new tail length_of
AreHeads-numbered old new tail n numbered h = record {
  end = λ k d lt.
      let inside : k < length old = omega (arith, numbered.length_same) in
      let P : Head → Type 0 = EndsBy tail in
      let was = h.end k d inside in
      subst P (sym (numbered.each k d inside)) (record { in_order = was.in_order; ends = was.ends });
  tail_begins = h.tail_begins;
}
