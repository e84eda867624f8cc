-- What stands in a buffer before the tail stays while the tail changes.
use Rattle.std.proofs.Common.{◌≡◌, ℕ, ◌+◌, ◌-◌, ◌<◌, ◌≤◌, List, [], ◌∷◌, get_or, take, drop, refl, sym, ap, ◌∙◌, arith}
use Rattle.std.specs.Prelude.{ℤ, pos}
use Rattle.std.specs.List.{slice_range}
use Rattle.std.proofs.lemmas.List.{drop-take, get_or-take, take-take}
use Rattle.lls_arena.specs.declared.edges.Edges.{Edges}
use Rattle.lls_arena.specs.Arena.{HeadState}
use Rattle.lls_arena.specs.Parts.{AreAllWatched, AreInOrder, AreWatched, SpanState, head_at, heads_in}

slice_range-front : (xs : List ℤ) (s e n : ℕ) → s ≤ e → e ≤ n → slice_range xs s e ≡ drop s (take e (take n xs))
slice_range-front xs s e n le within =
    sym (drop-take s (e - s) xs)
    ∙ ap (λ k. drop s (take k xs)) (omega arith)
    ∙ ap (drop s) (sym (take-take e n xs within))

-- a piece depends on the front of the buffer alone
slice_range-same : (xs ys : List ℤ) (s e n : ℕ) → take n xs ≡ take n ys → s ≤ e → e ≤ n → slice_range xs s e ≡ slice_range ys s e
slice_range-same xs ys s e n same le within =
    slice_range-front xs s e n le within
    ∙ ap (λ (front : List ℤ). drop s (take e front)) same
    ∙ sym (slice_range-front ys s e n le within)

get_or-same : (xs ys : List ℤ) (k n : ℕ) (d : ℤ) → take n xs ≡ take n ys → k < n → get_or xs k d ≡ get_or ys k d
get_or-same xs ys k n d same lt = sym (get_or-take n xs k d lt) ∙ ap (λ (front : List ℤ). get_or front k d) same ∙ get_or-take n ys k d lt

-- clauses in order begin by the tail
pub AreInOrder-le : (from : ℕ) (spans : List SpanState) (tail : ℕ) → AreInOrder from spans tail → from ≤ tail
AreInOrder-le from [] tail order = order
AreInOrder-le from (s ∷ spans) tail order = omega (arith, order.0, order.1, AreInOrder-le s.end spans tail order.2)

pub heads_in-same : (xs ys : List ℤ) (es : List Edges) (spans : List SpanState) (from tail : ℕ) → take tail xs ≡ take tail ys → AreInOrder from spans tail → heads_in xs es spans ≡ heads_in ys es spans
heads_in-same xs ys [] spans from tail same order = refl
heads_in-same xs ys (e ∷ es) [] from tail same order = refl
heads_in-same xs ys (e ∷ es) (s ∷ spans) from tail same order =
    let piece : slice_range xs s.start s.end ≡ slice_range ys s.start s.end = slice_range-same xs ys s.start s.end tail same order.1 (AreInOrder-le s.end spans tail order.2) in
    ap (λ (lits : List ℤ). record (head_at xs e s) { lits = lits } ∷ heads_in xs es spans) piece
    ∙ ap (λ (heads : List HeadState). head_at ys e s ∷ heads) (heads_in-same xs ys es spans s.end tail same order.2)

AreWatched-same : (xs ys : List ℤ) (e : Edges) (s : SpanState) (tail : ℕ) → take tail xs ≡ take tail ys → s.end ≤ tail → AreWatched xs e s → AreWatched ys e s
AreWatched-same xs ys e s tail same ends watched = record {
  first = λ lt. watched.first lt ∙ get_or-same xs ys s.start tail (pos 0) same (omega arith);
  second = λ lt. watched.second lt ∙ get_or-same xs ys (s.start + 1) tail (pos 0) same (omega arith);
}

pub AreAllWatched-same : (xs ys : List ℤ) (es : List Edges) (spans : List SpanState) (from tail : ℕ) → take tail xs ≡ take tail ys → AreInOrder from spans tail → AreAllWatched xs es spans → AreAllWatched ys es spans
AreAllWatched-same xs ys [] [] from tail same order watched = tt
AreAllWatched-same xs ys [] (s ∷ spans) from tail same order watched = watched
AreAllWatched-same xs ys (e ∷ es) [] from tail same order watched = watched
AreAllWatched-same xs ys (e ∷ es) (s ∷ spans) from tail same order watched = (
  AreWatched-same xs ys e s tail same (AreInOrder-le s.end spans tail order.2) watched.0,
  AreAllWatched-same xs ys es spans s.end tail same order.2 watched.1,
)
