-- Histories that go on by a rule, one generation after another.
use Rattle.std.proofs.Common.{◌≡◌, ◌<◌, ◌≤◌, ℕ, zero, suc, ◌+◌, ◌-◌, ◌*◌, Bool, true, List, [], ◌∷◌, ◌++◌, ◌==◌, length, set, take, drop, refl, sym, ap, ◌∙◌, arith, inl, inr, length-set, length-append, length-take}
use Rattle.std.specs.List.{list_all}
use Rattle.std.proofs.lemmas.Bool.{and_parts, and_from, eq-eqb}
use Rattle.std.proofs.lemmas.List.{get_or-take, get_or_append_left, take_more_set}
use Rattle.std.proofs.Math.Nat.{eq-or-lt_of_le}
use Rattle.std.proofs.Math.Seq.{get_or-append_seam}
use Rattle.std.proofs.lemmas.List.FromFn.{length-map-range_with_len}
use Rattle.lls_grid.specs.Chunks.{chunked}
use Rattle.lls_grid.specs.History.{History, HasSizes, has_shape, rows_at, folded, height_of, width_of}
use Rattle.lls_grid.specs.Changes.{successor_row, successors, stepped}
use Rattle.lls_grid.specs.Evolution.{grown}
use Rattle.lls_grid.proofs.Chunks.{rows_at-folded_chunked, chunked-take}
use Rattle.lls_grid.proofs.Folded.{list_all_range}
use Rattle.lls_grid.proofs.Steps.{rows_count, cells_count, successors_same}

-- a generation that is the front of the cells
pub rows_at-folded_front : (generations height width : ℕ) (cells front : List Bool) → length cells ≡ width * (height * generations) → 0 < generations
    → length front ≡ width * height → take (length front) cells ≡ front → rows_at (folded generations height width cells) 0 ≡ chunked width height front
rows_at-folded_front generations height width cells front count some size is =
    let start : width * (height * 0) ≡ 0 = omega arith in
    rows_at-folded_chunked generations height width 0 cells count some
    ∙ (ap (λ n. chunked width height (drop n cells)) start
    ∙ (sym (chunked-take width height cells) ∙ ap (chunked width height) (ap (λ n. take n cells) (sym size) ∙ is)))

-- a step keeps the sizes
list_all-set : {X : Type 0} (p : X → Bool) (items : List X) (i : ℕ) (item : X) → list_all p items ≡ true → p item ≡ true → list_all p (set items i item) ≡ true
list_all-set p [] i item all new = refl
list_all-set p (first ∷ items) zero item all new = and_from (p item) (list_all p items) new (and_parts (p first) (list_all p items) all).1
list_all-set p (first ∷ items) (suc i) item all new =
    let parts = and_parts (p first) (list_all p items) all in
    and_from (p first) (list_all p (set items i item)) parts.0 (list_all-set p items i item parts.1 new)

pub HasSizes-stepped : (generations height width : ℕ) (table : List Bool) (history : History) (t : ℕ) → HasSizes generations height width history → 0 < generations → 0 < height
    → HasSizes generations height width (stepped table history t)
HasSizes-stepped generations height width table history t sizes some rows =
    let some_there : 0 < length history = omega (arith, sizes.0) in
    let high : height_of history ≡ height = rows_count generations height width 0 history sizes some_there in
    let wide : width_of history ≡ width = cells_count generations height width 0 0 history sizes some_there rows in
    let shape : has_shape height width (successors table history t) ≡ true =
    and_from (length (successors table history t) == height) _ (eq-eqb _ _ (length-map-range_with_len (successor_row table history t) 0 (height_of history) ∙ high))
    (list_all_range (λ row. length row == width) (successor_row table history t) 0 (height_of history)
    (λ y. eq-eqb _ _ (length-map-range_with_len _ 0 (width_of history) ∙ wide))) in
    (length-set history (t + 1) (successors table history t) ∙ sizes.0, list_all-set (has_shape height width) history (t + 1) (successors table history t) sizes.1 shape)

-- the first generation alone
pub take_one : (a b : History) → 0 < length a → 0 < length b → rows_at a 0 ≡ rows_at b 0 → take 1 a ≡ take 1 b
take_one [] b some others same = absurd (omega (arith, some))
take_one (x ∷ a) [] some others same = absurd (omega (arith, others))
take_one (x ∷ a) (y ∷ b) some others same = ap (λ rows. rows ∷ []) same

-- a step grows the generations that are written
pub take-stepped : (table : List Bool) (first history : History) (t : ℕ) → t + 1 < length history → take (t + 1) history ≡ grown table t first
    → take (t + 1 + 1) (stepped table history t) ≡ grown table (t + 1) first
unfolding grown
take-stepped table first history t within so_far =
    let front = take (t + 1) history in
    let count : length front - 1 ≡ t = omega (arith, length-take (t + 1) history, within) in
    let one : t + 1 ≡ suc t = omega arith in
    let same : successors table front t ≡ successors table history t =
    successors_same table history front t (get_or-take (t + 1) history t [] (omega arith)) (get_or-take (t + 1) history 0 [] (omega arith)) in
    take_more_set history (t + 1) (successors table history t) within
    ∙ (ap (λ rows. front ++ rows ∷ []) (sym same ∙ ap (successors table front) (sym count))
    ∙ (ap (λ before. before ++ successors table before (length before - 1) ∷ []) so_far
    ∙ ap (λ n. grown table n first) (sym one)))

pub length-grown : (table : List Bool) (more : ℕ) (history : History) → length (grown table more history) ≡ length history + more
unfolding grown
length-grown table zero history = omega arith
length-grown table (suc more) history =
    let before = grown table more history in
    omega (arith, length-append before (successors table before (length before - 1) ∷ []), length-grown table more history)

-- each generation after the first ones is what the rule makes of the one before
pub grown-goes_on : (table : List Bool) (more : ℕ) (history : History) (t : ℕ) → length history ≤ t + 1 → 0 < length history → t + 1 < length history + more
    → rows_at (grown table more history) (t + 1) ≡ successors table (grown table more history) t
unfolding grown
grown-goes_on table zero history t past some within = absurd (omega (arith, past, within))
grown-goes_on table (suc more) history t past some within =
    let before = grown table more history in
    let next = successors table before (length before - 1) in
    let count = length-grown table more history in
    let there : t < length before = omega (arith, count, within) in
    let ends : t + 1 ≤ length before = omega (arith, count, within) in
    let same : successors table (before ++ next ∷ []) t ≡ successors table before t =
    successors_same table before (before ++ next ∷ []) t (get_or_append_left before (next ∷ []) [] t there) (get_or_append_left before (next ∷ []) [] 0 (omega (arith, there))) in
    let goes_on : rows_at (before ++ next ∷ []) (t + 1) ≡ successors table before t =
    elim (eq-or-lt_of_le ends) [
      | inr earlier ↦ get_or_append_left before (next ∷ []) [] (t + 1) earlier ∙ grown-goes_on table more history t past some (omega (arith, count, earlier))
      | inl at ↦
          ap (rows_at (before ++ next ∷ [])) at ∙ (get_or-append_seam before next [] [] ∙ ap (successors table before) (omega (arith, at)))
    ] in
    goes_on ∙ sym same

pub grown-begins : (table : List Bool) (more : ℕ) (history : History) → 0 < length history → rows_at (grown table more history) 0 ≡ rows_at history 0
unfolding grown
grown-begins table zero history some = refl
grown-begins table (suc more) history some =
    let before = grown table more history in
    let there : 0 < length before = omega (arith, length-grown table more history, some) in
    get_or_append_left before (successors table before (length before - 1) ∷ []) [] 0 there ∙ grown-begins table more history some
