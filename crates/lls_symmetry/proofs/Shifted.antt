-- Values are moved exactly where those outside the grid come back and those of the listed pairs are equal.
use Rattle.std.proofs.Common.{◌≡◌, ◌<◌, ◌↔◌, ℕ, ◌+◌, ◌-◌, ℤ, pos, negsuc, ◌+ℤ◌, ◌-ℤ◌, ◌≤ℤ◌, ◌<ℤ◌, Bool, true, false, cond, ◌&&◌, List, [], ◌∷◌, ◌++◌, append_assoc, refl, sym, ap, ◌∙◌, subst, arith, nat_lt, ltb-true, Some, None, unsigned_abs, inl, inr}
use Rattle.std.specs.List.{AllByRecursion as Each, flat_map, range_with_len}
use Rattle.std.specs.Prelude.{is_some}
use Rattle.std.proofs.lemmas.Int.{ints}
use Rattle.std.proofs.lemmas.List.Elements.{All-from_recursion, recursion_from_All}
use Rattle.lls_grid.specs.Place.{inside, IsWithin}
use Rattle.lls_symmetry.specs.declared.moved.Moved.{Moved}
use Rattle.lls_symmetry.specs.declared.moved.TheConstants.{MOST_SHIFT}
use Rattle.lls_symmetry.specs.Motion.{Place, IsOnGrid}
use Rattle.lls_symmetry.specs.Moved.{leaving, coming, is_on_grid, entering, row_leaving, row_entering, all_leaving, all_entering, course_at, generation_moved, moved_pairs_of, IsMoved, HaveBackgrounds, BackgroundsReturn, IsMovedPair, AreMoved}
use Rattle.lls_symmetry.proofs.Joined.{joined_more}
use Rattle.lls_symmetry.proofs.Everywhere.{Each-append, Each-front, Each-back, Each-range, range-each, Each-mapped, mapped-each}
use Rattle.lls_symmetry.proofs.Symmetric.{pos-unsigned_abs, row-on_grid, on_grid_or_off}

abbrev place_of : ℤ → ℤ → Place
place_of y x = record { y = y; x = x }

-- a row or a column that has a number is one of the grid's
has_number : (size n : ℕ) (b : Bool) → nat_lt n size ≡ b → is_some (cond b (Some n) None) ≡ true → (pos 0 ≤ℤ pos n) × (pos n <ℤ pos size)
has_number size n true test some = let less : n < size = ltb-true n size test in (omega (arith, ints), omega (arith, ints))
has_number size n false test some = cc

inside-some : (size : ℕ) (z : ℤ) → is_some (inside z size) ≡ true → (pos 0 ≤ℤ z) × (z <ℤ pos size)
inside-some size (pos n) some = has_number size n (nat_lt n size) refl some
inside-some size (negsuc n) some = cc

both_true : (a b : Bool) → (a && b) ≡ true → (a ≡ true) × (b ≡ true)
both_true true true both = (refl, refl)
both_true true false both = cc
both_true false b both = cc

on_grid-by_test : (height width : ℕ) (y x : ℤ) → is_on_grid height width y x ≡ true → IsOnGrid height width (place_of y x)
on_grid-by_test height width y x test =
    let both = both_true (is_some (inside y height)) (is_some (inside x width)) test in
    let row = inside-some height y both.0 in
    let column = inside-some width x both.1 in
    record { top = row.0; bottom = row.1; left = column.0; right = column.1 }

back_and_forth : (a b : ℤ) → (a -ℤ b) +ℤ b ≡ a
back_and_forth a b = omega (arith, ints)

forth_and_back : (a b : ℤ) → (a +ℤ b) -ℤ b ≡ a
forth_and_back a b = omega (arith, ints)

-- where values are moved, those outside the grid come back: far enough from the grid a place and where it goes are outside
pub back_by_moved : (generations height width period : ℕ) (dx dy : ℤ) (value : ℕ → ℤ → ℤ → Bool) (backgrounds : ℕ → Bool) → IsWithin MOST_SHIFT dy
    → HaveBackgrounds generations height width value backgrounds → IsMoved generations period dx dy value → BackgroundsReturn generations period backgrounds
back_by_moved generations height width period dx dy value backgrounds rows blank moved = λ t later.
    let far : ℤ = pos (height + 64) in
    let low : pos height ≤ℤ far = omega (arith, ints) in
    let low' : pos height ≤ℤ (far +ℤ dy) = omega (arith, ints, rows.0) in
    sym (blank t (omega arith) (place_of far (pos 0)) (λ on. absurd (omega (arith, ints, on.bottom))))
    ∙ sym (moved t far (pos 0) later)
    ∙ blank (t + period) later (place_of (far +ℤ dy) (pos 0 +ℤ dx)) (λ on. absurd (omega (arith, ints, on.bottom)))

-- and those of each pair are equal
leaving_equal : (generations height width period t : ℕ) (dx dy : ℤ) (value : ℕ → ℤ → ℤ → Bool) → IsMoved generations period dx dy value → t + period < generations
    → Each (IsMovedPair value) (all_leaving (course_at period dx dy t) height width)
leaving_equal generations height width period t dx dy value moved later =
    Each-range (IsMovedPair value) (row_leaving (course_at period dx dy t) width) height (λ y row.
    Each-mapped (IsMovedPair value) (leaving (course_at period dx dy t) y) width (λ x column. sym (moved t (pos y) (pos x) later)))

came_equal : (value : ℕ → ℤ → ℤ → Bool) (generations period t : ℕ) (dx dy y x : ℤ) → IsMoved generations period dx dy value → t + period < generations
    → value t (y -ℤ dy) (x -ℤ dx) ≡ value (t + period) y x
came_equal value generations period t dx dy y x moved later =
    sym (moved t (y -ℤ dy) (x -ℤ dx) later)
    ∙ ap (λ z. value (t + period) z ((x -ℤ dx) +ℤ dx)) (back_and_forth y dy) ∙ ap (value (t + period) y) (back_and_forth x dx)

entering_equal : (generations height width period t : ℕ) (dx dy : ℤ) (value : ℕ → ℤ → ℤ → Bool) → IsMoved generations period dx dy value → t + period < generations
    → Each (IsMovedPair value) (all_entering (course_at period dx dy t) height width)
entering_equal generations height width period t dx dy value moved later =
    Each-range (IsMovedPair value) (row_entering (course_at period dx dy t) height width) height (λ y row.
    Each-range (IsMovedPair value) (entering (course_at period dx dy t) height width y) width (λ x column.
    one_or_none value (coming (course_at period dx dy t) y x) _ (came_equal value generations period t dx dy (pos y) (pos x) moved later)))
  where
    one_or_none : (value : ℕ → ℤ → ℤ → Bool) (pair : Moved) (b : Bool) → IsMovedPair value pair → Each (IsMovedPair value) (cond b [] (pair ∷ []))
    one_or_none value pair true equal = tt
    one_or_none value pair false equal = (equal, tt)

-- so those of each pair of a generation
pub pairs_moved : (generations height width period t : ℕ) (dx dy : ℤ) (value : ℕ → ℤ → ℤ → Bool) → IsMoved generations period dx dy value → t + period < generations
    → Each (IsMovedPair value) (generation_moved height width (course_at period dx dy t))
pairs_moved generations height width period t dx dy value moved later =
    Each-append (IsMovedPair value) (all_leaving (course_at period dx dy t) height width) (all_entering (course_at period dx dy t) height width)
    (leaving_equal generations height width period t dx dy value moved later) (entering_equal generations height width period t dx dy value moved later)

equal_by_moved : (generations height width period : ℕ) (dx dy : ℤ) (value : ℕ → ℤ → ℤ → Bool) → IsMoved generations period dx dy value
    → Each (IsMovedPair value) (moved_pairs_of generations height width period dx dy)
unfolding moved_pairs_of
equal_by_moved generations height width period dx dy value moved =
    Each-range (IsMovedPair value) (λ t. generation_moved height width (course_at period dx dy t)) (generations - period)
    (λ t below. pairs_moved generations height width period t dx dy value moved (omega arith))

-- a place goes where its pair says, from the grid
left_equal : (height width period t : ℕ) (dx dy y x : ℤ) (value : ℕ → ℤ → ℤ → Bool) → IsOnGrid height width (place_of y x)
    → Each (IsMovedPair value) (all_leaving (course_at period dx dy t) height width) → value (t + period) (y +ℤ dy) (x +ℤ dx) ≡ value t y x
left_equal height width period t dx dy y x value on each =
    let row : unsigned_abs y < height = row-on_grid height y on.top on.bottom in
    let column : unsigned_abs x < width = row-on_grid width x on.left on.right in
    let equal = mapped-each (IsMovedPair value) (leaving (course_at period dx dy t) (unsigned_abs y)) width
    (range-each (IsMovedPair value) (row_leaving (course_at period dx dy t) width) height each (unsigned_abs y) row) (unsigned_abs x) column in
    sym (subst (λ a. value t a x ≡ value (t + period) (a +ℤ dy) (x +ℤ dx)) (pos-unsigned_abs y on.top)
    (subst (λ b. value t (pos (unsigned_abs y)) b ≡ value (t + period) (pos (unsigned_abs y) +ℤ dy) (b +ℤ dx)) (pos-unsigned_abs x on.left) equal))

-- or to the grid from outside
the_one : (value : ℕ → ℤ → ℤ → Bool) (pair : Moved) (b : Bool) → (b ≡ true → ⊥) → Each (IsMovedPair value) (cond b [] (pair ∷ [])) → IsMovedPair value pair
the_one value pair true off each = absurd (off refl)
the_one value pair false off each = each.0

came_in_equal : (height width period t : ℕ) (dx dy y x : ℤ) (value : ℕ → ℤ → ℤ → Bool) → IsOnGrid height width (place_of y x) → (IsOnGrid height width (place_of (y -ℤ dy) (x -ℤ dx)) → ⊥)
    → Each (IsMovedPair value) (all_entering (course_at period dx dy t) height width) → value (t + period) y x ≡ value t (y -ℤ dy) (x -ℤ dx)
came_in_equal height width period t dx dy y x value on off each =
    let row : unsigned_abs y < height = row-on_grid height y on.top on.bottom in
    let column : unsigned_abs x < width = row-on_grid width x on.left on.right in
    let here = range-each (IsMovedPair value) (entering (course_at period dx dy t) height width (unsigned_abs y)) width
    (range-each (IsMovedPair value) (row_entering (course_at period dx dy t) height width) height each (unsigned_abs y) row) (unsigned_abs x) column in
    let at_y = pos-unsigned_abs y on.top in
    let at_x = pos-unsigned_abs x on.left in
    let equal = the_one value (coming (course_at period dx dy t) (unsigned_abs y) (unsigned_abs x)) _
    (λ test. off (subst (λ a. IsOnGrid height width (place_of (a -ℤ dy) (x -ℤ dx))) at_y
    (subst (λ b. IsOnGrid height width (place_of (pos (unsigned_abs y) -ℤ dy) (b -ℤ dx))) at_x
    (on_grid-by_test height width (pos (unsigned_abs y) -ℤ dy) (pos (unsigned_abs x) -ℤ dx) test)))) here in
    sym (subst (λ a. value t (a -ℤ dy) (x -ℤ dx) ≡ value (t + period) a x) at_y
    (subst (λ b. value t (pos (unsigned_abs y) -ℤ dy) (b -ℤ dx) ≡ value (t + period) (pos (unsigned_abs y)) b) at_x equal))

-- where the backgrounds return and the values of each generation's pairs are equal, all places are moved
pub IsMoved-by_generations : (generations height width period : ℕ) (dx dy : ℤ) (value : ℕ → ℤ → ℤ → Bool) (backgrounds : ℕ → Bool)
    → HaveBackgrounds generations height width value backgrounds → BackgroundsReturn generations period backgrounds
    → ((t : ℕ) → t + period < generations → Each (IsMovedPair value) (generation_moved height width (course_at period dx dy t))) → IsMoved generations period dx dy value
IsMoved-by_generations generations height width period dx dy value backgrounds blank back each = λ t y x later.
    let first = Each-front (IsMovedPair value) (all_leaving (course_at period dx dy t) height width) (all_entering (course_at period dx dy t) height width) (each t later) in
    let second = Each-back (IsMovedPair value) (all_leaving (course_at period dx dy t) height width) (all_entering (course_at period dx dy t) height width) (each t later) in
    elim (on_grid_or_off height width (place_of y x)) [
      | inl on ↦ left_equal height width period t dx dy y x value on first
      | inr off ↦ elim (on_grid_or_off height width (place_of (y +ℤ dy) (x +ℤ dx))) [
        | inl on ↦
            came_in_equal height width period t dx dy (y +ℤ dy) (x +ℤ dx) value on
            (λ there. off (rw (forth_and_back y dy, forth_and_back x dx) at there)) second
            ∙ ap (λ a. value t a ((x +ℤ dx) -ℤ dx)) (forth_and_back y dy) ∙ ap (value t y) (forth_and_back x dx)
        | inr off' ↦ blank (t + period) later (place_of (y +ℤ dy) (x +ℤ dx)) off' ∙ sym (back t later) ∙ sym (blank t (omega arith) (place_of y x) off)
      ]
    ]

moved_by_equal : (generations height width period : ℕ) (dx dy : ℤ) (value : ℕ → ℤ → ℤ → Bool) (backgrounds : ℕ → Bool)
    → HaveBackgrounds generations height width value backgrounds → BackgroundsReturn generations period backgrounds
    → Each (IsMovedPair value) (moved_pairs_of generations height width period dx dy) → IsMoved generations period dx dy value
unfolding moved_pairs_of
moved_by_equal generations height width period dx dy value backgrounds blank back each =
    IsMoved-by_generations generations height width period dx dy value backgrounds blank back
    (λ t later. range-each (IsMovedPair value) (λ s. generation_moved height width (course_at period dx dy s)) (generations - period) each t (omega arith))

pub IsMoved-by_pairs : (generations height width period : ℕ) (dx dy : ℤ) (moved : List Moved) → IsWithin MOST_SHIFT dy → moved ≡ moved_pairs_of generations height width period dx dy
    → (value : ℕ → ℤ → ℤ → Bool) (backgrounds : ℕ → Bool) → HaveBackgrounds generations height width value backgrounds
    → IsMoved generations period dx dy value ↔ (BackgroundsReturn generations period backgrounds × AreMoved value moved)
IsMoved-by_pairs generations height width period dx dy moved rows is value backgrounds blank = (
  λ whole. (
    back_by_moved generations height width period dx dy value backgrounds rows blank whole,
    subst (λ list. AreMoved value list) (sym is) (All-from_recursion (IsMovedPair value) (moved_pairs_of generations height width period dx dy) (equal_by_moved generations height width period dx dy value whole)),
  ),
  λ parts. moved_by_equal generations height width period dx dy value backgrounds blank parts.0
      (recursion_from_All (IsMovedPair value) (moved_pairs_of generations height width period dx dy) (subst (λ list. AreMoved value list) is parts.1)),
)

-- the pairs of one generation more, and of all
pub generation_more : (height width period t : ℕ) (dx dy : ℤ) (now mid next : List Moved)
    → now ≡ flat_map (λ s. generation_moved height width (course_at period dx dy s)) (range_with_len 0 t)
    → mid ≡ now ++ all_leaving (course_at period dx dy t) height width → next ≡ mid ++ all_entering (course_at period dx dy t) height width
    → next ≡ flat_map (λ s. generation_moved height width (course_at period dx dy s)) (range_with_len 0 (t + 1))
generation_more height width period t dx dy now mid next so_far first second =
    joined_more (λ s. generation_moved height width (course_at period dx dy s)) [] now next t so_far
    (second ∙ ap (λ list. list ++ all_entering (course_at period dx dy t) height width) first
    ∙ append_assoc now (all_leaving (course_at period dx dy t) height width) (all_entering (course_at period dx dy t) height width))

pub all_generations : (generations height width period t : ℕ) (dx dy : ℤ) (moved : List Moved)
    → moved ≡ flat_map (λ s. generation_moved height width (course_at period dx dy s)) (range_with_len 0 t) → t ≡ generations - period
    → moved ≡ moved_pairs_of generations height width period dx dy
unfolding moved_pairs_of
all_generations generations height width period t dx dy moved so_far all =
    so_far ∙ ap (λ n. flat_map (λ s. generation_moved height width (course_at period dx dy s)) (range_with_len 0 n)) all
