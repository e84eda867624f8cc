-- Lists cut into pieces of one length, read, joined and changed.
use Rattle.std.proofs.Common.{◌≡◌, ◌<◌, ◌≤◌, ℕ, zero, suc, ◌+◌, ◌-◌, ◌*◌, List, [], ◌∷◌, ◌++◌, length, get_or, set, take, drop, map, flat_map, refl, sym, ap, ◌∙◌, arith, length-take, length-drop, length-set, Bool, false}
use Rattle.std.specs.List.{range_with_len}
use Rattle.std.proofs.lemmas.List.{get_or-take, get_or-drop, take-set-le, drop-set-add, drop-set-lt, drop-drop, take-map, drop-map, drop-take}
use Rattle.std.proofs.lemmas.Nat.{mul-add-lt}
use Rattle.std.proofs.Math.Nat.{mul_comm, mul-le-mul_left}
use Rattle.std.proofs.Math.Seq.{take-set-lt, take-add}
use Rattle.std.proofs.lemmas.List.FromFn.{fill_by_all, length-map-range_with_len, get_or-map-range_with_len}
use Rattle.lls_grid.specs.Chunks.{chunked}
use Rattle.lls_grid.specs.History.{folded, rows_at, cells_of_rows}
use Rattle.lls_grid.specs.Changes.{with_cell}

pub length-chunked : {X : Type 0} (size count : ℕ) (items : List X) → length (chunked size count items) ≡ count
length-chunked size zero items = refl
length-chunked size (suc count) items = ap suc (length-chunked size count (drop size items))

take_of_take : {X : Type 0} (n m : ℕ) (items : List X) → take n (take (n + m) items) ≡ take n items
take_of_take zero m items = refl
take_of_take (suc n) m [] = let more : suc n + m ≡ suc (n + m) = omega arith in rw more refl
take_of_take (suc n) m (item ∷ items) =
    let more : suc n + m ≡ suc (n + m) = omega arith in
    rw more (ap (λ rest. item ∷ rest) (take_of_take n m items))

-- a piece
pub get_or-chunked : {X : Type 0} (size count i : ℕ) (items : List X) → i < count → get_or (chunked size count items) i [] ≡ take size (drop (size * i) items)
get_or-chunked size zero i items within = absurd (omega arith)
get_or-chunked size (suc count) zero items within = let none : size * 0 ≡ 0 = omega arith in rw none refl
get_or-chunked size (suc count) (suc i) items within =
    let place : size + size * i ≡ size * suc i = omega arith in
    get_or-chunked size count i (drop size items) (omega arith) ∙
    (ap (take size) (drop-drop (size * i) size items) ∙ ap (λ n. take size (drop n items)) place)

-- one more piece
pub chunked_more : {X : Type 0} (size count : ℕ) (items : List X) → chunked size (count + 1) items ≡ chunked size count items ++ take size (drop (size * count) items) ∷ []
chunked_more size zero items = let none : size * 0 ≡ 0 = omega arith in rw none refl
chunked_more size (suc count) items =
    let one : suc count + 1 ≡ suc (count + 1) = omega arith in
    let place : size + size * count ≡ size * suc count = omega arith in
    ap (λ n. chunked size n items) one ∙
    (ap (λ pieces. take size items ∷ pieces) (chunked_more size count (drop size items)) ∙
    (ap (λ piece. take size items ∷ (chunked size count (drop size items) ++ take size piece ∷ [])) (drop-drop (size * count) size items) ∙
    ap (λ n. take size items ∷ (chunked size count (drop size items) ++ take size (drop n items) ∷ [])) place))

-- the pieces, one after another
pub joined-chunked : {X : Type 0} (size count : ℕ) (items : List X) → flat_map (λ piece. piece) (chunked size count items) ≡ take (size * count) items
joined-chunked size zero items = let none : size * 0 ≡ 0 = omega arith in rw none refl
joined-chunked size (suc count) items =
    let place : size + size * count ≡ size * suc count = omega arith in
    ap (λ rest. take size items ++ rest) (joined-chunked size count (drop size items)) ∙
    (sym (take-add size (size * count) items) ∙ ap (λ n. take n items) place)

-- the same pieces of other items
pub map-chunked : {X Y : Type 0} (f : X → Y) (size count : ℕ) (items : List X) → map (map f) (chunked size count items) ≡ chunked size count (map f items)
map-chunked f size zero items = refl
map-chunked f size (suc count) items =
    rw (map-chunked f size count (drop size items), take-map f size items, drop-map f size items) refl

-- another item changes the piece that it is in
pub chunked-set : {X : Type 0} (size count i j : ℕ) (items : List X) (item : X) → j < size → i < count
    → chunked size count (set items (size * i + j) item) ≡ set (chunked size count items) i (set (take size (drop (size * i) items)) j item)
chunked-set size zero i j items item inside within = absurd (omega arith)
chunked-set size (suc count) zero j items item inside within =
    let none : size * 0 ≡ 0 = omega arith in
    let place : 0 + j ≡ j = omega arith in
    rw (none, place) (rw (take-set-lt size items j item inside, drop-set-lt size items j item inside) refl)
chunked-set size (suc count) (suc i) j items item inside within =
    let place : size * suc i + j ≡ size + (size * i + j) = omega arith in
    let there : size + size * i ≡ size * suc i = omega arith in
    let past : size ≤ size + (size * i + j) = omega arith in
    rw place (rw (take-set-le size items (size + (size * i + j)) item past, drop-set-add size items (size * i + j) item)
    (ap (λ pieces. take size items ∷ pieces) (chunked-set size count i j (drop size items) item inside (omega arith)) ∙
    (ap (λ piece. take size items ∷ set (chunked size count (drop size items)) i (set (take size piece) j item)) (drop-drop (size * i) size items) ∙
    ap (λ n. take size items ∷ set (chunked size count (drop size items)) i (set (take size (drop n items)) j item)) there)))

-- the pieces of a list that they cover, by place
piece_by_place : {X : Type 0} (size count i : ℕ) (items : List X) (d : X) → length items ≡ size * count → i < count
    → take size (drop (size * i) items) ≡ map (λ j. get_or items (j + size * i) d) (range_with_len 0 size)
piece_by_place size count i items d count_is within =
    let up : size * suc i ≤ size * count = mul-le-mul_left size within in
    let more : size * suc i ≡ size + size * i = omega arith in
    fill_by_all (λ j. get_or items (j + size * i) d) (take size (drop (size * i) items)) size d
    (omega (arith, length-take size (drop (size * i) items), length-drop (size * i) items, count_is, up, more))
    (λ j lt. get_or-take size (drop (size * i) items) j d lt ∙ (get_or-drop (size * i) items j d ∙ ap (λ n. get_or items n d) (omega arith)))

abbrev pub by_place : {X : Type 0} → ℕ → List X → X → ℕ → List X
by_place size items d i = map (λ j. get_or items (j + size * i) d) (range_with_len 0 size)

same_range : {X : Type 0} (f g : ℕ → X) (n : ℕ) (d : X) → ((k : ℕ) → k < n → f k ≡ g k) → map f (range_with_len 0 n) ≡ map g (range_with_len 0 n)
same_range f g n d same =
    fill_by_all g (map f (range_with_len 0 n)) n d (length-map-range_with_len f 0 n) (λ k lt. get_or-map-range_with_len f 0 n k k d lt (omega arith) ∙ same k lt)

pub place-lt : (height generations t y : ℕ) → t < generations → y < height → y + height * t < height * generations
place-lt height generations t y t_in y_in =
    let turned : t * height + y < height * generations = mul-add-lt t height y generations t_in y_in in
    omega (arith, turned, mul_comm t height)

-- the cells of a generation end within all cells
pub generation-le : (generations height width t : ℕ) → t < generations → width * height * t + width * height ≤ width * (height * generations)
generation-le generations height width t t_in =
    let up : width * (height * suc t) ≤ width * (height * generations) = mul-le-mul_left width (mul-le-mul_left height t_in) in
    omega (arith, up)

-- a history that is folded from its cells is made of their pieces
pub folded-chunked : (generations height width : ℕ) (cells : List Bool) → length cells ≡ width * (height * generations)
    → folded generations height width cells ≡ chunked height generations (chunked width (height * generations) cells)
unfolding folded
folded-chunked generations height width cells count =
    let rows = chunked width (height * generations) cells in
    sym (fill_by_all (λ t. map (λ y. by_place width cells false (y + height * t)) (range_with_len 0 height)) (chunked height generations rows) generations [] (length-chunked height generations rows)
    (λ t t_in.
    get_or-chunked height generations t rows t_in ∙
    (piece_by_place height generations t rows [] (length-chunked width (height * generations) cells) t_in ∙
    same_range (λ y. get_or rows (y + height * t) []) (λ y. by_place width cells false (y + height * t)) height []
    (λ y y_in.
    let within = place-lt height generations t y t_in y_in in
    get_or-chunked width (height * generations) (y + height * t) cells within ∙
    piece_by_place width (height * generations) (y + height * t) cells false count within))))

-- another cell
pub with_cell-folded : (generations height width t y x : ℕ) (cells : List Bool) (live : Bool) → length cells ≡ width * (height * generations)
    → t < generations → y < height → x < width
    → folded generations height width (set cells (x + width * (y + height * t)) live) ≡ with_cell (folded generations height width cells) t y x live
with_cell-folded generations height width t y x cells live count t_in y_in x_in =
    let rows = chunked width (height * generations) cells in
    let within : y + height * t < height * generations = place-lt height generations t y t_in y_in in
    let at : x + width * (y + height * t) ≡ width * (y + height * t) + x = omega arith in
    let row_at : y + height * t ≡ height * t + y = omega arith in
    let row = take width (drop (width * (y + height * t)) cells) in
    let the_rows : get_or (chunked height generations rows) t [] ≡ take height (drop (height * t) rows) = get_or-chunked height generations t rows t_in in
    let the_row : get_or (take height (drop (height * t) rows)) y [] ≡ row =
    get_or-take height (drop (height * t) rows) y [] y_in ∙
    (get_or-drop (height * t) rows y [] ∙
    (ap (λ n. get_or rows n []) (sym row_at) ∙ get_or-chunked width (height * generations) (y + height * t) cells within)) in
    folded-chunked generations height width (set cells (x + width * (y + height * t)) live) (length-set cells (x + width * (y + height * t)) live ∙ count) ∙
    (ap (λ n. chunked height generations (chunked width (height * generations) (set cells n live))) at ∙
    (ap (chunked height generations) (chunked-set width (height * generations) (y + height * t) x cells live x_in within) ∙
    (ap (λ n. chunked height generations (set rows n (set row x live))) row_at ∙
    (chunked-set height generations t y rows (set row x live) y_in t_in ∙
    rw (folded-chunked generations height width cells count, the_rows, the_row) refl))))

drop-chunked : {X : Type 0} (size k count : ℕ) (items : List X) → drop k (chunked size (k + count) items) ≡ chunked size count (drop (size * k) items)
drop-chunked size zero count items =
    let none : size * 0 ≡ 0 = omega arith in
    let same : 0 + count ≡ count = omega arith in
    rw (none, same) refl
drop-chunked size (suc k) count items =
    let more : suc k + count ≡ suc (k + count) = omega arith in
    let place : size + size * k ≡ size * suc k = omega arith in
    ap (λ n. drop (suc k) (chunked size n items)) more ∙
    (drop-chunked size k count (drop size items) ∙ (ap (chunked size count) (drop-drop (size * k) size items) ∙ ap (λ n. chunked size count (drop n items)) place))

take-chunked : {X : Type 0} (size k count : ℕ) (items : List X) → take k (chunked size (k + count) items) ≡ chunked size k items
take-chunked size zero count items = refl
take-chunked size (suc k) count items =
    let more : suc k + count ≡ suc (k + count) = omega arith in
    ap (λ n. take (suc k) (chunked size n items)) more ∙ ap (λ pieces. take size items ∷ pieces) (take-chunked size k count (drop size items))

-- pieces of pieces, as the rows of a generation
pub get_or-chunked_twice : {X : Type 0} (generations height width t : ℕ) (items : List X) → t < generations
    → get_or (chunked height generations (chunked width (height * generations) items)) t [] ≡ chunked width height (drop (width * (height * t)) items)
get_or-chunked_twice generations height width t items t_in =
    let rows = chunked width (height * generations) items in
    let later = height * generations - (height * t + height) in
    let up : height * suc t ≤ height * generations = mul-le-mul_left height t_in in
    let step : height * suc t ≡ height * t + height = omega arith in
    let split : height * generations ≡ height * t + (height + later) = omega (arith, up, step) in
    get_or-chunked height generations t rows t_in
    ∙ (ap (λ n. take height (drop (height * t) (chunked width n items))) split
    ∙ (ap (take height) (drop-chunked width (height * t) (height + later) items)
    ∙ take-chunked width height later (drop (width * (height * t)) items)))

-- the rows of a generation
pub rows_at-folded_chunked : (generations height width t : ℕ) (cells : List Bool) → length cells ≡ width * (height * generations) → t < generations
    → rows_at (folded generations height width cells) t ≡ chunked width height (drop (width * (height * t)) cells)
rows_at-folded_chunked generations height width t cells count t_in =
    ap (λ h. rows_at h t) (folded-chunked generations height width cells count) ∙ get_or-chunked_twice generations height width t cells t_in

-- the cells of a generation in their order
pub cells_of_rows-folded : (generations height width t : ℕ) (cells : List Bool) → length cells ≡ width * (height * generations) → t < generations
    → cells_of_rows (rows_at (folded generations height width cells) t) ≡ take (width * height) (drop (width * (height * t)) cells)
cells_of_rows-folded generations height width t cells count t_in =
    ap cells_of_rows (rows_at-folded_chunked generations height width t cells count t_in) ∙ joined-chunked width height (drop (width * (height * t)) cells)

-- the pieces of what they cover
pub chunked-take : {X : Type 0} (size count : ℕ) (items : List X) → chunked size count (take (size * count) items) ≡ chunked size count items
chunked-take size zero items = refl
chunked-take size (suc count) items =
    let place : size * suc count ≡ size + size * count = omega arith in
    let front : take size (take (size + size * count) items) ≡ take size items = take_of_take size (size * count) items in
    ap (λ n. chunked size (suc count) (take n items)) place ∙
    (ap (λ piece. piece ∷ chunked size count (drop size (take (size + size * count) items))) front ∙
    (ap (λ rest. take size items ∷ chunked size count rest) (drop-take size (size * count) items) ∙
    ap (λ pieces. take size items ∷ pieces) (chunked-take size count (drop size items))))
