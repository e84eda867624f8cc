-- Sizes with one more row, and where a generation ends.
use Rattle.std.proofs.Common.{◌≡◌, ◌≢◌, ◌<◌, ◌≤◌, inl, inr, ℕ, ◌+◌, ◌*◌, eqb, Bool, true, false, not, ltb, Option, None, Some, List, length, refl, sym, ap, ◌∙◌, subst, arith}
use Rattle.std.specs.Option.{option_or}
use Rattle.std.proofs.lemmas.Bool.{eqb-true, eq-eqb, lt-ltb, cases_lt}
use Rattle.lls_grid.specs.declared.history.TheConstants.History.{MOST_GENERATIONS, MOST_HEIGHT, MOST_WIDTH, MOST_CELLS}
use Rattle.lls_search_file.specs.declared.cell.Cell.{Cell}
use Rattle.lls_search_file.specs.declared.posed_fault.PosedFault.{PosedFault}
use Rattle.lls_search_file.specs.declared.shape.Shape.{Shape}
use Rattle.lls_search_file.specs.Posed.{IsPosed}
use Rattle.lls_search_file.specs.Reading.{fault_if}
use Rattle.lls_search_file.specs.Counted.{ragged, too_high, too_low, row_counted, end_counted}
use Rattle.lls_search_file.specs.Kept.{IsShape, IsNumbered, rows_ended}

-- a test that finds no fault
no_fault : (bad : Bool) (fault : PosedFault) → fault_if bad fault ≡ None → bad ≡ false
no_fault true fault e = cc
no_fault false fault e = refl

unequal : (m n : ℕ) → eqb m n ≡ false → m ≢ n
unequal m n e = λ same. let bad = eq-eqb m n same in cc

was_true : (b : Bool) → not b ≡ false → b ≡ true
was_true true e = refl
was_true false e = cc

-- a row that goes with the first
same_width : (line found : ℕ) (first : Option ℕ) → ragged line found first ≡ None → (width : ℕ) → first ≡ Some width → found ≡ width
same_width line found None fits width e = cc
same_width line found (Some first) fits width e =
    let same : first ≡ width = cc in
    eqb-true found first (was_true (eqb found first) (no_fault _ _ fits)) ∙ same

-- a generation with room for a row
room_first : (rows ended : ℕ) (height : Option ℕ) → too_high rows ended height ≡ None → height ≡ None → rows ≢ MOST_HEIGHT
room_first rows ended None fits e = unequal rows MOST_HEIGHT (no_fault _ _ fits)
room_first rows ended (Some height) fits e = cc

room_later : (rows ended : ℕ) (height : Option ℕ) → too_high rows ended height ≡ None → (h : ℕ) → height ≡ Some h → rows ≢ h
room_later rows ended None fits h e = cc
room_later rows ended (Some height) fits h e = let same : height ≡ h = cc in λ full. unequal rows height (no_fault _ _ fits) (full ∙ sym same)

-- a generation with all its rows
all_rows : (rows ended : ℕ) (height : Option ℕ) → too_low rows ended height ≡ None → (h : ℕ) → height ≡ Some h → h ≤ rows
all_rows rows ended None fits h e = cc
all_rows rows ended (Some height) fits h e =
    let same : height ≡ h = cc in
    let enough : height ≤ rows = elim (cases_lt rows height) [
      | inl less ↦ absurd (let none = no_fault (ltb rows height) _ fits in let bad = lt-ltb rows height less in cc)
      | inr rest ↦ rest
    ] in
    subst (λ n. n ≤ rows) same enough

-- the width is that of the first row
wide_before : (s : Shape) (found width : ℕ) → IsShape s → 1 ≤ found → found ≤ MOST_WIDTH → (first : Option ℕ) → s.width ≡ first → ((w : ℕ) → s.width ≡ Some w → found ≡ w)
    → option_or first (Some found) ≡ Some width → (1 ≤ width) × (width ≤ MOST_WIDTH) × (s.cells + found ≡ width * (rows_ended s.height s.ended + (s.rows + 1)))
wide_before s found width kept some most None is fits e =
    let one : found ≡ width = cc in
    let none = kept.unbegun is in
    rw (none.0, none.1, none.2, ← one) (some, most, omega arith)
wide_before s found width kept some most (Some first) is fits e =
    let one : first ≡ width = cc in
    let was = kept.width first is in
    let same : found ≡ first = fits first is in
    let before = rows_ended s.height s.ended in
    rw (same, ← one) (was.0, was.1, omega (arith, was.2))

some_or : (first : Option ℕ) (found : ℕ) → option_or first (Some found) ≡ None → ⊥
some_or None found e = cc
some_or (Some first) found e = cc

-- the sizes with one more row that fits
pub IsShape-with_row : (s : Shape) (line found : ℕ) → IsShape s → 1 ≤ found → found ≤ MOST_WIDTH → (s.rows ≡ 0 → s.ended ≢ MOST_GENERATIONS)
    → ragged line found s.width ≡ None → too_high s.rows s.ended s.height ≡ None → s.cells + found ≤ MOST_CELLS → IsShape (row_counted found s)
IsShape-with_row s line found kept some most few fits room cells = record {
  unbegun = λ e. absurd (some_or s.width found e);
  width = λ width e. wide_before s found width kept some most s.width refl (same_width line found s.width fits) e;
  first = λ e. let none = kept.first e in let full = room_first s.rows s.ended s.height room e in (none.0, omega (arith, none.1, full));
  height = λ height e. let was = kept.height height e in let full = room_later s.rows s.ended s.height room height e in (was.0, was.1, omega (arith, was.2, full), was.3);
  ended = kept.ended;
  begun = λ _. elim (cases_lt 0 s.rows) [ inl some ↦ kept.begun some | inr none ↦ let other = few (omega (arith, none)) in omega (arith, other, kept.ended) ];
  most = cells;
}

-- the rows of a generation more
ended_more : (s : Shape) (width : ℕ) → IsShape s → (high : Option ℕ) → s.height ≡ high → ((h : ℕ) → s.height ≡ Some h → h ≤ s.rows)
    → s.width ≡ Some width → s.cells ≡ width * (rows_ended (option_or high (Some s.rows)) (s.ended + 1) + 0)
ended_more s width kept None is full wide =
    let none = kept.first is in
    let cells : s.cells ≡ width * (rows_ended None s.ended + s.rows) = (kept.width width wide).2 ∙ ap (λ h. width * (rows_ended h s.ended + s.rows)) is in
    rw none.0 (omega (arith, cells))
ended_more s width kept (Some height) is full wide =
    let same : s.rows ≡ height = omega (arith, (kept.height height is).2, full height is) in
    let cells : s.cells ≡ width * (height * s.ended + s.rows) = (kept.width width wide).2 ∙ ap (λ h. width * (rows_ended h s.ended + s.rows)) is in
    omega (arith, cells, same, ap (λ n. width * n) same)

high_before : (s : Shape) (height : ℕ) → IsShape s → 0 < s.rows → (high : Option ℕ) → s.height ≡ high → option_or high (Some s.rows) ≡ Some height
    → (1 ≤ height) × (height ≤ MOST_HEIGHT) × (0 ≤ height) × (1 ≤ s.ended + 1)
high_before s height kept some None is e =
    let one : s.rows ≡ height = cc in
    let none = kept.first is in
    (omega (arith, one, some), omega (arith, one, none.1), omega arith, omega arith)
high_before s height kept some (Some high) is e =
    let one : high ≡ height = cc in
    let was = kept.height high is in
    (omega (arith, one, was.0), omega (arith, one, was.1), omega arith, omega arith)

-- the sizes where a generation of all its rows ends
pub IsShape-with_end : (s : Shape) → IsShape s → 0 < s.rows → too_low s.rows s.ended s.height ≡ None → IsShape (end_counted s)
IsShape-with_end s kept some enough = record {
  unbegun = λ e. absurd (let none = kept.unbegun e in omega (arith, none.1, some));
  width = λ width e. let was = kept.width width e in (was.0, was.1, ended_more s width kept s.height refl (all_rows s.rows s.ended s.height enough) e);
  first = λ e. absurd (some_or s.height s.rows e);
  height = λ height e. high_before s height kept some s.height refl e;
  ended = let was = kept.begun some in omega (arith, was);
  begun = λ none. absurd (omega (arith, none));
  most = kept.most;
}

-- the file of such sizes, where no generation goes on
pub IsPosed-by_shape : (s : Shape) (width height : ℕ) (names : List (List ℕ)) (cells : List Cell) → IsShape s → s.rows ≡ 0 → s.width ≡ Some width → s.height ≡ Some height
    → length cells ≡ s.cells → IsNumbered names cells → IsPosed (record { generations = s.ended; height = height; width = width; cells = cells; names = names })
IsPosed-by_shape s width height names cells kept closed wide high count numbered =
    let w = kept.width width wide in
    let h = kept.height height high in
    let all : s.cells ≡ width * (height * s.ended + s.rows) = w.2 ∙ ap (λ o. width * (rows_ended o s.ended + s.rows)) high in
    record {
      generations = (h.3, kept.ended);
      height = (h.0, h.1);
      width = (w.0, w.1);
      count = omega (arith, count, all, ap (λ rows. width * rows) closed);
      most = omega (arith, count, kept.most);
      distinct = numbered.distinct;
      spelled = numbered.spelled;
      numbered = numbered.numbered;
    }
