-- Cells that runs make live.
use Rattle.std.proofs.Common.{◌≡◌, ◌<◌, ◌≤◌, ◌+◌, ◌*◌, ℕ, Bool, true, false, cond, eqb, List, [], ◌∷◌, map, get_or, None, Some, refl, sym, ap, subst, ◌∙◌, inl, inr, arith}
use Rattle.std.specs.Prelude.{nat_le, nat_lt, ◌&&◌, ◌||◌}
use Rattle.std.specs.List.{list_any, range_with_len}
use Rattle.std.proofs.lemmas.List.FromFn.{fill_by_all, length-map-range_with_len, get_or-map-range_with_len}
use Rattle.std.proofs.lemmas.Bool.{cases_lt}
use Rattle.std.proofs.lemmas.Bool.Decides.{nat_tests}
use Rattle.std.proofs.Math.Nat.{mul-le-mul_left}
use Rattle.lls_grid.specs.History.{folded}
use Rattle.lls_rle.specs.declared.rle_fault.RleFault.{RleFault}
use Rattle.lls_rle.specs.declared.rle_fault.RleFault.TheVariants.{TooHigh, TooWide}
use Rattle.lls_rle.specs.declared.item.Tag.TheVariants as tag
use Rattle.lls_rle.specs.declared.reader.Reader.{Reader}
use Rattle.lls_rle.specs.Items.{Items, before_items}
use Rattle.lls_rle.specs.Picture.{Run, runs_from, misfit, first_misfit, or_else, unless_misfit, at_ending, covers, picture}
use Rattle.lls_rle.specs.Between.{is_between}
use Rattle.lls_rle.specs.Reader.{painted, items_from}

same_ranges : {X : Type 0} (f g : ℕ → X) (d : X) (n : ℕ) → ((k : ℕ) → k < n → g k ≡ f k) → map g (range_with_len 0 n) ≡ map f (range_with_len 0 n)
same_ranges f g d n same =
    fill_by_all f (map g (range_with_len 0 n)) n d (length-map-range_with_len g 0 n) (λ k within. get_or-map-range_with_len g 0 n k k d within (omega arith) ∙ same k within)

or_false : (b : Bool) → (b || false) ≡ b
or_false true = refl
or_false false = refl

or_assoc : (a b c : Bool) → (a || (b || c)) ≡ ((a || b) || c)
or_assoc true b c = refl
or_assoc false b c = refl

and_false : (a : Bool) → (a && false) ≡ false
and_false true = refl
and_false false = refl

same_le : (a b c d : ℕ) → (a ≤ b → c ≤ d) → (c ≤ d → a ≤ b) → nat_le a b ≡ nat_le c d
same_le a b c d to from = grind (arith, nat_tests)

same_lt : (a b c d : ℕ) → (a < b → c < d) → (c < d → a < b) → nat_lt a b ≡ nat_lt c d
same_lt a b c d to from = grind (arith, nat_tests)

not_le : (a b : ℕ) → b < a → nat_le a b ≡ false
not_le a b less = grind (arith, nat_tests)

not_lt : (a b : ℕ) → b ≤ a → nat_lt a b ≡ false
not_lt a b le = grind (arith, nat_tests)

not_same : (a b : ℕ) → (a ≡ b → ⊥) → eqb a b ≡ false
not_same a b apart = grind (arith, nat_tests)

is_same : (a : ℕ) → eqb a a ≡ true
is_same a = grind (arith, nat_tests)

-- cells by row and column, and by their place in the order of rows
covers-is_between : (w x y row column count : ℕ) → x < w → column + count ≤ w → covers y x (record { row = row; column = column; count = count }) ≡ is_between (column + w * row) count (x + w * y)
covers-is_between w x y row column count x_in fits = elim (cases_lt row y) [
  | inl above ↦
      let rows : w * (row + 1) ≤ w * y = mul-le-mul_left w (omega (arith, above)) in
      rw (not_same row y (λ same. omega (arith, same, above)), not_lt (x + w * y) ((column + w * row) + count) (omega (arith, rows, fits))) (sym (and_false (nat_le (column + w * row) (x + w * y))))
  | inr not_above ↦ elim (cases_lt y row) [
    | inl below ↦
        let rows : w * (y + 1) ≤ w * row = mul-le-mul_left w (omega (arith, below)) in
        rw (not_same row y (λ same. omega (arith, same, below)), not_le (column + w * row) (x + w * y) (omega (arith, rows, x_in))) refl
    | inr not_below ↦
        let same : row ≡ y = omega (arith, not_above, not_below) in
        let P : ℕ → Type 0 = λ r. covers y x (record { row = r; column = column; count = count }) ≡ is_between (column + w * r) count (x + w * y) in
        subst P (sym same) (by_column (w * y))
  ]
] where
  by_column : (p : ℕ) → covers y x (record { row = y; column = column; count = count }) ≡ is_between (column + p) count (x + p)
  by_column p =
      rw (is_same y, same_le (column + p) (x + p) column x (λ h. omega (arith, h)) (λ h. omega (arith, h)), same_lt (x + p) ((column + p) + count) x (column + count) (λ h. omega (arith, h)) (λ h. omega (arith, h))) refl

-- a run that fits is painted
pub painted-run : (h w : ℕ) (old new : List Bool) (row column count : ℕ) (runs : List Run) → column + count ≤ w
    → ((k : ℕ) → get_or new k false ≡ (get_or old k false || is_between (column + w * row) count k))
    → painted h w old (record { row = row; column = column; count = count } ∷ runs) ≡ painted h w new runs
painted-run h w old new row column count runs fits is =
    ap (λ rows. rows ∷ []) (same_ranges (λ y. map (λ x. get_or new (x + w * y) false || list_any (covers y x) runs) (range_with_len 0 w)) (λ y. map (λ x. get_or old (x + w * y) false || list_any (covers y x) (record { row = row; column = column; count = count } ∷ runs)) (range_with_len 0 w)) [] h (λ y y_in.
    same_ranges (λ x. get_or new (x + w * y) false || list_any (covers y x) runs) (λ x. get_or old (x + w * y) false || list_any (covers y x) (record { row = row; column = column; count = count } ∷ runs)) false w (λ x x_in.
    or_assoc (get_or old (x + w * y) false) (covers y x (record { row = row; column = column; count = count })) (list_any (covers y x) runs)
    ∙ ap (λ b. (get_or old (x + w * y) false || b) || list_any (covers y x) runs) (covers-is_between w x y row column count x_in fits)
    ∙ ap (λ b. b || list_any (covers y x) runs) (sym (is (x + w * y)))
    )
    ))

no_misfit : (low wide : Bool) (high far : RleFault) → None ≡ cond low (Some high) (cond wide (Some far) None) → wide ≡ false
no_misfit true wide high far e = absurd cc
no_misfit false true high far e = absurd cc
no_misfit false false high far e = refl

-- a run that is no misfit fits
pub fitting : (h w row column count : ℕ) → None ≡ misfit h w (record { row = row; column = column; count = count }) → column + count ≤ w
fitting h w row column count fits = le_of w (column + count) (no_misfit (nat_le h row) (nat_lt w (column + count)) (TooHigh row) (TooWide row) fits) where
  le_of : (a b : ℕ) → nat_lt a b ≡ false → b ≤ a
  le_of a b e = grind (arith, nat_tests)

pub items_from-live : (old new : Reader) (count : ℕ) → None ≡ misfit old.height old.width (record { row = old.row; column = old.column; count = count })
    → ((k : ℕ) → get_or new.cells.items k false ≡ (get_or old.cells.items k false || is_between (old.column + old.width * old.row) count k))
    → new ≡ record old { cells = new.cells }
    → (all : Items) → items_from old (before_items (record { count = count; tag = tag.Live }) all) ≡ items_from (record new { column = new.column + count }) all
items_from-live old new count fits is same all =
    let runs = runs_from old.row (old.column + count) all.items in
    let run : Run = record { row = old.row; column = old.column; count = count } in
    let rest = first_misfit old.height old.width runs in
    let Q : Reader → Type 0 = λ r. items_from old (before_items (record { count = count; tag = tag.Live }) all) ≡ items_from (record r { column = r.column + count }) all in
    subst Q (sym same)
    (ap (λ m. unless_misfit (or_else m rest) (at_ending (painted old.height old.width old.cells.items (run ∷ runs)) all.ending)) (sym fits)
    ∙ ap (λ p. unless_misfit rest (at_ending p all.ending)) (painted-run old.height old.width old.cells.items new.cells.items old.row old.column count runs (fitting old.height old.width old.row old.column count fits) is))

-- no cell more
pub painted-none : (h w : ℕ) (cells : List Bool) → painted h w cells [] ≡ folded 1 h w cells
unfolding folded
painted-none h w cells =
    ap (λ rows. rows ∷ []) (same_ranges (λ y. map (λ x. get_or cells (x + w * (y + h * 0)) false) (range_with_len 0 w)) (λ y. map (λ x. get_or cells (x + w * y) false || false) (range_with_len 0 w)) [] h (λ y y_in.
    same_ranges (λ x. get_or cells (x + w * (y + h * 0)) false) (λ x. get_or cells (x + w * y) false || false) false w (λ x x_in.
    or_false (get_or cells (x + w * y) false) ∙ ap (λ i. get_or cells (x + w * i) false) (omega arith)
    )
    ))

-- no cell yet
pub painted-dead : (h w : ℕ) (cells : List Bool) (runs : List Run) → ((k : ℕ) → get_or cells k false ≡ false) → painted h w cells runs ≡ picture h w runs
painted-dead h w cells runs dead =
    ap (λ rows. rows ∷ []) (same_ranges (λ y. map (λ x. list_any (covers y x) runs) (range_with_len 0 w)) (λ y. map (λ x. get_or cells (x + w * y) false || list_any (covers y x) runs) (range_with_len 0 w)) [] h (λ y y_in.
    same_ranges (λ x. list_any (covers y x) runs) (λ x. get_or cells (x + w * y) false || list_any (covers y x) runs) false w (λ x x_in.
    ap (λ b. b || list_any (covers y x) runs) (dead (x + w * y))
    )
    ))
