-- Of two places one comes before the other, or they are the same: so the first is one.
use Rattle.std.proofs.Common.{◌≡◌, ◌<◌, ◌⊎◌, inl, inr, ℕ, ℤ, pos, negsuc, refl, sym, ap, arith}
use Rattle.std.specs.Prelude.{◌<ℤ◌}
use Rattle.std.proofs.lemmas.Int.{ints}
use Rattle.std.proofs.lemmas.Bool.{cases_lt}
use Rattle.lls_grid.specs.declared.sizes.GridPlace.{GridPlace}
use Rattle.lls_search_file.specs.Posed.{PosedFile}
use Rattle.lls_problem.specs.Firsts.{Place, of_cell, IsBefore, IsFirstBroken}
use Rattle.lls_problem.specs.Judgement.{IsFirstCell}

numbers_apart : (a b : ℕ) → (a < b) ⊎ ((a ≡ b) ⊎ (b < a))
numbers_apart a b =
    elim (cases_lt a b) [
      | inl less ↦ inl less
      | inr rest ↦ elim (cases_lt b a) [
        | inl more ↦ inr (inr more)
        | inr back ↦ inr (inl (omega arith))
      ]
    ]

signed_apart : (a b : ℤ) → (a <ℤ b) ⊎ ((a ≡ b) ⊎ (b <ℤ a))
signed_apart (pos a) (pos b) =
    elim (numbers_apart a b) [
      | inl less ↦ inl (omega (arith, ints))
      | inr (inl same) ↦ inr (inl (ap pos same))
      | inr (inr more) ↦ inr (inr (omega (arith, ints)))
    ]
signed_apart (pos a) (negsuc b) = inr (inr (omega (arith, ints)))
signed_apart (negsuc a) (pos b) = inl (omega (arith, ints))
signed_apart (negsuc a) (negsuc b) =
    elim (numbers_apart a b) [
      | inl less ↦ inr (inr (omega (arith, ints)))
      | inr (inl same) ↦ inr (inl (ap negsuc same))
      | inr (inr more) ↦ inl (omega (arith, ints))
    ]

places_apart : (a b : Place) → IsBefore a b ⊎ ((a ≡ b) ⊎ IsBefore b a)
places_apart a b =
    elim (numbers_apart a.t b.t) [
      | inl earlier ↦ inl (inl earlier)
      | inr (inr later) ↦ inr (inr (inl later))
      | inr (inl same) ↦ elim (signed_apart a.y b.y) [
        | inl above ↦ inl (inr (same, inl above))
        | inr (inr below) ↦ inr (inr (inr (sym same, inl below)))
        | inr (inl row) ↦ elim (signed_apart a.x b.x) [
          | inl left ↦ inl (inr (same, inr (row, left)))
          | inr (inr right) ↦ inr (inr (inr (sym same, inr (sym row, right))))
          | inr (inl column) ↦ inr (inl (rw (same, row, column) refl))
        ]
      ]
    ]

-- two first places are one
pub IsFirstBroken-one : (IsDemanded Keeps : Place → Type 0) (a b : Place) → IsFirstBroken IsDemanded Keeps a → IsFirstBroken IsDemanded Keeps b → a ≡ b
IsFirstBroken-one IsDemanded Keeps a b first second =
    elim (places_apart a b) [
      | inl before ↦ absurd (first.broken (second.before a first.demanded before))
      | inr (inl same) ↦ same
      | inr (inr behind) ↦ absurd (second.broken (first.before b second.demanded behind))
    ]

one_cell : (t y x t' y' x' : ℕ) → t ≡ t' → y ≡ y' → x ≡ x' → ◌≡◌ {A = GridPlace} (record { t = t; y = y; x = x }) (record { t = t'; y = y'; x = x' })
one_cell t y x t' y' x' generations rows columns = rw (generations, rows, columns) refl

cell_of : (a b : GridPlace) → of_cell a ≡ of_cell b → a ≡ b
cell_of a b same =
    let t : a.t ≡ b.t = ap (λ (place : Place). place.t) same in
    let row : pos a.y ≡ pos b.y = ap (λ (place : Place). place.y) same in
    let column : pos a.x ≡ pos b.x = ap (λ (place : Place). place.x) same in
    one_cell a.t a.y a.x b.t b.y b.x t (cc) (cc)

pub IsFirstCell-one : (file : PosedFile) (Keeps : ℕ → Type 0) (a b : GridPlace) → IsFirstCell file Keeps a → IsFirstCell file Keeps b → a ≡ b
IsFirstCell-one file Keeps a b first second =
    elim (places_apart (of_cell a) (of_cell b)) [
      | inl before ↦ absurd (first.broken (second.before a first.inside before))
      | inr (inl same) ↦ cell_of a b same
      | inr (inr behind) ↦ absurd (second.broken (first.before b second.inside behind))
    ]
