-- Framed rows and columns, and the numbers by which they are counted.
use Rattle.std.proofs.Common.{◌≡◌, ◌<◌, ◌≤◌, ℕ, zero, suc, ◌+◌, ℤ, pos, negsuc, ◌-ℤ◌, ◌≤ℤ◌, ◌<ℤ◌, arith}
use Rattle.std.proofs.lemmas.Int.{ints}
use Rattle.lls_problem.specs.declared.demands.Edge.{Edge}
use Rattle.lls_problem.specs.declared.demands.Edge.TheVariants.{Framed, Bare}
use Rattle.lls_problem.specs.Solution.{IsFramed}
use Rattle.lls_encode.specs.Formula.{first_framed, framed_count}

-- the row of a framed place, or its column
abbrev pub IsFramedLine : Edge → ℕ → ℤ → Type 0
IsFramedLine Framed size y = (negsuc 0 ≤ℤ y) × (y ≤ℤ pos size)
IsFramedLine Bare size y = (pos 0 ≤ℤ y) × (y <ℤ pos size)

-- a number that is counted is that of a framed row or column
pub framed_place : (edge : Edge) (size k : ℕ) → first_framed edge ≤ k → k < first_framed edge + framed_count edge size → IsFramedLine edge size (pos k -ℤ pos 1)
framed_place Framed size k low high = (omega (arith, ints), omega (arith, ints))
framed_place Bare size k low high = (omega (arith, ints), omega (arith, ints))

pub framed_both : (edge : Edge) (height width : ℕ) (y x : ℤ) → IsFramedLine edge height y → IsFramedLine edge width x → IsFramed edge height width y x
framed_both Framed height width y x line column = (line.0, line.1, column.0, column.1)
framed_both Bare height width y x line column = (line.0, line.1, column.0, column.1)

-- the number by which a framed row or column is counted
pub record IsCounted (edge : Edge) (size : ℕ) (y : ℤ) : Type 0 where
  pub line : ℕ
  pub low : first_framed edge ≤ line
  pub high : line < first_framed edge + framed_count edge size
  pub is : pos line -ℤ pos 1 ≡ y

pub counted : (edge : Edge) (size : ℕ) (y : ℤ) → IsFramedLine edge size y → IsCounted edge size y
counted Framed size (pos n) framed = record { line = n + 1; low = omega arith; high = omega (arith, ints, framed.1); is = omega (arith, ints) }
counted Framed size (negsuc zero) framed = record { line = 0; low = omega arith; high = omega arith; is = omega (arith, ints) }
counted Framed size (negsuc (suc n)) framed = absurd (omega (arith, ints, framed.0))
counted Bare size (pos n) framed = record { line = n + 1; low = omega arith; high = omega (arith, ints, framed.1); is = omega (arith, ints) }
counted Bare size (negsuc n) framed = absurd (omega (arith, ints, framed.0))

-- a framed place has a framed row and a framed column
pub framed_row : (edge : Edge) (height width : ℕ) (y x : ℤ) → IsFramed edge height width y x → IsFramedLine edge height y
framed_row Framed height width y x framed = (framed.0, framed.1)
framed_row Bare height width y x framed = (framed.0, framed.1)

pub framed_column : (edge : Edge) (height width : ℕ) (y x : ℤ) → IsFramed edge height width y x → IsFramedLine edge width x
framed_column Framed height width y x framed = (framed.2, framed.3)
framed_column Bare height width y x framed = (framed.2, framed.3)

-- a framed place is at most one row and one column beside the grid
pub framed_limits : (edge : Edge) (height width : ℕ) (y x : ℤ) → IsFramed edge height width y x → ((negsuc 0 ≤ℤ y) × (y ≤ℤ pos height)) × ((negsuc 0 ≤ℤ x) × (x ≤ℤ pos width))
framed_limits Framed height width y x framed = ((framed.0, framed.1), (framed.2, framed.3))
framed_limits Bare height width y x framed =
    ((omega (arith, ints, framed.0), omega (arith, ints, framed.1)), (omega (arith, ints, framed.2), omega (arith, ints, framed.3)))
