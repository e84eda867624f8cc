-- The motions of a grid as maps of places, said of any whole numbers, and what they are to one another.
use Rattle.std.specs.Prelude.{◌≡◌, ℕ, zero, suc, ℤ, pos, ◌-ℤ◌, ◌≤ℤ◌, ◌<ℤ◌, Bool, true, false}
use Rattle.lls_symmetry.specs.declared.motion.Motion.{Motion}
use Rattle.lls_symmetry.specs.declared.motion.Motion.TheVariants.{HalfTurn, QuarterTurn, BackTurn, RowMirror, ColumnMirror, DownMirror, UpMirror}

-- a row and a column that count from the top left cell of the grid
pub record Place : Type 0 where
  pub y : ℤ
  pub x : ℤ

abbrev pub cell_place : ℕ → ℕ → Place
cell_place y x = record { y = pos y; x = pos x }

-- the place is a cell of the grid
pub record IsOnGrid (height width : ℕ) (place : Place) : Type 0 where
  pub top : pos 0 ≤ℤ place.y
  pub bottom : place.y <ℤ pos height
  pub left : pos 0 ≤ℤ place.x
  pub right : place.x <ℤ pos width

-- as far from the last of `size` rows or columns as this one is from the first
abbrev pub opposite : ℕ → ℤ → ℤ
opposite size place = (pos size -ℤ pos 1) -ℤ place

-- where a motion takes a place, by the numbers of rows and columns of the grid
abbrev pub image_of : Motion → ℕ → ℕ → Place → Place
image_of HalfTurn height width place = record { y = opposite height place.y; x = opposite width place.x }
image_of QuarterTurn height width place = record { y = place.x; x = opposite height place.y }
image_of BackTurn height width place = record { y = opposite width place.x; x = place.y }
image_of RowMirror height width place = record { y = opposite height place.y; x = place.x }
image_of ColumnMirror height width place = record { y = place.y; x = opposite width place.x }
image_of DownMirror height width place = record { y = place.x; x = place.y }
image_of UpMirror height width place = record { y = opposite width place.x; x = opposite height place.y }

-- whether rows become columns, so that the grid has to be a square
abbrev pub exchanges : Motion → Bool
exchanges HalfTurn = false
exchanges QuarterTurn = true
exchanges BackTurn = true
exchanges RowMirror = false
exchanges ColumnMirror = false
exchanges DownMirror = true
exchanges UpMirror = true

-- the motion that takes all places back
abbrev pub inverse : Motion → Motion
inverse HalfTurn = HalfTurn
inverse QuarterTurn = BackTurn
inverse BackTurn = QuarterTurn
inverse RowMirror = RowMirror
inverse ColumnMirror = ColumnMirror
inverse DownMirror = DownMirror
inverse UpMirror = UpMirror

-- a motion done so many times
abbrev pub times : ℕ → Motion → ℕ → ℕ → Place → Place
times zero motion height width place = place
times (suc n) motion height width place = image_of motion height width (times n motion height width place)

-- how many times a motion is done until it is nothing
abbrev pub order : Motion → ℕ
order HalfTurn = 2
order QuarterTurn = 4
order BackTurn = 4
order RowMirror = 2
order ColumnMirror = 2
order DownMirror = 2
order UpMirror = 2

-- of a grid with as many rows as columns, the second motion done after the first is the third
abbrev pub MakesOnSquares : Motion → Motion → Motion → ℕ → ℕ → Type 0
MakesOnSquares first second third height width = height ≡ width → (place : Place)
    → image_of second height width (image_of first height width place) ≡ image_of third height width place

-- what the motions are to one another
pub record MotionLaws (height width : ℕ) : Type 0 where
  -- one mirror after the other turns the grid half round
  pub mirrors : (place : Place) → image_of ColumnMirror height width (image_of RowMirror height width place) ≡ image_of HalfTurn height width place
  pub diagonals : MakesOnSquares DownMirror UpMirror HalfTurn height width
  -- so do two quarter turns
  pub turns : MakesOnSquares QuarterTurn QuarterTurn HalfTurn height width
  -- a quarter turn and then the mirror of columns is the mirror on one diagonal, and the other way round on the other
  pub down : MakesOnSquares QuarterTurn ColumnMirror DownMirror height width
  pub up : MakesOnSquares ColumnMirror QuarterTurn UpMirror height width
  -- done after a motion its inverse takes all places back
  pub back : (motion : Motion) (place : Place) → (exchanges motion ≡ true → height ≡ width) → image_of (inverse motion) height width (image_of motion height width place) ≡ place
