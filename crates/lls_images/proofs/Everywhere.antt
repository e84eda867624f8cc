-- The values of all places of an image, and of their neighbourhoods.
use Rattle.std.proofs.Common.{◌≡◌, ◌<◌, ℕ, ℤ, pos, ◌+ℤ◌, ◌-ℤ◌, Bool, true, [], ◌∷◌, length, refl, sym, ap, ◌∙◌, subst, arith, unsigned_abs, inl, inr}
use Rattle.std.specs.Prelude.{unwrap_or}
use Rattle.std.proofs.lemmas.Int.{ints}
use Rattle.lls_rule.specs.Rule.{background, successor}
use Rattle.lls_grid.specs.History.{History, at, nine}
use Rattle.lls_symmetry.specs.declared.motion.Motion.{Motion}
use Rattle.lls_symmetry.specs.declared.motion.Motion.TheVariants.{HalfTurn, QuarterTurn, BackTurn, RowMirror, ColumnMirror, DownMirror, UpMirror}
use Rattle.lls_symmetry.specs.Motion.{Place, IsOnGrid, image_of, cell_place, exchanges, opposite}
use Rattle.lls_symmetry.proofs.Grids.{image-on_grid, image-off_grid}
use Rattle.lls_symmetry.proofs.Symmetric.{on_grid_or_off, cell_place-on_grid, row-on_grid}
use Rattle.lls_problem.specs.Problem.{PosedProblem}
use Rattle.lls_problem.specs.Judgement.{HasItsSizes}
use Rattle.lls_problem.proofs.Outside.{at_outside}
use Rattle.lls_images.specs.Image.{image}
use Rattle.lls_images.specs.Same.{turned, keeps_rule}
use Rattle.lls_images.proofs.Images.{HasSizes-image, cell_at-image, at-cell_of}
use Rattle.lls_images.proofs.Neighbours.{successor-turned}

abbrev pub imaged : PosedProblem → Motion → History → History
imaged p motion history = image motion p.posed.height p.posed.width history

-- where a motion takes a place of the problem's grid
abbrev pub moved_to : PosedProblem → Motion → Place → Place
moved_to p motion place = image_of motion p.posed.height p.posed.width place

-- a place, in the grid or outside it, has the value of its image
module _ (p : PosedProblem) (motion : Motion) (h : History) (square : exchanges motion ≡ true → p.posed.height ≡ p.posed.width) (sizes : HasItsSizes p h) where
  pub sizes-image : HasItsSizes p (imaged p motion h)
  sizes-image = HasSizes-image motion p.posed.generations p.posed.height p.posed.width h sizes

  at-image_cell : (t y x : ℕ) → t < p.posed.generations → y < p.posed.height → x < p.posed.width
      → at p.rule (imaged p motion h) t (pos y) (pos x) ≡ at p.rule h t (moved_to p motion (cell_place y x)).y (moved_to p motion (cell_place y x)).x
  at-image_cell t y x t_in y_in x_in =
      let to = moved_to p motion (cell_place y x) in
      let on : IsOnGrid p.posed.height p.posed.width (cell_place y x) = record { top = omega (arith, ints); bottom = omega (arith, ints); left = omega (arith, ints); right = omega (arith, ints) } in
      let within : t < length h = subst (λ n. t < n) (sym sizes.0) t_in in
      ap (λ cell. unwrap_or cell (background p.rule t)) (cell_at-image motion p.posed.height p.posed.width h t y x within y_in x_in)
      ∙ sym (at-cell_of p.posed.generations p.posed.height p.posed.width h sizes p.rule t to t_in (image-on_grid motion p.posed.height p.posed.width (cell_place y x) square on))

  pub at-image : (t : ℕ) (place : Place) → t < p.posed.generations
      → at p.rule (imaged p motion h) t place.y place.x ≡ at p.rule h t (moved_to p motion place).y (moved_to p motion place).x
  at-image t place t_in =
      elim (on_grid_or_off p.posed.height p.posed.width place) [
        | inl on ↦
            subst (λ q. at p.rule (imaged p motion h) t q.y q.x ≡ at p.rule h t (moved_to p motion q).y (moved_to p motion q).x) (cell_place-on_grid p.posed.height p.posed.width place on)
            (at-image_cell t (unsigned_abs place.y) (unsigned_abs place.x) t_in (row-on_grid p.posed.height place.y on.top on.bottom) (row-on_grid p.posed.width place.x on.left on.right))
        | inr off ↦
            at_outside p (imaged p motion h) sizes-image t t_in place off
            ∙ sym (at_outside p h sizes t t_in (moved_to p motion place) (λ on. off (image-off_grid motion p.posed.height p.posed.width place square on)))
      ]

-- one before a row or a column is one behind the opposite one, and the other way round
opposite-before : (size : ℕ) (z : ℤ) → opposite size (z -ℤ pos 1) ≡ opposite size z +ℤ pos 1
opposite-before size z = omega (arith, ints)

opposite-after : (size : ℕ) (z : ℤ) → opposite size (z +ℤ pos 1) ≡ opposite size z -ℤ pos 1
opposite-after size z = omega (arith, ints)

nine_by : {a b c d e f g h i a' b' c' d' e' f' g' h' i' : Bool} → a ≡ a' → b ≡ b' → c ≡ c' → d ≡ d' → e ≡ e' → f ≡ f' → g ≡ g' → h ≡ h' → i ≡ i'
    → a ∷ b ∷ c ∷ d ∷ e ∷ f ∷ g ∷ h ∷ i ∷ [] ≡ a' ∷ b' ∷ c' ∷ d' ∷ e' ∷ f' ∷ g' ∷ h' ∷ i' ∷ []
nine_by one two three four five six seven eight nine = cc

-- so its neighbourhood is that of its image, turned
module _ (p : PosedProblem) (h : History) (sizes : HasItsSizes p h) where
  entry : (motion : Motion) (square : exchanges motion ≡ true → p.posed.height ≡ p.posed.width) (t : ℕ) (y x y' x' : ℤ) → t < p.posed.generations
      → (moved_to p motion (record { y = y; x = x })).y ≡ y' → (moved_to p motion (record { y = y; x = x })).x ≡ x' → at p.rule (imaged p motion h) t y x ≡ at p.rule h t y' x'
  entry motion square t y x y' x' t_in row column =
      at-image p motion h square sizes t (record { y = y; x = x }) t_in ∙ ap (λ z. at p.rule h t z (moved_to p motion (record { y = y; x = x })).x) row ∙ ap (at p.rule h t y') column

  nine-image : (motion : Motion) (square : exchanges motion ≡ true → p.posed.height ≡ p.posed.width) (t : ℕ) (y x : ℤ) → t < p.posed.generations
      → nine p.rule (imaged p motion h) t y x ≡ turned motion (nine p.rule h t (moved_to p motion (record { y = y; x = x })).y (moved_to p motion (record { y = y; x = x })).x)
  nine-image HalfTurn square t y x t_in = nine_by
      (entry HalfTurn square t _ _ _ _ t_in (opposite-before p.posed.height y) (opposite-before p.posed.width x))
      (entry HalfTurn square t _ _ _ _ t_in (opposite-before p.posed.height y) refl)
      (entry HalfTurn square t _ _ _ _ t_in (opposite-before p.posed.height y) (opposite-after p.posed.width x))
      (entry HalfTurn square t _ _ _ _ t_in refl (opposite-before p.posed.width x))
      (entry HalfTurn square t _ _ _ _ t_in refl refl)
      (entry HalfTurn square t _ _ _ _ t_in refl (opposite-after p.posed.width x))
      (entry HalfTurn square t _ _ _ _ t_in (opposite-after p.posed.height y) (opposite-before p.posed.width x))
      (entry HalfTurn square t _ _ _ _ t_in (opposite-after p.posed.height y) refl)
      (entry HalfTurn square t _ _ _ _ t_in (opposite-after p.posed.height y) (opposite-after p.posed.width x))
  nine-image QuarterTurn square t y x t_in = nine_by
      (entry QuarterTurn square t _ _ _ _ t_in refl (opposite-before p.posed.height y))
      (entry QuarterTurn square t _ _ _ _ t_in refl (opposite-before p.posed.height y))
      (entry QuarterTurn square t _ _ _ _ t_in refl (opposite-before p.posed.height y))
      (entry QuarterTurn square t _ _ _ _ t_in refl refl)
      (entry QuarterTurn square t _ _ _ _ t_in refl refl)
      (entry QuarterTurn square t _ _ _ _ t_in refl refl)
      (entry QuarterTurn square t _ _ _ _ t_in refl (opposite-after p.posed.height y))
      (entry QuarterTurn square t _ _ _ _ t_in refl (opposite-after p.posed.height y))
      (entry QuarterTurn square t _ _ _ _ t_in refl (opposite-after p.posed.height y))
  nine-image BackTurn square t y x t_in = nine_by
      (entry BackTurn square t _ _ _ _ t_in (opposite-before p.posed.width x) refl)
      (entry BackTurn square t _ _ _ _ t_in refl refl)
      (entry BackTurn square t _ _ _ _ t_in (opposite-after p.posed.width x) refl)
      (entry BackTurn square t _ _ _ _ t_in (opposite-before p.posed.width x) refl)
      (entry BackTurn square t _ _ _ _ t_in refl refl)
      (entry BackTurn square t _ _ _ _ t_in (opposite-after p.posed.width x) refl)
      (entry BackTurn square t _ _ _ _ t_in (opposite-before p.posed.width x) refl)
      (entry BackTurn square t _ _ _ _ t_in refl refl)
      (entry BackTurn square t _ _ _ _ t_in (opposite-after p.posed.width x) refl)
  nine-image RowMirror square t y x t_in = nine_by
      (entry RowMirror square t _ _ _ _ t_in (opposite-before p.posed.height y) refl)
      (entry RowMirror square t _ _ _ _ t_in (opposite-before p.posed.height y) refl)
      (entry RowMirror square t _ _ _ _ t_in (opposite-before p.posed.height y) refl)
      (entry RowMirror square t _ _ _ _ t_in refl refl)
      (entry RowMirror square t _ _ _ _ t_in refl refl)
      (entry RowMirror square t _ _ _ _ t_in refl refl)
      (entry RowMirror square t _ _ _ _ t_in (opposite-after p.posed.height y) refl)
      (entry RowMirror square t _ _ _ _ t_in (opposite-after p.posed.height y) refl)
      (entry RowMirror square t _ _ _ _ t_in (opposite-after p.posed.height y) refl)
  nine-image ColumnMirror square t y x t_in = nine_by
      (entry ColumnMirror square t _ _ _ _ t_in refl (opposite-before p.posed.width x))
      (entry ColumnMirror square t _ _ _ _ t_in refl refl)
      (entry ColumnMirror square t _ _ _ _ t_in refl (opposite-after p.posed.width x))
      (entry ColumnMirror square t _ _ _ _ t_in refl (opposite-before p.posed.width x))
      (entry ColumnMirror square t _ _ _ _ t_in refl refl)
      (entry ColumnMirror square t _ _ _ _ t_in refl (opposite-after p.posed.width x))
      (entry ColumnMirror square t _ _ _ _ t_in refl (opposite-before p.posed.width x))
      (entry ColumnMirror square t _ _ _ _ t_in refl refl)
      (entry ColumnMirror square t _ _ _ _ t_in refl (opposite-after p.posed.width x))
  nine-image DownMirror square t y x t_in = nine_by
      (entry DownMirror square t _ _ _ _ t_in refl refl)
      (entry DownMirror square t _ _ _ _ t_in refl refl)
      (entry DownMirror square t _ _ _ _ t_in refl refl)
      (entry DownMirror square t _ _ _ _ t_in refl refl)
      (entry DownMirror square t _ _ _ _ t_in refl refl)
      (entry DownMirror square t _ _ _ _ t_in refl refl)
      (entry DownMirror square t _ _ _ _ t_in refl refl)
      (entry DownMirror square t _ _ _ _ t_in refl refl)
      (entry DownMirror square t _ _ _ _ t_in refl refl)
  nine-image UpMirror square t y x t_in = nine_by
      (entry UpMirror square t _ _ _ _ t_in (opposite-before p.posed.width x) (opposite-before p.posed.height y))
      (entry UpMirror square t _ _ _ _ t_in refl (opposite-before p.posed.height y))
      (entry UpMirror square t _ _ _ _ t_in (opposite-after p.posed.width x) (opposite-before p.posed.height y))
      (entry UpMirror square t _ _ _ _ t_in (opposite-before p.posed.width x) refl)
      (entry UpMirror square t _ _ _ _ t_in refl refl)
      (entry UpMirror square t _ _ _ _ t_in (opposite-after p.posed.width x) refl)
      (entry UpMirror square t _ _ _ _ t_in (opposite-before p.posed.width x) (opposite-after p.posed.height y))
      (entry UpMirror square t _ _ _ _ t_in refl (opposite-after p.posed.height y))
      (entry UpMirror square t _ _ _ _ t_in (opposite-after p.posed.width x) (opposite-after p.posed.height y))

  -- and has the successor of that one
  pub successor-image : (motion : Motion) (square : exchanges motion ≡ true → p.posed.height ≡ p.posed.width) → keeps_rule motion p.rule ≡ true → (t : ℕ) (y x : ℤ) → t < p.posed.generations
      → successor p.rule (nine p.rule (imaged p motion h) t y x) ≡ successor p.rule (nine p.rule h t (moved_to p motion (record { y = y; x = x })).y (moved_to p motion (record { y = y; x = x })).x)
  successor-image motion square kept t y x t_in =
      ap (successor p.rule) (nine-image motion square t y x t_in)
      ∙ successor-turned motion p.rule kept _ _ _ _ _ _ _ _ _
