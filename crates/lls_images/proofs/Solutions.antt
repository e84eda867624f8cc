-- Where a problem looks the same under a motion, the image of each solution is one.
use Rattle.std.proofs.Common.{◌≡◌, ◌<◌, ℕ, ◌+◌, unsigned_abs, Bool, true, false, not, ◌&&◌, ◌||◌, get_or, Some, sym, ap, ◌∙◌, subst, arith, nat_eq, eqb-true}
use Rattle.std.specs.Option.{option_map_or}
use Rattle.std.proofs.Math.Nat.{div-le_self}
use Rattle.std.proofs.lemmas.Bool.{and_parts}
use Rattle.lls_grid.specs.History.{History, at}
use Rattle.lls_search_file.specs.Posed.{IsPosed}
use Rattle.lls_symmetry.specs.declared.motion.Motion.{Motion}
use Rattle.lls_symmetry.specs.Motion.{Place, image_of, cell_place, exchanges, inverse}
use Rattle.lls_symmetry.proofs.Grids.{image-on_grid}
use Rattle.lls_symmetry.proofs.Symmetric.{row-on_grid, cell_place-on_grid, IsOnGrid-cell}
use Rattle.lls_problem.specs.declared.demands.Period.{Period}
use Rattle.lls_problem.specs.Bounds.{Allows}
use Rattle.lls_problem.specs.Problem.{PosedProblem, AreFitting, part_of}
use Rattle.lls_problem.specs.Solution.{IsSolution, AreSymmetric, Returns, Obeys, Differs, IsExact, IsPopulated, IsThere}
use Rattle.lls_images.specs.Same.{keeps_grid, keeps_rule, keeps_shift, keeps_symmetry, keeps_listed, keeps_cells, keeps_ties, keeps_demands, looks_the_same}
use Rattle.lls_images.proofs.Everywhere.{imaged, moved_to, sizes-image, at-image, successor-image}
use Rattle.lls_images.proofs.Population.{population-image}
use Rattle.lls_images.proofs.Symmetries.{IsSymmetric-image}
use Rattle.lls_images.proofs.Shifts.{shifted, IsShiftKept, IsShiftKept-by_test, shifted-image, IsShiftKept-part}
use Rattle.lls_images.proofs.Marks.{is_marked-image, IsFramed-image}
use Rattle.lls_images.proofs.Files.{MeetsCells-image}
use Rattle.lls_images.proofs.Patterns.{image_of-onto, square-inverse, IsUnlisted-image}

-- what it is to look the same, one thing after the other
pub record IsSame (p : PosedProblem) (motion : Motion) : Type 0 where
  pub square : exchanges motion ≡ true → p.posed.height ≡ p.posed.width
  pub rule : keeps_rule motion p.rule ≡ true
  pub shift : option_map_or (keeps_shift motion) p.demands.period true ≡ true
  pub symmetry : keeps_symmetry motion p.demands.symmetry ≡ true
  pub listed : keeps_listed motion p.posed p.demands.listed ≡ true
  pub cells : keeps_cells motion p.posed ≡ true
  pub ties : keeps_ties motion p.posed ≡ true

square_by : (needed : Bool) (height width : ℕ) → (not needed || nat_eq height width) ≡ true → needed ≡ true → height ≡ width
square_by true height width fits is = eqb-true height width fits
square_by false height width fits is = cc

pub IsSame-by_test : (p : PosedProblem) (motion : Motion) → looks_the_same p motion ≡ true → IsSame p motion
IsSame-by_test p motion looks =
    let first = and_parts (keeps_grid motion p.posed.height p.posed.width) (keeps_rule motion p.rule && (keeps_demands motion p && (keeps_cells motion p.posed && keeps_ties motion p.posed))) looks in
    let second = and_parts (keeps_rule motion p.rule) (keeps_demands motion p && (keeps_cells motion p.posed && keeps_ties motion p.posed)) first.1 in
    let third = and_parts (keeps_demands motion p) (keeps_cells motion p.posed && keeps_ties motion p.posed) second.1 in
    let fourth = and_parts (keeps_cells motion p.posed) (keeps_ties motion p.posed) third.1 in
    let demands = and_parts (option_map_or (keeps_shift motion) p.demands.period true) (keeps_symmetry motion p.demands.symmetry && keeps_listed motion p.posed p.demands.listed) third.0 in
    let others = and_parts (keeps_symmetry motion p.demands.symmetry) (keeps_listed motion p.posed p.demands.listed) demands.1 in
    record {
      square = square_by (exchanges motion) p.posed.height p.posed.width first.0;
      rule = second.0;
      shift = demands.0;
      symmetry = others.0;
      listed = others.1;
      cells = fourth.0;
      ties = fourth.1;
    }

module _ (p : PosedProblem) (motion : Motion) (h : History) (fitting : AreFitting p.posed p.demands) (posed : IsPosed p.posed) (same : IsSame p motion) (solution : IsSolution p h) where
  abbrev h' : History
  h' = imaged p motion h

  at' : (t : ℕ) (place : Place) → t < p.posed.generations → at p.rule h' t place.y place.x ≡ at p.rule h t (moved_to p motion place).y (moved_to p motion place).x
  at' = at-image p motion h same.square solution.sizes

  symmetric' : AreSymmetric p h'
  symmetric' = λ t t_in.
      IsSymmetric-image p.demands.symmetry motion p.posed.height p.posed.width (at p.rule h t) (at p.rule h' t) same.square fitting.square same.symmetry (λ place. at' t place t_in) (solution.symmetric t t_in)

  -- the shift of the period, if one is asked
  shift_kept : (period : Period) → p.demands.period ≡ Some period → IsShiftKept motion period.dy period.dx
  shift_kept period is = IsShiftKept-by_test motion period (ap (λ o. option_map_or (keeps_shift motion) o true) (sym is) ∙ same.shift)

  moved' : Returns p h'
  moved' = λ period is t y x later.
      let place : Place = record { y = y; x = x } in
      let to = moved_to p motion place in
      at' (t + period.length) (shifted period.dy period.dx place) later
      ∙ ap (λ q. at p.rule h (t + period.length) q.y q.x) (shifted-image motion p.posed.height p.posed.width period.dy period.dx place (shift_kept period is))
      ∙ solution.moved period is t to.y to.x later
      ∙ sym (at' t place (omega (arith, later)))

  rule' : Obeys p h'
  rule' = λ t y x later framed unmarked.
      let place : Place = record { y = y; x = x } in
      let to = moved_to p motion place in
      at' (t + 1) place later
      ∙ solution.rule t to.y to.x later (IsFramed-image p.demands.edge motion p.posed.height p.posed.width place same.square framed)
      (is_marked-image p.posed motion same.square posed same.cells (t + 1) place later ∙ unmarked)
      ∙ sym (successor-image p h solution.sizes motion same.square same.rule t y x (omega (arith, later)))

  populated' : IsPopulated p h'
  populated' = λ k d inside.
      let bound = get_or p.demands.bounds k d in
      subst (Allows bound) (sym (population-image motion p.posed.generations p.posed.height p.posed.width h bound.generation same.square solution.sizes (fitting.bounded k d inside)))
      (solution.populated k d inside)

  -- the place of which a place is the image
  abbrev origin : Place → Place
  origin place = image_of (inverse motion) p.posed.height p.posed.width place

  at-origin : (t : ℕ) (place : Place) → t < p.posed.generations → at p.rule h' t (origin place).y (origin place).x ≡ at p.rule h t place.y place.x
  at-origin t place t_in =
      at' t (origin place) t_in ∙ ap (λ q. at p.rule h t q.y q.x) (image_of-onto motion p.posed.height p.posed.width place same.square)

  differ' : Differs p h'
  differ' = λ pair is.
      let found = solution.differ pair is in
      let y = found.0 in
      let x = found.1.0 in
      let difference = found.1.1 in
      let named = fitting.named pair is in
      let place = cell_place y x in
      let from = origin place in
      let on = image-on_grid (inverse motion) p.posed.height p.posed.width place (square-inverse motion p.posed.height p.posed.width same.square)
      (IsOnGrid-cell p.posed.height p.posed.width y x difference.row difference.column) in
      let is_from = cell_place-on_grid p.posed.height p.posed.width from on in (
        unsigned_abs from.y,
        (
          unsigned_abs from.x,
          record {
            row = row-on_grid p.posed.height from.y on.top on.bottom;
            column = row-on_grid p.posed.width from.x on.left on.right;
            differs = λ equal. difference.differs (
                sym (at-origin pair.0 place named.0) ∙ ap (λ q. at p.rule h' pair.0 q.y q.x) (sym is_from)
                ∙ equal
                ∙ ap (λ q. at p.rule h' pair.1 q.y q.x) is_from ∙ at-origin pair.1 place named.1);
          },
        ),
      )

  there : (period : Period) (q : ℕ) → p.demands.period ≡ Some period → IsThere p h' (part_of period q) → IsThere p h (part_of period q)
  there period q is later = λ y x.
      let part = part_of period q in
      let place : Place = record { y = y; x = x } in
      let from = origin place in
      let shorter : part.length < p.posed.generations = let less = div-le_self period.length q in omega (arith, less, fitting.shorter period is) in
      let kept = IsShiftKept-part motion period.dy period.dx q (shift_kept period is) in
      let goes : moved_to p motion (shifted part.dy part.dx from) ≡ shifted part.dy part.dx place =
      shifted-image motion p.posed.height p.posed.width part.dy part.dx from kept ∙ ap (shifted part.dy part.dx) (image_of-onto motion p.posed.height p.posed.width place same.square) in
      sym (at' part.length (shifted part.dy part.dx from) shorter ∙ ap (λ r. at p.rule h part.length r.y r.x) goes)
      ∙ later from.y from.x
      ∙ at-origin 0 place posed.generations.0

  exact' : IsExact p h'
  exact' = λ exact period is q prime divides later. solution.exact exact period is q prime divides (there period q is later)

  IsSolution-same : IsSolution p h'
  IsSolution-same = record {
    sizes = sizes-image p motion h same.square solution.sizes;
    cells = MeetsCells-image p motion h same.square solution.sizes posed same.cells same.ties solution.cells;
    symmetric = symmetric';
    moved = moved';
    rule = rule';
    populated = populated';
    differ = differ';
    exact = exact';
    unlisted = IsUnlisted-image p motion h same.square solution.sizes posed fitting.listed same.listed solution.unlisted;
  }

pub IsSolution-image : (p : PosedProblem) (motion : Motion) (h : History) → AreFitting p.posed p.demands → IsPosed p.posed → looks_the_same p motion ≡ true → IsSolution p h
    → IsSolution p (imaged p motion h)
IsSolution-image p motion h fitting posed looks solution = IsSolution-same p motion h fitting posed (IsSame-by_test p motion looks) solution
