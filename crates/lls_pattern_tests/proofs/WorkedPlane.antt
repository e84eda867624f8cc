-- The worked solutions that don't obey the rule on the whole plane.
use Rattle.std.proofs.Common.{◌≡◌, ◌<◌, ℕ, zero, suc, pos, negsuc, Bool, true, false, Option, None, Some, refl, arith, get_or}
use Rattle.std.proofs.lemmas.Int.{ints}
use Rattle.lls_rule.specs.Rule.{table_of}
use Rattle.lls_grid.specs.Place.{inside}
use Rattle.lls_grid.specs.History.{cells_of}
use Rattle.lls_problem.specs.declared.demands.Edge.{Edge}
use Rattle.lls_problem.specs.declared.demands.Edge.TheVariants.{Framed, Bare}
use Rattle.lls_problem.specs.Solution.{IsSolution, Obeys, MeetsCells, is_marked_at, HasItsBit, AreTied, cell_number, place_of}
use Rattle.lls_problem.specs.Plane.{AreUnmarked, ObeysEverywhere}
use Rattle.lls_problem.specs.Worked.{one_cell, two_generations, open_problem, gone, marked_problem, from_nothing}

-- free cells say nothing of their values
free_cells : (edge : Edge) (mark early late : Bool) → MeetsCells (one_cell edge mark).posed.cells (cells_of (two_generations early late))
free_cells edge mark early late = record { fixed = fixed; tied = tied } where
  fixed : (k : ℕ) → k < 2 → HasItsBit (cell_number (one_cell edge mark).posed.cells k).kind (get_or (cells_of (two_generations early late)) k false)
  fixed zero within = tt
  fixed (suc zero) within = tt
  fixed (suc (suc k)) within = absurd (omega arith)

  tied : (j k : ℕ) → j < 2 → k < 2 → AreTied (cell_number (one_cell edge mark).posed.cells j).kind (cell_number (one_cell edge mark).posed.cells k).kind
      (get_or (cells_of (two_generations early late)) j false) (get_or (cells_of (two_generations early late)) k false)
  tied zero k within other = tt
  tied (suc zero) k within other = tt
  tied (suc (suc j)) k within other = absurd (omega arith)

-- what obeys the rule is a solution
solved : (edge : Edge) (mark early late : Bool) → Obeys (one_cell edge mark) (two_generations early late) → IsSolution (one_cell edge mark) (two_generations early late)
solved edge mark early late obeys = record {
  sizes = (refl, refl);
  cells = free_cells edge mark early late;
  symmetric = λ t t_in k place none. absurd (omega (arith, none));
  moved = λ period is. cc;
  rule = obeys;
  populated = λ k d none. absurd (omega (arith, none));
  differ = λ pair is. cc;
  exact = λ on period none. cc;
  unlisted = λ k d none. absurd (omega (arith, none));
}

gone_obeys : Obeys open_problem gone
unfolding table_of
gone_obeys zero (pos zero) (pos zero) later framed free = refl
gone_obeys zero (pos (suc y)) x later framed free = let high = framed.1 in absurd (omega (arith, ints))
gone_obeys zero (negsuc y) x later framed free = let low = framed.0 in absurd (omega (arith, ints))
gone_obeys zero y (pos (suc x)) later framed free = let high = framed.3 in absurd (omega (arith, ints))
gone_obeys zero y (negsuc x) later framed free = let low = framed.2 in absurd (omega (arith, ints))
gone_obeys (suc t) y x later framed free = absurd (omega arith)

pub gone_solves : IsSolution open_problem gone
gone_solves = solved Bare false true false gone_obeys

pub open_unmarked : AreUnmarked open_problem.posed
open_unmarked t y x later within = unmarked_at (inside y 1) (inside x 1) where
  unmarked : (k : ℕ) → (cell_number open_problem.posed.cells k).mark ≡ false
  unmarked zero = refl
  unmarked (suc zero) = refl
  unmarked (suc (suc k)) = refl

  unmarked_at : (row column : Option ℕ) → is_marked_at open_problem.posed t row column ≡ false
  unmarked_at (Some row) (Some column) = unmarked (place_of open_problem.posed t row column)
  unmarked_at (Some row) None = refl
  unmarked_at None column = refl

pub gone_disobeys : ¬ ObeysEverywhere open_problem gone
unfolding table_of
gone_disobeys law = let clash : false ≡ true = law 0 (pos 0) (negsuc 0) (omega arith) in cc

from_nothing_obeys : Obeys marked_problem from_nothing
unfolding table_of
from_nothing_obeys zero (negsuc zero) (negsuc zero) later framed free = refl
from_nothing_obeys zero (negsuc zero) (pos zero) later framed free = refl
from_nothing_obeys zero (negsuc zero) (pos (suc zero)) later framed free = refl
from_nothing_obeys zero (pos zero) (negsuc zero) later framed free = refl
from_nothing_obeys zero (pos zero) (pos zero) later framed marked = cc
from_nothing_obeys zero (pos zero) (pos (suc zero)) later framed free = refl
from_nothing_obeys zero (pos (suc zero)) (negsuc zero) later framed free = refl
from_nothing_obeys zero (pos (suc zero)) (pos zero) later framed free = refl
from_nothing_obeys zero (pos (suc zero)) (pos (suc zero)) later framed free = refl
from_nothing_obeys zero (negsuc (suc y)) x later framed free = let low = framed.0 in absurd (omega (arith, ints))
from_nothing_obeys zero (pos (suc (suc y))) x later framed free = let high = framed.1 in absurd (omega (arith, ints))
from_nothing_obeys zero y (negsuc (suc x)) later framed free = let low = framed.2 in absurd (omega (arith, ints))
from_nothing_obeys zero y (pos (suc (suc x))) later framed free = let high = framed.3 in absurd (omega (arith, ints))
from_nothing_obeys (suc t) y x later framed free = absurd (omega arith)

pub from_nothing_solves : IsSolution marked_problem from_nothing
from_nothing_solves = solved Framed true false true from_nothing_obeys

pub from_nothing_disobeys : ¬ ObeysEverywhere marked_problem from_nothing
unfolding table_of
from_nothing_disobeys law = let clash : true ≡ false = law 0 (pos 0) (pos 0) (omega arith) in cc
