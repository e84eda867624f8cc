-- A solution under a closed edge and without marks obeys the rule on the whole plane.
use Rattle.std.proofs.Common.{◌≡◌, ◌<◌, ℕ, suc, ◌+◌, ℤ, pos, negsuc, ◌≤ℤ◌, ◌+ℤ◌, ◌-ℤ◌, refl, sym, ap, ◌∙◌, subst, arith}
use Rattle.std.specs.Prelude.{replicate}
use Rattle.std.proofs.lemmas.Int.{ints, by_lt_z}
use Rattle.lls_rule.specs.Rule.{background, successor}
use Rattle.lls_grid.specs.History.{History, at, nine}
use Rattle.lls_symmetry.specs.Motion.{IsOnGrid}
use Rattle.lls_problem.specs.declared.demands.Edge.TheVariants.{Framed}
use Rattle.lls_problem.specs.Problem.{PosedProblem}
use Rattle.lls_problem.specs.Solution.{IsFramed, IsSolution}
use Rattle.lls_problem.specs.Judgement.{HasItsSizes}
use Rattle.lls_problem.specs.Plane.{PlaneLaw}
use Rattle.lls_problem.proofs.Outside.{at_outside}

-- the second number is at most one from the first
record IsNear (a b : ℤ) : Type 0 where
  low : a ≤ℤ (b +ℤ pos 1)
  high : b ≤ℤ (a +ℤ pos 1)

before : (a : ℤ) → IsNear a (a -ℤ pos 1)
before a = record { low = omega (arith, ints); high = omega (arith, ints) }

same : (a : ℤ) → IsNear a a
same a = record { low = omega (arith, ints); high = omega (arith, ints) }

behind : (a : ℤ) → IsNear a (a +ℤ pos 1)
behind a = record { low = omega (arith, ints); high = omega (arith, ints) }

-- a neighbour of a cell of the grid stands in the grid or in the ring
framed_near : (height width : ℕ) (y x y' x' : ℤ) → IsNear y y' → IsNear x x' → IsOnGrid height width (record { y = y'; x = x' }) → IsFramed Framed height width y x
framed_near height width y x y' x' row column on =
    let top = on.top in
    let bottom = on.bottom in
    let left = on.left in
    let right = on.right in
    let row_low = row.low in
    let row_high = row.high in
    let column_low = column.low in
    let column_high = column.high in
    (omega (arith, ints), omega (arith, ints), omega (arith, ints), omega (arith, ints))

-- so the nine cells of any other place are outside the grid
module _ (p : PosedProblem) (h : History) (t : ℕ) (y x : ℤ) (sizes : HasItsSizes p h) (out : IsFramed Framed p.posed.height p.posed.width y x → ⊥) where
  at_near : (s : ℕ) (y' x' : ℤ) → s < p.posed.generations → IsNear y y' → IsNear x x' → at p.rule h s y' x' ≡ background p.rule s
  at_near s y' x' s_in row column =
      at_outside p h sizes s s_in (record { y = y'; x = x' }) (λ on. out (framed_near p.posed.height p.posed.width y x y' x' row column on))

  nine_outside : t < p.posed.generations → nine p.rule h t y x ≡ replicate 9 (background p.rule t)
  nine_outside t_in =
      rw (
        at_near t (y -ℤ pos 1) (x -ℤ pos 1) t_in (before y) (before x),
        at_near t (y -ℤ pos 1) x t_in (before y) (same x),
        at_near t (y -ℤ pos 1) (x +ℤ pos 1) t_in (before y) (behind x),
        at_near t y (x -ℤ pos 1) t_in (same y) (before x),
        at_near t y x t_in (same y) (same x),
        at_near t y (x +ℤ pos 1) t_in (same y) (behind x),
        at_near t (y +ℤ pos 1) (x -ℤ pos 1) t_in (behind y) (before x),
        at_near t (y +ℤ pos 1) x t_in (behind y) (same x),
        at_near t (y +ℤ pos 1) (x +ℤ pos 1) t_in (behind y) (behind x),
      ) refl

  obeys_outside : t + 1 < p.posed.generations → at p.rule h (t + 1) y x ≡ successor p.rule (nine p.rule h t y x)
  obeys_outside later =
      let next : t + 1 ≡ suc t = omega arith in
      at_near (t + 1) y x later (same y) (same x) ∙ ap (background p.rule) next ∙ ap (successor p.rule) (sym (nine_outside (omega arith)))

-- a place is in the grid or the ring, or beyond
cases_framed : {P : Type 0} (height width : ℕ) (y x : ℤ) → (IsFramed Framed height width y x → P) → ((IsFramed Framed height width y x → ⊥) → P) → P
cases_framed height width y x within beyond =
    by_lt_z y (negsuc 0) (λ less. beyond (λ framed. let low = framed.0 in omega (arith, ints))) (λ top.
    by_lt_z (pos height) y (λ less. beyond (λ framed. let high = framed.1 in omega (arith, ints))) (λ bottom.
    by_lt_z x (negsuc 0) (λ less. beyond (λ framed. let low = framed.2 in omega (arith, ints))) (λ left.
    by_lt_z (pos width) x (λ less. beyond (λ framed. let high = framed.3 in omega (arith, ints))) (λ right.
    within (top, bottom, left, right)))))

pub plane_law : (p : PosedProblem) (h : History) → IsSolution p h → PlaneLaw p h
plane_law p h solution = λ closed unmarked t y x later.
    cases_framed p.posed.height p.posed.width y x
    (λ framed. solution.rule t y x later (subst (λ edge. IsFramed edge p.posed.height p.posed.width y x) (sym closed) framed) (unmarked (t + 1) y x (omega arith) later))
    (λ out. obeys_outside p h t y x solution.sizes out later)
