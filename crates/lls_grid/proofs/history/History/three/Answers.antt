use Rattle.std.proofs.Common.{◌≡◌, arith, w32, to_z-of_z, pos, ◌+ℤ◌, ◌-ℤ◌, rules, FitsSigned}
use Rattle.lls_grid.specs.History.{at}
use Rattle.lls_grid.proofs.history.History.three.Goals as goal

pub returns-clause-number : goal.returns-clause-number
returns-clause-number c =
    let fits = c.ranges.y in
    let fits' = c.ranges.x in
    let before : FitsSigned w32 (c.args.x -ℤ pos 1) = search rules in
    let after : FitsSigned w32 (c.args.x +ℤ pos 1) = search rules in
    let left : c.at.result ≡ at c.args.rule.now c.args.self.now c.args.t c.args.y (c.args.x -ℤ pos 1) = simp to_z-of_z at c.at.ensures in
    let middle : c.at-2.result ≡ at c.args.rule.now c.args.self.now c.args.t c.args.y c.args.x = simp to_z-of_z at c.at-2.ensures in
    let right : c.at-3.result ≡ at c.args.rule.now c.args.self.now c.args.t c.args.y (c.args.x +ℤ pos 1) = simp to_z-of_z at c.at-3.ensures in
    rw (← left, ← middle, ← right) (omega (arith, c.weight-left.ensures.weight, c.weight-middle.ensures.weight, c.weight-right.ensures.weight))
