use Rattle.std.proofs.Common.{◌≡◌, arith, w32, to_z-of_z, pos, ◌+ℤ◌, ◌-ℤ◌, rules, FitsSigned, []}
use Rattle.lls_rule.specs.Rule.{number_of}
use Rattle.lls_grid.specs.History.{three}
use Rattle.lls_grid.proofs.history.History.nine.Goals as goal

pub returns-clause-number : goal.returns-clause-number
returns-clause-number c =
    let fits = c.ranges.y in
    let fits' = c.ranges.x in
    let before : FitsSigned w32 (c.args.y -ℤ pos 1) = search rules in
    let after : FitsSigned w32 (c.args.y +ℤ pos 1) = search rules in
    let above : c.three-above.result ≡ number_of (three c.args.rule.now c.args.self.now c.args.t (c.args.y -ℤ pos 1) c.args.x []) = simp to_z-of_z at c.three-above.ensures.number in
    let here : c.three-here.result ≡ number_of (three c.args.rule.now c.args.self.now c.args.t c.args.y c.args.x []) = simp to_z-of_z at c.three-here.ensures.number in
    let below : c.three-below.result ≡ number_of (three c.args.rule.now c.args.self.now c.args.t (c.args.y +ℤ pos 1) c.args.x []) = simp to_z-of_z at c.three-below.ensures.number in
    omega (arith, above, here, below)
