-- The ten calls are at the places of the definition.
use Rattle.std.proofs.Common.{w32, to_z-of_z, pos, ◌+ℤ◌, ◌-ℤ◌, rules, FitsSigned}
use Rattle.lls_encode.proofs.place.inputs_at.Goals as goal

pub returns-clause-inputs : goal.returns-clause-inputs
returns-clause-inputs c =
    let fits = c.ranges.y in
    let fits' = c.ranges.x in
    let above : FitsSigned w32 (c.args.y -ℤ pos 1) = search rules in
    let below : FitsSigned w32 (c.args.y +ℤ pos 1) = search rules in
    let before : FitsSigned w32 (c.args.x -ℤ pos 1) = search rules in
    let behind : FitsSigned w32 (c.args.x +ℤ pos 1) = search rules in
    let e1 = simp to_z-of_z at c.place_at.ensures.place in
    let e2 = simp to_z-of_z at c.place_at-2.ensures.place in
    let e3 = simp to_z-of_z at c.place_at-3.ensures.place in
    let e4 = simp to_z-of_z at c.place_at-4.ensures.place in
    let e5 = simp to_z-of_z at c.place_at-5.ensures.place in
    let e6 = simp to_z-of_z at c.place_at-6.ensures.place in
    let e7 = simp to_z-of_z at c.place_at-7.ensures.place in
    let e8 = simp to_z-of_z at c.place_at-8.ensures.place in
    let e9 = simp to_z-of_z at c.place_at-9.ensures.place in
    let e10 = simp to_z-of_z at c.place_at-10.ensures.place in
    rw (e1, e2, e3, e4, e5, e6, e7, e8, e9, e10)
