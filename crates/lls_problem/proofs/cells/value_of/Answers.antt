use Rattle.std.proofs.Common.{◌≡◌, arith, pos, w32, to_z}
use Rattle.std.proofs.lemmas.Int.{ints}
use Rattle.lls_problem.proofs.Places.{at-in_grid}
use Rattle.lls_problem.proofs.cells.value_of.Goals as goal

pub returns : goal.returns
returns c =
    let place = rw (c.sizes.ensures.sizes, c.posed.ensures.value) at c.place-place.ensures.inside in
    let number = rw (c.sizes.ensures.sizes, c.posed.ensures.value) at c.place-place.ensures.index in
    let row = place.row in
    let column = place.column in
    let height = c.posed.ensures.kept.height in
    let width = c.posed.ensures.kept.width in
    let y : to_z w32 c.place-place.result.y ≡ pos c.place-place.result.y = omega (arith, ints) in
    let x : to_z w32 c.place-place.result.x ≡ pos c.place-place.result.x = omega (arith, ints) in
    rw (y, x, at-in_grid c.args.problem.now.posed _ c.args.history.now c.place-place.result c.requires.sizes place, number) at c.at.ensures
