-- The inputs of a framed place, whose values are those of a history that values write.
use Rattle.std.proofs.Common.{◌≡◌, ◌<◌, ◌≤◌, ◌+◌, ◌-◌, ◌++◌, ◌∷◌, [], ◌∙◌, ℕ, map, ap, arith, to_z-of_z}
use Rattle.std.proofs.lemmas.Int.{ints}
use Rattle.lls_grid.specs.History.{at, nine}
use Rattle.lls_transition.specs.Place.{value_of}
use Rattle.lls_encode.specs.History.{history_of}
use Rattle.lls_encode.proofs.Framed.{framed_limits}
use Rattle.lls_encode.proofs.Sound.{HasCells-history_of}
use Rattle.lls_encode.proofs.Values.{values-inputs_at}
use Rattle.lls_encode.proofs.place.inputs.Goals as goal

pub inputs_at-requires-clause-row : goal.inputs_at-requires-clause-row
inputs_at-requires-clause-row c =
    let p = c.args.problem.now in
    let limits = framed_limits p.demands.edge p.posed.height p.posed.width c.args.y c.args.x c.requires.framed in
    let most : p.posed.height ≤ 64 = c.posed-posed.ensures.kept.height.1 in
    let fits = c.ranges.y in
    simp to_z-of_z (limits.0.0, omega (arith, ints, limits.0.1, most))

pub inputs_at-requires-clause-column : goal.inputs_at-requires-clause-column
inputs_at-requires-clause-column c =
    let p = c.args.problem.now in
    let limits = framed_limits p.demands.edge p.posed.height p.posed.width c.args.y c.args.x c.requires.framed in
    let most : p.posed.width ≤ 64 = c.posed-posed.ensures.kept.width.1 in
    let fits = c.ranges.x in
    simp to_z-of_z (limits.1.0, omega (arith, ints, limits.1.1, most))

pub returns-clause-inputs : goal.returns-clause-inputs
returns-clause-inputs c =
    let fits = c.ranges.y in
    let fits' = c.ranges.x in
    simp to_z-of_z at c.inputs_at.ensures.inputs

pub returns-clause-values : goal.returns-clause-values
returns-clause-values c = λ values enough.
    let p = c.args.problem.now in
    let h = history_of p values in
    let before : ℕ = c.args.t - 1 in
    let next : before + 1 ≡ c.args.t = omega (arith, c.requires.generation.0) in
    let inside : before + 1 < p.posed.generations = omega (arith, c.requires.generation.0, c.requires.generation.1) in
    ap (map (value_of values)) (returns-clause-inputs c)
    ∙ values-inputs_at p h values (HasCells-history_of p values c.posed-posed.ensures.kept enough) before c.args.y c.args.x inside
    ∙ ap (λ t. nine p.rule h before c.args.y c.args.x ++ at p.rule h t c.args.y c.args.x ∷ []) next
