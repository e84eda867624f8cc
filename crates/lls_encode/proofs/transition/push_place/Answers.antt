use Rattle.std.proofs.Common.{◌≡◌, ◌∙◌, ◌+◌, sym, ap, arith, ℤ, pos, ◌-ℤ◌, w32, rules}
use mir.Val.{to_z, of_z}
use Rattle.lls_problem.specs.Solution.{is_marked}
use Rattle.lls_encode.specs.Place.{inputs_at}
use Rattle.lls_encode.specs.Formula.{clauses_at}
use Rattle.lls_encode.proofs.Steps.{with_clauses-unless}
use Rattle.lls_encode.proofs.transition.push_place.Goals as goal

pub push_cubes_of-requires-clause-room : goal.push_cubes_of-requires-clause-room
push_cubes_of-requires-clause-room c =
    let few = c.requires.cubes in
    let room = c.requires.room in
    omega (arith, few, room)

pub returns-else-not-is_marked : goal.returns-else-not-is_marked
returns-else-not-is_marked c =
    let y : ℤ = pos c.args.line -ℤ pos 1 in
    let x : ℤ = pos c.args.column -ℤ pos 1 in
    let row : to_z w32 (of_z w32 (to_z w32 c.args.line -ℤ pos 1)) ≡ y = search (rules, c.requires.line) in
    let column : to_z w32 (of_z w32 (to_z w32 c.args.column -ℤ pos 1)) ≡ x = search (rules, c.requires.column) in
    let posed = c.args.problem.now.posed in
    let marked : is_marked posed (c.args.t + 1) y x ≡ c.is_marked.result =
    sym (c.is_marked.ensures ∙ ap (λ at. is_marked posed (c.args.t + 1) at (to_z w32 (of_z w32 (to_z w32 c.args.column -ℤ pos 1)))) row ∙ ap (is_marked posed (c.args.t + 1) y) column) in
    with_clauses-unless c.args.formula.now (is_marked posed (c.args.t + 1) y x) (clauses_at c.args.form c.args.cubes.now (inputs_at c.args.problem.now c.args.t y x)) (marked ∙ c.if-not-is_marked.false)
