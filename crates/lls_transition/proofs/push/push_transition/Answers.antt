use Rattle.std.proofs.Common.{◌≡◌, ◌<◌, ◌^◌, ◌∙◌, List, length, ap, sym, subst, arith, map}
use Rattle.std.specs.Prelude.{All}
use Rattle.lls_cube.specs.declared.cube.Cube.{Cube}
use Rattle.lls_cube.specs.Table.{forbidden_rows}
use Rattle.lls_cube.specs.Cube.{row_cube}
use Rattle.lls_transition.proofs.Pushed.{most_more}
use Rattle.lls_transition.specs.Transition.{table_of}
use Rattle.lls_transition.proofs.Obeyed.{cares_of, forbidden_cubes, satisfies_obeys, length-cubes}
use Rattle.lls_transition.proofs.push.push_transition.Goals as goal

pub returns-in_err-cubes-clause-obeys : goal.returns-in_err-cubes-clause-obeys
returns-in_err-cubes-clause-obeys c =
    λ values. satisfies_obeys values c.args.formula.now.vars c.args.rule.now c.args.inputs.now c.requires.within c.type_inv.inputs

pub push_cubes-requires-clause-cares : goal.push_cubes-requires-clause-cares
push_cubes-requires-clause-cares c =
    let is : c.deref.result.now ≡ map (row_cube 10) (forbidden_rows (table_of c.args.rule.now)) =
    c.deref.ensures.value ∙ c.in_ok-cubes.ensures.rows ∙ ap (λ t. map (row_cube 10) (forbidden_rows t)) c.table_of.ensures in
    subst (λ (cubes : List Cube). All (λ (cube : Cube). cube.care < 2 ^ length c.args.inputs.now) cubes) (sym is)
    (cares_of c.args.rule.now c.args.inputs.now _ c.type_inv.inputs (forbidden_cubes c.args.rule.now))

pub push_cubes-requires-clause-room : goal.push_cubes-requires-clause-room
push_cubes-requires-clause-room c =
    let few = length-cubes c.args.rule.now c.deref.result.now (c.deref.ensures.value ∙ c.in_ok-cubes.ensures.rows ∙ ap (λ t. map (row_cube 10) (forbidden_rows t)) c.table_of.ensures) in
    let room = c.requires.room in
    omega (arith, few, room)

pub returns-clause-most : goal.returns-clause-most
returns-clause-most c =
    let few = length-cubes c.args.rule.now c.deref.result.now (c.deref.ensures.value ∙ c.in_ok-cubes.ensures.rows ∙ ap (λ t. map (row_cube 10) (forbidden_rows t)) c.table_of.ensures) in
    omega (arith, few, most_more c.push_cubes.result c.args.formula.now c.push_cubes.new.formula c.args.inputs.now c.deref.result.now c.push_cubes.ensures.ok c.push_cubes.ensures.err)

pub returns-clause-obeys : goal.returns-clause-obeys
returns-clause-obeys c =
    λ values. satisfies_obeys values c.args.formula.now.vars c.args.rule.now c.args.inputs.now c.requires.within c.type_inv.inputs
