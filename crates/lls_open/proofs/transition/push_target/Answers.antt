use Rattle.std.proofs.Common.{◌≡◌, ◌<◌, ◌^◌, ℕ, ℤ, pos, ◌-ℤ◌, List, length, w32, ◌∙◌, ap, sym, subst, arith, rules, length-append}
use mir.Val.{to_z, of_z}
use Rattle.std.specs.Prelude.{All}
use Rattle.std.specs.List.{flat_map, range_with_len}
use Rattle.lls_lit.specs.Formula.{Cnf}
use Rattle.lls_cube.specs.declared.cube.Cube.{Cube}
use Rattle.lls_transition.specs.Clause.{with_clauses}
use Rattle.lls_encode.specs.Formula.{cubes_in, clauses_at}
use Rattle.lls_encode.specs.Place.{inputs_at}
use Rattle.lls_encode.proofs.Steps.{on_ok, with_clauses-append}
use Rattle.lls_encode.proofs.Bounds.{length-clauses_at}
use Rattle.lls_open.specs.Targets.{row_of, column_of}
use Rattle.lls_open.specs.Formula.{settled_table, class_clauses, open_clauses}
use Rattle.lls_open.proofs.Few.{All-settled, length-settled}
use Rattle.lls_open.proofs.Within.{within-more}
use Rattle.lls_open.proofs.transition.push_target.Goals as goal

pub push_cubes_of-requires-clause-within : goal.push_cubes_of-requires-clause-within
push_cubes_of-requires-clause-within c =
    within-more (length c.args.problem.now.posed.cells) c.args.formula.now.vars c.inputs_at-inputs.result (omega (arith, c.requires.vars)) c.inputs_at-inputs.ensures.within

pub push_cubes_of-requires-clause-cares : goal.push_cubes_of-requires-clause-cares
push_cubes_of-requires-clause-cares c =
    let cubes = c.deref.ensures.value ∙ c.requires.cubes.settled in
    subst (λ (n : ℕ). All (λ (cube : Cube). cube.care < 2 ^ n) c.deref.result.now) (sym (ap length c.inputs_at-inputs.ensures.inputs))
    (subst (λ (xs : List Cube). All (λ (cube : Cube). cube.care < 2 ^ 10) xs) (sym cubes) (All-settled c.args.form c.args.problem.now.rule c.args.classes.now))

pub push_cubes_of-requires-clause-room : goal.push_cubes_of-requires-clause-room
push_cubes_of-requires-clause-room c =
    let cubes = c.deref.ensures.value ∙ c.requires.cubes.settled in
    omega (arith, c.requires.room, ap length cubes, length-settled c.args.form c.args.problem.now.rule c.args.classes.now)

pub push_classes-requires-clause-room : goal.push_classes-requires-clause-room
push_classes-requires-clause-room c =
    let cubes = c.deref.ensures.value ∙ c.requires.cubes.settled in
    let clauses = clauses_at c.args.form c.deref.result.now c.inputs_at-inputs.result in
    omega (
      arith,
      c.requires.room,
      c.requires.few,
      ap (λ (f : Cnf). length f.clauses) c.in_ok-push_cubes_of.ensures.ok,
      length-append c.args.formula.now.clauses clauses,
      length-clauses_at c.args.form c.deref.result.now c.inputs_at-inputs.result,
      ap length cubes,
      length-settled c.args.form c.args.problem.now.rule c.args.classes.now,
    )

pub returns : goal.returns
returns c =
    let p = c.args.problem.now in
    let y : ℤ = row_of c.args.target in
    let x : ℤ = column_of c.args.target in
    let row : to_z w32 (of_z w32 (to_z w32 c.args.target.line -ℤ pos 1)) ≡ y = search (rules, c.requires.target.line) in
    let column : to_z w32 (of_z w32 (to_z w32 c.args.target.column -ℤ pos 1)) ≡ x = search (rules, c.requires.target.column) in
    let inputs : c.inputs_at-inputs.result ≡ inputs_at p c.args.target.t y x =
    c.inputs_at-inputs.ensures.inputs ∙ ap (λ at. inputs_at p c.args.target.t at (to_z w32 (of_z w32 (to_z w32 c.args.target.column -ℤ pos 1)))) row ∙ ap (inputs_at p c.args.target.t y) column in
    let settled = c.in_ok-push_cubes_of.ensures.ok ∙ ap (λ xs. with_clauses c.args.formula.now (clauses_at c.args.form xs c.inputs_at-inputs.result)) (c.deref.ensures.value ∙ c.requires.cubes.settled) in
    on_ok c.push_classes.result _ _
    (λ pushed. pushed
    ∙ ap (λ f. with_clauses f (flat_map (class_clauses p c.args.form c.args.classes.now c.inputs_at-inputs.result) (range_with_len 0 (length c.args.classes.now)))) settled
    ∙ with_clauses-append c.args.formula.now (clauses_at c.args.form (cubes_in c.args.form 10 (settled_table p.rule c.args.classes.now)) c.inputs_at-inputs.result) (flat_map (class_clauses p c.args.form c.args.classes.now c.inputs_at-inputs.result) (range_with_len 0 (length c.args.classes.now)))
    ∙ ap (λ ps. with_clauses c.args.formula.now (open_clauses p c.args.form c.args.classes.now ps)) inputs)
    c.push_classes.ensures
