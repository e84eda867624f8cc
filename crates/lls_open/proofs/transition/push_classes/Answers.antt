use Rattle.std.proofs.Common.{◌≡◌, ◌<◌, ◌+◌, ◌^◌, ℕ, ℤ, List, [], ◌∷◌, ◌++◌, length, ◌∙◌, ap, sym, subst, arith, length-append}
use Rattle.std.specs.Prelude.{All}
use Rattle.std.specs.List.{list_all}
use Rattle.lls_lit.specs.Formula.{Cnf}
use Rattle.lls_cube.specs.declared.cube.Cube.{Cube}
use Rattle.lls_transition.specs.declared.place.Place.{Place}
use Rattle.lls_transition.specs.declared.place.Place.TheVariants.{Of}
use Rattle.lls_transition.specs.Place.{place_within}
use Rattle.lls_transition.specs.Clause.{with_clauses}
use Rattle.lls_encode.specs.Formula.{clauses_at}
use Rattle.lls_encode.specs.Room.{HasRoom}
use Rattle.lls_encode.proofs.Steps.{HasRoom-after, pushed_more}
use Rattle.lls_open.specs.Classes.{class_number}
use Rattle.lls_open.specs.Cubes.{class_cubes}
use Rattle.lls_open.specs.Formula.{class_inputs, class_clauses}
use Rattle.lls_open.proofs.Few.{All-class, length-class, length-class_clauses}
use Rattle.lls_open.proofs.Within.{within-class_inputs, by_class-at}
use Rattle.lls_open.proofs.transition.push_classes.Goals as goal

abbrev class_list : List Place → ℤ → List Place
class_list inputs l = inputs ++ Of l ∷ []

pub push_cubes_of-requires-clause-within : goal.push_cubes_of-requires-clause-within
push_cubes_of-requires-clause-within c =
    let p = c.args.problem.now in
    let vars : c.loop-k.formula.vars ≡ length p.posed.cells + length c.args.classes.now = ap (λ (f : Cnf). f.vars) c.loop-k.invariant ∙ c.requires.vars in
    let wide : c.with_variable-wide.result ≡ class_inputs p c.args.inputs.now c.loop-k.k =
    c.with_variable-wide.ensures ∙ ap (λ l. class_list c.args.inputs.now l) c.class_variable.ensures in
    ap (list_all (place_within c.loop-k.formula.vars)) wide
    ∙ within-class_inputs p c.args.inputs.now c.loop-k.k c.loop-k.formula.vars c.requires.within (omega (arith, vars, c.loop-k-test.true))

pub push_cubes_of-requires-clause-cares : goal.push_cubes_of-requires-clause-cares
push_cubes_of-requires-clause-cares c =
    let cubes = c.deref.ensures.value ∙ by_class-at c.args.form _ c.args.classes.now c.loop-k.k c.index.result.now c.requires.cubes.by_class c.loop-k-test.true c.index.ensures in
    let count : length c.with_variable-wide.result ≡ 11 = omega (arith, ap length c.with_variable-wide.ensures, length-append c.args.inputs.now (Of c.class_variable.result ∷ []), c.type_inv.inputs) in
    subst (λ (n : ℕ). All (λ (cube : Cube). cube.care < 2 ^ n) c.deref.result.now) (sym count)
    (subst (λ (xs : List Cube). All (λ (cube : Cube). cube.care < 2 ^ 11) xs) (sym cubes) (All-class c.args.form (class_number c.args.classes.now c.loop-k.k)))

pub push_cubes_of-requires-clause-room : goal.push_cubes_of-requires-clause-room
push_cubes_of-requires-clause-room c =
    let cubes = c.deref.ensures.value ∙ by_class-at c.args.form _ c.args.classes.now c.loop-k.k c.index.result.now c.requires.cubes.by_class c.loop-k-test.true c.index.ensures in
    let clauses = class_clauses c.args.problem.now c.args.form c.args.classes.now c.args.inputs.now in
    let room : HasRoom c.loop-k.formula 1024 =
    HasRoom-after c.args.formula.now c.loop-k.formula clauses 1024 0 c.loop-k.k (length c.args.classes.now) _ (length-class_clauses c.args.problem.now c.args.form c.args.classes.now c.args.inputs.now)
    c.loop-k.invariant c.loop-k-test.true (omega arith) c.requires.room in
    omega (arith, room, ap length cubes, length-class c.args.form (class_number c.args.classes.now c.loop-k.k))

pub loop-k-preserved : goal.loop-k-preserved
loop-k-preserved c =
    let p = c.args.problem.now in
    let cubes = c.deref.ensures.value ∙ by_class-at c.args.form _ c.args.classes.now c.loop-k.k c.index.result.now c.requires.cubes.by_class c.loop-k-test.true c.index.ensures in
    let wide : c.with_variable-wide.result ≡ class_inputs p c.args.inputs.now c.loop-k.k =
    c.with_variable-wide.ensures ∙ ap (λ l. class_list c.args.inputs.now l) c.class_variable.ensures in
    pushed_more _ _ _ (class_clauses p c.args.form c.args.classes.now c.args.inputs.now) 0 c.loop-k.k c.loop-k.k c.loop-k.invariant
    (c.in_ok-push_cubes_of.ensures.ok
    ∙ ap (λ xs. with_clauses c.loop-k.formula (clauses_at c.args.form xs c.with_variable-wide.result)) cubes
    ∙ ap (λ ps. with_clauses c.loop-k.formula (clauses_at c.args.form (class_cubes c.args.form (class_number c.args.classes.now c.loop-k.k)) ps)) wide)
    (omega arith)
