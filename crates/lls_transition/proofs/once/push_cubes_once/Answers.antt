use Rattle.std.proofs.Common.{◌≡◌, ◌↔◌, ◌∙◌, true, take, ap, sym, subst, refl}
use Rattle.lls_lit.specs.Formula.{Cnf, is_within}
use Rattle.lls_transition.specs.Clause.{cube_clauses}
use Rattle.lls_transition.specs.Transition.{Obeys}
use Rattle.lls_transition.proofs.Excluded.{satisfies-cube_clauses}
use Rattle.lls_transition.proofs.Pushed.{is_within-cube_clause}
use Rattle.lls_transition.proofs.Obeyed.{cubes_obey}
use Rattle.lls_transition.proofs.Distinct.{satisfies-distinct, none_more, some_more, room_left}
use Rattle.lls_transition.proofs.once.push_cubes_once.Goals as goal
use Rattle.lls_transition.proofs.once.push_cubes_once.Goals.{in-Some+in-Ok, in_default}

pub push_new-requires-clause-within : goal.push_new-requires-clause-within
push_new-requires-clause-within c =
    subst (λ vars. is_within vars (take c.in-Some.len c.write_clause.new.clause) ≡ true) (sym (ap (λ (f : Cnf). f.vars) c.loop-cube.invariant))
    (is_within-cube_clause c.args.formula.now.vars c.args.inputs.now _ _ c.requires.within c.in-Some.ensures.some)

pub push_new-requires-clause-room : goal.push_new-requires-clause-room
push_new-requires-clause-room c =
    (room_left c.args.formula.now c.loop-cube.formula c.args.inputs.now c.args.cubes.now c.loop-cube.cube-index _ c.loop-cube.invariant c.loop-cube-test.true c.requires.room).0

pub loop-cube-preserved : goal.loop-cube-preserved
loop-cube-preserved c = elim c.match-write_clause.branch [
  | in-Some+in-Ok w ↦
      rw w.formula-is (some_more c.args.formula.now c.loop-cube.formula w.push_new.new.formula c.args.inputs.now c.args.cubes.now c.loop-cube.cube-index c.len-clauses.result _ _ _ c.loop-cube-test.true refl
      w.in-Some.ensures.some c.len-clauses.ensures.len c.loop-cube.invariant w.in-Ok.ensures.ok)
  | in_default w ↦
      rw w.formula-is (none_more c.args.formula.now c.loop-cube.formula c.args.inputs.now c.args.cubes.now c.loop-cube.cube-index _ _ c.loop-cube-test.true refl w.in_default.ensures.none c.loop-cube.invariant)
]

pub returns-in-Err-clause-excludes : goal.returns-in-Err-clause-excludes
returns-in-Err-clause-excludes c =
    λ values. satisfies-distinct values (cube_clauses c.args.inputs.now c.args.cubes.now)
    ∙ satisfies-cube_clauses values c.args.formula.now.vars c.args.inputs.now c.args.cubes.now c.requires.within c.requires.cares

pub returns-clause-excludes : goal.returns-clause-excludes
returns-clause-excludes c =
    λ values. satisfies-distinct values (cube_clauses c.args.inputs.now c.args.cubes.now)
    ∙ satisfies-cube_clauses values c.args.formula.now.vars c.args.inputs.now c.args.cubes.now c.requires.within c.requires.cares

pub returns-in-Err-clause-obeys : goal.returns-in-Err-clause-obeys
returns-in-Err-clause-obeys c =
    λ values rule ten just. subst (λ b. (b ≡ true) ↔ Obeys values rule c.args.inputs.now) (sym (satisfies-distinct values (cube_clauses c.args.inputs.now c.args.cubes.now)))
    (cubes_obey values c.args.formula.now.vars rule c.args.inputs.now c.args.cubes.now c.requires.within ten just)

pub returns-clause-obeys : goal.returns-clause-obeys
returns-clause-obeys c =
    λ values rule ten just. subst (λ b. (b ≡ true) ↔ Obeys values rule c.args.inputs.now) (sym (satisfies-distinct values (cube_clauses c.args.inputs.now c.args.cubes.now)))
    (cubes_obey values c.args.formula.now.vars rule c.args.inputs.now c.args.cubes.now c.requires.within ten just)
