use Rattle.std.proofs.Common.{refl}
use Rattle.lls_transition.proofs.Excluded.{satisfies-cube_clauses}
use Rattle.lls_transition.proofs.Obeyed.{cubes_obey}
use Rattle.lls_transition.proofs.Pushed.{cube_clauses-more, room_after}
use Rattle.lls_transition.proofs.push.push_cubes.Goals as goal

pub push_cube-requires-clause-room : goal.push_cube-requires-clause-room
push_cube-requires-clause-room c =
    room_after c.args.formula.now c.loop-cube.formula c.args.inputs.now c.args.cubes.now c.loop-cube.cube-index _ c.loop-cube.invariant c.loop-cube-test.true c.requires.room

pub loop-cube-preserved : goal.loop-cube-preserved
loop-cube-preserved c =
    cube_clauses-more c.args.formula.now c.loop-cube.formula c.push_cube.new.formula c.args.inputs.now c.args.cubes.now c.loop-cube.cube-index _ _ c.loop-cube-test.true refl c.loop-cube.invariant c.in-Ok.ensures.ok

pub returns-in-Err-clause-excludes : goal.returns-in-Err-clause-excludes
returns-in-Err-clause-excludes c =
    λ values. satisfies-cube_clauses values c.args.formula.now.vars c.args.inputs.now c.args.cubes.now c.requires.within c.requires.cares

pub returns-clause-excludes : goal.returns-clause-excludes
returns-clause-excludes c =
    λ values. satisfies-cube_clauses values c.args.formula.now.vars c.args.inputs.now c.args.cubes.now c.requires.within c.requires.cares

pub returns-in-Err-clause-obeys : goal.returns-in-Err-clause-obeys
returns-in-Err-clause-obeys c =
    λ values rule ten just. cubes_obey values c.args.formula.now.vars rule c.args.inputs.now c.args.cubes.now c.requires.within ten just

pub returns-clause-obeys : goal.returns-clause-obeys
returns-clause-obeys c =
    λ values rule ten just. cubes_obey values c.args.formula.now.vars rule c.args.inputs.now c.args.cubes.now c.requires.within ten just
