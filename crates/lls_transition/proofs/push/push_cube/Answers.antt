use Rattle.lls_transition.proofs.Pushed.{is_within-cube_clause}
use Rattle.lls_transition.proofs.push.push_cube.Goals as goal

pub push-requires-clause-within : goal.push-requires-clause-within
push-requires-clause-within c =
    is_within-cube_clause c.args.formula.now.vars c.args.inputs.now c.args.cube _ c.requires.within c.in-Some.ensures.some
