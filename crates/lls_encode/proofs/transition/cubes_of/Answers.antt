use Rattle.std.proofs.Common.{◌∙◌, Bool, List, length, ap, arith}
use Rattle.std.proofs.lemmas.Result.{IfOk-weaker}
use Rattle.lls_cube.specs.Table.{forbidden_rows}
use Rattle.lls_transition.proofs.Obeyed.{length-forbidden_rows}
use Rattle.lls_encode.proofs.transition.cubes_of.Goals as goal

-- a rule forbids half of the rows
pub returns-clause-few : goal.returns-clause-few
returns-clause-few c =
    let half = ap (λ (table : List Bool). length (forbidden_rows table)) c.table_of.ensures ∙ length-forbidden_rows c.args.rule.now in
    IfOk-weaker c.cubes_in.result _ _ (λ cubes few. omega (arith, few, half)) c.cubes_in.ensures.few
