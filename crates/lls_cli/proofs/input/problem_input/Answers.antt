use Rattle.std.proofs.Common.{◌∙◌, sym}
use Rattle.lls_cli.proofs.Made.{made_rule}
use Rattle.lls_cli.proofs.input.problem_input.Goals as goal

pub returns-clause-rule : goal.returns-clause-rule
returns-clause-rule c =
    made_rule c.in_ok-posed.posed c.args.rule c.args.demands c.in_ok-make_problem.field-0 (sym c.make_problem.ensures ∙ c.in_ok-make_problem.was)
