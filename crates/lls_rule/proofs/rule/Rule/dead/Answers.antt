use Rattle.std.proofs.Common.{refl}
use Rattle.lls_rule.specs.Rule.{table_of}
use Rattle.lls_rule.specs.Words.{table_in}
use Rattle.lls_rule.proofs.rule.Rule.dead.Goals as goal

pub returns : goal.returns
unfolding table_of table_in
returns c = refl
