use Rattle.std.proofs.Common.{◌∙◌, ap}
use Rattle.lls_search_file.specs.Kept.{texts}
use Rattle.lls_search_file.proofs.Texts.{place_of-texts, insert-texts}
use Rattle.lls_search_file.proofs.names.number_of.Goals as goal

pub returns-clause-number : goal.returns-clause-number
returns-clause-number c = c.in_ok-index.ensures.index ∙ place_of-texts c.args.name.now c.args.names.now.keys

pub returns-clause-names : goal.returns-clause-names
returns-clause-names c = ap texts c.in_ok-index.ensures.keys ∙ insert-texts c.args.name c.args.names.now.keys
