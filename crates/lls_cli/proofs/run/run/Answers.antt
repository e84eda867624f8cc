use Rattle.std.specs.Prelude.{map, string_bytes}
use Rattle.lls_cli.proofs.Apart.{apart}
use Rattle.lls_cli.proofs.Runs.{run_by}
use Rattle.lls_cli.proofs.run.run.Goals as goal

pub returns : goal.returns
returns g c = run_by _ _ _ _ (apart (map string_bytes c.args.words.now)) c.run_words.ensures
