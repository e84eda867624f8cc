use Rattle.lls_drat.proofs.WrittenProofs.{written_again}
use Rattle.lls_drat.proofs.OneForm.{bytes_again}
use Rattle.lls_drat.proofs.reader.Reader.new.Goals as goal

pub returns-clause-written : goal.returns-clause-written
returns-clause-written c = λ lemmas all. written_again c.args.form 0 0 lemmas all

pub returns-clause-one_way : goal.returns-clause-one_way
returns-clause-one_way c = λ bytes lemmas all e. bytes_again bytes lemmas all e
