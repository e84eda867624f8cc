use Rattle.lls_trim.proofs.Buffers.{names_in-put}
use Rattle.lls_trim.proofs.names.Names.put.Goals as goal

pub returns : goal.returns
returns c = names_in-put c.args.self.now (record { places = c.put.new.self }) c.args.id c.args.k c.in_ok-put.ensures.ok
