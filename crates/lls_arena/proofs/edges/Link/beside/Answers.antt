use Rattle.lls_arena.proofs.Paired.{beside_linked, beside_named, some_link}
use Rattle.lls_arena.proofs.edges.Link.beside.Goals as goal

pub returns-clause-clause : goal.returns-clause-clause
returns-clause-clause c = beside_linked c.args.self.after (some_link c.args.self.after c.requires.leads)

pub returns-clause-side : goal.returns-clause-side
returns-clause-side c = beside_named c.args.self.after (some_link c.args.self.after c.requires.leads)
