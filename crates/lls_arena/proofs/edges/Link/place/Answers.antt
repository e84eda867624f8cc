use Rattle.lls_arena.proofs.Paired.{named_place}
use Rattle.lls_arena.proofs.edges.Link.place.Goals as goal

pub returns : goal.returns
returns c = λ k is. named_place c.args.self.after k is
