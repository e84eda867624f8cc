use Rattle.std.proofs.Common.{sym}
use Rattle.lls_store.proofs.Placed.{no_place}
use Rattle.lls_store.proofs.Found.{absent_by_test}
use Rattle.lls_store.proofs.trail.Trail.place.Goals as goal

pub returns-else-has_value : goal.returns-else-has_value
returns-else-has_value c = sym (no_place c.args.self.now.entries c.args.var (absent_by_test c.args.self.now.entries c.args.var c.has_value.result c.has_value.ensures c.if-has_value.false))
