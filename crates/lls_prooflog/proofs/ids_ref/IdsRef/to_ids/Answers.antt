use Rattle.std.proofs.Common.{refl, arith}
use Rattle.lls_prooflog.specs.Lent.{ids_of}
use Rattle.lls_prooflog.proofs.PrintedLogs.{take-next}
use Rattle.lls_prooflog.proofs.ids_ref.IdsRef.to_ids.Goals as goal

pub loop-k-preserved : goal.loop-k-preserved
loop-k-preserved c = record {
  items = rw (c.push_reserved.ensures.items, c.loop-k.invariant.items, take-next (ids_of c.args.self.now) c.loop-k.k c.get.result c.get.ensures) refl;
  capacity = omega (arith, c.loop-k.invariant.capacity, c.push_reserved.ensures.capacity);
}
