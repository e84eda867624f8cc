use Rattle.std.proofs.Common.{refl, arith}
use Rattle.lls_prooflog.specs.Lent.{hints_of}
use Rattle.lls_prooflog.proofs.PrintedNumbers.{same_number}
use Rattle.lls_prooflog.proofs.PrintedLogs.{take-next}
use Rattle.lls_prooflog.proofs.hints_ref.HintsRef.to_hints.Goals as goal

pub loop-k-preserved : goal.loop-k-preserved
loop-k-preserved c = record {
  items = rw (c.push_reserved.ensures.items, same_number c.get.result c.get.type_inv, c.loop-k.invariant.items, take-next (hints_of c.args.self.now) c.loop-k.k c.get.result c.get.ensures) refl;
  capacity = omega (arith, c.loop-k.invariant.capacity, c.push_reserved.ensures.capacity);
}
