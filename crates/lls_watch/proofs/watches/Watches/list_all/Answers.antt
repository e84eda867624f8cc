use Rattle.std.proofs.Common.{◌≡◌, suc, arith, subst}
use Rattle.std.specs.Prelude.{◌-◌}
use Rattle.lls_watch.specs.Anew.{AreListedFrom}
use Rattle.lls_watch.proofs.Threading.{listable_still, listed_one_more, not_among, relinked_further, relinked_length}
use Rattle.lls_watch.proofs.watches.Watches.list_all.Goals as goal

pub loop-c-preserved : goal.loop-c-preserved
loop-c-preserved c =
    let it = c.list.ensures.relinked in
    let step : c.loop-c.c ≡ suc (c.loop-c.c - 1) = omega (arith, c.loop-c-test.true) in
    let from = subst (AreListedFrom c.loop-c.self) step c.loop-c.invariant.1.1.1 in
    let same = relinked_length c.loop-c.self c.list.new.self it in (
      omega (arith, same, c.loop-c.invariant.0),
      (
        relinked_further c.args.self.now c.loop-c.self c.list.new.self c.loop-c.invariant.1.0 it,
        (listable_still c.loop-c.self c.list.new.self it c.loop-c.invariant.1.1.0, listed_one_more c.loop-c.self c.list.new.self (c.loop-c.c - 1) it from (c.list.ensures.longer from.lists from.threaded (not_among c.loop-c.self (c.loop-c.c - 1) from))),
      ),
    )
