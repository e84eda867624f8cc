use Rattle.std.proofs.Common.{◌≡◌, ◌<◌, length, get_or, sym, arith}
use Rattle.std.proofs.lemmas.Option.{get_or_from_slice_get}
use Rattle.lls_prooflog.specs.Lent.{ids_of}
use Rattle.lls_lrat.proofs.Found.{filter-none, filter-more}
use Rattle.lls_lrat.proofs.live.remove_all.Goals as goal

pub loop-k-init : goal.loop-k-init
loop-k-init c = record { all = sym (filter-none c.args.stored.now.all); added = sym (filter-none c.args.stored.now.added); counted = c.requires }

pub loop-k-preserved : goal.loop-k-preserved
loop-k-preserved c =
    let ids = ids_of c.args.ids in
    let lt : c.loop-k.k < length ids = omega (arith, c.loop-k-test.true, c.len-k-end.ensures) in
    let at : c.get-id.result ≡ get_or ids c.loop-k.k 0 = sym (get_or_from_slice_get ids c.loop-k.k c.get-id.result 0 c.get-id.ensures) in
    record {
      all = rw (c.remove.ensures, at, c.loop-k.invariant.all) (filter-more ids c.loop-k.k 0 c.args.stored.now.all lt);
      added = rw (c.remove.ensures, at, c.loop-k.invariant.added) (filter-more ids c.loop-k.k 0 c.args.stored.now.added lt);
      counted = rw c.remove.ensures c.count_less.ensures;
    }
