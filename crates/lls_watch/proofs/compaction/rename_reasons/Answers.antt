use Rattle.std.proofs.Common.{◌<◌, length, ap, ◌∙◌, arith}
use Rattle.std.specs.Prelude.{Option, is_some}
use Rattle.lls_store.specs.Trail.{Entry, TrailState}
use Rattle.lls_store.proofs.Renaming.{decided_more, is_read, length-renamed_front}
use Rattle.lls_watch.specs.Passed.{live_from}
use Rattle.lls_watch.proofs.Numbers.{live_below, reason_live, reason_moved}
use Rattle.lls_watch.proofs.compaction.rename_reasons.Goals as goal
use Rattle.lls_watch.proofs.compaction.rename_reasons.Goals.{in-Some, in_default}

pub known_reason-requires : goal.known_reason-requires
known_reason-requires c =
    let heads = c.args.arena.now.heads in
    let t = c.args.trail.now in
    let inside : c.loop-k.k < length c.loop-k.trail.entries = omega (arith, c.loop-k-test.true, c.len-k-end.ensures.len, ap (λ (x : TrailState). length x.entries) c.loop-k.invariant, length-renamed_front (live_from 0 heads) t c.loop-k.k) in
    let read = is_read (live_from 0 heads) t c.loop-k.trail c.loop-k.k c.var-var.result c.lit.result c.len-k-end.ensures.kept c.loop-k.invariant inside c.lit.ensures c.var-var.ensures.var in
    ap (λ (o : Option Entry). is_some o) read.found

pub moved_to-requires-clause-live : goal.moved_to-requires-clause-live
moved_to-requires-clause-live c =
    let heads = c.args.arena.now.heads in
    let t = c.args.trail.now in
    let inside : c.loop-k.k < length c.loop-k.trail.entries = omega (arith, c.loop-k-test.true, c.len-k-end.ensures.len, ap (λ (x : TrailState). length x.entries) c.loop-k.invariant, length-renamed_front (live_from 0 heads) t c.loop-k.k) in
    let read = is_read (live_from 0 heads) t c.loop-k.trail c.loop-k.k c.var-var.result c.lit.result c.len-k-end.ensures.kept c.loop-k.invariant inside c.lit.ensures c.var-var.ensures.var in
    reason_live heads t c.loop-k.trail c.loop-k.k c.var-var.result c.in-Some.reason c.known_reason.result c.requires.sound read c.known_reason.ensures c.in-Some.is

pub set_reason-requires-clause-within : goal.set_reason-requires-clause-within
set_reason-requires-clause-within c =
    let heads = c.args.arena.now.heads in
    let t = c.args.trail.now in
    let inside : c.loop-k.k < length c.loop-k.trail.entries = omega (arith, c.loop-k-test.true, c.len-k-end.ensures.len, ap (λ (x : TrailState). length x.entries) c.loop-k.invariant, length-renamed_front (live_from 0 heads) t c.loop-k.k) in
    let read = is_read (live_from 0 heads) t c.loop-k.trail c.loop-k.k c.var-var.result c.lit.result c.len-k-end.ensures.kept c.loop-k.invariant inside c.lit.ensures c.var-var.ensures.var in
    read.within

pub loop-k-preserved : goal.loop-k-preserved
loop-k-preserved c =
    let heads = c.args.arena.now.heads in
    let t = c.args.trail.now in
    let inside : c.loop-k.k < length c.loop-k.trail.entries = omega (arith, c.loop-k-test.true, c.len-k-end.ensures.len, ap (λ (x : TrailState). length x.entries) c.loop-k.invariant, length-renamed_front (live_from 0 heads) t c.loop-k.k) in
    let read = is_read (live_from 0 heads) t c.loop-k.trail c.loop-k.k c.var-var.result c.lit.result c.len-k-end.ensures.kept c.loop-k.invariant inside c.lit.ensures c.var-var.ensures.var in
    elim c.match-known_reason.branch [
      | in-Some w ↦
          let live = reason_live heads t c.loop-k.trail c.loop-k.k c.var-var.result w.in-Some.reason c.known_reason.result c.requires.sound read c.known_reason.ensures w.in-Some.is in
          w.trail-is ∙ w.set_reason.ensures
          ∙ reason_moved heads t c.loop-k.trail c.loop-k.k c.var-var.result w.in-Some.reason w.moved_to.result c.known_reason.result c.loop-k.invariant read c.known_reason.ensures w.in-Some.is
          (live_below heads w.in-Some.reason live) w.moved_to.ensures
      | in_default w ↦ w.trail-is ∙ decided_more (live_from 0 heads) t c.loop-k.trail c.loop-k.k c.var-var.result c.known_reason.result c.loop-k.invariant read c.known_reason.ensures w.in_default.is
    ]
