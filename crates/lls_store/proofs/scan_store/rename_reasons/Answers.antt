use Rattle.std.proofs.Common.{◌<◌, length, ap, ◌∙◌, arith}
use Rattle.std.specs.Prelude.{Option, is_some}
use Rattle.lls_store.specs.Trail.{Entry, TrailState}
use Rattle.lls_store.specs.Scan.{live_in}
use Rattle.lls_store.proofs.Numbered.{holds_at, none_numbered}
use Rattle.lls_store.proofs.Renaming.{decided_more, is_read, length-renamed_front, reason_numbered, renamed_more}
use Rattle.lls_store.proofs.scan_store.rename_reasons.Goals as goal
use Rattle.lls_store.proofs.scan_store.rename_reasons.Goals.{in-Some+in-Some-place, in-Some+in_default-place, in_default}

pub known_reason-requires : goal.known_reason-requires
known_reason-requires c =
    let live = live_in c.args.clauses.now.clauses in
    let t = c.args.trail.now in
    let inside : c.loop-k.k < length c.loop-k.trail.entries = omega (arith, c.loop-k-test.true, c.len-k-end.ensures.len, ap (λ (x : TrailState). length x.entries) c.loop-k.invariant, length-renamed_front live t c.loop-k.k) in
    let read = is_read live t c.loop-k.trail c.loop-k.k c.var-var.result c.lit.result c.len-k-end.ensures.kept c.loop-k.invariant inside c.lit.ensures c.var-var.ensures.var in
    ap (λ (o : Option Entry). is_some o) read.found

pub overflow_cast-place : goal.overflow_cast-place
overflow_cast-place c = omega (arith, c.requires.few, (holds_at c.args.clauses.now.clauses c.in-Some-place.place c.in-Some.reason c.requires.rising c.in-Some-place.ensures.found).within)

pub set_reason-requires-clause-within : goal.set_reason-requires-clause-within
set_reason-requires-clause-within c =
    let live = live_in c.args.clauses.now.clauses in
    let t = c.args.trail.now in
    let inside : c.loop-k.k < length c.loop-k.trail.entries = omega (arith, c.loop-k-test.true, c.len-k-end.ensures.len, ap (λ (x : TrailState). length x.entries) c.loop-k.invariant, length-renamed_front live t c.loop-k.k) in
    (is_read live t c.loop-k.trail c.loop-k.k c.var-var.result c.lit.result c.len-k-end.ensures.kept c.loop-k.invariant inside c.lit.ensures c.var-var.ensures.var).within

pub loop-k-preserved : goal.loop-k-preserved
loop-k-preserved c =
    let clauses = c.args.clauses.now.clauses in
    let live = live_in clauses in
    let t = c.args.trail.now in
    let k = c.loop-k.k in
    let inside : k < length c.loop-k.trail.entries = omega (arith, c.loop-k-test.true, c.len-k-end.ensures.len, ap (λ (x : TrailState). length x.entries) c.loop-k.invariant, length-renamed_front live t k) in
    let read = is_read live t c.loop-k.trail k c.var-var.result c.lit.result c.len-k-end.ensures.kept c.loop-k.invariant inside c.lit.ensures c.var-var.ensures.var in
    elim c.match-known_reason.branch [
      | in-Some+in-Some-place w ↦
          w.trail-is
          ∙ w.set_reason.ensures
          ∙ renamed_more clauses t c.loop-k.trail k c.var-var.result w.in-Some.reason w.in-Some-place.place c.known_reason.result c.requires.rising c.loop-k.invariant read c.known_reason.ensures w.in-Some.is
          (holds_at clauses w.in-Some-place.place w.in-Some.reason c.requires.rising w.in-Some-place.ensures.found)
      | in-Some+in_default-place w ↦ absurd (reason_numbered live t c.loop-k.trail k c.var-var.result w.in-Some.reason c.known_reason.result c.requires.sound read c.known_reason.ensures w.in-Some.is (none_numbered clauses w.in-Some.reason w.in_default-place.ensures.none))
      | in_default w ↦ w.trail-is ∙ decided_more live t c.loop-k.trail k c.var-var.result c.known_reason.result c.loop-k.invariant read c.known_reason.ensures w.in_default.is
    ]
