use Rattle.std.proofs.Common.{◌≡◌, ◌<◌, List, true, ap, ◌∙◌, length-set, take, subst, sym, arith, length}
use Rattle.std.proofs.lemmas.List.{take_all}
use Rattle.lls_store.specs.Trail.{Entry, entry_of, level_of}
use Rattle.lls_store.specs.Removal.{IsNoReason}
use Rattle.lls_solver.proofs.Levels.{is_read, known_at_level}
use Rattle.lls_solver.proofs.Marks.{marked_still, reasons_more, reasons_same}
use Rattle.lls_solver.proofs.deletion.mark_reasons.Goals as goal
use Rattle.lls_solver.proofs.deletion.mark_reasons.Goals.{in-Some, in_default}

pub known_reason-requires : goal.known_reason-requires
known_reason-requires c =
    let t = c.args.trail.now in
    let read = is_read t c.loop-k.k c.lit.result c.len-k-end.ensures.kept c.lit.ensures in
    known_at_level (entry_of t.entries c.var.result) read.entry.level (ap (level_of t.entries) c.var.ensures.var ∙ read.level)

pub loop-k-preserved : goal.loop-k-preserved
loop-k-preserved c =
    let t = c.args.trail.now in
    let kept = c.len-k-end.ensures.kept in
    elim c.match-known_reason.branch [
      | in-Some w ↦
          let r = w.in-Some.reason in
          let is = sym w.in-Some.is ∙ c.known_reason.ensures in
          let lt : r < length c.loop-k.marks = omega (arith, c.requires.given c.var.result r (sym is), c.loop-k.invariant.len) in
          rw w.marks-is (record {
            len = length-set c.loop-k.marks r true ∙ c.loop-k.invariant.len;
            reasons = reasons_more t c.loop-k.k c.var.result r c.lit.result c.loop-k.marks kept c.lit.ensures c.var.ensures.var is lt c.loop-k.invariant.reasons;
            kept = λ n was. marked_still c.loop-k.marks r n lt (c.loop-k.invariant.kept n was);
          })
      | in_default w ↦
          rw w.marks-is (record {
            len = c.loop-k.invariant.len;
            reasons = reasons_same t c.loop-k.k c.var.result c.lit.result c.loop-k.marks kept c.lit.ensures c.var.ensures.var (sym w.in_default.is ∙ c.known_reason.ensures) c.loop-k.invariant.reasons;
            kept = c.loop-k.invariant.kept;
          })
    ]

pub returns-clause-reasons : goal.returns-clause-reasons
returns-clause-reasons c =
    let entries = c.args.trail.now.entries in
    let all : take c.loop-k.k entries ≡ entries = take_all c.loop-k.k entries (omega (arith, c.loop-k-test.false, c.len-k-end.ensures.len)) in
    λ n fits unmarked. subst (λ (es : List Entry). IsNoReason es n) all (c.loop-k.invariant.reasons n fits unmarked)
