use Rattle.std.proofs.Common.{◌≡◌, ◌+◌, ℕ, cond, take, ap, sym, ◌∙◌, arith}
use Rattle.std.specs.Prelude.{is_none}
use Rattle.lls_store.specs.Trail.{decisions, entry_of, level_of}
use Rattle.lls_solver.proofs.Levels.{decisions_more, is_read, known_at_level, none_told, variable_read}
use Rattle.lls_solver.proofs.course.levels_before.Goals as goal
use Rattle.lls_solver.proofs.course.levels_before.Goals.{then-is_none+else-not-comes_before, else-is_none}

pub known_reason-requires : goal.known_reason-requires
known_reason-requires c =
    let t = c.args.trail.now in
    let read = is_read t c.loop-k.k c.lit.result c.len-k-end.ensures.kept c.lit.ensures in
    known_at_level (entry_of t.entries c.var-decided.result) read.entry.level (ap (level_of t.entries) c.var-decided.ensures.var ∙ read.level)

pub comes_before-requires-clause-first : goal.comes_before-requires-clause-first
comes_before-requires-clause-first c =
    omega (arith, variable_read c.args.trail.now c.loop-k.k c.lit.result c.len-k-end.ensures.kept c.lit.ensures, c.var-decided.ensures.var, c.requires.vars)

pub loop-k-preserved : goal.loop-k-preserved
loop-k-preserved c =
    let t = c.args.trail.now in
    let k = c.loop-k.k in
    let more : decisions (take (k + 1) t.entries) ≡ decisions (take k t.entries) + cond c.is_none.result 1 0 =
    decisions_more t k c.var-decided.result c.lit.result c.is_none.result c.len-k-end.ensures.kept c.lit.ensures c.var-decided.ensures.var (none_told c.is_none.result c.known_reason.result (sym c.is_none.ensures) ∙ ap is_none c.known_reason.ensures)
    in
    elim c.if-is_none.branch [
      | then-is_none+else-not-comes_before w ↦ record { levels = omega (arith, w.levels-is, c.loop-k.invariant.levels, more, ap {B = ℕ} (λ b. cond b 1 0) w.if-is_none.true) }
      | else-is_none w ↦ record { levels = omega (arith, w.levels-is, c.loop-k.invariant.levels, more, ap {B = ℕ} (λ b. cond b 1 0) w.if-is_none.false) }
    ]
