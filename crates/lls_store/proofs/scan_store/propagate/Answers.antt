use Rattle.std.proofs.Common.{◌≡◌, ℕ, true, Option, Some, None, is_some, IfNone, length, sym, ◌∙◌, arith}
use Rattle.lls_store.specs.Closed.{IsClosed}
use Rattle.lls_store.specs.Scan.{live_in}
use Rattle.lls_store.proofs.Passes.{GoesOn-further, IsPassed-start}
use Rattle.lls_store.proofs.scan_store.propagate.Goals as goal
use Rattle.lls_store.proofs.scan_store.propagate.Goals.{then-is_some-via-then-is_some, then-is_some-via-else-is_some+then-len-before}

where_some : (o : Option ℕ) (P : Type 0) → is_some o ≡ true → IfNone o P
where_some None P h = absurd cc
where_some (Some n) P h = tt

where_none : (o : Option ℕ) (P Q : Type 0) → (P → Q) → IfNone o P → IfNone o Q
where_none None P Q weaker h = weaker h
where_none (Some n) P Q weaker h = tt

pub returns-then-is_some-clause-closed : goal.returns-then-is_some-clause-closed
returns-then-is_some-clause-closed c =
    let live = live_in c.args.clauses.now.clauses in
    let new = c.pass-conflict.new.trail in
    elim c.then-is_some.branch [
      | then-is_some-via-then-is_some w ↦ where_some c.pass-conflict.result (IsClosed live new) (sym c.is_some.ensures ∙ w.if-is_some.true)
      | then-is_some-via-else-is_some+then-len-before w ↦
          let same : length new.entries ≡ length c.loop-trail.trail.entries = omega (arith, w.len.ensures.len, w.if-len-before.true, c.len-before.ensures.len) in
          where_none c.pass-conflict.result (length new.entries ≡ length c.loop-trail.trail.entries → IsClosed live new) (IsClosed live new) (λ closed. closed same) c.pass-conflict.ensures.closed
    ]

pub returns-then-is_some-clause-grown : goal.returns-then-is_some-clause-grown
returns-then-is_some-clause-grown c = GoesOn-further c.args.trail.now c.loop-trail.trail c.pass-conflict.new.trail c.loop-trail.invariant.grown c.pass-conflict.ensures.grown

pub loop-trail-preserved : goal.loop-trail-preserved
loop-trail-preserved c =
    IsPassed-start c.args.clauses.now.clauses c.args.trail.now c.pass-conflict.new.trail
    (GoesOn-further c.args.trail.now c.loop-trail.trail c.pass-conflict.new.trail c.loop-trail.invariant.grown c.pass-conflict.ensures.grown)
    c.pass-conflict.ensures.sound
