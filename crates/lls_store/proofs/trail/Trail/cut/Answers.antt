use Rattle.std.proofs.Common.{◌∙◌, arith}
use Rattle.lls_store.proofs.Cut.{cut_once, cut_end}
use Rattle.lls_store.proofs.trail.Trail.cut.Goals as goal

pub loop-self-preserved : goal.loop-self-preserved
loop-self-preserved c =
    let once = cut_once c.loop-self.self c.args.level c.current.ensures.kept (omega (arith, c.loop-self-test.true, c.current.ensures.current)) in
    rw c.pop.ensures
    (record { vars = c.loop-self.invariant.vars; above = once.above; kept = once.kept ∙ c.loop-self.invariant.kept })

pub returns : goal.returns
returns c = cut_end c.args.self.now c.loop-self.self c.args.level c.loop-self.invariant c.current.ensures.kept (omega (arith, c.loop-self-test.false, c.current.ensures.current))
