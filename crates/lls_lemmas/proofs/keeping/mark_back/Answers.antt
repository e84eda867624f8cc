use Rattle.std.proofs.Common.{◌≡◌, ◌+◌, ◌-◌, ℕ, subst, arith}
use Rattle.lls_prooflog.specs.Log.{step_of_ref}
use Rattle.lls_lemmas.proofs.RestMarks.{IsMarking, marking_ends, marking_goes_on, marking_starts}
use Rattle.lls_lemmas.proofs.keeping.mark_back.Goals as goal

pub loop-k-init : goal.loop-k-init
loop-k-init c = marking_starts c.args.log.now.steps c.args.marks.now c.len-k.result c.len-k.ensures c.requires.last

pub loop-k-preserved : goal.loop-k-preserved
loop-k-preserved c =
    let steps = c.args.log.now.steps in
    let k = c.loop-k.k in
    let next : k ≡ k - 1 + 1 = omega (arith, c.loop-k-test.true) in
    marking_goes_on 0 steps c.loop-k.marks c.mark_step.new.marks (k - 1) (step_of_ref c.lend.result) c.requires.rising (subst (λ (n : ℕ). IsMarking steps c.loop-k.marks n) next c.loop-k.invariant) c.lend.ensures.step c.mark_step.ensures.marks

pub returns : goal.returns
returns c =
    let end : c.loop-k.k ≡ 0 = omega (arith, c.loop-k-test.false) in
    marking_ends c.args.log.now.steps c.loop-k.marks (subst (λ (n : ℕ). IsMarking c.args.log.now.steps c.loop-k.marks n) end c.loop-k.invariant)
