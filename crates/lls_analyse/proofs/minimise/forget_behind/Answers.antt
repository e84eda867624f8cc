use Rattle.std.proofs.Common.{◌≡◌, ◌<◌, ◌-◌, take, length, ap, arith}
use Rattle.std.specs.Prelude.{ℤ, List}
use Rattle.std.proofs.lemmas.List.{length-take-le}
use Rattle.lls_analyse.proofs.Grown.{grown_same, grown_forgotten}
use Rattle.lls_analyse.proofs.minimise.forget_behind.Goals as goal

pub loop-visited-preserved : goal.loop-visited-preserved
loop-visited-preserved c =
    let s = c.loop-visited.visited in
    let more : c.args.keep < length s.lits = omega (arith, c.loop-visited-test.true, ap (λ (ls : List ℤ). length ls) c.lits.ensures.lits) in
    let less : length (take (length s.lits - 1) s.lits) ≡ length s.lits - 1 = length-take-le (length s.lits - 1) s.lits (omega arith) in
    rw c.forget.ensures (omega (arith, more, less), λ a grown size. grown_forgotten c.args.trail.now.entries a s (c.loop-visited.invariant.1 a grown size) (omega (arith, more, size)))

pub returns : goal.returns
returns c = λ a grown size.
    grown_same c.args.trail.now.entries a c.loop-visited.visited (c.loop-visited.invariant.1 a grown size) (omega (arith, size, c.loop-visited-test.false, ap (λ (ls : List ℤ). length ls) c.lits.ensures.lits))
