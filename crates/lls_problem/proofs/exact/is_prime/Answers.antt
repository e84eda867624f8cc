use Rattle.std.proofs.Common.{sym, arith}
use Rattle.lls_problem.proofs.Shorter.{prime-test, no_prime}
use Rattle.lls_problem.proofs.exact.is_prime.Goals as goal

pub returns-then-q-k-eq0 : goal.returns-then-q-k-eq0
returns-then-q-k-eq0 c = sym (no_prime c.args.q c.loop-k.k (omega (arith, c.loop-k.auto.k)) (omega (arith, c.loop-k-test.true)) c.if-q-k-eq0.true)

pub returns : goal.returns
returns c = sym (prime-test c.args.q (record {
  more = omega (arith, c.if-q-lt2.false);
  undivided = λ k low high. c.loop-k.invariant k low (omega (arith, high, c.loop-k-test.false));
}))
