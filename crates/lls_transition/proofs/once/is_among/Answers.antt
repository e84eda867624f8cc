use Rattle.std.proofs.Common.{◌∙◌, sym, arith}
use Rattle.lls_transition.proofs.Distinct.{found_at, passed_at}
use Rattle.lls_transition.proofs.once.is_among.Goals as goal

pub returns-then-eq : goal.returns-then-eq
returns-then-eq c =
    found_at c.args.formula.now.clauses c.args.first c.loop-k.k c.args.lits.now _ c.loop-k.invariant.0 (omega (arith, c.len-k-end.ensures.len, c.loop-k-test.true)) c.clause.ensures.value
    (sym c.eq.ensures ∙ c.if-eq.true)

pub loop-k-preserved : goal.loop-k-preserved
loop-k-preserved c = (
  omega (arith, c.loop-k.invariant.0),
  passed_at c.args.formula.now.clauses c.args.first c.loop-k.k c.args.lits.now _ c.loop-k.invariant.0 (omega (arith, c.len-k-end.ensures.len, c.loop-k-test.true)) c.clause.ensures.value
      (sym c.eq.ensures ∙ c.if-eq.false) c.loop-k.invariant.1,
)
