use Rattle.std.proofs.Common.{ap, length, arith}
use Rattle.std.specs.Prelude.{vec_capacity}
use Rattle.lls_store.proofs.Parts.{AreTables-empty}
use Rattle.lls_store.proofs.trail.Trail.new.Goals as goal

pub invariant_of-result : goal.invariant_of-result
invariant_of-result c = (
  AreTables-empty c.args.vars (vec_capacity c.in_ok-lits.lits) c.in_ok-values.values c.in_ok-rows.rows.levels c.in_ok-rows.rows.reasons c.in_ok-lits.lits.items c.requires c.in_ok-lits.ensures.items (omega (arith, c.in_ok-lits.ensures.exact)) c.in_ok-values.ensures c.in_ok-rows.ensures.level_each c.in_ok-rows.ensures.reason_each,
  record {
    place_each = c.in_ok-rows.ensures.place_each;
    are_places = λ k lt. absurd (omega (arith, lt, ap length c.in_ok-lits.ensures.items));
  },
)
