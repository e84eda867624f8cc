use Rattle.std.proofs.Common.{◌∙◌, sym, ap, arith, rules}
use Rattle.std.proofs.lemmas.List.{length-set}
use Rattle.lls_transition.specs.declared.place.Place.TheVariants.{Known}
use Rattle.lls_transition.proofs.Written.{goes_first, goes_out, goes_past, goes_on, goes_through}
use Rattle.lls_transition.proofs.clause.write_clause.Goals as goal
use Rattle.lls_transition.proofs.clause.write_clause.Goals.{in-Known-false, in-Of}

pub loop-i-init : goal.loop-i-init
loop-i-init c = record { few = omega arith; room = search rules; goes = goes_first c.args.inputs.now c.args.cube }

pub returns-in-Known-true-clause-none : goal.returns-in-Known-true-clause-none
returns-in-Known-true-clause-none c =
    goes_out c.args.inputs.now c.args.cube c.loop-i.i _ c.loop-i-test.true (ap Known (sym c.in-Known-true.field-0-test) ∙ c.in-Known-true.ensures) c.loop-i.invariant.goes

pub loop-i-preserved : goal.loop-i-preserved
loop-i-preserved c = elim c.match-cube_place.branch [
  | in-Known-false w ↦ rw (w.len-is, w.clause-is) record {
    few = omega (arith, c.loop-i.invariant.few);
    room = c.loop-i.invariant.room;
    goes = goes_past c.args.inputs.now c.args.cube c.loop-i.i _ c.loop-i-test.true (ap Known (sym w.in-Known-false.field-0-test) ∙ w.in-Known-false.ensures) c.loop-i.invariant.goes;
  }
  | in-Of w ↦ rw (w.len-is, w.clause-is) record {
    few = omega (arith, c.loop-i.invariant.few);
    room = length-set _ _ _ ∙ c.loop-i.invariant.room;
    goes = goes_on c.args.inputs.now c.args.cube c.loop-i.i c.loop-i.len w.in-Of.literal c.loop-i.clause c.loop-i-test.true c.loop-i.invariant.few (omega (arith, c.loop-i-test.true, c.loop-i.invariant.room, c.requires)) w.in-Of.ensures c.loop-i.invariant.goes;
  }
]

pub returns-clause-some : goal.returns-clause-some
returns-clause-some c =
    goes_through c.args.inputs.now c.args.cube c.loop-i.i _ (omega arith) c.loop-i.invariant.goes
