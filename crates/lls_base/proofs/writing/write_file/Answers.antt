use Rattle.std.proofs.Common.{◌+◌, ◌∙◌, arith, length-drop}
use Rattle.std.proofs.lemmas.List.{take_rest}
use Rattle.lls_base.proofs.Faults.{Counts-trans}
use Rattle.lls_base.proofs.Outputs.{with_output-more}
use Rattle.lls_base.proofs.writing.write_file.Goals as goal

pub returns-then-taken-eq0-clause-write_failed : goal.returns-then-taken-eq0-clause-write_failed
returns-then-taken-eq0-clause-write_failed g c = λ _.
    let piece = take_rest c.args.bytes.now c.loop-written.written in
    let told = rw piece at c.in-Ok.ensures.told in
    let invariant = c.loop-written.invariant in (
      c.loop-written.written + c.in-Ok.taken,
      omega (arith, invariant.within, c.if-taken-eq0.true),
      with_output-more _ _ _ _ c.args.bytes.now c.loop-written.written c.in-Ok.taken invariant.told told,
    )

pub loop-written-preserved : goal.loop-written-preserved
loop-written-preserved g c =
    let piece = take_rest c.args.bytes.now c.loop-written.written in
    let within = rw piece at c.in-Ok.ensures.within in
    let told = rw piece at c.in-Ok.ensures.told in
    let invariant = c.loop-written.invariant in
    record {
      within = omega (arith, within, length-drop c.loop-written.written c.args.bytes.now, invariant.within, c.loop-written-test.true);
      told = with_output-more _ _ _ _ c.args.bytes.now c.loop-written.written c.in-Ok.taken invariant.told told;
      input = c.in-Ok.ensures.input ∙ invariant.input;
      output = c.in-Ok.ensures.output ∙ invariant.output;
      counts = Counts-trans invariant.counts c.in-Ok.ensures.counts;
      no_fault = c.in-Ok.ensures.no_fault (omega (arith, c.if-taken-eq0.false)) ∙ invariant.no_fault;
    }
