use Rattle.std.proofs.Common.{ap}
use Rattle.lls_rle.specs.Header.{has_tail}
use Rattle.lls_rle.specs.declared.header.TheConstants.{HEADER}
use Rattle.lls_rle.proofs.HeaderParts.{behind_parts-more, behind_parts-none}
use Rattle.lls_rle.proofs.header.is_header.Goals as goal

pub loop-part-preserved : goal.loop-part-preserved
loop-part-preserved c = behind_parts-more HEADER c.loop-part.part-index _ c.loop-part.rest.now c.args.line.now c.in-Some.behind.now c.loop-part-test.true c.in-Some.ensures c.loop-part.invariant

pub returns-in-None : goal.returns-in-None
returns-in-None c = ap has_tail (behind_parts-none HEADER c.loop-part.part-index _ c.loop-part.rest.now c.args.line.now c.loop-part-test.true c.in-None.ensures c.loop-part.invariant)
