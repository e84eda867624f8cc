use Rattle.std.proofs.Common.{subst, List, ℕ}
use Rattle.lls_rle.proofs.Lines.{AreTaken, AreTaken-more}
use Rattle.lls_rle.proofs.reader.Reader.take_lines.Goals as goal

pub loop-line-preserved : goal.loop-line-preserved
loop-line-preserved c =
    let P : List (List ℕ) → Type 0 = λ rest. AreTaken c.args.self c.args.number c.args.lines c.loop-line.self c.loop-line.number rest in
    let told = rw c.if-branch.false at c.in_ok-take_line.ensures in
    AreTaken-more c.args.self c.args.number c.args.lines c.loop-line.self c.take_line.new.self c.loop-line.number c.in-Some.line.now c.next.new.self (subst P c.in-Some.ensures.steps c.loop-line.invariant) told.answer told.kept told.row told.column
