use Rattle.lls_prooflog.proofs.FirstLines.{lines_of-first}
use Rattle.lls_prooflog.proofs.lines.Lines.take.Goals as goal

pub returns-in_err-extend_from_slice-clause-lines : goal.returns-in_err-extend_from_slice-clause-lines
returns-in_err-extend_from_slice-clause-lines c = λ line rest first. lines_of-first _ line rest first

pub returns-clause-lines : goal.returns-clause-lines
returns-clause-lines c = λ line rest first. lines_of-first _ line rest first
