use Rattle.lls_prooflog.specs.declared.step.Step.TheVariants.{Add}
use Rattle.lls_prooflog.specs.Lent.{hints_of}
use Rattle.lls_trim.specs.Buffers.{names_in}
use Rattle.lls_trim.specs.Recording.{AreNumbered}
use Rattle.lls_trim.proofs.Numbered.{live-stepped, numbered-add, numbered_looked}
use Rattle.lls_trim.proofs.recorder.Recorder.add.Goals as goal
use Rattle.lls_trim.proofs.recorder.Recorder.add.Goals.{In_ok-put}

pub record-requires-clause-numbered : goal.record-requires-clause-numbered
record-requires-clause-numbered c =
    numbered_looked c.args.self.now.checker.live (names_in c.args.self.now.names) c.requires.numbered c.args.addition.lits.now (hints_of c.args.addition.hints) c.in-Ok.looked c.in-Ok.ensures.looked

-- the ids of live clauses behind the addition
numbered : (c : In_ok-put) → AreNumbered c.add.new.self.live (names_in c.put.new.self)
numbered c =
    let hints = hints_of c.args.addition.hints in
    let live = live-stepped c.args.self.now.checker c.add.new.self (Add c.args.addition.id c.args.addition.lits.now hints) c.requires.going c.in-Ok.ensures.stepped in
    numbered-add c.args.self.now.checker.live (names_in c.args.self.now.names) c.requires.numbered c.add.new.self.live (names_in c.put.new.self) c.args.addition.id c.len-number.result c.args.addition.lits.now hints c.len-number.ensures.most live c.in_ok-put.ensures

pub returns-then-is_empty-clause-numbered : goal.returns-then-is_empty-clause-numbered
returns-then-is_empty-clause-numbered c = numbered (goal.at.returns-then-is_empty-clause-numbered c).In_ok-put

pub returns-else-is_empty-clause-numbered : goal.returns-else-is_empty-clause-numbered
returns-else-is_empty-clause-numbered c = numbered (goal.at.returns-else-is_empty-clause-numbered c).In_ok-put
