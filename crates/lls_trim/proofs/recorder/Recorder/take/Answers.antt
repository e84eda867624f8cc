use Rattle.std.proofs.Common.{◌∙◌, ap}
use Rattle.lls_prooflog.specs.declared.step_ref.StepRef.{StepRef}
use Rattle.lls_prooflog.specs.Lent.{ids_of}
use Rattle.lls_prooflog.specs.Log.{step_of_ref}
use Rattle.lls_prooflog.specs.Steps.{after}
use Rattle.lls_trim.specs.Buffers.{names_in}
use Rattle.lls_trim.proofs.Numbered.{live-stepped, numbered-del}
use Rattle.lls_trim.proofs.recorder.Recorder.take.Goals as goal

pub returns-in-Ok-clause-numbered : goal.returns-in-Ok-clause-numbered
returns-in-Ok-clause-numbered c =
    let live = live-stepped c.args.self.now.checker c.take.new.self (step_of_ref c.args.step) c.requires.going c.in-Ok.ensures.stepped in
    numbered-del c.args.self.now.checker.live (names_in c.args.self.now.names) c.requires.numbered c.take.new.self.live (ids_of c.in-Del.field-0) (live ∙ ap (λ (s : StepRef). after c.args.self.now.checker.live (step_of_ref s)) c.in-Del.is)
