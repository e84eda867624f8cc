use Rattle.std.proofs.Common.{ap, ◌∙◌, ◌++◌, ◌∷◌, []}
use Rattle.std.specs.Prelude.{ℤ, List}
use Rattle.lls_prooflog.specs.Log.{Logged}
use Rattle.lls_prooflog.specs.declared.step.Step.TheVariants.{Add}
use Rattle.lls_analyse.proofs.Steps.{refutes}
use Rattle.lls_analyse.proofs.analyser.Analyser.refute.Goals as goal

pub returns-clause-refutes : goal.returns-clause-refutes
returns-clause-refutes g c =
    let store = g.S.Store.state c.args.store.now in
    refutes store c.args.trail.now c.args.conflict c.args.id c.analyse_at_zero.new.hints.items c.args.log.now.steps c.push_add.new.self.steps c.len.ensures.kept c.count.ensures.live c.requires.sound c.requires.conflict c.requires.id c.requires.level c.analyse_at_zero.ensures.refutation
    (ap (λ (l : Logged). l.steps) c.push_add.ensures ∙ ap (λ (hs : List ℤ). c.args.log.now.steps ++ Add c.args.id [] hs ∷ []) c.as_slice.ensures.value)
