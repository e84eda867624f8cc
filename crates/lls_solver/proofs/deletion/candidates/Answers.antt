use Rattle.std.proofs.lemmas.List.Elements.{All-push}
use Rattle.lls_solver.specs.declared.deletion.Candidate.{Candidate}
use Rattle.lls_solver.specs.Deletion.{MayGo}
use Rattle.lls_solver.proofs.deletion.candidates.Goals as goal
use Rattle.lls_solver.proofs.deletion.candidates.Goals.{then-may_go+in_ok-push, else-may_go}

pub loop-c-preserved : goal.loop-c-preserved
loop-c-preserved g c =
    let P : Candidate → Type 0 = λ x. MayGo (g.S.Store.state c.args.store.now).live c.args.reasons.now c.args.last x.number in
    elim c.if-may_go.branch [
      | then-may_go+in_ok-push w ↦ rw w.candidates-is (record { may_go = rw w.in_ok-push.ensures.items (All-push P c.loop-c.candidates.items _ c.loop-c.invariant.may_go (c.may_go.ensures w.if-may_go.true)) })
      | else-may_go w ↦ rw w.candidates-is (record { may_go = c.loop-c.invariant.may_go })
    ]
