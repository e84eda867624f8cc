use Rattle.std.proofs.Common.{Ok, ap, ◌∙◌}
use Rattle.lls_lemmas.specs.Lemmas.{LemmasState}
use Rattle.lls_hinting.specs.Judging.{progress}
use Rattle.lls_hinting.proofs.Taking.{settled_of}
use Rattle.lls_hinting.proofs.judging.judge_lemma.Goals as goal

pub returns-in-NotImplied-clause-says : goal.returns-in-NotImplied-clause-says
returns-in-NotImplied-clause-says c =
    let went = c.in_ok-add-in-Addition.was ∙ ap Ok c.in-NotImplied.is in
    let down = c.add.ensures.not_implied went in
    let stays = down.stays (settled_of c.args.lemmas.now c.requires.rest c.requires.going) in
    (c.in-Addition.is, ap (λ (s : LemmasState). progress s.steps c.args.tally.now) stays, down.not_implied, down.not_addable)
