use Rattle.std.proofs.Common.{ap, ◌∙◌, subst}
use Rattle.std.specs.Prelude.{Ok}
use Rattle.lls_lemmas.specs.Lemmas.{IsNotAddable, LemmasState}
use Rattle.lls_lemmas.proofs.lemmas.Lemmas.add_either.Goals as goal

pub returns-clause-not_addable : goal.returns-clause-not_addable
returns-clause-not_addable g c = λ _.
    let same = c.add_implied.ensures.stays (c.in_ok-add_implied.was ∙ ap Ok c.if-branch.false) in
    subst (λ (x : LemmasState). IsNotAddable x.formula x.steps c.args.lits.now) same
    (c.add_redundant.ensures.not_addable (c.in_ok-add_redundant.was ∙ ap Ok c.if-branch-2.false))
