use Rattle.std.proofs.Common.{[], ap, ◌∙◌, subst}
use Rattle.lls_lit.specs.Formula.{IsUnsatisfiable}
use Rattle.lls_prooflog.specs.Spent.{live_after}
use Rattle.lls_analyse.proofs.Gathering.{nothing_there}
use Rattle.lls_lemmas.specs.Lemmas.{IsNotImplied, LemmasState}
use Rattle.lls_lemmas.proofs.Open.{no_hints}
use Rattle.lls_lemmas.proofs.lemmas.Lemmas.is_refuted.Goals as goal

pub returns-clause-unsatisfiable : goal.returns-clause-unsatisfiable
returns-clause-unsatisfiable g c =
    let i = c.self.invariant.1 in
    λ is. subst IsUnsatisfiable (ap (λ (x : LemmasState). x.formula) c.self.view_is) (i.unsatisfiable is)

pub returns-clause-unrefuted : goal.returns-clause-unrefuted
returns-clause-unrefuted g c =
    let inside = c.self.inside in
    let i = c.self.invariant.1 in
    λ going settled.
    let rest = i.rest going in
    let closed = (i.open_ going (ap (λ (x : LemmasState). x.settled) c.self.view_is ∙ settled)).closed in
    subst (λ (x : LemmasState). IsNotImplied x.formula x.steps []) c.self.view_is
    (no_hints (g.S.Store.state inside.store).live inside.trail [] rest.has_units.is_trail closed (λ l there. absurd (nothing_there l there)) (live_after inside.formula.now inside.log.steps) rest.holds.spelled)
