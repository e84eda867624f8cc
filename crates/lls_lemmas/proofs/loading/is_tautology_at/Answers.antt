use Rattle.std.proofs.Common.{sym, ap, subst, ◌∙◌}
use Rattle.std.proofs.lemmas.Option.{same_Some}
use Rattle.lls_lit.specs.Formula.{is_within}
use Rattle.lls_store.specs.Clauses.{LiveClause}
use Rattle.lls_analyse.proofs.LiveClauses.{told}
use Rattle.lls_lemmas.specs.Indexed.{IsPlain}
use Rattle.lls_lemmas.proofs.Tautologies.{plain_set}
use Rattle.lls_lemmas.proofs.loading.is_tautology_at.Goals as goal

pub is_tautology-requires : goal.is_tautology-requires
is_tautology-requires g c =
    let is = told (g.S.Store.state c.args.store.now) c.args.number c.lits.result.now c.count-count.ensures.live (sym c.if-live.ensures) c.lits.ensures in
    ap (λ n. is_within n c.lits.result.now) (sym c.requires.vars) ∙ is.within

pub returns-then-live-clause-is : goal.returns-then-live-clause-is
returns-then-live-clause-is g c = λ both.
    let is = told (g.S.Store.state c.args.store.now) c.args.number c.lits.result.now c.count-count.ensures.live (sym c.if-live.ensures) c.lits.ensures in
    record { lits = c.lits.result.now; has = record { clause = is.clause; is_live = is.is_live; same = is.spelled }; tautology = sym c.is_tautology.ensures.answer ∙ both }

pub returns-then-live-clause-plain : goal.returns-then-live-clause-plain
returns-then-live-clause-plain g c = λ none clause found.
    let is = told (g.S.Store.state c.args.store.now) c.args.number c.lits.result.now c.count-count.ensures.live (sym c.if-live.ensures) c.lits.ensures in
    subst (λ (x : LiveClause). IsPlain x.lits) (same_Some is.clause clause (sym is.is_live ∙ found)) (plain_set c.lits.result.now is.clause.lits is.spelled (sym c.is_tautology.ensures.answer ∙ none))
