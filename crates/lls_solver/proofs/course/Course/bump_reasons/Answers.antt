use Rattle.std.proofs.Common.{◌≡◌, Some, sym, ap, ◌∙◌, subst}
use Rattle.lls_lit.specs.Formula.{is_within}
use Rattle.lls_store.specs.Trail.{TrailState, reason_of}
use Rattle.lls_store.specs.Clauses.{clause_numbered}
use Rattle.lls_store.specs.Sound.{IsSound}
use Rattle.lls_store.proofs.ReasonFound.{reason_found}
use Rattle.lls_analyse.proofs.LiveClauses.{IsSome-from, told}
use Rattle.lls_analyse.proofs.Valued.{clause_has_values, reason_has_values}
use Rattle.lls_solver.proofs.Marks.{reason_given}
use Rattle.lls_solver.proofs.course.Course.bump_reasons.Goals as goal

pub lits-requires : goal.lits-requires
lits-requires g c =
    let store = g.S.Store.state c.args.store.now in
    let t = c.loop-lit.self in
    let r = c.in-Some.reason in
    let v = c.var.result in
    let sound = subst (IsSound store.live) (sym c.loop-lit.invariant) c.requires.sound in
    let is : reason_of t.entries v ≡ Some r = subst (λ (x : TrailState). reason_of x.entries v ≡ Some r) c.self.view_is (sym c.known_reason.ensures ∙ c.in-Some.is) in
    reason_given store t v r c.count-count.ensures.live sound is

pub bump-requires-clause-within : goal.bump-requires-clause-within
bump-requires-clause-within g c =
    let store = g.S.Store.state c.args.store.now in
    let t = c.loop-lit.self in
    let r = c.in-Some.reason in
    let v = c.var.result in
    let lits = c.lits.result.now in
    let sound = subst (IsSound store.live) (sym c.loop-lit.invariant) c.requires.sound in
    let is : reason_of t.entries v ≡ Some r = subst (λ (x : TrailState). reason_of x.entries v ≡ Some r) c.self.view_is (sym c.known_reason.ensures ∙ c.in-Some.is) in
    let forced = (reason_found store.live t v r sound is).forced in
    let at = told store r lits c.count-count.ensures.live (IsSome-from (clause_numbered store.live r) forced.clause forced.is_live) c.lits.ensures in
    ap (λ n. is_within n lits) (ap (λ (x : TrailState). x.vars) c.loop-lit.invariant ∙ sym c.requires.vars) ∙ at.within

pub bump-requires-clause-have_values : goal.bump-requires-clause-have_values
bump-requires-clause-have_values g c =
    let store = g.S.Store.state c.args.store.now in
    let t = c.loop-lit.self in
    let r = c.in-Some.reason in
    let v = c.var.result in
    let lits = c.lits.result.now in
    let sound = subst (IsSound store.live) (sym c.loop-lit.invariant) c.requires.sound in
    let is : reason_of t.entries v ≡ Some r = subst (λ (x : TrailState). reason_of x.entries v ≡ Some r) c.self.view_is (sym c.known_reason.ensures ∙ c.in-Some.is) in
    let forced = (reason_found store.live t v r sound is).forced in
    let at = told store r lits c.count-count.ensures.live (IsSome-from (clause_numbered store.live r) forced.clause forced.is_live) c.lits.ensures in
    clause_has_values t.entries store.live r at.clause lits (reason_has_values store.live t v r sound is) at.is_live at.spelled
