use Rattle.std.proofs.Common.{◌≡◌, ◌++◌, ◌∙◌, ap, sym, subst}
use Rattle.std.specs.Prelude.{All}
use Rattle.lls_prooflog.specs.UnitWalk.{numbered}
use Rattle.lls_store.specs.Clauses.{LiveClause}
use Rattle.lls_store.specs.Store.{AreWithin, StoreState}
use Rattle.lls_solver.specs.Course.{AllSet, IsComplete}
use Rattle.lls_solver.specs.Searching.{HoldsFormula, SearcherState}
use Rattle.lls_analyse.proofs.Trails.{consistent_trail}
use Rattle.lls_solver.proofs.Satisfied.{IsWhole, clauses_true, satisfies_front}
use Rattle.lls_solver.proofs.searcher.Searcher.assignment.Goals as goal

pub returns : goal.returns
returns g c =
    let s = g.S.Store.state c.self.inside.store in
    let t = c.course.inside.trail in
    let trail : t ≡ c.args.self.now.trail = c.course.view_is ∙ ap (λ (x : SearcherState). x.trail) c.self.view_is in
    let store : s ≡ c.args.self.now.store = ap (λ (x : SearcherState). x.store) c.self.view_is in
    let complete = subst (IsComplete s) (sym trail) (subst (λ (x : StoreState). IsComplete x c.args.self.now.trail) (sym store) c.requires.complete) in
    let formula = c.args.formula.now in
    let h = subst (HoldsFormula formula) (sym store) c.requires.holds in
    let values = c.in_ok-values.values.items in
    let whole : IsWhole formula.vars t.entries values = record {
      are_values = c.in_ok-values.ensures.values;
      many = c.in_ok-values.ensures.len ∙ c.vars.ensures.vars;
      consistent = consistent_trail t c.course.invariant.is_trail;
      all_set = subst (λ n. AllSet n t.entries) h.store_vars complete.all_set;
    } in
    let within : All (λ (x : LiveClause). AreWithin formula.vars x.lits) s.live = subst (λ n. All (λ (x : LiveClause). AreWithin n x.lits) s.live) h.store_vars c.count-count.ensures.live.within in
    let all = clauses_true formula.vars t.entries values s.live (numbered formula.clauses ++ h.more) whole h.spelled within complete.closed in
    rw c.new.ensures (record { many = whole.many; satisfied = satisfies_front values formula.clauses h.more all })
