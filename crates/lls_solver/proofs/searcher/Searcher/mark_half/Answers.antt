use Rattle.std.proofs.Common.{◌≡◌, ℕ, true, subst}
use Rattle.std.specs.Prelude.{IfOk}
use Rattle.lls_solver.specs.Deletion.{is_marked, MayGo}
use Rattle.lls_solver.specs.Searching.{SearcherState}
use Rattle.lls_solver.proofs.searcher.Searcher.mark_half.Goals as goal

pub returns-clause-may_go : goal.returns-clause-may_go
returns-clause-may_go g c =
    subst (λ (n : ℕ). IfOk c.marks_of.result (λ marks. (m : ℕ) → is_marked marks.items m ≡ true → MayGo c.args.self.now.store.live c.args.reasons.now n m)) c.len.ensures.len
    (subst (λ (s : SearcherState). IfOk c.marks_of.result (λ marks. (m : ℕ) → is_marked marks.items m ≡ true → MayGo s.store.live c.args.reasons.now c.len.result m)) c.self.view_is c.marks_of.ensures.may_go)
