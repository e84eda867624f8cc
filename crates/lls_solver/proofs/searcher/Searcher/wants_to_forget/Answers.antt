use Rattle.std.proofs.Common.{ap, arith}
use Rattle.lls_solver.specs.Searching.{SearcherState}
use Rattle.lls_solver.proofs.Forgotten.{learnt_counted}
use Rattle.lls_solver.proofs.searcher.Searcher.wants_to_forget.Goals as goal

pub overflow_sub-learnt : goal.overflow_sub-learnt
overflow_sub-learnt g c =
    let h = c.requires in
    let same = ap (λ (s : SearcherState). s.store.count) c.self.view_is in
    omega (arith, c.from.ensures, c.count.ensures.count, same, h.holds.count, c.len.ensures.len, learnt_counted c.args.formula.now c.args.log.now.steps h.log)

pub returns : goal.returns
returns g c =
    let h = c.requires in
    let same = ap (λ (s : SearcherState). s.store.count) c.self.view_is in
    let exactly = c.is_late.ensures c.args.formula.now (omega (arith, c.from.ensures, c.count.ensures.count, same, h.holds.count, c.len.ensures.len, learnt_counted c.args.formula.now c.args.log.now.steps h.log)) in
    exactly.0
