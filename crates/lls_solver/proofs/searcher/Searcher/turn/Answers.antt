use Rattle.std.proofs.Common.{◌+◌, length, sym, ap, ◌∙◌, subst, arith}
use Rattle.lls_solver.specs.Searching.{additions, HoldsFormula, SearcherState}
use Rattle.lls_solver.proofs.Kept.{conflict_kept}
use Rattle.lls_solver.proofs.Logs.{holds_formula, exhausted}
use Rattle.lls_solver.proofs.searcher.Searcher.turn.Goals as goal

pub returns-in-Complete-clause-holds : goal.returns-in-Complete-clause-holds
returns-in-Complete-clause-holds g c =
    let formula = c.args.formula.now in
    let steps = c.args.log.now.steps in
    let h = c.requires.searching in
    let same = c.descend.ensures.state ∙ ap (λ (s : SearcherState). s.store) c.self.view_is in
    λ is. subst (HoldsFormula formula) (sym same) (holds_formula formula steps c.args.self.now.store (length formula.clauses + additions steps) h.holds h.log)

pub go_to_conflict-requires-clause-conflict : goal.go_to_conflict-requires-clause-conflict
go_to_conflict-requires-clause-conflict g c =
    conflict_kept (g.S.Store.state c.self.inside.store) (g.S.Store.state c.descend.new.store) c.descend.new.course c.in-Conflict.conflict (sym c.descend.ensures.state) (c.descend.ensures.conflict c.in-Conflict.conflict c.in-Conflict.is)

pub returns-then-additions-from-clause-spent : goal.returns-then-additions-from-clause-spent
returns-then-additions-from-clause-spent g c =
    λ is. exhausted c.args.formula.now c.args.budget c.args.log.now.steps c.requires.searching.log (omega (arith, c.if-additions-from.true, c.additions.ensures, c.from.ensures, c.requires.within)) c.in_ok-learn_further.ensures.further
