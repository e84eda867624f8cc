use Rattle.std.proofs.Common.{sym, ap, ◌∙◌}
use Rattle.std.proofs.lemmas.Result.{on_ok_weaker}
use Rattle.lls_lit.specs.Formula.{is_within}
use Rattle.lls_analyse.proofs.LiveClauses.{number_given, told}
use Rattle.lls_lemmas.proofs.Reading.{marks_false}
use Rattle.lls_lemmas.proofs.gathering.go_by.Goals as goal

pub lits-requires : goal.lits-requires
lits-requires g c = number_given (g.S.Store.state c.args.store.now) c.args.number c.requires.live c.requires.is_live

pub mark_false-requires-clause-within : goal.mark_false-requires-clause-within
mark_false-requires-clause-within g c =
    let is = told (g.S.Store.state c.args.store.now) c.args.number c.lits.result.now c.requires.live c.requires.is_live c.lits.ensures in
    ap (λ n. is_within n c.lits.result.now) (sym c.requires.store_vars) ∙ is.within

pub returns-clause-marked : goal.returns-clause-marked
returns-clause-marked g c =
    let s = g.S.Store.state c.args.store.now in
    let is = told s c.args.number c.lits.result.now c.requires.live c.requires.is_live c.lits.ensures in
    on_ok_weaker c.mark_false.result (λ each. marks_false s c.args.trail.now.entries c.args.number c.lits.result.now c.mark_false.new.marks.lits is each) c.mark_false.ensures.marked
