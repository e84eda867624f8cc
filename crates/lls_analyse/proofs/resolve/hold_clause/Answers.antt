use Rattle.std.proofs.Common.{sym, ap, ◌∙◌}
use Rattle.lls_lit.specs.Formula.{is_within}
use Rattle.lls_analyse.proofs.LiveClauses.{number_given, told}
use Rattle.lls_analyse.proofs.Valued.{clause_has_values}
use Rattle.lls_analyse.proofs.resolve.hold_clause.Goals as goal

pub lits-requires : goal.lits-requires
lits-requires g c = number_given (g.S.Store.state c.args.store.now) c.args.number c.requires.live c.requires.is_live

pub hold_all-requires-clause-within : goal.hold_all-requires-clause-within
hold_all-requires-clause-within g c =
    let is = told (g.S.Store.state c.args.store.now) c.args.number c.lits.result.now c.requires.live c.requires.is_live c.lits.ensures in
    ap (λ n. is_within n c.lits.result.now) (sym c.requires.store_vars) ∙ is.within

pub returns : goal.returns
returns g c =
    let is = told (g.S.Store.state c.args.store.now) c.args.number c.lits.result.now c.requires.live c.requires.is_live c.lits.ensures in
    record { clause = is.clause; is_live = is.is_live; lits = c.lits.result.now; spelled = is.spelled; held = c.hold_all.ensures }

pub hold_all-requires-clause-have_values : goal.hold_all-requires-clause-have_values
hold_all-requires-clause-have_values g c =
    let is = told (g.S.Store.state c.args.store.now) c.args.number c.lits.result.now c.requires.live c.requires.is_live c.lits.ensures in
    clause_has_values c.args.trail.now.entries (g.S.Store.state c.args.store.now).live c.args.number is.clause c.lits.result.now c.requires.have_values is.is_live is.spelled
