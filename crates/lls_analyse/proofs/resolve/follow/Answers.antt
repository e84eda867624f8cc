use Rattle.std.proofs.Common.{sym, ◌∙◌}
use Rattle.lls_store.specs.Trail.{entry_of}
use Rattle.lls_store.specs.Clauses.{clause_numbered}
use Rattle.lls_store.proofs.ReasonFound.{reason_found}
use Rattle.lls_analyse.proofs.LiveClauses.{forced_known, IsSome-from}
use Rattle.lls_analyse.proofs.Valued.{reason_has_values}
use Rattle.lls_analyse.proofs.resolve.follow.Goals as goal

pub known_reason-requires : goal.known_reason-requires
known_reason-requires g c = forced_known (entry_of c.args.trail.now.entries c.args.var) c.requires.forced

pub hold_clause-requires-clause-is_live : goal.hold_clause-requires-clause-is_live
hold_clause-requires-clause-is_live g c =
    let live = (g.S.Store.state c.args.store.now).live in
    let found = reason_found live c.args.trail.now c.args.var c.unwrap-reason.result c.requires.sound (sym c.known_reason.ensures ∙ c.unwrap-reason.ensures) in
    IsSome-from (clause_numbered live c.unwrap-reason.result) found.forced.clause found.forced.is_live

pub hold_clause-requires-clause-have_values : goal.hold_clause-requires-clause-have_values
hold_clause-requires-clause-have_values g c =
    reason_has_values (g.S.Store.state c.args.store.now).live c.args.trail.now c.args.var c.unwrap-reason.result c.requires.sound (sym c.known_reason.ensures ∙ c.unwrap-reason.ensures)
