use Rattle.std.proofs.Common.{List, IfNone, sym, ap, subst}
use Rattle.lls_store.specs.Clauses.{LiveClause}
use Rattle.lls_store.specs.Closed.{IsClosed}
use Rattle.lls_store.specs.Sound.{IsSound}
use Rattle.lls_store.specs.Scan.{ScanState, live_in}
use Rattle.lls_store.proofs.scan_store.ScanStoreStore.propagate.Goals as goal

pub propagate-requires-clause-sound : goal.propagate-requires-clause-sound
propagate-requires-clause-sound c =
    let same = ap (λ (s : ScanState). live_in s.flat.clauses) c.self.view_is in
    subst (λ (live : List LiveClause). IsSound live c.args.trail.now) (sym same) c.requires.sound

pub returns-clause-closed : goal.returns-clause-closed
returns-clause-closed c =
    let same = ap (λ (s : ScanState). live_in s.flat.clauses) c.self.view_is in
    subst (λ (live : List LiveClause). IfNone c.propagate.result (IsClosed live c.propagate.new.trail)) same c.propagate.ensures.closed

pub returns-clause-sound : goal.returns-clause-sound
returns-clause-sound c =
    let same = ap (λ (s : ScanState). live_in s.flat.clauses) c.self.view_is in
    subst (λ (live : List LiveClause). IsSound live c.propagate.new.trail) same c.propagate.ensures.sound
