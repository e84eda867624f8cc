use Rattle.lls_store.proofs.Numbered.{lits-numbered, unless_numbered}
use Rattle.lls_store.proofs.scan_store.ScanStoreStore.lits.Goals as goal

pub returns-in-Some : goal.returns-in-Some
returns-in-Some c = rw (← c.self.view_is) (lits-numbered c.self.inside.clauses.clauses c.in-Some.k c.args.c c.self.invariant.are_live.numbers c.in-Some.ensures.found c.lits.result.now c.lits.ensures)

pub returns-in-None : goal.returns-in-None
returns-in-None c = rw (← c.self.view_is) (unless_numbered c.self.inside.clauses.clauses c.args.c _ c.in-None.ensures.none)
