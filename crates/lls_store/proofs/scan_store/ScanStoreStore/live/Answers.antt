use Rattle.std.proofs.Common.{◌∙◌}
use Rattle.lls_store.proofs.Numbered.{is_some-place}
use Rattle.lls_store.proofs.scan_store.ScanStoreStore.live.Goals as goal

pub returns : goal.returns
returns c =
    rw (← c.self.view_is)
    (c.is_some.ensures ∙ is_some-place c.self.inside.clauses.clauses c.args.c c.place.result c.self.invariant.are_live.numbers c.place.ensures.found c.place.ensures.none)
