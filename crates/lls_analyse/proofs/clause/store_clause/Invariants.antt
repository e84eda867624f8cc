use Rattle.std.proofs.Common.{◌≡◌, take}
use Rattle.std.specs.Prelude.{IsTrue}
use Rattle.lls_analyse.proofs.clause.store_clause.Given as goal

abbrev pub invariant-loop-lit : goal.invariant-loop-lit
invariant-loop-lit g l =
    (g.S.Store.state l.store ≡ record (g.S.Store.state l.fn.store) { tail = take l.lit-index l.clause }) × (IsTrue (g.S.Store.room l.store) × g.S.Store.tracks l.store l.trail)
