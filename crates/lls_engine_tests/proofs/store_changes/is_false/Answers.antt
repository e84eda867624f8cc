use Rattle.std.proofs.Common.{arith}
use Rattle.lls_lit.specs.Literal.{variable_of}
use Rattle.lls_store.proofs.Live.{AreWithin-read}
use Rattle.lls_store.proofs.Sets.{IsIn-from_Contains}
use Rattle.lls_store.proofs.Standings.{Contains-read}
use Rattle.lls_store.proofs.Tabled.{variable_bounds}
use Rattle.lls_engine_tests.proofs.store_changes.is_false.Goals as goal

pub value-requires : goal.value-requires
value-requires g c =
    let store = g.S.Store.state c.args.store.now in
    let lits = c.lits-lit-items.result.now in
    let l = c.lit-item.result in
    let within = AreWithin-read store c.args.c lits c.count.ensures.live c.requires.live c.lits-lit-items.ensures in
    let inside = IsIn-from_Contains lits l (Contains-read lits c.loop-lit.lit-index l c.loop-lit-test.true c.lit-item.is) in
    let vars = g.met.S.Store.tracks_vars c.args.store.now c.args.trail.now c.requires.tracked in
    omega (arith, (variable_bounds store.vars (variable_of l) (within l inside)).1, vars)
