use Rattle.lls_lemmas.proofs.Logs.{grows-then, grows-none}
use Rattle.lls_lemmas.proofs.UnitTables.{store_stays, store_then}
use Rattle.std.proofs.Common.{◌∙◌, refl}
use Rattle.lls_lemmas.proofs.units.add_units.Goals as goal

pub loop-units-init : goal.loop-units-init
loop-units-init g c = record {
  rest = c.requires.rest;
  store = store_stays c.args.trail.now (g.S.Store.state c.args.store.now);
  grows = grows-none c.args.formula.now c.args.log.now.steps;
  found = c.requires.found;
  tracked = c.requires.tracked;
  vars = refl;
}

pub loop-units-preserved : goal.loop-units-preserved
loop-units-preserved g c =
    let i = c.loop-units.invariant in
    let e = c.in_ok-add_unit.ensures in
    record {
      rest = e.rest;
      store = store_then c.args.trail.now (g.S.Store.state c.args.store.now) (g.S.Store.state c.loop-units.store) (g.S.Store.state c.add_unit.new.store) i.store e.store;
      grows = grows-then c.args.formula.now c.args.log.now.steps c.loop-units.log.steps c.add_unit.new.log.steps i.grows e.grows;
      found = e.found;
      tracked = e.tracked;
      vars = e.vars ∙ i.vars;
    }

pub returns-in_err-add_unit-clause-store : goal.returns-in_err-add_unit-clause-store
returns-in_err-add_unit-clause-store g c =
    store_then c.args.trail.now (g.S.Store.state c.args.store.now) (g.S.Store.state c.loop-units.store) (g.S.Store.state c.add_unit.new.store) c.loop-units.invariant.store c.in_err-add_unit.ensures.store

pub returns-in_err-add_unit-clause-grows : goal.returns-in_err-add_unit-clause-grows
returns-in_err-add_unit-clause-grows g c =
    grows-then c.args.formula.now c.args.log.now.steps c.loop-units.log.steps c.add_unit.new.log.steps c.loop-units.invariant.grows c.in_err-add_unit.ensures.grows
