use Rattle.std.proofs.Common.{sym, subst}
use Rattle.lls_store.specs.Sound.{IsSound}
use Rattle.lls_store.specs.Closed.{IsClosed}
use Rattle.lls_store.specs.Store.{IsConflict, StoreState}
use Rattle.lls_lemmas.specs.Behind.{HoldsLive}
use Rattle.lls_lemmas.specs.Units.{HasUnits}
use Rattle.lls_lemmas.proofs.AtZero.{conflict_on, units_on}
use Rattle.lls_lemmas.proofs.Logs.{grows-then}
use Rattle.lls_lemmas.proofs.settling.settle.Goals as goal

pub add_units-requires-clause-rest : goal.add_units-requires-clause-rest
add_units-requires-clause-rest g c =
    let old = g.S.Store.state c.args.store.now in
    let e = c.propagate-conflict.ensures in
    let new = c.propagate-conflict.new.trail in
    let units = c.args.units.now.ids.items in
    let done = c.args.units.now.done in
    record {
      holds = subst (λ (s : StoreState). HoldsLive c.args.formula.now c.args.log.now.steps s c.args.last.now) (sym e.state) c.requires.rest.holds;
      has_units = subst (λ (s : StoreState). HasUnits s new units done) (sym e.state)
          (units_on old c.args.trail.now new units done c.requires.rest.has_units e.grown c.current-level.ensures.kept (subst (λ (s : StoreState). IsSound s.live new) e.state e.sound));
    }

pub refute-requires-clause-conflict : goal.refute-requires-clause-conflict
refute-requires-clause-conflict g c =
    let e = c.propagate-conflict.ensures in
    let t = c.propagate-conflict.new.trail in
    conflict_on t (g.S.Store.state c.propagate-conflict.new.self) (g.S.Store.state c.add_units.new.store) c.in-Some.number c.in_ok-add_units.ensures.store
    (subst (λ (s : StoreState). IsConflict s.live t c.in-Some.number) (sym e.state) c.in-Some.ensures.conflict)

pub returns-in-None-clause-is_open : goal.returns-in-None-clause-is_open
returns-in-None-clause-is_open g c =
    let e = c.propagate-conflict.ensures in
    let t = c.propagate-conflict.new.trail in
    λ is. record {
      closed = c.in_ok-add_units.ensures.store.closed (subst (λ (s : StoreState). IsClosed s.live t) (sym e.state) c.in-None.ensures.closed);
      all_done = c.in_ok-add_units.ensures.done;
    }

pub returns-in_ok-refute-in-Some-clause-grows : goal.returns-in_ok-refute-in-Some-clause-grows
returns-in_ok-refute-in-Some-clause-grows g c = grows-then c.args.formula.now c.args.log.now.steps c.add_units.new.log.steps c.refute.new.log.steps c.in_ok-add_units.ensures.grows c.in_ok-refute-in-Some.ensures.grows
