use Rattle.std.proofs.Common.{◌-◌, ◌≡◌, length}
use Rattle.lls_lemmas.specs.Behind.{Grows}
use Rattle.lls_lemmas.specs.Indexed.{IsFound}
use Rattle.lls_lemmas.specs.Units.{IsAtRest, StoreGrows}
use Rattle.lls_lemmas.proofs.units.add_units.Given as goal

abbrev pub invariant-loop-units : goal.invariant-loop-units
invariant-loop-units g l = record {
  rest : IsAtRest l.formula l.log.steps (g.S.Store.state l.store) l.trail l.units.ids.items l.units.done l.last;
  store : StoreGrows l.trail (g.S.Store.state l.initial.store) (g.S.Store.state l.store);
  grows : Grows l.formula l.initial.log.steps l.log.steps;
  found : IsFound l.trail.vars l.index (g.S.Store.state l.store).live;
  tracked : g.S.Store.tracks l.store l.trail;
  vars : l.gathering.marks.vars ≡ l.initial.gathering.marks.vars;
}

abbrev pub decreases-loop-units : goal.decreases-loop-units
decreases-loop-units g l = length l.trail.entries - l.units.done
