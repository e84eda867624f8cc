use Rattle.std.proofs.Common.{◌-◌, ◌≡◌, ◌≤◌, true}
use Rattle.std.specs.List.{list_all}
use Rattle.lls_lemmas.specs.Closing.{AreListed, CarriesOver, is_id_hint}
use Rattle.lls_lemmas.proofs.gathering.go_back_over.Given as goal

abbrev pub invariant-loop-place : goal.invariant-loop-place
invariant-loop-place g l = record {
  base : l.base ≤ l.place;
  top : l.place ≤ l.top;
  closes : CarriesOver (g.S.Store.state l.store).live l.trail.entries l.initial.gathering.marks.lits l.top l.initial.gathering.hints.items l.gathering.marks.lits l.place l.gathering.hints.items;
  listed : AreListed l.initial.gathering.marks.vars l.gathering.marks.lits l.gathering.met.items;
  in_range : list_all is_id_hint l.gathering.hints.items ≡ true;
  vars : l.gathering.marks.vars ≡ l.initial.gathering.marks.vars;
}

abbrev pub decreases-loop-place : goal.decreases-loop-place
decreases-loop-place g l = l.place - l.base
