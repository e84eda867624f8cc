use Rattle.std.proofs.Common.{◌≡◌, true}
use Rattle.std.specs.Prelude.{take}
use Rattle.std.specs.List.{list_all}
use Rattle.lls_prooflog.specs.Range.{is_hint}
use Rattle.lls_lemmas.specs.Pivot.{AreGroups}
use Rattle.lls_lemmas.proofs.resolving.try_pivot.Given as goal

abbrev pub invariant-loop-number : goal.invariant-loop-number
invariant-loop-number g l = record {
  groups : AreGroups (g.S.Store.state l.initial.store).live l.pivot l.lits (take l.number-index l.numbers) l.resolving.groups.items;
  in_range : list_all is_hint l.resolving.groups.items ≡ true;
  trail : l.trail ≡ l.initial.trail;
  state : g.S.Store.state l.store ≡ g.S.Store.state l.initial.store;
  tracked : g.S.Store.tracks l.store l.trail;
  vars : l.gathering.marks.vars ≡ l.initial.gathering.marks.vars;
}
