use Rattle.std.proofs.Common.{◌≡◌, ◌++◌, true, take}
use Rattle.std.specs.List.{list_all, filter_map}
use Rattle.lls_lemmas.specs.Closing.{is_id_hint}
use Rattle.lls_lemmas.specs.Units.{unit_hint}
use Rattle.lls_lemmas.proofs.gathering.push_units.Given as goal

abbrev pub invariant-loop-lit : goal.invariant-loop-lit
invariant-loop-lit l = record {
  pushed : l.hints.items ≡ l.initial.hints.items ++ filter_map (unit_hint l.units) (take l.lit-index l.lits);
  in_range : list_all is_id_hint l.hints.items ≡ true;
}
