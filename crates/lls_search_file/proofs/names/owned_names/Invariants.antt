use Rattle.std.proofs.Common.{◌≡◌, ◌++◌, true}
use Rattle.std.specs.List.{list_all}
use Rattle.lls_search_file.specs.Posed.{is_name}
use Rattle.lls_search_file.specs.Kept.{texts}
use Rattle.lls_search_file.proofs.names.owned_names.Given as goal

abbrev pub invariant-loop-name : goal.invariant-loop-name
invariant-loop-name l = record {
  names : l.owned.items ++ texts l.name-iterator ≡ texts l.names.keys;
  spelled : list_all is_name (texts l.name-iterator) ≡ true;
}
