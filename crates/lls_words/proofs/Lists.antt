-- Tests of a mapped list.
use Rattle.std.specs.Prelude.{find}
use Rattle.std.specs.Option.{option_map}
use Rattle.std.specs.List.{list_any}
use Rattle.std.proofs.Common.{◌≡◌, Bool, List, map, sym}
use Rattle.clap.proofs.WalkLemmas as kit

pub list_any-map : {X Y : Type 0} (p : Y → Bool) (h : X → Y) (xs : List X) → list_any p (map h xs) ≡ list_any (λ x. p (h x)) xs
list_any-map p h xs = sym (kit.list_any-map p h xs)

pub find-map : {X Y : Type 0} (p : Y → Bool) (h : X → Y) (xs : List X) → find p (map h xs) ≡ option_map h (find (λ x. p (h x)) xs)
find-map p h xs = sym (kit.find-map p h xs)

pub ruleset mapped = (list_any-map, find-map)
