use Rattle.std.proofs.Common.{◌≡◌, map, take}
use Rattle.lls_open.specs.Cubes.{class_cubes}
use Rattle.lls_open.proofs.cubes.cubes_by_class.Given as goal

-- those of the classes so far
abbrev pub invariant-loop-class : goal.invariant-loop-class
invariant-loop-class l = map (λ some. some.items) l.cubes.items ≡ map (class_cubes l.form) (take l.class-index l.classes)
