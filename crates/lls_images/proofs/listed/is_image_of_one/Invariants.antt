use Rattle.std.proofs.Common.{◌≡◌, false, take}
use Rattle.lls_search_file.specs.Posed.{sizes_of}
use Rattle.lls_problem.specs.Bounds.{grid_size}
use Rattle.std.specs.List.{list_any}
use Rattle.lls_images.specs.Same.{is_image}
use Rattle.lls_images.proofs.listed.is_image_of_one.Given as goal

-- it is the image of none so far
abbrev pub invariant-loop-n : goal.invariant-loop-n
invariant-loop-n l = list_any (is_image l.motion (sizes_of l.posed) (grid_size l.posed) l.pattern) (take l.n l.patterns) ≡ false
