use Rattle.std.proofs.Common.{◌≡◌, true, take}
use Rattle.lls_search_file.specs.Posed.{sizes_of}
use Rattle.lls_problem.specs.Bounds.{grid_size}
use Rattle.std.specs.List.{list_any, list_all}
use Rattle.lls_images.specs.Same.{is_image}
use Rattle.lls_images.proofs.listed.keeps_listed.Given as goal

-- the patterns so far are images
abbrev pub invariant-loop-n : goal.invariant-loop-n
invariant-loop-n l = list_all (λ pattern. list_any (is_image l.motion (sizes_of l.posed) (grid_size l.posed) pattern) l.patterns) (take l.n l.patterns) ≡ true
