use Rattle.std.proofs.Common.{◌≡◌, true}
use Rattle.std.specs.List.{list_all, range_with_len}
use Rattle.lls_search_file.specs.Posed.{sizes_of}
use Rattle.lls_images.specs.Same.{is_image_at}
use Rattle.lls_images.proofs.listed.is_image.Given as goal

-- the cells so far are those of the image
abbrev pub invariant-loop-k : goal.invariant-loop-k
invariant-loop-k l = list_all (is_image_at l.motion (sizes_of l.posed) l.pattern l.other) (range_with_len 0 l.k) ≡ true
