-- What holds of a history by the sizes and the cells that it is folded from.
use Rattle.std.proofs.Common.{◌≡◌, Bool, List, length, refl, ap, ◌∙◌, arith}
use Rattle.lls_grid.specs.declared.sizes.Sizes.{Sizes}
use Rattle.lls_grid.specs.Sizes.{cell_count}
use Rattle.lls_grid.specs.History.{IsHistory, IsShaped, folded, sizes_of, height_of, width_of, cells_of}
use Rattle.lls_grid.proofs.Folded.{length-folded, height_of-folded, width_of-folded, HasSizes-folded}
use Rattle.lls_grid.proofs.InOrder.{length-cells_of}

-- its sizes
pub sizes_of-folded : (sizes : Sizes) (cells : List Bool) → IsShaped sizes cells → sizes_of (folded sizes.generations sizes.height sizes.width cells) ≡ sizes
sizes_of-folded sizes cells shaped =
    rw (
      length-folded sizes.generations sizes.height sizes.width cells,
      height_of-folded sizes.generations sizes.height sizes.width cells shaped.generations.0,
      width_of-folded sizes.generations sizes.height sizes.width cells shaped.generations.0 shaped.height.0,
    ) refl

-- what its type keeps
pub IsHistory-folded : (sizes : Sizes) (cells : List Bool) → IsShaped sizes cells → IsHistory (folded sizes.generations sizes.height sizes.width cells)
IsHistory-folded sizes cells shaped =
    let history = folded sizes.generations sizes.height sizes.width cells in
    let generations = length-folded sizes.generations sizes.height sizes.width cells in
    let height = height_of-folded sizes.generations sizes.height sizes.width cells shaped.generations.0 in
    let width = width_of-folded sizes.generations sizes.height sizes.width cells shaped.generations.0 shaped.height.0 in
    let alike = HasSizes-folded sizes.generations sizes.height sizes.width cells shaped.generations.0 shaped.height.0 in
    let count : length (cells_of history) ≡ cell_count (sizes_of history) = length-cells_of (length history) (height_of history) (width_of history) history alike in
    record {
      sizes = alike;
      generations = rw generations shaped.generations;
      height = rw height shaped.height;
      width = rw width shaped.width;
      most = rw (count ∙ ap cell_count (sizes_of-folded sizes cells shaped)) (omega (arith, shaped.count, shaped.most));
    }
