use Rattle.std.proofs.Common.{◌<◌, ◌*◌, sym, ap, ◌∙◌, subst}
use Rattle.lls_images.specs.Image.{image_index}
use Rattle.lls_images.proofs.Places.{image_index-by_place, image-first_generation}
use Rattle.lls_images.proofs.cells.image_index.Goals as goal

pub returns-clause-index : goal.returns-clause-index
returns-clause-index c =
    image_index-by_place c.args.motion c.sizes-sizes.result c.args.k c.place-t.result c.image-y.result.0 c.image-y.result.1 c.index.result c.place-t.ensures.inside c.place-t.ensures.index
    c.image-y.ensures.row c.image-y.ensures.column c.index.ensures.index
    ∙ ap (λ sizes. image_index c.args.motion sizes c.args.k) c.sizes-sizes.ensures.sizes

pub returns-clause-generation : goal.returns-clause-generation
returns-clause-generation c =
    let kept = c.sizes-sizes.ensures.kept in
    let back = sym c.sizes-sizes.ensures.sizes in
    subst (λ sizes. c.args.k < sizes.width * sizes.height → c.index.result < sizes.width * sizes.height) c.sizes-sizes.ensures.sizes
    (image-first_generation c.args.motion c.sizes-sizes.result c.args.k c.place-t.result c.image-y.result.0 c.image-y.result.1 c.index.result c.place-t.ensures.inside c.place-t.ensures.index
    (subst (λ sizes. 0 < sizes.width) back kept.width.0) (subst (λ sizes. 0 < sizes.height) back kept.height.0)
    c.image-y.ensures.inside.0 c.image-y.ensures.inside.1 c.index.ensures.index)
