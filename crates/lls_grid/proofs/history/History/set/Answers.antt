use Rattle.std.proofs.Common.{◌<◌, ◌∙◌, length, set, ap, arith}
use Rattle.lls_grid.specs.History.{height_of, width_of, folded}
use Rattle.lls_grid.specs.Changes.{with_cell}
use Rattle.lls_grid.proofs.Folded.{length-folded, height_of-folded, width_of-folded}
use Rattle.lls_grid.proofs.Chunks.{with_cell-folded}
use Rattle.lls_grid.proofs.history.History.set.Goals as goal

pub index-index-requires-clause-inside : goal.index-index-requires-clause-inside
index-index-requires-clause-inside c =
    let h = c.self.inside in
    record {
      generation = omega (arith, c.requires.generation, ap length c.self.view_is, length-folded h.sizes.generations h.sizes.height h.sizes.width h.cells.items);
      row = omega (arith, c.requires.row, ap height_of c.self.view_is, height_of-folded h.sizes.generations h.sizes.height h.sizes.width h.cells.items c.self.invariant.generations.0);
      column = omega (arith, c.requires.column, ap width_of c.self.view_is, width_of-folded h.sizes.generations h.sizes.height h.sizes.width h.cells.items c.self.invariant.generations.0 c.self.invariant.height.0);
    }

pub returns : goal.returns
returns c =
    let h = c.self.inside in
    let t_in : c.args.t < h.sizes.generations = omega (arith, c.requires.generation, ap length c.self.view_is, length-folded h.sizes.generations h.sizes.height h.sizes.width h.cells.items) in
    let y_in : c.args.y < h.sizes.height = omega (arith, c.requires.row, ap height_of c.self.view_is, height_of-folded h.sizes.generations h.sizes.height h.sizes.width h.cells.items c.self.invariant.generations.0) in
    let x_in : c.args.x < h.sizes.width = omega (arith, c.requires.column, ap width_of c.self.view_is, width_of-folded h.sizes.generations h.sizes.height h.sizes.width h.cells.items c.self.invariant.generations.0 c.self.invariant.height.0) in
    ap (λ index. folded h.sizes.generations h.sizes.height h.sizes.width (set h.cells.items index c.args.live)) c.index-index.ensures.index ∙
    (with_cell-folded h.sizes.generations h.sizes.height h.sizes.width c.args.t c.args.y c.args.x h.cells.items c.args.live c.self.invariant.count t_in y_in x_in ∙
    ap (λ history. with_cell history c.args.t c.args.y c.args.x c.args.live) c.self.view_is)
