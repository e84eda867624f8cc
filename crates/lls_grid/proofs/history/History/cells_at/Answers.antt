use Rattle.std.proofs.Common.{◌<◌, ◌*◌, ◌∙◌, length, drop, sym, ap, arith, length-take, length-drop}
use Rattle.std.proofs.Math.Nat.{mul_assoc}
use Rattle.lls_grid.proofs.Folded.{length-folded, width_of-folded, height_of-folded}
use Rattle.lls_grid.proofs.Chunks.{generation-le, cells_of_rows-folded, rows_at-folded_chunked, chunked-take}
use Rattle.lls_grid.proofs.history.History.cells_at.Goals as goal

pub overflow_mul-first : goal.overflow_mul-first
overflow_mul-first c =
    let h = c.self.inside in
    let t_in : c.args.t < h.sizes.generations = omega (arith, c.requires, ap length c.self.view_is, length-folded h.sizes.generations h.sizes.height h.sizes.width h.cells.items) in
    omega (arith, generation-le h.sizes.generations h.sizes.height h.sizes.width c.args.t t_in, c.self.invariant.count, c.self.invariant.most)

pub part-requires : goal.part-requires
part-requires c =
    let h = c.self.inside in
    let t_in : c.args.t < h.sizes.generations = omega (arith, c.requires, ap length c.self.view_is, length-folded h.sizes.generations h.sizes.height h.sizes.width h.cells.items) in
    rw c.deref.ensures.value (omega (arith, generation-le h.sizes.generations h.sizes.height h.sizes.width c.args.t t_in, c.self.invariant.count))

pub returns-clause-cells : goal.returns-clause-cells
returns-clause-cells c =
    let h = c.self.inside in
    let t_in : c.args.t < h.sizes.generations = omega (arith, c.requires, ap length c.self.view_is, length-folded h.sizes.generations h.sizes.height h.sizes.width h.cells.items) in
    rw (← c.self.view_is) (rw (c.part.ensures, c.deref.ensures.value, mul_assoc h.sizes.width h.sizes.height c.args.t)
    (sym (cells_of_rows-folded h.sizes.generations h.sizes.height h.sizes.width c.args.t h.cells.items c.self.invariant.count t_in)))

pub returns-clause-rows : goal.returns-clause-rows
returns-clause-rows c =
    let h = c.self.inside in
    let t_in : c.args.t < h.sizes.generations = omega (arith, c.requires, ap length c.self.view_is, length-folded h.sizes.generations h.sizes.height h.sizes.width h.cells.items) in
    rw (← c.self.view_is) (rw (
      c.part.ensures,
      c.deref.ensures.value,
      mul_assoc h.sizes.width h.sizes.height c.args.t,
      width_of-folded h.sizes.generations h.sizes.height h.sizes.width h.cells.items c.self.invariant.generations.0 c.self.invariant.height.0,
      height_of-folded h.sizes.generations h.sizes.height h.sizes.width h.cells.items c.self.invariant.generations.0,
    )
    (chunked-take h.sizes.width h.sizes.height (drop (h.sizes.width * (h.sizes.height * c.args.t)) h.cells.items) ∙ sym (rows_at-folded_chunked h.sizes.generations h.sizes.height h.sizes.width c.args.t h.cells.items c.self.invariant.count t_in)))

pub returns-clause-count : goal.returns-clause-count
returns-clause-count c =
    let h = c.self.inside in
    let t_in : c.args.t < h.sizes.generations = omega (arith, c.requires, ap length c.self.view_is, length-folded h.sizes.generations h.sizes.height h.sizes.width h.cells.items) in
    let before = h.sizes.width * h.sizes.height * c.args.t in
    rw (← c.self.view_is) (rw (
      c.part.ensures,
      c.deref.ensures.value,
      width_of-folded h.sizes.generations h.sizes.height h.sizes.width h.cells.items c.self.invariant.generations.0 c.self.invariant.height.0,
      height_of-folded h.sizes.generations h.sizes.height h.sizes.width h.cells.items c.self.invariant.generations.0,
    )
    (omega (
      arith,
      length-take (h.sizes.width * h.sizes.height) (drop before h.cells.items),
      length-drop before h.cells.items,
      generation-le h.sizes.generations h.sizes.height h.sizes.width c.args.t t_in,
      c.self.invariant.count,
    )))
