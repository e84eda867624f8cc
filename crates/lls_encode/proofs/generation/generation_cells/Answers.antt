use Rattle.std.proofs.Common.{◌∙◌, [], ◌∷◌, ◌++◌, map, ap, sym, arith}
use Rattle.std.specs.List.{range_with_len}
use Rattle.std.proofs.lemmas.List.FromFn.{map-range_with_len_more}
use Rattle.lls_encode.specs.Formula.{cell_of_generation}
use Rattle.lls_encode.proofs.generation.generation_cells.Goals as goal

pub loop-k-preserved : goal.loop-k-preserved
loop-k-preserved c =
    c.in_ok-push.ensures.items ∙ ap (λ items. items ++ c.cell_of_generation.result ∷ []) c.loop-k.invariant
    ∙ ap (λ l. map (cell_of_generation c.args.problem.now c.args.t) (range_with_len 0 c.loop-k.k) ++ l ∷ []) c.cell_of_generation.ensures.literal
    ∙ sym (map-range_with_len_more (cell_of_generation c.args.problem.now c.args.t) 0 c.loop-k.k c.loop-k.k (omega arith))
