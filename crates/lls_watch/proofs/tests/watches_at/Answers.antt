use Rattle.std.proofs.Common.{ap, sym, ◌∙◌, arith}
use Rattle.std.specs.Prelude.{map, slice_get}
use Rattle.std.proofs.lemmas.Grind.{common_steps}
use Rattle.lls_arena.specs.Arena.{ArenaState, HeadState}
use Rattle.lls_watch.proofs.Changes.{watches_from}
use Rattle.lls_watch.proofs.tests.watches_at.Goals as goal
use Rattle.lls_watch.proofs.tests.watches_at.Goals.{then-w, else-w}

pub returns : goal.returns
returns c = λ within.
    watches_from c.args.watches.now c.args.c c.args.w c.lits-lits.result.now
    (ap (λ (a : ArenaState). slice_get (map (λ (h : HeadState). h.lits) a.heads) c.args.c) (sym c.arena-2.ensures) ∙ c.lits-lits.ensures)
    (grind (arith, common_steps, c.if-lits-lt2.false))
    (grind (arith, common_steps, c.if-eq.false, c.eq.ensures))
    (elim c.if-w.branch [
      | then-w w ↦ grind (arith, common_steps)
      | else-w w ↦ grind (arith, common_steps)
    ])
