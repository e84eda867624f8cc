use Rattle.lls_analyse.proofs.Minimising.{minimises_then}
use Rattle.lls_analyse.proofs.Valued.{all_have_values}
use Rattle.lls_analyse.proofs.minimise.minimise.Goals as goal
use Rattle.lls_analyse.proofs.minimise.minimise.Goals.{then-is_kept, else-is_kept}

pub loop-k-preserved : goal.loop-k-preserved
loop-k-preserved g c =
    let live = (g.S.Store.state c.args.store.now).live in
    elim c.if-is_kept.branch [
      | then-is_kept w ↦ rw w.visited-is (minimises_then live c.args.trail.now c.args.visited.now c.loop-k.visited w.release.new.visited c.loop-k.invariant w.release.ensures)
      | else-is_kept w ↦ rw w.visited-is c.loop-k.invariant
    ]

pub levels_of-levels-requires : goal.levels_of-levels-requires
levels_of-levels-requires g c = all_have_values c.args.trail.now.entries c.args.visited.now.lits c.requires.marked.all_false
