use Rattle.std.proofs.Common.{ap, ◌∙◌}
use Rattle.std.specs.List.{flat_map}
use Rattle.std.proofs.lemmas.List.{take_all}
use Rattle.lls_symmetry.specs.Pairs.{motion_pairs, pairs_of}
use Rattle.lls_symmetry.proofs.Symmetric.{IsSymmetric-by_pairs}
use Rattle.lls_symmetry.proofs.pair.pairs.Goals as goal

pub returns-clause-pairs : goal.returns-clause-pairs
unfolding pairs_of
returns-clause-pairs c =
    c.loop-motion.invariant ∙ ap (flat_map (motion_pairs c.args.height c.args.width)) (take_all c.loop-motion.motion-index c.motions-motion-items.result.now c.loop-motion-test.false ∙ c.motions-motion-items.ensures)

pub returns-clause-symmetric : goal.returns-clause-symmetric
returns-clause-symmetric c =
    IsSymmetric-by_pairs c.args.symmetry c.args.height c.args.width c.loop-motion.pairs.items c.requires (returns-clause-pairs c)
