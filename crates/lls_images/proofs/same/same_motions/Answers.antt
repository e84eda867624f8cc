use Rattle.std.proofs.Common.{◌≡◌, ◌≤◌, ◌++◌, [], ◌∷◌, cond, get_or, length, true, sym, ap, ◌∙◌, subst}
use Rattle.std.specs.List.{filter}
use Rattle.std.proofs.lemmas.List.{take_all}
use Rattle.std.proofs.lemmas.List.Elements.{filter_more}
use Rattle.lls_symmetry.specs.declared.motion.Motion.TheVariants.{HalfTurn}
use Rattle.std.specs.Prelude.{All}
use Rattle.lls_symmetry.specs.Motion.{exchanges}
use Rattle.lls_problem.specs.Solution.{IsSolution}
use Rattle.lls_images.proofs.Everywhere.{imaged}
use Rattle.lls_images.proofs.First.{few_motions, squares, images, first_law}
use Rattle.lls_images.specs.Same.{same_motions, tells_apart, motions}
use Rattle.lls_images.proofs.same.same_motions.Goals as goal

pub loop-motion-preserved : goal.loop-motion-preserved
loop-motion-preserved c =
    c.in_ok-push_same.ensures
    ∙ ap (λ before. before ++ cond (tells_apart c.args.problem.now (get_or motions c.loop-motion.motion-index HalfTurn)) (get_or motions c.loop-motion.motion-index HalfTurn ∷ []) []) c.loop-motion.invariant
    ∙ sym (filter_more (tells_apart c.args.problem.now) motions c.loop-motion.motion-index HalfTurn c.loop-motion-test.true)

pub returns-clause-motions : goal.returns-clause-motions
unfolding same_motions
returns-clause-motions c = c.loop-motion.invariant ∙ ap (filter (tells_apart c.args.problem.now)) (take_all c.loop-motion.motion-index motions c.loop-motion-test.false)

pub returns-clause-images : goal.returns-clause-images
returns-clause-images c = λ history solution.
    subst (All (λ motion. IsSolution c.args.problem.now (imaged c.args.problem.now motion history))) (sym (returns-clause-motions c))
    (images c.args.problem.now c.demands.ensures.kept c.posed.ensures.kept history solution)

pub returns-clause-first : goal.returns-clause-first
returns-clause-first c = first_law c.args.problem.now c.demands.ensures.kept c.posed.ensures.kept

pub returns-in_err-push_same-clause-first : goal.returns-in_err-push_same-clause-first
returns-in_err-push_same-clause-first c = first_law c.args.problem.now c.demands.ensures.kept c.posed.ensures.kept

pub returns-clause-few : goal.returns-clause-few
returns-clause-few c = subst (λ ms. length ms ≤ 7) (sym (returns-clause-motions c)) (few_motions c.args.problem.now)

pub returns-clause-grid : goal.returns-clause-grid
returns-clause-grid c =
    subst (All (λ motion. exchanges motion ≡ true → c.args.problem.now.posed.height ≡ c.args.problem.now.posed.width)) (sym (returns-clause-motions c))
    (squares c.args.problem.now c.demands.ensures.kept c.posed.ensures.kept)
