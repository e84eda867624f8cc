use Rattle.std.proofs.Common.{FitsSigned, w32, to_z, of_z, to_z-of_z, ◌≡◌, ◌+◌, ◌∙◌, false, length, ap, sym, arith}
use Rattle.lls_rule.specs.Rule.{background}
use Rattle.lls_symmetry.specs.Moved.{moved_pairs_of}
use Rattle.lls_problem.specs.Unlike.{differ}
use Rattle.lls_problem.proofs.Lost.{differ-by_test}
use Rattle.lls_problem.proofs.Shorter.{shift_fits}
use Rattle.lls_encode.specs.Formula.{has_other_background, pairs_of}
use Rattle.lls_encode.proofs.Pairs.{early_in, late_in, pairs_few, pairs_made}
use Rattle.lls_encode.proofs.Parted.{unseen_made, unseen_vars-pairs}
use Rattle.lls_encode.proofs.Steps.{on_ok}
use Rattle.lls_encode.proofs.exact.push_unseen.Goals as goal
use Rattle.lls_encode.proofs.exact.push_unseen.Goals.{After-deref}

-- the pairs that were made
pairs_are : (c : After-deref) → c.deref.result.now ≡ pairs_of c.args.problem.now c.args.part
pairs_are c =
    let p = c.args.problem.now in
    let part = c.args.part in
    let height = ap (λ f. f.height) (c.posed.view_is ∙ c.posed-posed.ensures.value) in
    let width = ap (λ f. f.width) (c.posed.view_is ∙ c.posed-posed.ensures.value) in
    let fits_x : FitsSigned w32 part.dx = shift_fits part.dx c.requires.period.columns in
    let fits_y : FitsSigned w32 part.dy = shift_fits part.dy c.requires.period.rows in
    let column : to_z w32 (of_z w32 part.dx) ≡ part.dx = rw to_z-of_z in
    let row : to_z w32 (of_z w32 part.dy) ≡ part.dy = rw to_z-of_z in
    c.deref.ensures.value ∙ c.in_ok-pairs.ensures.pairs
    ∙ ap (λ x. moved_pairs_of (part.length + 1) c.posed.inside.height c.posed.inside.width part.length x (to_z w32 (of_z w32 part.dy))) column
    ∙ ap (λ y. moved_pairs_of (part.length + 1) c.posed.inside.height c.posed.inside.width part.length part.dx y) row
    ∙ ap (λ h. moved_pairs_of (part.length + 1) h c.posed.inside.width part.length part.dx part.dy) height
    ∙ ap (λ w. moved_pairs_of (part.length + 1) p.posed.height w part.length part.dx part.dy) width
    ∙ pairs_made p.posed.height p.posed.width part.length part.dx part.dy

-- the background is the same
same : (c : After-deref) → has_other_background c.args.problem.now c.args.part ≡ false
same c =
    let early = c.background.ensures ∙ ap (λ rule. background rule 0) c.rule-rule.ensures in
    let late = c.background-2.ensures ∙ ap (λ rule. background rule c.args.part.length) c.rule-rule.ensures in
    ap (λ value. differ value (background c.args.problem.now.rule c.args.part.length)) (sym early) ∙ ap (differ c.background.result) (sym late)
    ∙ differ-by_test c.background.result c.background-2.result false c.if-background.false

pub push_unequal_pairs-requires-clause-early : goal.push_unequal_pairs-requires-clause-early
push_unequal_pairs-requires-clause-early c = early_in c.args.problem.now c.args.part c.deref.result.now c.requires.shorter (pairs_are c)

pub push_unequal_pairs-requires-clause-late : goal.push_unequal_pairs-requires-clause-late
push_unequal_pairs-requires-clause-late c = late_in c.args.problem.now c.args.part c.deref.result.now c.requires.shorter (pairs_are c)

pub push_unequal_pairs-requires-clause-few : goal.push_unequal_pairs-requires-clause-few
push_unequal_pairs-requires-clause-few c = omega (arith, ap length (pairs_are c), pairs_few c.args.problem.now c.args.part c.posed-posed.ensures.kept)

pub push_unequal_pairs-requires-clause-most : goal.push_unequal_pairs-requires-clause-most
push_unequal_pairs-requires-clause-most c =
    omega (arith, unseen_vars-pairs c.args.problem.now c.args.part c.deref.result.now (pairs_are c) (same c), c.requires.most)

pub returns : goal.returns
returns c =
    let at = (goal.at.returns c).After-deref in
    on_ok c.push_unequal_pairs.result _ _ (unseen_made c.args.problem.now c.args.formula.now c.push_unequal_pairs.new.formula c.args.part c.deref.result.now (pairs_are at) (same at)) c.push_unequal_pairs.ensures
