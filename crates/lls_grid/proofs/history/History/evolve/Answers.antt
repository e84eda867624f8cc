use Rattle.std.proofs.Common.{◌≡◌, ◌∙◌, ◌<◌, ◌≤◌, ◌+◌, ◌-◌, ℕ, [], ap, arith, sym, subst, length, take, take_all, length-take}
use Rattle.std.proofs.lemmas.List.{get_or-take}
use Rattle.lls_grid.specs.History.{rows_at, History, height_of, width_of}
use Rattle.lls_grid.specs.Changes.{successors}
use Rattle.lls_grid.specs.Evolution.{grown, evolution}
use Rattle.lls_grid.proofs.Growth.{HasSizes-stepped, take-stepped, grown-begins, grown-goes_on}
use Rattle.lls_grid.proofs.history.History.evolve.Goals as goal

pub loop-t-init : goal.loop-t-init
unfolding grown
loop-t-init c = record { sizes = c.in_ok-history.ensures.sizes; so_far = c.in_ok-history.ensures.begins }

pub loop-t-preserved : goal.loop-t-preserved
loop-t-preserved c =
    let first = c.args.first.now in
    let sizes = c.loop-t.invariant.sizes in
    let some : 0 < c.args.generations = omega (arith, c.requires.generations) in
    let rows : 0 < height_of first = omega (arith, c.in_ok-history.ensures.kept.height) in
    let within : c.loop-t.t + 1 < length c.loop-t.history = omega (arith, sizes.0, c.loop-t-test.true) in
    record {
      sizes = rw c.step.ensures (HasSizes-stepped c.args.generations (height_of first) (width_of first) c.args.rule.now c.loop-t.history c.loop-t.t sizes some rows);
      so_far = ap (take (c.loop-t.t + 1 + 1)) c.step.ensures ∙ take-stepped c.args.rule.now (take 1 first) c.loop-t.history c.loop-t.t within c.loop-t.invariant.so_far;
    }

pub returns-clause-history : goal.returns-clause-history
returns-clause-history c =
    let at : c.loop-t.t ≡ c.args.generations - 1 = omega (arith, c.loop-t-test.false, c.loop-t.auto.t-end) in
    let all : length c.loop-t.history ≤ c.loop-t.t + 1 = omega (arith, c.loop-t.invariant.sizes.0, at) in
    sym (take_all (c.loop-t.t + 1) c.loop-t.history all) ∙ (c.loop-t.invariant.so_far ∙ ap (λ t. grown c.args.rule.now t (take 1 c.args.first.now)) at)

pub returns-clause-begins : goal.returns-clause-begins
returns-clause-begins c =
    let first = c.args.first.now in
    let one : length (take 1 first) ≡ 1 = omega (arith, length-take 1 first, c.in_ok-history.ensures.kept.generations) in
    let is : c.loop-t.history ≡ evolution c.args.rule.now c.args.generations first = returns-clause-history c in
    ap (λ history. rows_at history 0) is ∙ (grown-begins c.args.rule.now (c.args.generations - 1) (take 1 first) (omega (arith, one)) ∙ get_or-take 1 first 0 [] (omega arith))

pub returns-clause-goes_on : goal.returns-clause-goes_on
returns-clause-goes_on c =
    let first = c.args.first.now in
    let one : length (take 1 first) ≡ 1 = omega (arith, length-take 1 first, c.in_ok-history.ensures.kept.generations) in
    let is : evolution c.args.rule.now c.args.generations first ≡ c.loop-t.history = sym (returns-clause-history c) in
    let Goes : History → Type 0 = λ history. (t : ℕ) → t + 1 < c.args.generations → rows_at history (t + 1) ≡ successors c.args.rule.now history t in
    subst Goes is (λ t within. grown-goes_on c.args.rule.now (c.args.generations - 1) (take 1 first) t (omega (arith, one)) (omega (arith, one)) (omega (arith, one, within)))
