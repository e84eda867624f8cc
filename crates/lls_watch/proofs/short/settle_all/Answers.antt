use Rattle.std.proofs.Common.{◌∷◌, [], zero, suc, ◌≡◌, ℕ, ◌<◌, Some, refl, sym, ap, subst, length, List, arith}
use Rattle.std.specs.Prelude.{slice_get, slice_index_or}
use Rattle.lls_store.specs.Trail.{TrailState}
use Rattle.lls_store.proofs.Passes.{GoesOn-further, GoesOn-same}
use Rattle.lls_watch.specs.Passed.{live_from}
use Rattle.lls_watch.specs.Short.{AreSatisfied, IsShort}
use Rattle.lls_watch.proofs.Shorts.{satisfied_grown, satisfied_one}
use Rattle.lls_watch.proofs.short.settle_all.Goals as goal

get_at : (xs : List ℕ) (k : ℕ) → k < length xs → slice_get xs k ≡ Some (slice_index_or xs k 0)
get_at [] k within = absurd (omega (arith, within))
get_at (x ∷ xs) zero within = refl
get_at (x ∷ xs) (suc k) within = get_at xs k (omega (arith, within))

pub loop-k-init : goal.loop-k-init
loop-k-init c = (GoesOn-same c.args.trail.now, c.requires.sound, c.requires.before)

pub settle-requires-clause-there : goal.settle-requires-clause-there
settle-requires-clause-there c = c.requires.there c.loop-k.k 0 c.loop-k-test.true

pub settle-requires-clause-short : goal.settle-requires-clause-short
settle-requires-clause-short c =
    let vars : c.loop-k.trail.vars ≡ c.args.trail.now.vars = ap (λ (t : TrailState). t.vars) c.loop-k.invariant.0.grown in
    subst (λ v. IsShort (live_from 0 c.args.arena.now.heads) v (slice_index_or c.args.clauses.now c.loop-k.k 0)) (sym vars)
    (c.requires.short c.loop-k.k 0 c.loop-k-test.true)

pub settle-requires-clause-sound : goal.settle-requires-clause-sound
settle-requires-clause-sound c = c.loop-k.invariant.1

pub returns-then-not-settle-clause-conflict : goal.returns-then-not-settle-clause-conflict
returns-then-not-settle-clause-conflict c = c.settle.ensures.conflict c.if-not-settle.true

pub returns-then-not-settle-clause-grown : goal.returns-then-not-settle-clause-grown
returns-then-not-settle-clause-grown c = GoesOn-further c.args.trail.now c.loop-k.trail c.settle.new.trail c.loop-k.invariant.0 c.settle.ensures.grown

pub loop-k-preserved : goal.loop-k-preserved
loop-k-preserved c = (
  GoesOn-further c.args.trail.now c.loop-k.trail c.settle.new.trail c.loop-k.invariant.0 c.settle.ensures.grown,
  c.settle.ensures.sound,
  satisfied_one (live_from 0 c.args.arena.now.heads) c.settle.new.trail.entries c.args.clauses.now c.loop-k.k (slice_index_or c.args.clauses.now c.loop-k.k 0) (get_at c.args.clauses.now c.loop-k.k c.loop-k-test.true)
      (c.settle.ensures.satisfied c.if-not-settle.false) (satisfied_grown (live_from 0 c.args.arena.now.heads) c.loop-k.trail c.settle.new.trail c.args.clauses.now c.loop-k.k c.settle.ensures.grown c.loop-k.invariant.2),
)

pub returns-clause-satisfied : goal.returns-clause-satisfied
returns-clause-satisfied c =
    let end : c.loop-k.k ≡ length c.args.clauses.now = omega (arith, c.loop-k.auto.k-end c.requires.from, c.loop-k-test.false) in
    subst (AreSatisfied (live_from 0 c.args.arena.now.heads) c.loop-k.trail.entries c.args.clauses.now) end c.loop-k.invariant.2

pub returns-clause-grown : goal.returns-clause-grown
returns-clause-grown c = c.loop-k.invariant.0

pub returns-clause-sound : goal.returns-clause-sound
returns-clause-sound c = c.loop-k.invariant.1
