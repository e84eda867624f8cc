use Rattle.std.proofs.Common.{◌≡◌, ◌+◌, ◌∷◌, [], List, length, refl, ap, arith}
use Rattle.std.proofs.lemmas.List.{length-append}
use Rattle.lls_prooflog.specs.declared.log.Head.{Head}
use Rattle.lls_prooflog.specs.declared.log.Head.TheVariants as heads
use Rattle.lls_prooflog.specs.declared.step.Step.TheVariants.{Del}
use Rattle.lls_prooflog.specs.Log.{Logged, HasSpare}
use Rattle.lls_prooflog.specs.Heads.{step_at}
use Rattle.lls_prooflog.proofs.Pieces.{begins_same}
use Rattle.lls_prooflog.proofs.Logged.{hints_same, laid-push, steps_in-push}
use Rattle.lls_prooflog.proofs.log.Log.push_del.Goals as goal

pub invariant_of-self : goal.invariant_of-self
invariant_of-self c =
    let m = c.self.inside in
    let xs = c.args.ids.now in
    let lits = m.lits.items in
    let new = c.push.new.self in
    let spare : HasSpare (record { steps = []; spare_steps = m.spare_steps; spare_lits = m.spare_lits; spare_hints = m.spare_hints }) 1 0 (length xs) = record {
      steps_fit = rw (ap (λ (t : Logged). t.spare_steps) c.self.view_is) c.requires.spare.steps_fit;
      lits_fit = rw (ap (λ (t : Logged). t.spare_lits) c.self.view_is) c.requires.spare.lits_fit;
      hints_fit = rw (ap (λ (t : Logged). t.spare_hints) c.self.view_is) c.requires.spare.hints_fit;
    } in
    let head : Head = heads.Del c.push.result in
    let at : step_at lits m.hints new head ≡ Del xs = rw c.push.ensures.ids refl in
    let none : m.additions ≡ m.additions + 0 = omega arith in
    let laid = laid-push lits lits m.hints m.hints m.ids new (begins_same lits) (hints_same m.hints) (record { narrow = c.push.ensures.narrow; wide = c.push.ensures.wide }) m.heads.items head (Del xs) m.additions m.additions c.self.invariant.0
    c.push.ensures.place at c.requires.in_range none
    in (
      rw c.push_reserved.ensures.items laid,
      (
        omega (arith, ap (λ (hs : List Head). length hs) c.push_reserved.ensures.items, length-append m.heads.items (head ∷ []), c.push_reserved.ensures.capacity, c.self.invariant.1.0, spare.steps_fit),
        (c.self.invariant.1.1.0, (omega (arith, c.self.invariant.1.1.1.0), omega (arith, c.push.ensures.room, c.self.invariant.1.1.1.1))),
      ),
    )

pub returns : goal.returns
returns c =
    let m = c.self.inside in
    let xs = c.args.ids.now in
    let lits = m.lits.items in
    let new = c.push.new.self in
    let head : Head = heads.Del c.push.result in
    let at : step_at lits m.hints new head ≡ Del xs = rw c.push.ensures.ids refl in
    let pushed = steps_in-push lits lits m.hints m.hints m.ids new (begins_same lits) (hints_same m.hints) (record { narrow = c.push.ensures.narrow; wide = c.push.ensures.wide }) m.heads.items head (Del xs) c.self.invariant.0.are_heads at in
    rw (c.push_reserved.ensures.items, pushed, ← c.self.view_is) refl
