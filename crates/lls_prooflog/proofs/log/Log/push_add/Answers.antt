use Rattle.std.proofs.Common.{◌≡◌, ◌+◌, ◌∷◌, ◌++◌, [], List, length, refl, ap, arith}
use Rattle.std.specs.Prelude.{ℤ}
use Rattle.std.proofs.lemmas.List.{length-append}
use Rattle.lls_prooflog.specs.declared.log.Head.{Head}
use Rattle.lls_prooflog.specs.declared.log.Head.TheVariants as heads
use Rattle.lls_prooflog.specs.declared.step.Step.TheVariants.{Add}
use Rattle.lls_prooflog.specs.Log.{Logged, HasSpare}
use Rattle.lls_prooflog.specs.Heads.{step_at}
use Rattle.lls_prooflog.proofs.Pieces.{begins_more, last_piece, last_span}
use Rattle.lls_prooflog.proofs.Logged.{ids_same, laid-push, steps_in-push}
use Rattle.lls_prooflog.proofs.log.Log.push_add.Goals as goal

pub invariant_of-self : goal.invariant_of-self
invariant_of-self c =
    let m = c.self.inside in
    let xs = c.args.lits.now in
    let ys = c.args.hints.now in
    let lits = m.lits.items in
    let new = c.push.new.self in
    let spare : HasSpare (record { steps = []; spare_steps = m.spare_steps; spare_lits = m.spare_lits; spare_hints = m.spare_hints }) 1 (length xs) (length ys) = record {
      steps_fit = rw (ap (λ (t : Logged). t.spare_steps) c.self.view_is) c.requires.spare.steps_fit;
      lits_fit = rw (ap (λ (t : Logged). t.spare_lits) c.self.view_is) c.requires.spare.lits_fit;
      hints_fit = rw (ap (λ (t : Logged). t.spare_hints) c.self.view_is) c.requires.spare.hints_fit;
    } in
    let head : Head = heads.Add c.args.id (record { from = length lits; to = length lits + length xs }) c.push.result in
    let at : step_at (lits ++ xs) new m.ids head ≡ Add c.args.id xs ys = rw (last_piece lits xs, c.push.ensures.hints) refl in
    let laid = laid-push lits (lits ++ xs) m.hints new m.ids m.ids (begins_more lits xs) (record { narrow = c.push.ensures.narrow; wide = c.push.ensures.wide }) (ids_same m.ids) m.heads.items head (Add c.args.id xs ys) m.additions (m.additions + 1) c.self.invariant.0
    (last_span lits xs, c.push.ensures.place) at c.requires.in_range refl
    in (
      rw (c.push_reserved.ensures.items, c.filled.ensures.items, c.filled.ensures.span) laid,
      (
        omega (arith, ap (λ (hs : List Head). length hs) c.push_reserved.ensures.items, length-append m.heads.items (heads.Add c.args.id c.filled.result c.push.result ∷ []), c.push_reserved.ensures.capacity, c.self.invariant.1.0, spare.steps_fit),
        (
          omega (arith, ap (λ (ls : List ℤ). length ls) c.filled.ensures.items, length-append lits xs, c.filled.ensures.capacity, c.self.invariant.1.1.0, spare.lits_fit),
          (omega (arith, c.push.ensures.room, c.self.invariant.1.1.1.0), omega (arith, c.self.invariant.1.1.1.1)),
        ),
      ),
    )

pub returns : goal.returns
returns c =
    let m = c.self.inside in
    let xs = c.args.lits.now in
    let ys = c.args.hints.now in
    let lits = m.lits.items in
    let new = c.push.new.self in
    let head : Head = heads.Add c.args.id (record { from = length lits; to = length lits + length xs }) c.push.result in
    let at : step_at (lits ++ xs) new m.ids head ≡ Add c.args.id xs ys = rw (last_piece lits xs, c.push.ensures.hints) refl in
    let pushed = steps_in-push lits (lits ++ xs) m.hints new m.ids m.ids (begins_more lits xs) (record { narrow = c.push.ensures.narrow; wide = c.push.ensures.wide }) (ids_same m.ids) m.heads.items head (Add c.args.id xs ys) c.self.invariant.0.are_heads at in
    rw (c.push_reserved.ensures.items, c.filled.ensures.items, c.filled.ensures.span, pushed, ← c.self.view_is) refl
