use Rattle.std.proofs.Common.{◌≡◌, ◌<◌, length, ap, sym, ◌∙◌, Some, arith}
use Rattle.std.specs.Prelude.{slice_get}
use Rattle.std.proofs.lemmas.Option.{slice_get-get_or}
use Rattle.lls_prooflog.specs.Range.{IsInRange}
use Rattle.lls_prooflog.specs.Heads.{steps_in, step_at}
use Rattle.lls_prooflog.specs.Log.{Logged, step_of_ref}
use Rattle.lls_prooflog.proofs.Logged.{All-at, length-steps_in, slice_get-steps_in}
use Rattle.lls_prooflog.proofs.log.Log.lend.Goals as goal

pub returns-clause-in_range : goal.returns-clause-in_range
returns-clause-in_range c =
    let m = c.self.inside in
    let within : c.args.k < length m.heads.items = omega (arith, c.requires, ap (λ (t : Logged). length t.steps) c.self.view_is, length-steps_in m.lits.items m.hints m.ids m.heads.items) in
    let at : slice_get m.heads.items c.args.k ≡ Some c.index.result.now = slice_get-get_or m.heads.items c.args.k c.index.result.now within ∙ ap Some (sym c.index.ensures) in
    let same : step_at m.lits.items m.hints m.ids c.index.result.now ≡ step_of_ref c.cut.result = rw (← c.deref.ensures.value) (sym c.cut.ensures) in
    All-at IsInRange (steps_in m.lits.items m.hints m.ids m.heads.items) c.args.k (step_of_ref c.cut.result) c.self.invariant.0.in_range
    (slice_get-steps_in m.lits.items m.hints m.ids m.heads.items c.args.k c.index.result.now at ∙ ap Some same)
