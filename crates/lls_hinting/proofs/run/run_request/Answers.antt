use Rattle.std.proofs.Common.{◌≡◌, Ok, subst}
use Rattle.std.specs.FinMap as map
use Rattle.std.specs.Io.KnownBytes.{append_known}
use Rattle.std.specs.Option.{option_map}
use Rattle.lls_base.specs.Shelf.{Files, known_files}
use Rattle.lls_outside.specs.Moment.{sink_at}
use Rattle.lls_hinting.specs.Outcome.{RequestComesTo}
use Rattle.lls_hinting.specs.declared.outcome.Hints.{Hints}
use Rattle.lls_hinting.specs.declared.outcome.Outcome.{Outcome}
use Rattle.lls_hinting.proofs.Leaving.{leaves_hints}
use Rattle.lls_hinting.proofs.Telling.{fault_told}
use Rattle.lls_hinting.proofs.run.run_request.Goals as goal

pub returns-in-Ok-Hinted-clause-done : goal.returns-in-Ok-Hinted-clause-done
returns-in-Ok-Hinted-clause-done g c = λ is.
    let before = known_files (g.S.Shelf.told c.args.shelf.now) in
    let mid = known_files (g.S.Shelf.told c.outcome_of.new.shelf) in
    let after = known_files (g.S.Shelf.told c.give_hints.new.shelf) in
    let read = c.in-Ok-Hinted.ensures in
    let comes = subst (λ (o : Outcome). RequestComesTo c.args.request.now before (Ok o)) c.in-Ok-Hinted.field-0-is read.ok.0 in
    let written = subst (λ (h : Hints). after ≡ option_map (λ (files : Files). map.insert files c.args.request.now.output h.bytes.items) mid) c.in-Ok-Hinted.hints-is (c.give_hints.ensures.done is) in
    let said = subst (λ (h : Hints). g.O.Sink.written c.give_hints.new.out ≡ append_known (g.O.Sink.written c.args.out.now) h.text.items) c.in-Ok-Hinted.hints-is (c.give_hints.ensures.said is) in
    leaves_hints c.args.request.now c.in-Ok-Hinted.hints (sink_at g.O.Sink c.args.out.now) (sink_at g.O.Sink c.give_hints.new.out) before mid after comes read.files written said

pub returns-in-Err-clause-error : goal.returns-in-Err-clause-error
returns-in-Err-clause-error g c = λ content.
    fault_told c.args.request.now (known_files (g.S.Shelf.told c.args.shelf.now)) c.in-Err.fault c.refuse.result _ _ _ _ c.in-Err.ensures.err c.refuse.ensures content
