-- What a proof with hints leaves.
use Rattle.std.proofs.Common.{◌≡◌, Option, None, Some, Ok, refl, ap, ◌∙◌}
use Rattle.std.specs.FinMap as map
use Rattle.std.specs.Option.{option_map}
use Rattle.std.specs.Io.KnownBytes.{append_known}
use Rattle.lls_base.specs.Shelf.{Files}
use Rattle.lls_hinting.specs.declared.request.Request.{Request}
use Rattle.lls_hinting.specs.declared.outcome.Hints.{Hints}
use Rattle.lls_hinting.specs.declared.outcome.Outcome.TheVariants.{Hinted}
use Rattle.lls_outside.specs.Moment.{SinkMoment}
use Rattle.lls_hinting.specs.Outcome.{RequestComesTo}
use Rattle.lls_hinting.specs.Ends.{LeavesHints}

pub leaves_hints : (request : Request) (hints : Hints) (out_before out_after : SinkMoment) (before mid after : Option Files) → RequestComesTo request before (Ok (Hinted hints)) → mid ≡ before
    → after ≡ option_map (λ files. map.insert files request.output hints.bytes.items) mid → out_after.written ≡ append_known out_before.written hints.text.items → LeavesHints out_before out_after (Ok request) before after
leaves_hints request hints out_before out_after None mid after comes same written said = tt
leaves_hints request hints out_before out_after (Some files) mid after comes same written said = (
  map.insert files request.output hints.bytes.items,
  written ∙ ap (option_map (λ (fs : Files). map.insert fs request.output hints.bytes.items)) same,
  record { asked = comes.0; asked_is = comes.1; bytes = hints.bytes.items; text = hints.text.items; hinted = comes.2; files = refl; said = said },
)
