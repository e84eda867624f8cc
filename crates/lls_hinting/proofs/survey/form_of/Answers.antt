use Rattle.std.proofs.Common.{◌∙◌, ap}
use Rattle.lls_base.specs.Shelf.{known_files, known_rest}
use Rattle.lls_drat.specs.Form.{recognised}
use Rattle.lls_hinting.specs.Place.{StartSays}
use Rattle.lls_hinting.specs.Steps.{IsForm, IsOpened}
use Rattle.lls_hinting.proofs.Forms.{told_form}
use Rattle.lls_hinting.proofs.Stopping.{reads_both}
use Rattle.lls_hinting.proofs.survey.form_of.Goals as goal

pub returns : goal.returns
returns g c =
    let files = known_files (g.S.Shelf.told c.args.shelf.now) in
    let rest = known_rest (g.S.Shelf.told c.open.new.shelf) in
    let start = c.read_start.new.start.items in
    record {
      read = reads_both (IsOpened files c.args.name.now rest) (StartSays 10 rest start) (IsForm files c.args.name.now c.args.given) tt tt c.recognise.result _ _ _
          c.in_ok-open.ensures.read c.in_ok-read_start.ensures.read
          (told_form files c.args.name.now c.args.given rest start c.recognise.result c.in_default.is (c.recognise.ensures ∙ ap recognised c.deref.ensures.value));
    }
