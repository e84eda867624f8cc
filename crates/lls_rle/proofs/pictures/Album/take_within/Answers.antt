use Rattle.std.proofs.Common.{◌≡◌, ◌*◌, [], ◌∷◌, ◌++◌, ◌∙◌, ap, length, refl}
use Rattle.std.specs.Prelude.{Ok}
use Rattle.lls_rle.specs.Items.{items_of}
use Rattle.lls_rle.specs.Picture.{pictured}
use Rattle.lls_rle.specs.Reader.{painted}
use Rattle.lls_rle.specs.Reading.{tokens_of_line}
use Rattle.lls_rle.proofs.Albums.{HasRead-more, ends_now, is_at_fault, takes_more, takes_ended, takes_fault}
use Rattle.lls_rle.proofs.pictures.Album.take_within.Goals as goal

pub returns-in_ok-push-in-Ok-true-clause-taken : goal.returns-in_ok-push-in-Ok-true-clause-taken
returns-in_ok-push-in-Ok-true-clause-taken c = λ pictures tokens ended room h.
    let height = c.args.self.now.height in
    let width = c.args.self.now.width in
    let reader = c.take_line.new.self in
    let line = tokens_of_line c.args.number c.args.line.now in
    let told = rw c.in-Ok-true.field-0-test at c.in-Ok-true.ensures in
    let high : reader.height ≡ height = told.sizes.0 ∙ h.sizes.0 in
    let wide : reader.width ≡ width = told.sizes.1 ∙ h.sizes.1 in
    let count : length reader.cells.items ≡ width * height = told.kept.cell_each ∙ ap (λ w. w * reader.height) wide ∙ ap (λ h. width * h) high in
    let said : pictured height width (items_of (tokens ++ line)) ≡ Ok (painted height width reader.cells.items []) =
    ends_now height width tokens line c.args.reader _ h told.answer ∙ ap (λ h. Ok (painted h reader.width reader.cells.items [])) high ∙ ap (λ w. Ok (painted height w reader.cells.items [])) wide in
    takes_ended _ pictures (tokens ++ line) c.args.self.now.ended.items reader.cells.items c.requires.none ended room
    (c.in_ok-push-in-Ok-true.ensures.items ∙ ap (λ cells. c.args.self.now.ended.items ++ cells ∷ []) (c.new.ensures ∙ c.into_cells.ensures)) count said

pub returns-in-Ok-false-clause-taken : goal.returns-in-Ok-false-clause-taken
returns-in-Ok-false-clause-taken c = λ pictures tokens ended room h.
    let line = tokens_of_line c.args.number c.args.line.now in
    let told = rw c.in-Ok-false.field-0-test at c.in-Ok-false.ensures in
    let after = HasRead-more c.args.self.now.height c.args.self.now.width tokens line c.args.reader c.take_line.new.self h told.answer told.kept told.sizes in
    takes_more _ pictures (tokens ++ line) c.take_line.new.self refl ended room after

pub returns-in-Err-clause-taken : goal.returns-in-Err-clause-taken
returns-in-Err-clause-taken c = λ pictures tokens ended room h.
    let line = tokens_of_line c.args.number c.args.line.now in
    takes_fault c.args.self.now pictures _ c.unread.result c.in-Err.fault (length c.args.self.now.ended.items) (ap length ended.same) c.unread.ensures
    (is_at_fault c.args.self.now.height c.args.self.now.width tokens line c.args.reader pictures c.in-Err.fault h c.in-Err.ensures.answer)
