use Rattle.std.proofs.Common.{◌<◌, ◌+◌, length, refl, arith}
use Rattle.lls_outside.specs.Moment.{rest_at, shelf_at}
use Rattle.lls_hinting.specs.Place.{FillSays, PieceSays, place_at}
use Rattle.lls_hinting.proofs.ReadingPieces.{filled}
use Rattle.lls_hinting.proofs.Stopping.{reads_value}
use Rattle.lls_hinting.proofs.proof_file.ProofFile.fill.Goals as goal

pub returns-clause-read : goal.returns-clause-read
returns-clause-read g c =
    let count = c.in_ok-count.count in
    let piece = c.read_piece.new.piece in
    let before = place_at c.args.self.now (rest_at (shelf_at g.S.Shelf c.args.shelf.now)) in
    let after = place_at (record { reader = c.put.new.self; taken = c.args.self.now.taken + count }) (rest_at (shelf_at g.S.Shelf c.read_piece.new.shelf)) in
    let room : 0 < length piece = omega arith in
    reads_value (PieceSays before.taken piece before.rest after.rest) (FillSays before after) count count _ _
    (λ read. filled before after piece count read (λ more. c.in_ok-put.ensures.before more) refl (omega (arith, c.in_ok-count.ensures.within, c.read_piece.auto.piece)) room)
    c.in_ok-count.ensures.read
