use Rattle.lls_rle.proofs.Painting.{items_from-live}
use Rattle.lls_rle.proofs.reader.Reader.take_run.Goals as goal

pub returns-in_ok-paint-in-Live-clause-ok : goal.returns-in_ok-paint-in-Live-clause-ok
returns-in_ok-paint-in-Live-clause-ok c =
    let told = rw c.from-count.ensures at c.in_ok-paint-in-Live.ensures in
    rw (c.in-Live.is, c.from-count.ensures) (items_from-live c.args.self.now c.paint.new.self c.args.count told.misfit told.cells told.same)
