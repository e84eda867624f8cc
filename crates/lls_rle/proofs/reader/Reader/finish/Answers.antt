use Rattle.std.proofs.Common.{◌∙◌, sym}
use Rattle.lls_rle.proofs.Painting.{painted-none}
use Rattle.lls_rle.proofs.reader.Reader.finish.Goals as goal

pub returns : goal.returns
returns c = c.from_cells.ensures ∙ sym (painted-none c.args.self.height c.args.self.width c.args.self.cells.items)
