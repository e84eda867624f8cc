use Rattle.std.proofs.Common.{◌∙◌, sym}
use Rattle.lls_rle.proofs.Counts.{IsCount-part_of}
use Rattle.lls_rle.proofs.reader.Reader.take.Goals as goal

pub returns-in-Count-None-clause-kept : goal.returns-in-Count-None-clause-kept
returns-in-Count-None-clause-kept c = record {
  height = c.requires.kept.height;
  width = c.requires.kept.width;
  cell_each = c.requires.kept.cell_each;
  count = IsCount-part_of c.args.token.text.now c.in-Count-None.count (sym c.part_of.ensures ∙ c.in-Count-None.is-0);
}
