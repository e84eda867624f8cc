use Rattle.std.proofs.Common.{◌≡◌, ◌<◌, ◌+◌, ◌*◌, ◌^◌, length}
use Rattle.std.specs.Prelude.{IfSome}
use Rattle.lls_text.specs.Lines.{lines_of}
use Rattle.lls_rle.specs.Reader.{IsReader, total}
use Rattle.lls_rle.specs.Album.{IsAlbum, column_in, row_in}
use Rattle.lls_rle.specs.Pictures.{Pictures, lines_pictured, pictures_of}
use Rattle.lls_rle.proofs.pictures.read_pictures.Given as goal

-- the lines so far, and those that are left
abbrev pub invariant-loop-line : goal.invariant-loop-line
invariant-loop-line l = record {
  height : l.album.height ≡ l.fn.height;
  width : l.album.width ≡ l.fn.width;
  kept : IfSome l.album.begun IsReader;
  count : l.number + length l.line-iterator ≡ length (lines_of l.bytes);
  row : row_in l.album.begun + 999999 * total l.line-iterator < 2 ^ 62;
  column : column_in l.album.begun + 999999 * total l.line-iterator < 2 ^ 62;
  pictures : (pictures : Pictures) × IsAlbum l.album pictures × (lines_pictured l.fn.height l.fn.width (l.number + 1) l.line-iterator pictures ≡ pictures_of l.fn.height l.fn.width l.bytes);
}
