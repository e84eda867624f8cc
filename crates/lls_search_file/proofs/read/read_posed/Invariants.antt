use Rattle.std.proofs.Common.{◌≡◌, ◌+◌, [], length}
use Rattle.lls_text.specs.Lines.{lines_of}
use Rattle.lls_search_file.specs.Counted.{lines_taken, no_shape}
use Rattle.lls_search_file.specs.Reader.{counts_of, IsReader}
use Rattle.lls_search_file.proofs.read.read_posed.Given as goal

abbrev pub invariant-loop-line : goal.invariant-loop-line
invariant-loop-line l = record {
  kept : IsReader l.reader;
  count : l.number + length l.line-iterator ≡ length (lines_of l.bytes);
  lines : lines_taken (l.number + 1) l.line-iterator (counts_of l.reader) ≡ lines_taken 1 (lines_of l.bytes) (record { shape = no_shape; words = [] });
}
