use Rattle.std.proofs.Common.{◌≡◌, ◌+◌, length}
use Rattle.lls_text.specs.Lines.{lines_of}
use Rattle.lls_search_file.specs.Listing.{lines_listed, list_of, IsListing}
use Rattle.lls_search_file.specs.Lister.{listing_of}
use Rattle.lls_search_file.proofs.list.read_list.Given as goal

-- the lines so far, and those that are left
abbrev pub invariant-loop-line : goal.invariant-loop-line
invariant-loop-line l = record {
  kept : IsListing l.fn.height l.fn.width (listing_of l.lister);
  height : l.lister.height ≡ l.fn.height;
  width : l.lister.width ≡ l.fn.width;
  count : l.number + length l.line-iterator ≡ length (lines_of l.bytes);
  lines : lines_listed l.fn.height l.fn.width (l.number + 1) l.line-iterator (listing_of l.lister) ≡ list_of l.fn.height l.fn.width l.bytes;
}
