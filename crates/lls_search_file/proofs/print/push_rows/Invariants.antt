use Rattle.std.proofs.Common.{◌≡◌, ◌++◌, ◌-◌, ◌*◌, true, length, map}
use Rattle.std.specs.List.{list_all}
use Rattle.lls_grid.specs.Chunks.{chunked}
use Rattle.lls_grid.specs.Text.{rows_text}
use Rattle.lls_search_file.specs.Kept.{is_named_within}
use Rattle.lls_search_file.specs.Printing.{word_text}
use Rattle.lls_search_file.proofs.print.push_rows.Given as goal

abbrev pub invariant-rows : goal.invariant-rows
invariant-rows l = record {
  text : l.text.items ++ rows_text (map (map (word_text l.names)) (chunked l.width (l.height - l.counter) l.rest)) ≡ l.fn.text.items ++ rows_text (map (map (word_text l.names)) (chunked l.width l.height l.cells));
  named : list_all (is_named_within (length l.names)) l.rest ≡ true;
  count : length l.rest ≡ l.width * (l.height - l.counter);
}
