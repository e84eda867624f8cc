use Rattle.std.proofs.Common.{◌≡◌, ◌*◌, map, take, drop}
use Rattle.lls_grid.specs.Chunks.{chunked}
use Rattle.lls_grid.specs.Text.{text_of}
use Rattle.lls_search_file.specs.Printing.{word_text}
use Rattle.lls_search_file.proofs.print.print_posed.Given as goal

abbrev pub invariant-loop-t : goal.invariant-loop-t
invariant-loop-t l =
    let file = l.posed-inside in
    let generations = chunked file.height file.generations (chunked file.width (file.height * file.generations) (map (word_text file.names) file.cells)) in
    record {
      text : l.text.items ≡ text_of (take l.t generations);
      rest : l.rest ≡ drop (file.width * (file.height * l.t)) file.cells;
    }
