-- For private contracts alone: what the reader of a search file has, as the lines so far have given it.
use Rattle.lls_search_file.specs.declared.read.Reader as code
use Rattle.lls_search_file.specs.Counted.{Counts}
use Rattle.lls_search_file.specs.Kept.{IsKept, texts, words_in}

abbrev pub counts_of : code.Reader → Counts
counts_of reader = record { shape = reader.shape; words = words_in (texts reader.names.keys) reader.cells.items }

abbrev pub IsReader : code.Reader → Type 0
IsReader reader = IsKept reader.shape (texts reader.names.keys) reader.cells.items
