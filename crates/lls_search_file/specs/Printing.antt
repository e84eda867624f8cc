-- The text of a posed file.
use Rattle.std.specs.Prelude.{ℕ, ◌*◌, codes, if◌then◌else◌, List, [], ◌∷◌, ◌++◌, map, slice_index_or}
use Rattle.lls_grid.specs.Chunks.{chunked}
use Rattle.lls_grid.specs.Text.{text_of}
use Rattle.lls_search_file.specs.declared.cell.Cell.{Cell}
use Rattle.lls_search_file.specs.declared.cell.Kind.{Kind}
use Rattle.lls_search_file.specs.declared.cell.Kind.TheVariants.{Dead, Live, Free, Named, Negated}
use Rattle.lls_search_file.specs.Posed.{PosedFile}
use Rattle.lls_search_file.specs.Words.{minus_byte, mark_byte}

-- `0`, `1`, `*`, a name, or `-` and a name
abbrev pub body_text : List (List ℕ) → Kind → List ℕ
body_text names Dead = codes "0"
body_text names Live = codes "1"
body_text names Free = codes "*"
body_text names (Named n) = slice_index_or names n []
body_text names (Negated n) = minus_byte ∷ slice_index_or names n []

-- a marked cell has a `'` behind
abbrev pub word_text : List (List ℕ) → Cell → List ℕ
word_text names cell = if cell.mark then body_text names cell.kind ++ mark_byte ∷ [] else body_text names cell.kind

-- words separated by one blank, rows ended by LF, generations separated by one empty line
abbrev pub posed_text : PosedFile → List ℕ
posed_text file = text_of (chunked file.height file.generations (chunked file.width (file.height * file.generations) (map (word_text file.names) file.cells)))
