-- Search files that are histories: dead and live cells alone, without marks.
use Rattle.std.specs.Prelude.{ℕ, ◌*◌, ◌/◌, ◌%◌, Bool, true, false, not, if◌then◌else◌, List, map, Option, None, Some, Result, Ok, Err}
use Rattle.std.specs.List.{position}
use Rattle.lls_grid.specs.History.{History, folded}
use Rattle.lls_search_file.specs.declared.cell.Cell.{Cell}
use Rattle.lls_search_file.specs.declared.cell.Kind.{Kind}
use Rattle.lls_search_file.specs.declared.cell.Kind.TheVariants.{Dead, Live, Free, Named, Negated}
use Rattle.lls_search_file.specs.declared.posed_fault.PosedFault.{PosedFault}
use Rattle.lls_search_file.specs.declared.posed_error.PosedError.{PosedError}
use Rattle.lls_search_file.specs.declared.posed_error.PosedError.TheVariants as posed
use Rattle.lls_search_file.specs.declared.history_fault.HistoryFault.{HistoryFault}
use Rattle.lls_search_file.specs.declared.history_fault.HistoryFault.TheVariants.{Text, NotPlain}
use Rattle.lls_search_file.specs.declared.history_error.HistoryError.{HistoryError}
use Rattle.lls_search_file.specs.declared.history_error.HistoryError.TheVariants as history
use Rattle.lls_search_file.specs.Posed.{PosedFile}
use Rattle.lls_search_file.specs.Reading.{posed_of}

abbrev pub is_live : Kind → Bool
is_live Dead = false
is_live Live = true
is_live Free = false
is_live (Named n) = false
is_live (Negated n) = false

-- dead or live
abbrev pub is_fixed : Kind → Bool
is_fixed Dead = true
is_fixed Live = true
is_fixed Free = false
is_fixed (Named n) = false
is_fixed (Negated n) = false

abbrev pub is_plain : Cell → Bool
is_plain cell = if cell.mark then false else is_fixed cell.kind

-- the generation, the row and the column of a place in the order of cells
abbrev pub not_plain : PosedFile → ℕ → HistoryFault
not_plain file index = NotPlain (index / (file.width * file.height)) (index / file.width % file.height) (index % file.width)

-- the history of a file whose cells are all plain, or the first cell that isn't
abbrev pub history_or : PosedFile → Option ℕ → Result History HistoryFault
history_or file None = Ok (folded file.generations file.height file.width (map (λ cell. is_live cell.kind) file.cells))
history_or file (Some index) = Err (not_plain file index)

abbrev pub plain_file : PosedFile → Result History HistoryFault
plain_file file = history_or file (position (λ cell. not (is_plain cell)) file.cells)

-- the history of a text
abbrev pub plain_read : Result PosedFile PosedFault → Result History HistoryFault
plain_read (Ok file) = plain_file file
plain_read (Err fault) = Err (Text fault)

abbrev pub plain_of : List ℕ → Result History HistoryFault
plain_of bytes = plain_read (posed_of bytes)

-- how a history isn't read where its search file isn't
abbrev pub history_error : PosedError → HistoryError
history_error (posed.Fault fault) = history.Fault (Text fault)
history_error posed.Memory = history.Memory
