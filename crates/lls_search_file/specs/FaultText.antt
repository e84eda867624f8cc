-- The text of each fault: its name, and then its numbers, each after one blank.
use Rattle.std.specs.Prelude.{ℕ, ◌++◌, Bool, true, false, List, codes, decimal}
use Rattle.lls_search_file.specs.declared.posed_fault.PosedFault.{PosedFault}
use Rattle.lls_search_file.specs.declared.posed_fault.PosedFault.TheVariants.{Empty, BadCell, Ragged, Sizes, TooWide, TooHigh, TooMany, TooManyCells, NotAscii}
use Rattle.lls_search_file.specs.declared.posed_error.PosedError.{PosedError}
use Rattle.lls_search_file.specs.declared.posed_error.PosedError.TheVariants as posed
use Rattle.lls_search_file.specs.declared.history_fault.HistoryFault.{HistoryFault}
use Rattle.lls_search_file.specs.declared.history_fault.HistoryFault.TheVariants.{Text, NotPlain}
use Rattle.lls_search_file.specs.declared.history_error.HistoryError.{HistoryError}
use Rattle.lls_search_file.specs.declared.history_error.HistoryError.TheVariants as history
use Rattle.lls_search_file.specs.declared.list_fault.ListFault.{ListFault}
use Rattle.lls_search_file.specs.declared.list_fault.ListFault.TheVariants as list
use Rattle.lls_search_file.specs.declared.list_error.ListError.{ListError}
use Rattle.lls_search_file.specs.declared.list_error.ListError.TheVariants as lists

abbrev pub posed_fault_text : PosedFault → List ℕ
posed_fault_text Empty = codes "Empty"
posed_fault_text (BadCell line column) = codes "BadCell " ++ decimal line ++ codes " " ++ decimal column
posed_fault_text (Ragged line expected found) = codes "Ragged " ++ decimal line ++ codes " " ++ decimal expected ++ codes " " ++ decimal found
posed_fault_text (Sizes generation expected found) = codes "Sizes " ++ decimal generation ++ codes " " ++ decimal expected ++ codes " " ++ decimal found
posed_fault_text (TooWide n) = codes "TooWide " ++ decimal n
posed_fault_text (TooHigh n) = codes "TooHigh " ++ decimal n
posed_fault_text (TooMany n) = codes "TooMany " ++ decimal n
posed_fault_text (TooManyCells n) = codes "TooManyCells " ++ decimal n
posed_fault_text (NotAscii line column) = codes "NotAscii " ++ decimal line ++ codes " " ++ decimal column

abbrev pub posed_error_text : PosedError → List ℕ
posed_error_text (posed.Fault fault) = posed_fault_text fault
posed_error_text posed.Memory = codes "Memory"

-- a fault of the text is printed alone
abbrev pub history_fault_text : HistoryFault → List ℕ
history_fault_text (Text fault) = posed_fault_text fault
history_fault_text (NotPlain t y x) = codes "NotPlain " ++ decimal t ++ codes " " ++ decimal y ++ codes " " ++ decimal x

abbrev pub history_error_text : HistoryError → List ℕ
history_error_text (history.Fault fault) = history_fault_text fault
history_error_text history.Memory = codes "Memory"

abbrev pub list_fault_text : ListFault → List ℕ
list_fault_text (list.Text fault) = posed_fault_text fault
list_fault_text (list.Width line width found) = codes "Width " ++ decimal line ++ codes " " ++ decimal width ++ codes " " ++ decimal found
list_fault_text (list.Height line height found) = codes "Height " ++ decimal line ++ codes " " ++ decimal height ++ codes " " ++ decimal found
list_fault_text (list.NotPlain line cell) = codes "NotPlain " ++ decimal line ++ codes " " ++ decimal cell
list_fault_text (list.TooMany n) = codes "TooMany " ++ decimal n

abbrev pub list_error_text : ListError → List ℕ
list_error_text (lists.Fault fault) = list_fault_text fault
list_error_text lists.Memory = codes "Memory"

-- a size passes its limit
abbrev pub is_limit : PosedFault → Bool
is_limit Empty = false
is_limit (BadCell line column) = false
is_limit (Ragged line expected found) = false
is_limit (Sizes generation expected found) = false
is_limit (TooWide n) = true
is_limit (TooHigh n) = true
is_limit (TooMany n) = true
is_limit (TooManyCells n) = true
is_limit (NotAscii line column) = false
