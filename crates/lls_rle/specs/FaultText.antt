-- The text of each fault: its name, and then its numbers, each after one blank.
use Rattle.std.specs.Prelude.{ℕ, ◌++◌, List, codes, decimal}
use Rattle.lls_rle.specs.declared.rle_fault.RleFault.{RleFault}
use Rattle.lls_rle.specs.declared.rle_fault.RleFault.TheVariants.{NoHeader, BadTag, TooWide, TooHigh, NoEnd}
use Rattle.lls_rle.specs.declared.rle_error.RleError.{RleError}
use Rattle.lls_rle.specs.declared.rle_error.RleError.TheVariants.{Fault, Memory}
use Rattle.lls_rle.specs.declared.pictures_fault.PicturesFault.{PicturesFault}
use Rattle.lls_rle.specs.declared.pictures_fault.PicturesFault.TheVariants.{Picture, TooMany}
use Rattle.lls_rle.specs.declared.pictures_error.PicturesError.{PicturesError}
use Rattle.lls_rle.specs.declared.pictures_error.PicturesError.TheVariants as pictures

abbrev pub rle_fault_text : RleFault → List ℕ
rle_fault_text NoHeader = codes "NoHeader"
rle_fault_text (BadTag line column) = codes "BadTag " ++ decimal line ++ codes " " ++ decimal column
rle_fault_text (TooWide row) = codes "TooWide " ++ decimal row
rle_fault_text (TooHigh row) = codes "TooHigh " ++ decimal row
rle_fault_text NoEnd = codes "NoEnd"

abbrev pub rle_error_text : RleError → List ℕ
rle_error_text (Fault fault) = rle_fault_text fault
rle_error_text Memory = codes "Memory"

abbrev pub pictures_fault_text : PicturesFault → List ℕ
pictures_fault_text (Picture n fault) = codes "Picture " ++ decimal n ++ codes " " ++ rle_fault_text fault
pictures_fault_text (TooMany n) = codes "TooMany " ++ decimal n

abbrev pub pictures_error_text : PicturesError → List ℕ
pictures_error_text (pictures.Fault fault) = pictures_fault_text fault
pictures_error_text pictures.Memory = codes "Memory"
