-- The text of a fault on the standard error, and its status. Every line begins with the program's name and ends with LF.
use Rattle.std.specs.Prelude.{ℕ, List, ◌++◌, codes, decimal, if◌then◌else◌}
use Rattle.lls_search_file.specs.declared.posed_fault.PosedFault.{PosedFault}
use Rattle.lls_words.specs.declared.error.WordsError.{WordsError}
use Rattle.lls_words.specs.declared.error.WordsError.TheVariants as words
use Rattle.lls_words.specs.Texts.{words_error_text}
use Rattle.lls_search_file.specs.declared.list_fault.ListFault.{ListFault}
use Rattle.lls_search_file.specs.declared.list_fault.ListFault.TheVariants as lists
use Rattle.lls_search_file.specs.FaultText.{is_limit, list_fault_text, posed_fault_text}
use Rattle.lls_cnf.specs.declared.dimacs_fault.DimacsFault.{DimacsFault}
use Rattle.lls_cnf.specs.declared.dimacs_fault.DimacsFault.TheVariants as dimacs
use Rattle.lls_cnf.specs.FaultText.{dimacs_fault_text}
use Rattle.lls_problem.specs.declared.demands.DemandError.{DemandError}
use Rattle.lls_problem.specs.declared.demands.DemandError.TheVariants as demands
use Rattle.lls_problem.specs.Texts.{demand_error_text}
use Rattle.lls_rle.specs.declared.pictures_fault.PicturesFault.{PicturesFault}
use Rattle.lls_rle.specs.declared.pictures_fault.PicturesFault.TheVariants as pictures
use Rattle.lls_rle.specs.FaultText.{pictures_fault_text, rle_fault_text}
use Rattle.lls_cli.specs.declared.fault.Fault.{Fault}
use Rattle.lls_cli.specs.declared.fault.Fault.TheVariants as faults
use Rattle.lls_cli.specs.declared.fault.OutsideFault.{OutsideFault}
use Rattle.lls_cli.specs.declared.fault.OutsideFault.TheVariants as outside
use Rattle.lls_answers.specs.declared.status.Status.{Status}
use Rattle.lls_answers.specs.declared.status.Status.TheVariants as statuses

-- a size that passes its limit is no fault of grammar
abbrev pub posed_status : PosedFault → Status
posed_status fault = if is_limit fault then statuses.Limit else statuses.Content

-- the counters of bounds pass a limit; any other demand is at odds with the file
abbrev pub demand_status : DemandError → Status
demand_status (demands.Counters n) = statuses.Limit
demand_status error = statuses.Content

-- too many variables pass a limit; any other fault is one of grammar
abbrev pub dimacs_status : DimacsFault → Status
dimacs_status (dimacs.TooManyVariables n) = statuses.Limit
dimacs_status fault = statuses.Content

-- too many patterns pass a limit; any other fault of a list is one of grammar or of a size
abbrev pub list_status : ListFault → Status
list_status (lists.TooMany n) = statuses.Limit
list_status fault = statuses.Content

abbrev pub pictures_status : PicturesFault → Status
pictures_status (pictures.TooMany n) = statuses.Limit
pictures_status fault = statuses.Content

abbrev pub words_status : WordsError → Status
words_status words.Memory = statuses.Memory
words_status error = statuses.Words

-- a picture that doesn't fit the grid is content: its grid is the problem's
abbrev pub status_of : Fault → Status
status_of (faults.Words error) = words_status error
status_of (faults.Posed fault) = posed_status fault
status_of (faults.Demands error) = demand_status error
status_of (faults.Dimacs fault) = dimacs_status fault
status_of (faults.NotPlain t y x) = statuses.Content
status_of (faults.Rle fault) = statuses.Content
status_of (faults.List fault) = list_status fault
status_of (faults.Pictures fault) = pictures_status fault
status_of (faults.Outside fault) = statuses.Outside
status_of (faults.TooLong limit) = statuses.Limit
status_of faults.Memory = statuses.Memory

-- what a demand that doesn't fit is called
abbrev pub demand_kind : DemandError → List ℕ
demand_kind (demands.Counters n) = codes "limit: "
demand_kind error = codes "content: "

-- and a text that is no formula
abbrev pub dimacs_kind : DimacsFault → List ℕ
dimacs_kind (dimacs.TooManyVariables n) = codes "limit: "
dimacs_kind fault = codes "content: "

-- and a text that is no list
abbrev pub list_kind : ListFault → List ℕ
list_kind (lists.TooMany n) = codes "limit: "
list_kind fault = codes "content: "

abbrev pub pictures_kind : PicturesFault → List ℕ
pictures_kind (pictures.TooMany n) = codes "limit: "
pictures_kind fault = codes "content: "

abbrev pub outside_text : OutsideFault → List ℕ
outside_text outside.NoFile = codes "NoFile"
outside_text outside.OpenFailed = codes "OpenFailed"
outside_text outside.ReadFailed = codes "ReadFailed"
outside_text outside.CreateFailed = codes "CreateFailed"
outside_text outside.WriteFailed = codes "WriteFailed"
outside_text outside.OutFailed = codes "OutFailed"

-- the kind of a fault and its text
abbrev pub fault_text : Fault → List ℕ
fault_text (faults.Words error) = codes "words: " ++ words_error_text error
fault_text (faults.Posed fault) = (if is_limit fault then codes "limit: " else codes "content: ") ++ posed_fault_text fault
fault_text (faults.Demands error) = demand_kind error ++ demand_error_text error
fault_text (faults.Dimacs fault) = dimacs_kind fault ++ dimacs_fault_text fault
fault_text (faults.NotPlain t y x) = codes "content: NotPlain " ++ decimal t ++ codes " " ++ decimal y ++ codes " " ++ decimal x
fault_text (faults.Rle fault) = codes "content: " ++ rle_fault_text fault
fault_text (faults.List fault) = list_kind fault ++ codes "List" ++ list_fault_text fault
fault_text (faults.Pictures fault) = pictures_kind fault ++ codes "List" ++ pictures_fault_text fault
fault_text (faults.Outside fault) = codes "outside: " ++ outside_text fault
fault_text (faults.TooLong limit) = codes "limit: TooLong " ++ decimal limit
fault_text faults.Memory = codes "memory"

abbrev pub fault_line : Fault → List ℕ
fault_line fault = codes "lls: " ++ fault_text fault ++ codes "\n"

-- the fault of words that are no command line
abbrev pub words_fault : WordsError → Fault
words_fault words.Memory = faults.Memory
words_fault error = faults.Words error
