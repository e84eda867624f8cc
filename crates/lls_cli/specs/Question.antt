-- What a task asks, once its inputs are read, and the first refusal where they ask nothing. This file alone knows the
-- order of refusals: the first input, its length, its grammar and its demands; then the list of a problem, its length and its grammar; then the
-- last input, its length and its grammar.
use Rattle.std.specs.Prelude.{◌≡◌, ◌≤◌, ℕ, nat_lt, Bool, true, false, List, length, Option, None, Some, Result, Ok, Err, if◌then◌else◌}
use Rattle.std.specs.FinMap as map
use Rattle.lls_base.specs.Results.{and_then}
use Rattle.lls_base.specs.Shelf.{Files}
use Rattle.lls_lit.specs.Formula.{Cnf}
use Rattle.lls_cnf.specs.declared.dimacs_fault.DimacsFault.{DimacsFault}
use Rattle.lls_cnf.specs.Dimacs.{dimacs}
use Rattle.lls_grid.specs.History.{History}
use Rattle.lls_grid.specs.Evolution.{evolution}
use Rattle.lls_rle.specs.declared.rle_fault.RleFault.{RleFault}
use Rattle.lls_rle.specs.Reading.{rle_of}
use Rattle.lls_rle.specs.declared.pictures_fault.PicturesFault.{PicturesFault}
use Rattle.lls_rle.specs.Pictures.{pictures_of}
use Rattle.lls_search_file.specs.declared.posed_fault.PosedFault.{PosedFault}
use Rattle.lls_search_file.specs.declared.posed_fault.PosedFault.TheVariants.{TooManyCells}
use Rattle.lls_search_file.specs.declared.history_fault.HistoryFault.{HistoryFault}
use Rattle.lls_search_file.specs.declared.history_fault.HistoryFault.TheVariants as plain
use Rattle.lls_search_file.specs.Posed.{PosedFile}
use Rattle.lls_search_file.specs.Reading.{posed_of}
use Rattle.lls_search_file.specs.Plain.{plain_of}
use Rattle.lls_problem.specs.declared.demands.Demands.{Demands}
use Rattle.lls_problem.specs.declared.demands.DemandError.{DemandError}
use Rattle.lls_problem.specs.declared.demands.DemandError.TheVariants.{Counters}
use Rattle.lls_problem.specs.Bounds.{most_counters}
use Rattle.lls_problem.specs.Problem.{Pattern, PosedProblem, but, problem_made}
use Rattle.lls_least.specs.Bounded.{counters_with_one_more}
use Rattle.lls_answers.specs.Subject.{Subject, asked_with, opened_with, most_open_cells}
use Rattle.lls_answers.specs.Subject as subjects
use Rattle.lls_search_file.specs.declared.list_fault.ListFault.{ListFault}
use Rattle.lls_search_file.specs.Listing.{list_of}
use Rattle.lls_words.specs.declared.problem_source.ListSource.{ListSource}
use Rattle.lls_words.specs.declared.problem_source.ProblemSource.{ProblemSource}
use Rattle.lls_cli.specs.declared.task.Source.{Source}
use Rattle.lls_cli.specs.declared.task.Source.TheVariants as sources
use Rattle.lls_cli.specs.declared.task.Task.{Task}
use Rattle.lls_cli.specs.declared.task.Task.TheVariants as tasks
use Rattle.lls_answers.specs.Questions.{Question}
use Rattle.lls_answers.specs.Questions as questions
use Rattle.lls_cli.specs.declared.fault.Fault.{Fault}
use Rattle.lls_cli.specs.declared.fault.Fault.TheVariants as faults
use Rattle.lls_cli.specs.declared.fault.OutsideFault.TheVariants as outside

-- how many bytes an input has at most: a search file or a pattern; a proof; a formula; a list of patterns
abbrev pub search_limit : ℕ
search_limit = 1048576

abbrev pub proof_limit : ℕ
proof_limit = 1073741824

abbrev pub formula_limit : ℕ
formula_limit = 536870912

abbrev pub list_limit : ℕ
list_limit = 16777216

-- the bytes of an input of at most `limit` bytes
abbrev pub input_from : ℕ → Option (List ℕ) → Result (List ℕ) Fault
input_from limit None = Err (faults.Outside outside.NoFile)
input_from limit (Some bytes) = if nat_lt limit (length bytes) then Err (faults.TooLong limit) else Ok bytes

abbrev pub input_of : Files → List ℕ → ℕ → Result (List ℕ) Fault
input_of files name limit = input_from limit (map.get files name)

-- the file that is posed
abbrev pub posed_in : Result PosedFile PosedFault → Result PosedFile Fault
posed_in (Ok posed) = Ok posed
posed_in (Err fault) = Err (faults.Posed fault)

-- the problem that the demands make of it
abbrev pub demanded : Result PosedProblem DemandError → Result PosedProblem Fault
demanded (Ok problem) = Ok problem
demanded (Err error) = Err (faults.Demands error)

-- the problem that the bytes of a search file pose
abbrev pub problem_in : List Bool → Demands → List ℕ → Result PosedProblem Fault
problem_in rule demands bytes = and_then (posed_in (posed_of bytes)) (λ posed. demanded (problem_made posed rule demands))

-- the problem, where there is room for a counter of all cells of a generation besides those of its bounds
abbrev pub with_room : PosedProblem → Result PosedProblem Fault
with_room problem =
    if nat_lt most_counters (counters_with_one_more problem) then Err (faults.Demands (Counters (counters_with_one_more problem))) else Ok problem

-- the problem, where it has no more
abbrev pub with_few_cells : PosedProblem → Result PosedProblem Fault
with_few_cells problem =
    if nat_lt most_open_cells (length problem.posed.cells) then Err (faults.Posed (TooManyCells (length problem.posed.cells))) else Ok problem

-- the history of a pattern's bytes
abbrev pub plain_in : Result History HistoryFault → Result History Fault
plain_in (Ok history) = Ok history
plain_in (Err (plain.Text fault)) = Err (faults.Posed fault)
plain_in (Err (plain.NotPlain t y x)) = Err (faults.NotPlain t y x)

abbrev pub history_in : List ℕ → Result History Fault
history_in bytes = plain_in (plain_of bytes)

-- the first generation that a picture says
abbrev pub picture_read : Result History RleFault → Result History Fault
picture_read (Ok first) = Ok first
picture_read (Err fault) = Err (faults.Rle fault)

-- the history of a problem's sizes that a picture begins, and that goes on by the problem's rule
abbrev pub pictured_in : PosedProblem → List ℕ → Result History Fault
pictured_in problem bytes =
    and_then (picture_read (rle_of problem.posed.height problem.posed.width bytes)) (λ first. Ok (evolution problem.rule problem.posed.generations first))

-- the history of a pattern's bytes: a picture of its first generation, or all rows
abbrev pub pattern_in : Bool → PosedProblem → List ℕ → Result History Fault
pattern_in true problem bytes = pictured_in problem bytes
pattern_in false problem bytes = history_in bytes

-- the formula that the bytes of a formula's file write
abbrev pub formula_read : Result Cnf DimacsFault → Result Cnf Fault
formula_read (Ok formula) = Ok formula
formula_read (Err fault) = Err (faults.Dimacs fault)

abbrev pub formula_in : List ℕ → Result Cnf Fault
formula_in bytes = formula_read (dimacs bytes)

-- the patterns that a list says by rows, or by pictures
abbrev pub list_read : Result (List Pattern) ListFault → Result (List Pattern) Fault
list_read (Ok patterns) = Ok patterns
list_read (Err fault) = Err (faults.List fault)

abbrev pub pictures_read : Result (List Pattern) PicturesFault → Result (List Pattern) Fault
pictures_read (Ok patterns) = Ok patterns
pictures_read (Err fault) = Err (faults.Pictures fault)

-- the patterns of a list's bytes, each of the problem's rows and columns
abbrev pub list_in : Bool → PosedProblem → List ℕ → Result (List Pattern) Fault
list_in true problem bytes = pictures_read (pictures_of problem.posed.height problem.posed.width bytes)
list_in false problem bytes = list_read (list_of problem.posed.height problem.posed.width bytes)

-- what is asked of inputs that are read one after another: what they came to; or one more input, by its name and with at most so many bytes, and
-- what is asked then by what was read of it
pub data Asking (X : Type 0) : Type 0 where
  come_to : Result X Fault → Asking X
  reading : List ℕ → ℕ → (Result (List ℕ) Fault → Asking X) → Asking X

-- what is asked behind what others came to
abbrev pub and_ask : {X Y : Type 0} → Asking X → (X → Asking Y) → Asking Y
and_ask (come_to (Ok x)) next = next x
and_ask (come_to (Err fault)) next = come_to (Err fault)
and_ask (reading name limit more) next = reading name limit (λ input. and_ask (more input) next)

-- one input, and what its bytes make
abbrev pub made_of : {X : Type 0} → List ℕ → ℕ → (List ℕ → Result X Fault) → Asking X
made_of name limit make = reading name limit (λ input. come_to (and_then input make))

-- the problem, with the patterns of its list where it has one
abbrev pub listed_by : Option ListSource → PosedProblem → Asking PosedProblem
listed_by None problem = come_to (Ok problem)
listed_by (Some list) problem = made_of list.file list_limit (λ bytes. and_then (list_in list.rle problem bytes) (λ patterns. Ok (but problem patterns)))

-- the problem of a search file, where it passes a test; behind that its list is read
abbrev pub bare_problem : ProblemSource → Asking PosedProblem
bare_problem source = made_of source.file search_limit (problem_in source.rule source.demands)

abbrev pub problem_asked : (PosedProblem → Result PosedProblem Fault) → ProblemSource → Asking PosedProblem
problem_asked test source = and_ask (bare_problem source) (λ problem. and_ask (come_to (test problem)) (listed_by source.but))

-- what a check or a search is about
abbrev pub subject_asked : Source → Asking Subject
subject_asked (sources.Problem source formulation) = and_ask (problem_asked Ok source) (λ problem. come_to (Ok (subjects.Problem (asked_with formulation problem))))
subject_asked (sources.Rules source high form) = and_ask (problem_asked with_few_cells source) (λ problem. come_to (Ok (subjects.Rules (opened_with high form problem))))
subject_asked (sources.Formula name) = and_ask (made_of name formula_limit formula_in) (λ formula. come_to (Ok (subjects.Formula formula)))

-- what a task asks
abbrev pub asking_of : Task → Asking Question
asking_of (tasks.Check source proof) = and_ask (subject_asked source) (λ subject. made_of proof proof_limit (λ bytes. Ok (questions.Check subject bytes)))
asking_of (tasks.Search source effort further) = and_ask (subject_asked source) (λ subject. come_to (Ok (questions.Search subject effort further.rle)))
asking_of (tasks.Judge source pattern rle) =
    and_ask (problem_asked Ok source) (λ problem. and_ask (made_of pattern search_limit (pattern_in rle problem)) (λ history. come_to (Ok (questions.Judge problem history))))
asking_of (tasks.Encode source) = and_ask (subject_asked source) (λ subject. come_to (Ok (questions.Encode subject)))
asking_of (tasks.Print rule) = come_to (Ok (questions.Print rule))
asking_of (tasks.Make seed size file effort) = come_to (Ok (questions.Make seed size file effort))
asking_of (tasks.Extremal extreme source formulation effort further) =
    and_ask (problem_asked with_room source) (λ problem. come_to (Ok (questions.Extremal extreme (asked_with formulation problem) effort further.rle)))
asking_of (tasks.Trim formula proof output) = and_ask (made_of formula formula_limit formula_in) (λ cnf. made_of proof proof_limit (λ bytes. Ok (questions.Trim cnf bytes output)))

-- what inputs come to, where each is read so, by its name and its limit
abbrev pub came_to : {X : Type 0} → (List ℕ → ℕ → Result (List ℕ) Fault) → Asking X → Result X Fault
came_to read (come_to result) = result
came_to read (reading name limit more) = came_to read (more (read name limit))

-- what a task asks of these files, or the first refusal
abbrev pub question_of : Task → Files → Result Question Fault
question_of task files = came_to (input_of files) (asking_of task)

-- what an input can be read as, whatever its file says
abbrev pub CanBeRead : ℕ → Result (List ℕ) Fault → Type 0
CanBeRead limit (Ok bytes) = length bytes ≤ limit
CanBeRead limit (Err (faults.Outside outside.NoFile)) = Unit {0}
CanBeRead limit (Err (faults.TooLong n)) = n ≡ limit
CanBeRead limit (Err fault) = ⊥

-- what an input was read as: what its file says, where the shelf tells it
abbrev pub IsInput : Option Files → List ℕ → ℕ → Result (List ℕ) Fault → Type 0
IsInput None name limit read = CanBeRead limit read
IsInput (Some files) name limit read = read ≡ input_of files name limit

-- what inputs come to that are those of the files, where the shelf tells them
abbrev pub AsksBy : {X : Type 0} → Option Files → Asking X → Result X Fault → Type 0
AsksBy files (come_to result) value = value ≡ result
AsksBy files (reading name limit more) value = (input : Result (List ℕ) Fault) × IsInput files name limit input × AsksBy files (more input) value

abbrev pub Asks : Task → Option Files → Result Question Fault → Type 0
Asks task files question = AsksBy files (asking_of task) question
