-- What the bytes of inputs make: a problem is made of just its parts, and a refusal is one that the bytes decide.
use Rattle.std.proofs.Common.{◌<◌, ◌≡◌, ◌≤◌, length, ℕ, Bool, true, false, List, Option, None, Some, Result, Ok, Err, refl, ap, subst, arith, ◌∙◌}
use Rattle.std.specs.Prelude.{if◌then◌else◌, nat_lt}
use Rattle.std.proofs.lemmas.Bool.{le-ltb}
use Rattle.std.proofs.lemmas.Bool.Decides.{nat_tests}
use Rattle.lls_base.specs.Results.{and_then}
use Rattle.lls_lit.specs.Formula.{Cnf}
use Rattle.lls_cnf.specs.declared.dimacs_fault.DimacsFault.{DimacsFault}
use Rattle.lls_cnf.specs.Dimacs.{dimacs}
use Rattle.lls_grid.specs.History.{History}
use Rattle.lls_grid.specs.Evolution.{evolution}
use Rattle.lls_rle.specs.declared.rle_fault.RleFault.{RleFault}
use Rattle.lls_rle.specs.Reading.{rle_of}
use Rattle.lls_search_file.specs.declared.posed_fault.PosedFault.{PosedFault}
use Rattle.lls_search_file.specs.declared.history_fault.HistoryFault.{HistoryFault}
use Rattle.lls_search_file.specs.declared.history_fault.HistoryFault.TheVariants as plain
use Rattle.lls_rle.specs.declared.pictures_fault.PicturesFault.{PicturesFault}
use Rattle.lls_rle.specs.Pictures.{pictures_of}
use Rattle.lls_search_file.specs.declared.list_fault.ListFault.{ListFault}
use Rattle.lls_search_file.specs.Posed.{PosedFile}
use Rattle.lls_search_file.specs.Reading.{posed_of}
use Rattle.lls_search_file.specs.Plain.{plain_of}
use Rattle.lls_search_file.specs.Listing.{list_of}
use Rattle.lls_problem.specs.declared.demands.Demands.{Demands}
use Rattle.lls_problem.specs.declared.demands.DemandError.{DemandError}
use Rattle.lls_problem.specs.Problem.{Pattern, PosedProblem, but, with_listed, problem_made, unless, square_fault, generation_fault, bound_fault, period_fault, counter_fault}
use Rattle.lls_cli.specs.declared.fault.Fault.{Fault}
use Rattle.lls_cli.specs.declared.fault.Fault.TheVariants as faults
use Rattle.lls_search_file.specs.declared.posed_fault.PosedFault.TheVariants.{TooManyCells}
use Rattle.lls_problem.specs.declared.demands.DemandError.TheVariants.{Counters}
use Rattle.lls_problem.specs.Bounds.{most_counters}
use Rattle.lls_least.specs.Bounded.{counters_with_one_more}
use Rattle.lls_answers.specs.Subject.{most_open_cells}
use Rattle.lls_cli.specs.Question.{with_few_cells, with_room, posed_in, demanded, problem_in, formula_read, formula_in, plain_in, picture_read, pattern_in, list_read, pictures_read, list_in}
use Rattle.lls_cli.proofs.Stopped.{IsContent}

demanded_fault : (made : Result PosedProblem DemandError) (fault : Fault) → demanded made ≡ Err fault → IsContent fault
demanded_fault (Ok problem) fault is = absurd cc
demanded_fault (Err error) fault is = let same : faults.Demands error ≡ fault = cc in subst IsContent same tt

posed_fault : (posed : Result PosedFile PosedFault) (make : PosedFile → Result PosedProblem DemandError) (fault : Fault)
    → and_then (posed_in posed) (λ file. demanded (make file)) ≡ Err fault → IsContent fault
posed_fault (Ok file) make fault is = demanded_fault (make file) fault is
posed_fault (Err error) make fault is = let same : faults.Posed error ≡ fault = cc in subst IsContent same tt

pub problem_in-content : (rule : List Bool) (demands : Demands) (bytes : List ℕ) (fault : Fault) → problem_in rule demands bytes ≡ Err fault → IsContent fault
problem_in-content rule demands bytes fault is = posed_fault (posed_of bytes) (λ file. problem_made file rule demands) fault is

formula_fault : (read : Result Cnf DimacsFault) (fault : Fault) → formula_read read ≡ Err fault → IsContent fault
formula_fault (Ok formula) fault is = absurd cc
formula_fault (Err error) fault is = let same : faults.Dimacs error ≡ fault = cc in subst IsContent same tt

pub formula_in-content : (bytes : List ℕ) (fault : Fault) → formula_in bytes ≡ Err fault → IsContent fault
formula_in-content bytes fault is = formula_fault (dimacs bytes) fault is

plain_fault : (read : Result History HistoryFault) (fault : Fault) → plain_in read ≡ Err fault → IsContent fault
plain_fault (Ok history) fault is = absurd cc
plain_fault (Err (plain.Text error)) fault is = let same : faults.Posed error ≡ fault = cc in subst IsContent same tt
plain_fault (Err (plain.NotPlain t y x)) fault is = let same : faults.NotPlain t y x ≡ fault = cc in subst IsContent same tt

picture_fault : (read : Result History RleFault) (more : History → History) (fault : Fault) → and_then (picture_read read) (λ first. Ok (more first)) ≡ Err fault → IsContent fault
picture_fault (Ok first) more fault is = absurd cc
picture_fault (Err error) more fault is = let same : faults.Rle error ≡ fault = cc in subst IsContent same tt

pub pattern_in-content : (rle : Bool) (problem : PosedProblem) (bytes : List ℕ) (fault : Fault) → pattern_in rle problem bytes ≡ Err fault → IsContent fault
pattern_in-content true problem bytes fault is = picture_fault (rle_of problem.posed.height problem.posed.width bytes) (evolution problem.rule problem.posed.generations) fault is
pattern_in-content false problem bytes fault is = plain_fault (plain_of bytes) fault is

list_fault : (read : Result (List Pattern) ListFault) (problem : PosedProblem) (fault : Fault) → and_then (list_read read) (λ patterns. Ok (but problem patterns)) ≡ Err fault → IsContent fault
list_fault (Ok patterns) problem fault is = absurd cc
list_fault (Err error) problem fault is = let same : faults.List error ≡ fault = cc in subst IsContent same tt

pictures_fault : (read : Result (List Pattern) PicturesFault) (problem : PosedProblem) (fault : Fault) → and_then (pictures_read read) (λ patterns. Ok (but problem patterns)) ≡ Err fault → IsContent fault
pictures_fault (Ok patterns) problem fault is = absurd cc
pictures_fault (Err error) problem fault is = let same : faults.Pictures error ≡ fault = cc in subst IsContent same tt

pub list_in-content : (rle : Bool) (problem : PosedProblem) (bytes : List ℕ) (fault : Fault) → and_then (list_in rle problem bytes) (λ patterns. Ok (but problem patterns)) ≡ Err fault → IsContent fault
list_in-content true problem bytes fault is = pictures_fault (pictures_of problem.posed.height problem.posed.width bytes) problem fault is
list_in-content false problem bytes fault is = list_fault (list_of problem.posed.height problem.posed.width bytes) problem fault is

unless-ok : {X : Type 0} (fault : Option DemandError) (result : Result X DemandError) (x : X) → unless fault result ≡ Ok x → result ≡ Ok x
unless-ok None result x is = is
unless-ok (Some fault) result x is = absurd cc

-- a problem is made of just these
pub made_is : (posed : PosedFile) (rule : List Bool) (demands : Demands) (problem : PosedProblem) → problem_made posed rule demands ≡ Ok problem
    → problem ≡ record { posed = posed; rule = rule; demands = demands }
made_is posed rule demands problem is =
    let made : Ok (record { posed = posed; rule = rule; demands = demands }) ≡ Ok problem =
    unless-ok (counter_fault posed demands) _ problem (unless-ok (period_fault posed demands) _ problem (unless-ok (bound_fault posed demands) _ problem
    (unless-ok (generation_fault posed demands) _ problem (unless-ok (square_fault posed demands) _ problem is)))) in
    cc

pub made_rule : (posed : PosedFile) (rule : List Bool) (demands : Demands) (problem : PosedProblem) → problem_made posed rule demands ≡ Ok problem → problem.rule ≡ rule
made_rule posed rule demands problem is = ap (λ (p : PosedProblem). p.rule) (made_is posed rule demands problem is)

-- the patterns of a list aren't looked at
no_fault : {X : Type 0} (fault : Option DemandError) (result other : Result X DemandError) (x : X) → unless fault result ≡ Ok x → unless fault other ≡ other
no_fault None result other x is = refl
no_fault (Some fault) result other x is = absurd cc

pub made_without_list : (posed : PosedFile) (rule : List Bool) (demands : Demands) (patterns : List Pattern) (problem : PosedProblem) → problem_made posed rule (with_listed demands patterns) ≡ Ok problem
    → problem_made posed rule demands ≡ Ok (record { posed = posed; rule = rule; demands = demands })
made_without_list posed rule demands patterns problem is =
    let square = square_fault posed demands in
    let generation = generation_fault posed demands in
    let bound = bound_fault posed demands in
    let period = period_fault posed demands in
    let counter = counter_fault posed demands in
    let one = unless-ok square _ problem is in
    let two = unless-ok generation _ problem one in
    let three = unless-ok bound _ problem two in
    let four = unless-ok period _ problem three in
    no_fault square _ _ problem is ∙ (no_fault generation _ _ problem one ∙ (no_fault bound _ _ problem two ∙ (no_fault period _ _ problem three ∙ no_fault counter _ _ problem four)))

-- a problem that passes a test is as it is
pub few_cells-ok : (problem : PosedProblem) → length problem.posed.cells ≤ most_open_cells → with_few_cells problem ≡ Ok problem
few_cells-ok problem few =
    ap (λ test. if test then Err (faults.Posed (TooManyCells (length problem.posed.cells))) else Ok problem) (le-ltb most_open_cells (length problem.posed.cells) few)

pub room-failed : (problem : PosedProblem) → most_counters < counters_with_one_more problem → with_room problem ≡ Err (faults.Demands (Counters (counters_with_one_more problem)))
room-failed problem more =
    let over : nat_lt most_counters (counters_with_one_more problem) ≡ true = less most_counters (counters_with_one_more problem) more in
    ap (λ test. if test then Err (faults.Demands (Counters (counters_with_one_more problem))) else Ok problem) over where
      less : (a b : ℕ) → a < b → nat_lt a b ≡ true
      less a b lt = grind (arith, nat_tests)

pub room-ok : (problem : PosedProblem) → counters_with_one_more problem ≤ most_counters → with_room problem ≡ Ok problem
room-ok problem room =
    ap (λ test. if test then Err (faults.Demands (Counters (counters_with_one_more problem))) else Ok problem) (le-ltb most_counters (counters_with_one_more problem) room)
