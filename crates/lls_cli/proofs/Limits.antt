-- The constants of the code are the limits of the definitions.
use Rattle.std.proofs.Common.{◌≡◌, refl}
use Rattle.lls_cnf.specs.declared.read.TheConstants.{MOST_DIMACS_BYTES}
use Rattle.lls_gen.specs.Made as made
use Rattle.lls_open.specs.declared.transition.TheConstants.{MOST_OPEN_CELLS}
use Rattle.lls_solver.specs.declared.solving.TheConstants as solving
use Rattle.lls_words.specs.Values.{most_budget, most_size}
use Rattle.lls_cli.specs.declared.input.TheConstants.{SEARCH_LIMIT, PROOF_LIMIT, LIST_LIMIT}
use Rattle.lls_cli.specs.Limits.{AreLimits}
use Rattle.lls_cli.specs.Question.{search_limit, proof_limit, formula_limit, list_limit}
use Rattle.lls_answers.specs.Subject.{most_open_cells}

pub search_limit-is : SEARCH_LIMIT ≡ search_limit
search_limit-is = refl

pub proof_limit-is : PROOF_LIMIT ≡ proof_limit
proof_limit-is = refl

pub formula_limit-is : MOST_DIMACS_BYTES ≡ formula_limit
formula_limit-is = refl

pub list_limit-is : LIST_LIMIT ≡ list_limit
list_limit-is = refl

pub most_open_cells-is : MOST_OPEN_CELLS ≡ most_open_cells
most_open_cells-is = refl

-- the greatest budget of the words is the one that the solver takes
pub most_budget-is : solving.MOST_BUDGET ≡ most_budget
most_budget-is = refl

-- the greatest size of the words is the one that the maker of problems takes
pub most_size-is : made.most_size ≡ most_size
most_size-is = refl

pub limits : AreLimits
limits = record {
  generations = refl;
  height = refl;
  width = refl;
  cells = refl;
  name = refl;
  variables = refl;
  clauses = refl;
  digits = refl;
  digits_more = refl;
  ids = refl;
  shift = refl;
  period = refl;
  bound = refl;
  counters = refl;
  budget = refl;
  search_file = refl;
  proof = refl;
  formula = refl;
  list = refl;
  patterns = refl;
  rle_header = λ line. refl;
}
