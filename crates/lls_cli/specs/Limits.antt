-- The limits of which the definitions speak by the names of the code's constants, as numbers.
use Rattle.std.specs.Prelude.{◌≡◌, ◌&&◌, ℕ, true, false, nat_le, List, drop, replicate, Option, Some, None, is_some, option_and_then, if◌then◌else◌}
use Rattle.lls_lit.specs.declared.var.TheConstants.Var as variables
use Rattle.lls_cnf.specs.declared.formula.TheConstants.Formula as formulas
use Rattle.lls_cnf.specs.declared.read.TheConstants.{MOST_DIMACS_BYTES}
use Rattle.lls_prooflog.specs.declared.step.TheConstants.Step.{MOST_ID}
use Rattle.lls_solver.specs.declared.solving.TheConstants.{MOST_BUDGET}
use Rattle.lls_grid.specs.declared.history.TheConstants.History.{MOST_GENERATIONS, MOST_HEIGHT, MOST_WIDTH, MOST_CELLS}
use Rattle.lls_grid.specs.declared.patterns.TheConstants.Patterns as patterns
use Rattle.lls_search_file.specs.declared.posed.TheConstants.Names as names
use Rattle.lls_symmetry.specs.declared.moved.TheConstants.{MOST_SHIFT, MOST_PERIOD}
use Rattle.lls_problem.specs.declared.bounds.TheConstants.Bound as bounds
use Rattle.lls_problem.specs.declared.bounds.TheConstants.Bounds.{MOST_COUNTERS}
use Rattle.lls_cnf.specs.Number.{natural_number}
use Rattle.lls_rle.specs.Header.{behind_blanks, behind_sign, digits, has_tail, is_header}
use Rattle.lls_cli.specs.declared.input.TheConstants.{SEARCH_LIMIT, PROOF_LIMIT, LIST_LIMIT}

-- what stands behind a number of 1 to 6 digits
abbrev pub behind_number : List ℕ → Option (List ℕ)
behind_number text = if nat_le 1 (digits text) && nat_le (digits text) 6 then Some (drop (digits text) text) else None

-- what stands behind a byte, and blanks before it
abbrev pub behind_placed : ℕ → List ℕ → Option (List ℕ)
behind_placed sign text = behind_sign sign (behind_blanks text)

-- what stands behind the header of an RLE text: `x`, `=`, a number, `,`, `y`, `=`, a number, with blanks between or none
abbrev pub behind_header : List ℕ → Option (List ℕ)
behind_header line =
    option_and_then (λ x. option_and_then (λ is. option_and_then (λ width. option_and_then (λ comma. option_and_then (λ y. option_and_then (λ is_too.
    option_and_then (λ height. Some height)
    (behind_number (behind_blanks is_too))) (behind_placed 61 y)) (behind_placed 121 comma)) (behind_placed 44 width)) (behind_number (behind_blanks is))) (behind_placed 61 x)) (behind_sign 120 line)

-- the sizes of a history, the lengths of texts and names, how many digits a number of a formula's text may have (57 is the digit 9), and how
-- great numbers may be
pub record AreLimits : Type 0 where
  pub generations : MOST_GENERATIONS ≡ 64
  pub height : MOST_HEIGHT ≡ 64
  pub width : MOST_WIDTH ≡ 64
  pub cells : MOST_CELLS ≡ 8192
  pub name : names.MOST_BYTES ≡ 32
  pub variables : variables.MOST ≡ 16777216
  pub clauses : formulas.MOST_CLAUSES ≡ 1000000000
  pub digits : is_some (natural_number (replicate 18 57)) ≡ true
  pub digits_more : is_some (natural_number (replicate 19 57)) ≡ false
  pub ids : MOST_ID ≡ 9223372036854775807
  pub shift : MOST_SHIFT ≡ 64
  pub period : MOST_PERIOD ≡ 63
  pub bound : bounds.MOST ≡ 8192
  pub counters : MOST_COUNTERS ≡ 1000000
  pub budget : MOST_BUDGET ≡ 10000000
  pub search_file : SEARCH_LIMIT ≡ 1048576
  pub proof : PROOF_LIMIT ≡ 1073741824
  pub formula : MOST_DIMACS_BYTES ≡ 536870912
  pub list : LIST_LIMIT ≡ 16777216
  pub patterns : patterns.MOST ≡ 1000000
  pub rle_header : (line : List ℕ) → is_header line ≡ has_tail (behind_header line)
