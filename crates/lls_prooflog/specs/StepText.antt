-- The line that writes a step: words with one blank between.
use Rattle.std.specs.Prelude.{◌≡◌, ℕ, ℤ, true, List, ◌++◌, codes, nat_lt, if◌then◌else◌}
use Rattle.std.specs.List.{flat_map}
use Rattle.std.specs.Fmt.{decimal, signed_decimal}
use Rattle.lls_lit.specs.Formula.{is_within}
use Rattle.lls_lit.specs.declared.var.TheConstants.Var.{MOST}
use Rattle.lls_prooflog.specs.declared.step.Step.{Step}
use Rattle.lls_prooflog.specs.declared.step.Step.TheVariants.{Add, Del}

-- the numbers of a list, and the 0 that ends it
abbrev pub signed_list_text : List ℤ → List ℕ
signed_list_text numbers = flat_map (λ n. signed_decimal n ++ codes " ") numbers ++ codes "0"

abbrev pub id_list_text : List ℕ → List ℕ
id_list_text ids = flat_map (λ id. decimal id ++ codes " ") ids ++ codes "0"

-- the line of a step, where this is the greatest id that was added before it. It stands before the d of a deletion
abbrev pub step_line : ℕ → Step → List ℕ
step_line greatest (Add id lits hints) = decimal id ++ codes " " ++ signed_list_text lits ++ codes " " ++ signed_list_text hints
step_line greatest (Del ids) = decimal greatest ++ codes " d " ++ id_list_text ids

-- the line and its LF
abbrev pub step_text : ℕ → Step → List ℕ
step_text greatest step = step_line greatest step ++ codes "\n"

-- the greatest id that was added before the next step
abbrev pub greatest_with : ℕ → Step → ℕ
greatest_with greatest (Add id lits hints) = if nat_lt greatest id then id else greatest
greatest_with greatest (Del ids) = greatest

-- the literals of a step are numbers of literals
abbrev pub AreLiterals : Step → Type 0
AreLiterals (Add id lits hints) = is_within MOST lits ≡ true
AreLiterals (Del ids) = Unit {0}
