-- An assignment as solvers print it, after the output format of the SAT competitions: `v` lines of the literals that are
-- true, by their variables, and of a 0 behind the last, ten numbers a line.
use Rattle.std.specs.Prelude.{ℕ, ◌+◌, ◌%◌, ◌==◌, ◌&&◌, ℤ, pos, nat_lt, Bool, List, [], ◌∷◌, ◌++◌, codes, if◌then◌else◌}
use Rattle.std.specs.Fmt.{signed_decimal}
use Rattle.lls_lit.specs.Literal.{negation}

-- the literal of the variable n + 1 that is true where the variable has this value
abbrev pub true_literal : ℕ → Bool → ℤ
true_literal n value = if value then pos (n + 1) else negation (pos (n + 1))

-- how many numbers a line holds
abbrev pub numbers_a_line : ℕ
numbers_a_line = 10

-- a full line ends before the next number
abbrev pub line_break : ℕ → List ℕ
line_break n = if nat_lt 0 n && n % numbers_a_line == 0 then codes "\nv" else []

-- the number behind n others
abbrev pub number_text : ℕ → ℤ → List ℕ
number_text n number = line_break n ++ codes " " ++ signed_decimal number

-- the values of the variables from n + 1 on
abbrev pub values_text : ℕ → List Bool → List ℕ
values_text n [] = number_text n (pos 0)
values_text n (value ∷ values) = number_text n (true_literal n value) ++ values_text (n + 1) values

abbrev pub model_text : List Bool → List ℕ
model_text values = codes "s SATISFIABLE\nv" ++ values_text 0 values ++ codes "\n"
