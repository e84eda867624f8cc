-- A rule as a table of answers by the number of a neighbourhood, and what follows from it.
use Rattle.std.specs.Prelude.{ℕ, ◌+◌, ◌*◌, ◌/◌, ◌%◌, ◌^◌, ◌==◌, suc, zero, Bool, false, List, [], ◌∷◌, map, fold, count_by, replicate, slice_index_or, if◌then◌else◌}
use Rattle.std.specs.List.{range_with_len}
use Rattle.lls_rule.specs.declared.rule.TheConstants.Rule.{NEIGHBOURHOODS, NEIGHBOURS}

-- the number of a list of bits, from the greatest weight to the least
abbrev pub number_of : List Bool → ℕ
number_of bits = fold (λ n bit. 2 * n + (if bit then 1 else 0)) 0 bits

-- the table's answer at a number, and false past its end
abbrev pub answer : List Bool → ℕ → Bool
answer table number = slice_index_or table number false

-- what a cell becomes whose neighbourhood, from top left to bottom right, is these nine bits
abbrev pub successor : List Bool → List Bool → Bool
successor table nine = answer table (number_of nine)

-- the value of every place far from the pattern, by generation
abbrev pub background : List Bool → ℕ → Bool
background table zero = false
background table (suc t) = successor table (replicate (NEIGHBOURS + 1) (background table t))

-- the table of the answers that a function gives to the numbers of the neighbourhoods
unfoldable pub table_of : (ℕ → Bool) → List Bool
table_of f = map f (range_with_len 0 NEIGHBOURHOODS)

-- whether the bit of weight 2 ^ k stands in n
abbrev pub has_bit : ℕ → ℕ → Bool
has_bit n k = n / 2 ^ k % 2 == 1

-- whether the centre of a neighbourhood is live
abbrev pub has_centre : ℕ → Bool
has_centre nine = has_bit nine 4

-- the eight cells round the centre, from top left to bottom right
abbrev pub around : ℕ → List Bool
around nine = map (has_bit nine) (8 ∷ 7 ∷ 6 ∷ 5 ∷ 3 ∷ 2 ∷ 1 ∷ 0 ∷ [])

-- how many of them are live
abbrev pub live_neighbours : ℕ → ℕ
live_neighbours nine = count_by (λ live. live) (around nine)

-- whether a cell lives on by the number of its live neighbours: bit k of `birth` or `survive` stands for k of them
abbrev pub by_counts : ℕ → ℕ → ℕ → Bool
by_counts birth survive nine = has_bit (if has_centre nine then survive else birth) (live_neighbours nine)
