-- The values of options.
use Rattle.std.specs.Prelude.{ℕ, ◌+◌, ◌-◌, ℤ, pos, ◌-ℤ◌, ◌==◌, ◌&&◌, nat_le, Bool, true, false, List, [], ◌∷◌, length, take, drop, position, codes, Option, None, Some, if◌then◌else◌}
use Rattle.std.specs.Option.{option_map, option_and_then}
use Rattle.std.specs.List.{slice_split}
use Rattle.std.specs.Str.{bytes_eq}
use Rattle.std.specs.Str.Parse.{digits_value}
use Rattle.lls_text.specs.Digits.{is_digits}
use Rattle.lls_grid.specs.declared.history.TheConstants.History.{MOST_GENERATIONS}
use Rattle.lls_symmetry.specs.declared.moved.TheConstants.{MOST_SHIFT, MOST_PERIOD}
use Rattle.lls_problem.specs.declared.bounds.Bound.{Bound}
use Rattle.lls_problem.specs.declared.demands.Edge.{Edge}
use Rattle.lls_problem.specs.declared.demands.Edge.TheVariants.{Framed, Bare}
use Rattle.lls_problem.specs.declared.demands.Period.{Period}
use Rattle.lls_problem.specs.declared.form.Form.{Form}
use Rattle.lls_problem.specs.declared.form.Form.TheVariants.{Rows, Cover}
use Rattle.lls_problem.specs.declared.form.Images.{Images}
use Rattle.lls_problem.specs.declared.form.Images.TheVariants as images
use Rattle.lls_problem.specs.Bounds.{most_end}
use Rattle.lls_words.specs.declared.further.Further.{Further}
use Rattle.lls_words.specs.declared.further.Manner.{Manner}
use Rattle.lls_words.specs.declared.further.Manner.TheVariants as manners
use Rattle.lls_words.specs.Items.{is_dash}

abbrev pub edge_in : List ℕ → Option Edge
edge_in text =
    if bytes_eq text (codes "closed") then Some Framed else
    if bytes_eq text (codes "open") then Some Bare else None

-- how many digits a number has at most
abbrev pub most_digits : ℕ
most_digits = 20

-- the greatest budget of a search
abbrev pub most_budget : ℕ
most_budget = 10000000

-- the budget of a search for which none is said
abbrev pub default_budget : ℕ
default_budget = 100000

-- what a search is told of which nothing is said
abbrev pub default_further : Further
default_further = record { manner = None; first = None }

-- the greatest number that a problem is made from: that of 64 bits
abbrev pub most_seed : ℕ
most_seed = 18446744073709551615

-- the greatest size of a problem that is made: how many rows it has, of as many cells
abbrev pub most_size : ℕ
most_size = 64

-- the greatest number of searchers that take turns
abbrev pub most_searchers : ℕ
most_searchers = 16

-- what separates the parts of a value
abbrev pub comma : ℕ
comma = 44

abbrev pub colon : ℕ
colon = 58

abbrev pub dash : ℕ
dash = 45

-- what stands before the first such byte of a text, and behind it
abbrev pub cut_at : ℕ → List ℕ → Option (List ℕ × List ℕ)
cut_at byte text = option_map (λ at. (take at text, drop (at + 1) text)) (position (λ b. b == byte) text)

-- digits alone, at least one and not too many
abbrev pub natural_in : List ℕ → Option ℕ
natural_in text = if nat_le (length text) most_digits && is_digits text then Some (digits_value 10 text) else None

-- a number from `low` to `high`
abbrev pub from_to : ℕ → ℕ → ℕ → Option ℕ
from_to low high n = if nat_le low n && nat_le n high then Some n else None

abbrev pub number_in : ℕ → ℕ → List ℕ → Option ℕ
number_in low high text = option_and_then (from_to low high) (natural_in text)

abbrev pub budget_in : List ℕ → Option ℕ
budget_in text = number_in 0 most_budget text

-- what a problem is made from, and turns are drawn from: a number, and how many rows it has of as many cells
abbrev pub seed_in : List ℕ → Option ℕ
seed_in text = number_in 0 most_seed text

abbrev pub size_in : List ℕ → Option ℕ
size_in text = number_in 1 most_size text

-- how many searchers take turns
abbrev pub searchers_in : List ℕ → Option ℕ
searchers_in text = number_in 1 most_searchers text

-- whether the period is to be exact
abbrev pub exact_in : List ℕ → Option Bool
exact_in text =
    if bytes_eq text (codes "yes") then Some true else
    if bytes_eq text (codes "no") then Some false else None

-- whether all learnt clauses are kept
abbrev pub keep_all_in : List ℕ → Option Bool
keep_all_in text =
    if bytes_eq text (codes "all") then Some true else
    if bytes_eq text (codes "half") then Some false else None

-- a manner, by its name
abbrev pub manner_in : List ℕ → Option Manner
manner_in text =
    if bytes_eq text (codes "restless") then Some manners.Restless else
    if bytes_eq text (codes "steady") then Some manners.Steady else
    if bytes_eq text (codes "both") then Some manners.Both else None

-- whether patterns are RLE
abbrev pub rle_in : List ℕ → Option Bool
rle_in text =
    if bytes_eq text (codes "rle") then Some true else
    if bytes_eq text (codes "rows") then Some false else None

-- which solutions are left
abbrev pub images_in : List ℕ → Option Images
images_in text =
    if bytes_eq text (codes "all") then Some images.All else
    if bytes_eq text (codes "one") then Some images.One else None

-- the form of a formula, by its number
abbrev pub form_in : List ℕ → Option Form
form_in text =
    if bytes_eq text (codes "1") then Some Rows else
    if bytes_eq text (codes "2") then Some Cover else None

-- a number of columns or rows, with a dash before it where it goes left or up
abbrev pub shift_in : List ℕ → Option ℤ
shift_in [] = None
shift_in (b ∷ bs) =
    if is_dash b then option_map (λ n. pos 0 -ℤ pos n) (number_in 0 MOST_SHIFT bs) else option_map (λ n. pos n) (number_in 0 MOST_SHIFT (b ∷ bs))

-- a length, and a shift to the right and one downwards
abbrev pub period_of : ℕ → ℤ → ℤ → Period
period_of length dx dy = record { length = length; dx = dx; dy = dy }

abbrev pub shifted : ℕ → List ℕ × List ℕ → Option Period
shifted length shifts = option_and_then (λ dx. option_map (period_of length dx) (shift_in shifts.1)) (shift_in shifts.0)

-- a text without a comma is a length alone, and the shift is none
abbrev pub period_cut : List ℕ → Option (List ℕ × List ℕ) → Option Period
period_cut text None = option_map (λ length. period_of length (pos 0) (pos 0)) (number_in 1 MOST_PERIOD text)
period_cut text (Some parts) =
    option_and_then (λ length. option_and_then (shifted length) (cut_at comma parts.1)) (number_in 1 MOST_PERIOD parts.0)

abbrev pub period_in : List ℕ → Option Period
period_in text = period_cut text (cut_at comma text)

-- a generation that some file may have
abbrev pub generation_in : List ℕ → Option ℕ
generation_in text = number_in 0 (MOST_GENERATIONS - 1) text

abbrev pub both_generations : List ℕ × List ℕ → Option (ℕ × ℕ)
both_generations parts = option_and_then (λ first. option_map (λ second. (first, second)) (generation_in parts.1)) (generation_in parts.0)

abbrev pub generations_in : List ℕ → Option (ℕ × ℕ)
generations_in text = option_and_then both_generations (cut_at comma text)

-- the ends of a bound: no low end is 0, and no high end is none
abbrev pub low_in : List ℕ → Option ℕ
low_in [] = Some 0
low_in (b ∷ bs) = number_in 0 most_end (b ∷ bs)

abbrev pub high_in : List ℕ → Option (Option ℕ)
high_in [] = Some None
high_in (b ∷ bs) = option_map (λ high. Some high) (number_in 0 most_end (b ∷ bs))

abbrev pub bound_of : ℕ → ℕ → Option ℕ → Bound
bound_of t low high = record { generation = t; low = low; high = high }

abbrev pub ends_in : ℕ → List ℕ × List ℕ → Option Bound
ends_in t parts = option_and_then (λ low. option_map (bound_of t low) (high_in parts.1)) (low_in parts.0)

abbrev pub bound_cut : List ℕ × List ℕ → Option Bound
bound_cut parts = option_and_then (λ t. option_and_then (ends_in t) (cut_at dash parts.1)) (generation_in parts.0)

-- a generation, a colon, and two ends with a dash between them
abbrev pub bound_in : List ℕ → Option Bound
bound_in text = option_and_then bound_cut (cut_at colon text)

-- what each text writes, where each writes something
abbrev pub all_in : {X : Type 0} → (List ℕ → Option X) → List (List ℕ) → Option (List X)
all_in read [] = Some []
all_in read (text ∷ texts) = option_and_then (λ value. option_map (λ values. value ∷ values) (all_in read texts)) (read text)

-- bounds, separated by commas
abbrev pub bounds_in : List ℕ → Option (List Bound)
bounds_in text = all_in bound_in (slice_split (λ b. b == comma) text)
