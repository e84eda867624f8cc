-- Histories that go on by a rule.
use Rattle.std.specs.Prelude.{ℕ, zero, suc, ◌-◌, Bool, List, [], ◌∷◌, ◌++◌, length, take}
use Rattle.lls_grid.specs.History.{History}
use Rattle.lls_grid.specs.Changes.{successors}

-- a history and so many generations more, each by the rule from the last one there
unfoldable pub grown : List Bool → ℕ → History → History
grown table zero history = history
grown table (suc more) history =
    let before = grown table more history in before ++ successors table before (length before - 1) ∷ []

-- so many generations: generation 0 of a history, and what the rule makes of it
abbrev pub evolution : List Bool → ℕ → History → History
evolution table generations first = grown table (generations - 1) (take 1 first)
