-- Literals that are taken as false, as they are put one after another. What speaks of entries is for private contracts alone.
use Rattle.std.specs.Prelude.{◌≡◌, ℕ, ℤ, true, not, List, [], ◌∷◌, ◌++◌, map, nat_le}
use Rattle.std.specs.List.{list_all}
use Rattle.std.specs.FinSet as set
use Rattle.lls_lit.specs.Literal.{variable_of}
use Rattle.lls_lit.specs.Marked.{Marked}
use Rattle.lls_prooflog.specs.UnitWalk.{is_among}
use Rattle.lls_lrat.specs.declared.assumed.Entry.{Entry}

-- the greatest variable that there is room for, and the literals
pub record AssumedState : Type 0 where
  pub vars : ℕ
  pub lits : List ℤ

abbrev pub lits_of : List Entry → List ℤ
lits_of entries = map (λ entry. entry.lit) entries

-- each entry says whether its literal isn't among those before it
abbrev pub AreFirsts : List ℤ → List Entry → Type 0
AreFirsts before [] = Unit {0}
AreFirsts before (entry ∷ entries) = (entry.is_first ≡ not (is_among before entry.lit)) × AreFirsts (before ++ entry.lit ∷ []) entries

-- just the literals of the entries are marked
pub record AreEntered (marks : Marked) (entries : List Entry) : Type 0 where
  pub marked : marks.lits ≡ set.from_list (lits_of entries)
  pub within : list_all (λ entry. nat_le (variable_of entry.lit) marks.vars) entries ≡ true
  pub firsts : AreFirsts [] entries
