-- For private contracts alone: the parts of the canonical text, and the uneven neighbourhoods from one on.
use Rattle.std.specs.Prelude.{ℕ, ◌-◌, Bool, List, find, Option}
use Rattle.std.specs.List.{range_with_len}
use Rattle.lls_rule.specs.declared.rule.TheConstants.Rule.{NEIGHBOURHOODS}
use Rattle.lls_hensel.specs.Notation.{text_of_side}
use Rattle.lls_hensel.specs.Printing.{canonical_group, canonical_side, differs}

-- the text of a count on a side
unfoldable pub group_text : List Bool → Bool → ℕ → List ℕ
group_text table survival count = text_of_side (canonical_group table survival count)

-- the text of a side
unfoldable pub side_text : List Bool → Bool → List ℕ
side_text table survival = text_of_side (canonical_side table survival)

-- the least neighbourhood from a number on whose answer differs from its representative's
unfoldable pub uneven_from : List Bool → ℕ → Option ℕ
uneven_from table nine = find (differs table) (range_with_len nine (NEIGHBOURHOODS - nine))
