-- Rule texts in Hensel notation: the texts of groups and sides, the two forms, and the entries for which a text stands.
use Rattle.std.specs.Prelude.{◌≡◌, ℕ, ◌+◌, ◌<◌, ◌≤◌, Bool, true, false, List, [], ◌∷◌, ◌++◌, All, map, length, flat_map, codes, IsTrue, nat_eq, slice_index, if◌then◌else◌}
use Rattle.std.specs.List.{AllPass, IsDistinct}
use Rattle.lls_rule.specs.declared.rule.TheConstants.Rule.{NEIGHBOURS}
use Rattle.lls_hensel.specs.Class.{letter_among}
use Rattle.lls_hensel.specs.Entries.{Entry, Group, entries_of_group}

-- the digit of a count
abbrev pub digit : ℕ → ℕ
digit count = slice_index (codes "0") 0 + count

-- what stands behind a group's digit: perhaps `-`, and the letters
abbrev pub behind_digit : Group → List ℕ
behind_digit group = (if group.minus then codes "-" else []) ++ group.letters

-- the text of a group
abbrev pub text_of_group : Group → List ℕ
text_of_group group = digit group.count ∷ behind_digit group

-- the text of a side: its groups, one after another
abbrev pub text_of_side : List Group → List ℕ
text_of_side groups = flat_map text_of_group groups

-- a group: a count of neighbours, letters of that count, each once, and `-` only with a letter behind it
pub record IsGroup (group : Group) : Type 0 where
  pub count : group.count ≤ NEIGHBOURS
  pub letters : AllPass (letter_among group.count) group.letters
  pub letters_once : IsDistinct nat_eq group.letters
  pub minus : IsTrue group.minus → 0 < length group.letters

-- a side: groups in any order, each digit once
pub record IsSide (groups : List Group) : Type 0 where
  pub each : All IsGroup groups
  pub digits_once : IsDistinct nat_eq (map (λ group. group.count) groups)

-- the forms of a text: the birth side first, with a small or a capital letter before each side and perhaps a `/` between them, or the survival side first
pub data Form : Type 0 where
  BirthFirst : (small_b slash small_s : Bool) → Form
  SurvivalFirst : Form

-- the text of two sides
abbrev pub text_of : Form → List Group → List Group → List ℕ
text_of (BirthFirst small_b slash small_s) birth survival =
    (if small_b then codes "b" else codes "B") ++ text_of_side birth ++
    (if slash then codes "/" else []) ++ (if small_s then codes "s" else codes "S") ++ text_of_side survival
text_of SurvivalFirst birth survival = text_of_side survival ++ codes "/" ++ text_of_side birth

-- the entries for which the groups of a side stand
abbrev pub entries_of_side : Bool → List Group → List Entry
entries_of_side survival groups = flat_map (entries_of_group survival) groups

-- those of two sides, in the order of the text
abbrev pub entries_in : Form → List Group → List Group → List Entry
entries_in (BirthFirst _ _ _) birth survival = entries_of_side false birth ++ entries_of_side true survival
entries_in SurvivalFirst birth survival = entries_of_side true survival ++ entries_of_side false birth

-- a text is that of two sides in some form, and these are their entries
pub record StandsFor (text : List ℕ) (entries : List Entry) : Type 0 where
  pub form : Form
  pub birth : List Group
  pub survival : List Group
  pub birth_side : IsSide birth
  pub survival_side : IsSide survival
  pub written : text ≡ text_of form birth survival
  pub stands : entries ≡ entries_in form birth survival
