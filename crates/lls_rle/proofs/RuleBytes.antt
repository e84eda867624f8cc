-- A rule's text stands on one line.
use Rattle.std.proofs.Common.{◌≡◌, ◌+◌, ℕ, Bool, true, false, cond, List, [], ◌∷◌, ◌++◌, refl, ◌∙◌, arith}
use Rattle.std.specs.Prelude.{All, codes}
use Rattle.std.specs.List.{list_all}
use Rattle.std.specs.Char.{is_ascii_lowercase}
use Rattle.std.specs.Cmp.Derive.{both_true}
use Rattle.std.proofs.lemmas.Bool.{and_parts}
use Rattle.std.proofs.lemmas.Bool.Decides.{nat_tests}
use Rattle.std.proofs.lemmas.List.Elements.{All-head, All-tail}
use Rattle.std.proofs.lemmas.List.Folds.{list_all-append}
use Rattle.std.proofs.lemmas.List.Sums.{list_all-from_AllPass}
use Rattle.lls_text.proofs.Printed.{is_printed}
use Rattle.lls_hensel.specs.Class.{letter_among}
use Rattle.lls_hensel.specs.Entries.{Group}
use Rattle.lls_hensel.specs.Notation.{text_of_group, text_of_side, IsGroup}
use Rattle.lls_hensel.specs.Printing.{canonical_side, rule_text}
use Rattle.lls_hensel.proofs.GroupLetters.{small-letter_among}
use Rattle.lls_hensel.proofs.SidesBack.{canonical_side-is}

abbrev printed : List ℕ → Bool
printed bytes = list_all is_printed bytes

pub joined : (front behind : List ℕ) → printed front ≡ true → printed behind ≡ true → printed (front ++ behind) ≡ true
joined front behind p q = list_all-append is_printed front behind ∙ both_true p q

letters_printed : (count : ℕ) (letters : List ℕ) → list_all (letter_among count) letters ≡ true → printed letters ≡ true
letters_printed count [] all = refl
letters_printed count (letter ∷ letters) all =
    let parts = and_parts (letter_among count letter) (list_all (letter_among count) letters) all in
    both_true (lowercase letter (small-letter_among count letter parts.0).0) (letters_printed count letters parts.1) where
      lowercase : (b : ℕ) → is_ascii_lowercase b ≡ true → is_printed b ≡ true
      lowercase b e = grind (arith, nat_tests)

group_printed : (group : Group) → IsGroup group → printed (text_of_group group) ≡ true
group_printed group h =
    both_true (digit_printed group.count) (joined (cond group.minus (codes "-") []) group.letters (by_minus group.minus) (letters_printed group.count group.letters (list_all-from_AllPass (letter_among group.count) group.letters h.letters))) where
      digit_printed : (count : ℕ) → is_printed (48 + count) ≡ true
      digit_printed count = grind (arith, nat_tests)

      by_minus : (minus : Bool) → printed (cond minus (codes "-") []) ≡ true
      by_minus true = refl
      by_minus false = refl

side_printed : (groups : List Group) → All IsGroup groups → printed (text_of_side groups) ≡ true
side_printed [] all = refl
side_printed (group ∷ groups) all = joined (text_of_group group) (text_of_side groups) (group_printed group (All-head IsGroup group groups all)) (side_printed groups (All-tail IsGroup group groups all))

pub rule_printed : (table : List Bool) → printed (rule_text table) ≡ true
unfolding rule_text
rule_printed table =
    let birth = text_of_side (canonical_side table false) in
    let survival = text_of_side (canonical_side table true) in
    joined (((codes "B" ++ birth) ++ codes "/") ++ codes "S") survival
    (joined ((codes "B" ++ birth) ++ codes "/") (codes "S") (joined (codes "B" ++ birth) (codes "/") (joined (codes "B") birth refl (side_printed (canonical_side table false) (canonical_side-is table false).each)) refl) refl)
    (side_printed (canonical_side table true) (canonical_side-is table true).each)
