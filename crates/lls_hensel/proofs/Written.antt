-- The text of two sides is read as their entries.
use Rattle.std.proofs.Common.{◌≡◌, ℕ, ◌+◌, ◌-◌, ◌≤◌, nat_eq, nat_le, Bool, true, false, cond, not, ◌||◌, List, [], ◌∷◌, ◌++◌, map, drop, length, Ok, Err, refl, ap, ◌∙◌, subst, arith, append_assoc, append-nil}
use Rattle.std.specs.List.{list_all, take_while, AllByRecursion, IsDistinct}
use Rattle.std.specs.Char.{is_ascii_lowercase}
use Rattle.std.proofs.Math.Seq.{drop-append_seam}
use Rattle.std.proofs.lemmas.Bool.{and_parts, and_from, or_from, le-leb, ne_eqb, eq-eqb, false_from_ne_true}
use Rattle.std.proofs.lemmas.List.Elements.{recursion_from_All}
use Rattle.std.proofs.lemmas.List.Folds.{list_any-append, list_all-append}
use Rattle.std.proofs.lemmas.List.Sums.{take_while-cons, list_all-from_AllPass}
use Rattle.std.proofs.lemmas.Map.Keys.{IsDistinct-head, IsDistinct-tail}
use Rattle.lls_base.specs.Results.{and_then}
use Rattle.lls_hensel.specs.Class.{letter_among}
use Rattle.lls_hensel.specs.Entries.{Group, among}
use Rattle.lls_hensel.specs.Notation.{IsGroup, IsSide, digit, behind_digit, text_of_group, text_of_side, entries_of_side}
use Rattle.lls_hensel.specs.Notation.Form.{BirthFirst, SurvivalFirst}
use Rattle.lls_hensel.specs.Printing.{listing}
use Rattle.lls_hensel.specs.Reading.{Cut, cut, cut_before, is_count, is_birth_mark, is_slash, is_survival_mark, letter_first, listed, tail_read, group_read, groups_read, side_read, side_entries, survival_after, birth_after, both_sides, birth_first, survival_first, entries_of, ReadsEachText}
use Rattle.lls_hensel.specs.declared.read.RuleError.TheVariants.{NoLetters, RepeatedDigit}
use Rattle.lls_hensel.proofs.GroupLetters.{is_inside, is_behind, small-letter_among, letters_read-distinct}

no_letters_before : (letters : List ℕ) → AllByRecursion (λ letter. among [] letter ≡ false) letters
no_letters_before [] = tt
no_letters_before (letter ∷ letters) = (refl, no_letters_before letters)

listed-group : (column count : ℕ) (minus : Bool) (letters : List ℕ) → IsGroup (listing count minus letters) → listed column count minus letters ≡ Ok (listing count minus letters)
listed-group column count minus letters g =
    ap (λ read. and_then read (λ _. Ok (listing count minus letters)))
    (letters_read-distinct column count [] letters (list_all-from_AllPass (letter_among count) letters g.letters) (no_letters_before letters) g.letters_once)

first_small : (count : ℕ) (minus : Bool) (letter : ℕ) (letters : List ℕ) → IsGroup (listing count minus (letter ∷ letters)) → is_ascii_lowercase letter ≡ true
first_small count minus letter letters g =
    (small-letter_among count letter (and_parts (letter_among count letter) (list_all (letter_among count) letters) (list_all-from_AllPass (letter_among count) (letter ∷ letters) g.letters)).0).0

not_minus : (byte : ℕ) → is_ascii_lowercase byte ≡ true → nat_eq byte 45 ≡ false
not_minus byte low = ne_eqb byte 45 (λ e. let x = subst (λ b. is_ascii_lowercase b ≡ true) e low in cc)

-- what stands behind a group's digit is read as the group
tail_read-parts : (column count : ℕ) (minus : Bool) (letters : List ℕ) → IsGroup (listing count minus letters) → tail_read column count (behind_digit (listing count minus letters)) ≡ Ok (listing count minus letters)
tail_read-parts column count true [] g = absurd (omega (arith, g.minus refl))
tail_read-parts column count true (letter ∷ letters) g =
    ap (λ b. cond b (listed (column + 1) count true (letter ∷ letters)) (Err (NoLetters column))) (first_small count true letter letters g) ∙
    listed-group (column + 1) count true (letter ∷ letters) g
tail_read-parts column count false [] g = refl
tail_read-parts column count false (letter ∷ letters) g =
    ap (λ b. cond b (cond (letter_first letters) (listed (column + 1) count true letters) (Err (NoLetters column))) (listed column count false (letter ∷ letters)))
    (not_minus letter (first_small count false letter letters g)) ∙
    listed-group column count false (letter ∷ letters) g

tail_read-behind_digit : (column : ℕ) (group : Group) → IsGroup group → tail_read column group.count (behind_digit group) ≡ Ok group
tail_read-behind_digit column group g = tail_read-parts column group.count group.minus group.letters g

letters_behind : (count : ℕ) (letters : List ℕ) → list_all (letter_among count) letters ≡ true → list_all is_behind letters ≡ true
letters_behind count [] h = refl
letters_behind count (letter ∷ letters) h =
    let parts = and_parts (letter_among count letter) (list_all (letter_among count) letters) h in
    and_from (is_behind letter) (list_all is_behind letters) (small-letter_among count letter parts.0).1 (letters_behind count letters parts.1)

all_behind : (group : Group) → IsGroup group → list_all is_behind (behind_digit group) ≡ true
all_behind group g =
    let letters = letters_behind group.count group.letters (list_all-from_AllPass (letter_among group.count) group.letters g.letters) in
    elim group.minus as (λ b. list_all is_behind (cond b (45 ∷ []) [] ++ group.letters) ≡ true) [ true ↦ letters | false ↦ letters ]

digit_counts : (count : ℕ) → count ≤ 8 → is_count (digit count) ≡ true
digit_counts count h = and_from (nat_le 48 (48 + count)) (nat_le (48 + count) 56) (le-leb 48 (48 + count) (omega arith)) (le-leb (48 + count) 56 (omega arith))

no_code : (code count : ℕ) → (code ≡ 48 + count → ⊥) → (nat_eq code (48 + count) || false) ≡ false
no_code code count h = or_from (nat_eq code (48 + count)) false (ne_eqb code (48 + count) h) refl

digit_inside : (count : ℕ) → count ≤ 8 → is_inside (digit count) ≡ true
digit_inside count h =
    ap not (or_from (is_slash (digit count)) (is_survival_mark (digit count)) (no_code 47 count (λ e. absurd (omega arith)))
    (or_from (nat_eq 83 (digit count)) (nat_eq 115 (digit count) || false) (ne_eqb 83 (digit count) (λ e. absurd (omega arith))) (no_code 115 count (λ e. absurd (omega arith)))))

behind_inside : (bytes : List ℕ) → list_all is_behind bytes ≡ true → list_all is_inside bytes ≡ true
behind_inside [] h = refl
behind_inside (x ∷ xs) h =
    let parts = and_parts (is_behind x) (list_all is_behind xs) h in
    and_from (is_inside x) (list_all is_inside xs) (and_parts (not (is_count x)) (is_inside x) parts.0).1 (behind_inside xs parts.1)

not_count : (x : ℕ) → is_behind x ≡ true → is_count x ≡ false
not_count x h = false_from_ne_true (is_count x) (λ t. let p = (and_parts (not (is_count x)) (is_inside x) h).0 in cc)

-- bytes behind a digit stand before the next digit
cut-behind : (bytes rest : List ℕ) (pairs : List (ℕ × List ℕ)) → list_all is_behind bytes ≡ true → cut rest ≡ ([], pairs) → cut (bytes ++ rest) ≡ (bytes, pairs)
cut-behind [] rest pairs h e = e
cut-behind (x ∷ xs) rest pairs h e =
    let parts = and_parts (is_behind x) (list_all is_behind xs) h in
    ap (λ b. cut_before b x (cut (xs ++ rest))) (not_count x parts.0) ∙ ap (cut_before false x) (cut-behind xs rest pairs parts.1 e)

among-behind : (bytes : List ℕ) (byte : ℕ) → list_all is_behind bytes ≡ true → is_count byte ≡ true → among bytes byte ≡ false
among-behind [] byte h e = refl
among-behind (x ∷ xs) byte h e =
    let parts = and_parts (is_behind x) (list_all is_behind xs) h in
    or_from (nat_eq x byte) (among xs byte) (ne_eqb x byte (λ is. let a = not_count x parts.0 in let b = ap is_count is in cc)) (among-behind xs byte parts.1 e)

-- the digits of groups, each with what stands behind it
pairs_of : List Group → List (ℕ × List ℕ)
pairs_of groups = map {B = ℕ × List ℕ} (λ group. (digit group.count, behind_digit group)) groups

cut-text_of_side : (groups : List Group) → AllByRecursion IsGroup groups → cut (text_of_side groups) ≡ ([], pairs_of groups)
unfolding pairs_of
cut-text_of_side [] h = refl
cut-text_of_side (group ∷ groups) h =
    ap (λ b. cut_before b (digit group.count) (cut (behind_digit group ++ text_of_side groups))) (digit_counts group.count h.0.count) ∙
    ap (cut_before true (digit group.count)) (cut-behind (behind_digit group) (text_of_side groups) (pairs_of groups) (all_behind group h.0) (cut-text_of_side groups h.1))

side_inside : (groups : List Group) → AllByRecursion IsGroup groups → list_all is_inside (text_of_side groups) ≡ true
side_inside [] h = refl
side_inside (group ∷ groups) h =
    and_from (is_inside (digit group.count)) (list_all is_inside (behind_digit group ++ text_of_side groups)) (digit_inside group.count h.0.count)
    (list_all-append is_inside (behind_digit group) (text_of_side groups) ∙
    and_from (list_all is_inside (behind_digit group)) (list_all is_inside (text_of_side groups)) (behind_inside (behind_digit group) (all_behind group h.0)) (side_inside groups h.1))

-- groups whose digits stand nowhere in bytes
abbrev pub AreNew : List ℕ → List Group → Type 0
AreNew before groups = AllByRecursion (λ group. among before (digit group.count) ≡ false) groups

other_digit : (a b : ℕ) → nat_eq a b ≡ false → nat_eq (digit a) (digit b) ≡ false
other_digit a b e = ne_eqb (48 + a) (48 + b) (λ is. let same = eq-eqb a b (omega arith) in cc)

new_behind : (before : List ℕ) (group : Group) (groups : List Group) → IsGroup group → AllByRecursion IsGroup groups → AreNew before groups →
    AllByRecursion (λ count. nat_eq group.count count ≡ false) (map (λ group. group.count) groups) → AreNew (before ++ text_of_group group) groups
new_behind before group [] g h new other = tt
new_behind before group (next ∷ groups) g h new other = (
  list_any-append (λ byte. nat_eq byte (digit next.count)) before (text_of_group group) ∙
      or_from (among before (digit next.count)) (among (text_of_group group) (digit next.count)) new.0
      (or_from (nat_eq (digit group.count) (digit next.count)) (among (behind_digit group) (digit next.count)) (other_digit group.count next.count other.0)
      (among-behind (behind_digit group) (digit next.count) (all_behind group g) (digit_counts next.count h.0.count))),
  new_behind before group groups g h.1 new.1 other.1,
)

groups_read-pairs_of : (column : ℕ) (before : List ℕ) (groups : List Group) → AllByRecursion IsGroup groups → IsDistinct nat_eq (map (λ group. group.count) groups) → AreNew before groups →
    groups_read column before (pairs_of groups) ≡ Ok groups
unfolding pairs_of
groups_read-pairs_of column before [] h once new = refl
groups_read-pairs_of column before (group ∷ groups) h once new =
    let counts = map (λ (group : Group). group.count) groups in
    let tail = behind_digit group in
    let here : group_read column before (digit group.count) tail ≡ Ok group =
    ap (λ b. cond b (Err (RepeatedDigit column)) (tail_read (column + 1) (digit group.count - 48) tail)) new.0 ∙
    (ap (λ count. tail_read (column + 1) count tail) (omega arith) ∙ tail_read-behind_digit (column + 1) group h.0) in
    let behind : groups_read (column + (1 + length tail)) (before ++ digit group.count ∷ tail) (pairs_of groups) ≡ Ok groups =
    groups_read-pairs_of (column + (1 + length tail)) (before ++ text_of_group group) groups h.1 (IsDistinct-tail nat_eq group.count counts once)
    (new_behind before group groups h.0 h.1 new.1 (IsDistinct-head nat_eq group.count counts once)) in
    ap (λ read. and_then read (λ first. and_then (groups_read (column + (1 + length tail)) (before ++ digit group.count ∷ tail) (pairs_of groups)) (λ groups. Ok (first ∷ groups)))) here ∙
    ap (λ read. and_then read (λ groups. Ok (group ∷ groups))) behind

all_new : (groups : List Group) → AreNew [] groups
all_new [] = tt
all_new (group ∷ groups) = (refl, all_new groups)

-- the text of a side is read as its entries
side_entries-text_of_side : (survival : Bool) (column : ℕ) (groups : List Group) → IsSide groups → side_entries survival column (text_of_side groups) ≡ Ok (entries_of_side survival groups)
unfolding side_entries
side_entries-text_of_side survival column groups side =
    let each = recursion_from_All IsGroup groups side.each in
    ap (λ (pair : Cut). and_then (side_read column pair) (λ groups. Ok (entries_of_side survival groups))) (cut-text_of_side groups each) ∙
    ap (λ read. and_then read (λ groups. Ok (entries_of_side survival groups))) (groups_read-pairs_of column [] groups each side.digits_once (all_new groups))

-- bytes up to one that ends them
taken_before : (p : ℕ → Bool) (xs : List ℕ) (y : ℕ) (ys : List ℕ) → list_all p xs ≡ true → p y ≡ false → take_while p (xs ++ y ∷ ys) ≡ xs
taken_before p [] y ys h e = take_while-cons p y ys ∙ ap (λ b. cond b (y ∷ take_while p ys) []) e
taken_before p (x ∷ xs) y ys h e =
    let parts = and_parts (p x) (list_all p xs) h in
    take_while-cons p x (xs ++ y ∷ ys) ∙ (ap (λ b. cond b (x ∷ take_while p (xs ++ y ∷ ys)) []) parts.0 ∙ ap (λ bytes. x ∷ bytes) (taken_before p xs y ys parts.1 e))

-- the birth side first, from behind its mark
birth_first-text : (birth survival : List Group) (y : ℕ) (ys : List ℕ) (next : ℕ → ℕ) → IsSide birth → IsSide survival → is_inside y ≡ false →
    ((column : ℕ) → survival_after column (y ∷ ys) ≡ Ok (next column, text_of_side survival)) →
    birth_first (text_of_side birth ++ y ∷ ys) ≡ Ok (entries_of_side false birth ++ entries_of_side true survival)
unfolding birth_first
birth_first-text birth survival y ys next b s e after =
    let side = text_of_side birth in
    let bytes = side ++ y ∷ ys in
    let column = 2 + length side in
    ap (λ front. both_sides true (side_entries false 2 front) (survival_after (2 + length front) (drop (length front) bytes)))
    (taken_before is_inside side y ys (side_inside birth (recursion_from_All IsGroup birth b.each)) e) ∙
    (ap (λ behind. both_sides true (side_entries false 2 side) (survival_after column behind)) (drop-append_seam side (y ∷ ys)) ∙
    (ap (both_sides true (side_entries false 2 side)) (after column) ∙
    (ap (λ first. both_sides true first (Ok (next column, text_of_side survival))) (side_entries-text_of_side false 2 birth b) ∙
    ap (λ second. and_then second (λ others. Ok (entries_of_side false birth ++ others))) (side_entries-text_of_side true (next column) survival s))))

no_slashes : (bytes : List ℕ) → list_all is_inside bytes ≡ true → list_all (λ byte. not (is_slash byte)) bytes ≡ true
no_slashes [] h = refl
no_slashes (x ∷ xs) h =
    let parts = and_parts (is_inside x) (list_all is_inside xs) h in
    and_from (not (is_slash x)) (list_all (λ byte. not (is_slash byte)) xs) (elim (is_slash x) as (λ b. not (b || is_survival_mark x) ≡ true → not b ≡ true) [ true ↦ λ e. e | false ↦ λ e. refl ] parts.0) (no_slashes xs parts.1)

-- the survival side first
survival_first-text : (birth survival : List Group) → IsSide birth → IsSide survival → survival_first (text_of_side survival ++ 47 ∷ text_of_side birth) ≡ Ok (entries_of_side true survival ++ entries_of_side false birth)
unfolding survival_first
survival_first-text birth survival b s =
    let side = text_of_side survival in
    let bytes = side ++ 47 ∷ text_of_side birth in
    let column = 1 + length side in
    ap (λ front. both_sides false (side_entries true 1 front) (birth_after (1 + length front) (drop (length front) bytes)))
    (taken_before (λ byte. not (is_slash byte)) side 47 (text_of_side birth) (no_slashes side (side_inside survival (recursion_from_All IsGroup survival s.each))) refl) ∙
    (ap (λ behind. both_sides false (side_entries true 1 side) (birth_after column behind)) (drop-append_seam side (47 ∷ text_of_side birth)) ∙
    (ap (λ first. both_sides false first (Ok (column + 1, text_of_side birth))) (side_entries-text_of_side true 1 survival s) ∙
    ap (λ second. and_then second (λ others. Ok (entries_of_side true survival ++ others))) (side_entries-text_of_side false (column + 1) birth b)))

-- what stands between the sides where the birth side is first
abbrev pub between : Bool → Bool → List ℕ → List ℕ
between true true rest = 47 ∷ 115 ∷ rest
between true false rest = 47 ∷ 83 ∷ rest
between false true rest = 115 ∷ rest
between false false rest = 83 ∷ rest

between_ends : (slash small_s : Bool) (birth survival : List Group) → IsSide birth → IsSide survival →
    birth_first (text_of_side birth ++ between slash small_s (text_of_side survival)) ≡ Ok (entries_of_side false birth ++ entries_of_side true survival)
between_ends true true birth survival b s = birth_first-text birth survival 47 (115 ∷ text_of_side survival) (λ column. column + 1 + 1) b s refl (λ column. refl)
between_ends true false birth survival b s = birth_first-text birth survival 47 (83 ∷ text_of_side survival) (λ column. column + 1 + 1) b s refl (λ column. refl)
between_ends false true birth survival b s = birth_first-text birth survival 115 (text_of_side survival) (λ column. column + 1) b s refl (λ column. refl)
between_ends false false birth survival b s = birth_first-text birth survival 83 (text_of_side survival) (λ column. column + 1) b s refl (λ column. refl)

pub between_parts : (slash small_s : Bool) (front rest : List ℕ) → front ++ cond slash (47 ∷ []) [] ++ cond small_s (115 ∷ []) (83 ∷ []) ++ rest ≡ front ++ between slash small_s rest
between_parts true true front rest = simp append_assoc
between_parts true false front rest = simp append_assoc
between_parts false true front rest = simp (append_assoc, append-nil)
between_parts false false front rest = simp (append_assoc, append-nil)

no_birth_mark : (count : ℕ) → count ≤ 8 → is_birth_mark (digit count) ≡ false
no_birth_mark count h = or_from (nat_eq 66 (digit count)) (nat_eq 98 (digit count) || false) (ne_eqb 66 (digit count) (λ e. absurd (omega arith))) (no_code 98 count (λ e. absurd (omega arith)))

survival_form : (survival : List Group) (rest : List ℕ) → AllByRecursion IsGroup survival → entries_of (text_of_side survival ++ 47 ∷ rest) ≡ survival_first (text_of_side survival ++ 47 ∷ rest)
survival_form [] rest h = refl
survival_form (group ∷ groups) rest h =
    let behind = behind_digit group ++ text_of_side groups ++ 47 ∷ rest in
    ap (λ b. cond b (birth_first behind) (survival_first (digit group.count ∷ behind))) (no_birth_mark group.count h.0.count)

pub reads_each_text : ReadsEachText
reads_each_text (BirthFirst true slash small_s) birth survival b s = ap birth_first (between_parts slash small_s (text_of_side birth) (text_of_side survival)) ∙ between_ends slash small_s birth survival b s
reads_each_text (BirthFirst false slash small_s) birth survival b s = ap birth_first (between_parts slash small_s (text_of_side birth) (text_of_side survival)) ∙ between_ends slash small_s birth survival b s
reads_each_text SurvivalFirst birth survival b s =
    ap entries_of (append_assoc (text_of_side survival) (47 ∷ []) (text_of_side birth)) ∙
    (survival_form survival (text_of_side birth) (recursion_from_All IsGroup survival s.each) ∙ survival_first-text birth survival b s)
