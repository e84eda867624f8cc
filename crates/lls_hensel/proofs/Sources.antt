-- What is read is the text of two sides, and the entries are theirs.
use Rattle.std.proofs.Common.{◌≡◌, ◌⊎◌, inl, inr, ℕ, ◌+◌, ◌-◌, ◌<◌, ◌≤◌, nat_eq, nat_le, Bool, true, false, cond, not, ◌||◌, List, [], ◌∷◌, ◌++◌, map, drop, flat_map, length, Result, Ok, Err, refl, ap, ◌∙◌, sym, subst, arith, append_assoc}
use Rattle.std.specs.List.{take_while, AllByRecursion, IsDistinct}
use Rattle.std.proofs.Math.Bool.{or-false}
use Rattle.std.proofs.lemmas.Bool.{and_parts, or_parts, or_cases, ne_eqb, eq-eqb, eqb-true, leb-true}
use Rattle.std.proofs.lemmas.List.{take-append-drop}
use Rattle.std.proofs.lemmas.List.Elements.{All-from_recursion}
use Rattle.std.proofs.lemmas.List.Folds.{list_any-append}
use Rattle.std.proofs.lemmas.List.Sums.{take_while-cons, AllPass-from_list_all}
use Rattle.std.proofs.lemmas.Map.Keys.{IsDistinct-cons}
use Rattle.lls_base.specs.Results.{and_then}
use Rattle.lls_hensel.specs.Class.{letter_among}
use Rattle.lls_hensel.specs.Entries.{Entry, Group, among}
use Rattle.lls_hensel.specs.Notation.{IsGroup, IsSide, StandsFor, digit, behind_digit, text_of_group, text_of_side, text_of, entries_of_side}
use Rattle.lls_hensel.specs.Notation.Form.{BirthFirst, SurvivalFirst}
use Rattle.lls_hensel.specs.Printing.{listing}
use Rattle.lls_hensel.specs.Reading.{Cut, cut, cut_before, is_count, is_birth_mark, is_slash, is_survival_mark, letters_read, letter_first, listed, tail_read, group_read, groups_read, side_read, side_entries, after_mark, survival_after, birth_after, both_sides, birth_first, survival_first, ReadsTextsAlone}
use Rattle.lls_hensel.specs.declared.read.RuleError.{RuleError}
use Rattle.lls_hensel.specs.declared.read.RuleError.TheVariants.{NoLetters, RepeatedDigit, Stray}
use Rattle.lls_hensel.proofs.GroupLetters.{distinct-letters_read}
use Rattle.lls_hensel.proofs.Prefixes.{take-length-take_while}
use Rattle.lls_hensel.proofs.Written.{AreNew, between, between_parts}

-- bytes that stand behind a digit as a group has them
record IsTail (count : ℕ) (tail : List ℕ) (group : Group) : Type 0 where
  well : IsGroup group
  counts : group.count ≡ count
  written : tail ≡ behind_digit group

group_listed : (column count : ℕ) (minus : Bool) (letters : List ℕ) → count ≤ 8 → (minus ≡ true → 0 < length letters) → letters_read column count [] letters ≡ Ok tt → IsGroup (listing count minus letters)
group_listed column count minus letters h some e =
    let read = distinct-letters_read column count [] letters e in
    record { count = h; letters = AllPass-from_list_all (letter_among count) letters read.of_count; letters_once = read.once; minus = some }

listed-is : (column count : ℕ) (minus : Bool) (letters : List ℕ) (group : Group) → listed column count minus letters ≡ Ok group → (letters_read column count [] letters ≡ Ok tt) × (listing count minus letters ≡ group)
listed-is column count minus letters group =
    elim (letters_read column count [] letters) as (λ r. and_then r (λ _. Ok (listing count minus letters)) ≡ Ok group → (r ≡ Ok tt) × (listing count minus letters ≡ group)) [
      | Ok _ ↦ λ e. (refl, cc)
      | Err _ ↦ λ e. cc
    ]

some_first : (letters : List ℕ) → letter_first letters ≡ true → 0 < length letters
some_first [] e = cc
some_first (letter ∷ letters) e = omega arith

pub no_letters : (count : ℕ) → count ≤ 8 → IsGroup (listing count false [])
unfolding IsDistinct
no_letters count h = record { count = h; letters = AllPass-from_list_all (letter_among count) [] refl; letters_once = tt; minus = λ e. cc }

tail_read-is : (column count : ℕ) (tail : List ℕ) (group : Group) → count ≤ 8 → tail_read column count tail ≡ Ok group → IsTail count tail group
tail_read-is column count [] group h = λ e.
    let is : listing count false [] ≡ group = cc in
    subst (IsTail count []) is (record { well = no_letters count h; counts = refl; written = refl })
tail_read-is column count (byte ∷ rest) group h =
    elim (nat_eq byte 45) as (λ b. nat_eq byte 45 ≡ b → cond b (cond (letter_first rest) (listed (column + 1) count true rest) (Err (NoLetters column))) (listed column count false (byte ∷ rest)) ≡ Ok group → IsTail count (byte ∷ rest) group) [
      | true ↦ λ is. elim (letter_first rest) as (λ b. letter_first rest ≡ b → cond b (listed (column + 1) count true rest) (Err (NoLetters column)) ≡ Ok group → IsTail count (byte ∷ rest) group) [
        | true ↦ λ some e.
            let read = listed-is (column + 1) count true rest group e in
            subst (IsTail count (byte ∷ rest)) read.1 (record {
              well = group_listed (column + 1) count true rest h (λ _. some_first rest some) read.0;
              counts = refl;
              written = ap (λ b. b ∷ rest) (eqb-true byte 45 is);
            })
        | false ↦ λ some e. cc
      ] refl
      | false ↦ λ is e.
          let read = listed-is column count false (byte ∷ rest) group e in
          subst (IsTail count (byte ∷ rest)) read.1 (record { well = group_listed column count false (byte ∷ rest) h (λ e. cc) read.0; counts = refl; written = refl })
    ] refl

-- a digit's bytes as a group has them
record IsRead (before : List ℕ) (byte : ℕ) (tail : List ℕ) (group : Group) : Type 0 where
  well : IsGroup group
  new : among before byte ≡ false
  digits : byte ≡ digit group.count
  written : tail ≡ behind_digit group

group_read-is : (column : ℕ) (before : List ℕ) (byte : ℕ) (tail : List ℕ) (group : Group) → is_count byte ≡ true → group_read column before byte tail ≡ Ok group → IsRead before byte tail group
group_read-is column before byte tail group h =
    let parts = and_parts (nat_le 48 byte) (nat_le byte 56) h in
    let low = leb-true 48 byte parts.0 in
    let high = leb-true byte 56 parts.1 in
    elim (among before byte) as (λ b. among before byte ≡ b → cond b (Err (RepeatedDigit column)) (tail_read (column + 1) (byte - 48) tail) ≡ Ok group → IsRead before byte tail group) [
      | true ↦ λ is e. cc
      | false ↦ λ is e.
          let found = tail_read-is (column + 1) (byte - 48) tail group (omega arith) e in
          record { well = found.well; new = is; digits = omega (arith, found.counts); written = found.written }
    ] refl

-- digits with what stands behind them, one after another
joined : List (ℕ × List ℕ) → List ℕ
joined pairs = flat_map (λ (p : ℕ × List ℕ). p.0 ∷ p.1) pairs

joined-cut : (bytes : List ℕ) → (cut bytes).0 ++ joined (cut bytes).1 ≡ bytes
unfolding joined
joined-cut [] = refl
joined-cut (byte ∷ rest) =
    let more = joined-cut rest in
    elim (is_count byte) as (λ b. (cut_before b byte (cut rest)).0 ++ joined (cut_before b byte (cut rest)).1 ≡ byte ∷ rest) [
      | true ↦ ap (λ bytes. byte ∷ bytes) more
      | false ↦ ap (λ bytes. byte ∷ bytes) more
    ]

cut_digits : (bytes : List ℕ) → AllByRecursion (λ (p : ℕ × List ℕ). is_count p.0 ≡ true) (cut bytes).1
cut_digits [] = tt
cut_digits (byte ∷ rest) =
    let more = cut_digits rest in
    elim (is_count byte) as (λ b. is_count byte ≡ b → AllByRecursion (λ (p : ℕ × List ℕ). is_count p.0 ≡ true) (cut_before b byte (cut rest)).1) [ true ↦ λ e. (e, more) | false ↦ λ e. more ] refl

-- groups as their bytes were read
record AreRead (before : List ℕ) (pairs : List (ℕ × List ℕ)) (groups : List Group) : Type 0 where
  each : AllByRecursion IsGroup groups
  once : IsDistinct nat_eq (map (λ group. group.count) groups)
  new : AreNew before groups
  written : joined pairs ≡ text_of_side groups

other_count : (a b : ℕ) → nat_eq (digit a) (digit b) ≡ false → nat_eq a b ≡ false
other_count a b e = ne_eqb a b (λ is. let same = eq-eqb (digit a) (digit b) (ap digit is) in cc)

new_parts : (before : List ℕ) (byte count : ℕ) (tail : List ℕ) (groups : List Group) → byte ≡ digit count → AreNew (before ++ byte ∷ tail) groups →
    AreNew before groups × AllByRecursion (λ other. nat_eq count other ≡ false) (map (λ group. group.count) groups)
new_parts before byte count tail [] is new = (tt, tt)
new_parts before byte count tail (group ∷ groups) is new =
    let more = new_parts before byte count tail groups is new.1 in
    let own = or_parts (among before (digit group.count)) (among (byte ∷ tail) (digit group.count)) (sym (list_any-append (λ other. nat_eq other (digit group.count)) before (byte ∷ tail)) ∙ new.0) in
    let differs = (or_parts (nat_eq byte (digit group.count)) (among tail (digit group.count)) own.1).0 in
    ((own.0, more.0), (other_count count group.count (subst (λ b. nat_eq b (digit group.count) ≡ false) is differs), more.1))

one_more : (before : List ℕ) (byte : ℕ) (tail : List ℕ) (pairs : List (ℕ × List ℕ)) (group : Group) (groups : List Group) → IsRead before byte tail group → AreRead (before ++ byte ∷ tail) pairs groups → AreRead before ((byte, tail) ∷ pairs) (group ∷ groups)
unfolding joined
one_more before byte tail pairs group groups here rest =
    let new = new_parts before byte group.count tail groups here.digits rest.new in
    record {
      each = (here.well, rest.each);
      once = IsDistinct-cons nat_eq group.count (map (λ group. group.count) groups) new.1 rest.once;
      new = (subst (λ b. among before b ≡ false) here.digits here.new, new.0);
      written = ap (λ bytes. byte ∷ bytes ++ joined pairs) here.written ∙ (ap (λ b. b ∷ behind_digit group ++ joined pairs) here.digits ∙ ap (λ bytes. text_of_group group ++ bytes) rest.written);
    }

groups_read-are : (column : ℕ) (before : List ℕ) (pairs : List (ℕ × List ℕ)) (groups : List Group) → AllByRecursion (λ (p : ℕ × List ℕ). is_count p.0 ≡ true) pairs → groups_read column before pairs ≡ Ok groups → AreRead before pairs groups
unfolding joined IsDistinct
groups_read-are column before [] groups h = λ e.
    let is : [] ≡ groups = cc in
    subst (AreRead before []) is (record { each = tt; once = tt; new = tt; written = refl })
groups_read-are column before ((byte, tail) ∷ pairs) groups h =
    let next = column + (1 + length tail) in
    elim (group_read column before byte tail) as (λ r. group_read column before byte tail ≡ r → and_then r (λ group. and_then (groups_read next (before ++ byte ∷ tail) pairs) (λ groups. Ok (group ∷ groups))) ≡ Ok groups → AreRead before ((byte, tail) ∷ pairs) groups) [
      | Ok group ↦ λ here. elim (groups_read next (before ++ byte ∷ tail) pairs) as (λ r. groups_read next (before ++ byte ∷ tail) pairs ≡ r → and_then r (λ groups. Ok (group ∷ groups)) ≡ Ok groups → AreRead before ((byte, tail) ∷ pairs) groups) [
        | Ok others ↦ λ rest e.
            let is : group ∷ others ≡ groups = cc in
            subst (AreRead before ((byte, tail) ∷ pairs)) is (one_more before byte tail pairs group others (group_read-is column before byte tail group h.0 here) (groups_read-are next (before ++ byte ∷ tail) pairs others h.1 rest))
        | Err fault ↦ λ rest e. cc
      ] refl
      | Err fault ↦ λ here e. cc
    ] refl

side_read-is : (column : ℕ) (parts : Cut) (groups : List Group) → side_read column parts ≡ Ok groups → (parts.0 ≡ []) × (groups_read column [] parts.1 ≡ Ok groups)
side_read-is column ([], pairs) groups e = (refl, e)
side_read-is column (byte ∷ front, pairs) groups e = cc

-- the groups of a side that was read
record IsSideRead (survival : Bool) (bytes : List ℕ) (entries : List Entry) : Type 0 where
  groups : List Group
  side : IsSide groups
  written : bytes ≡ text_of_side groups
  stands : entries ≡ entries_of_side survival groups

side_of : (survival : Bool) (column : ℕ) (bytes : List ℕ) (groups : List Group) → side_read column (cut bytes) ≡ Ok groups → IsSideRead survival bytes (entries_of_side survival groups)
unfolding joined
side_of survival column bytes groups e =
    let parts = side_read-is column (cut bytes) groups e in
    let read = groups_read-are column [] (cut bytes).1 groups (cut_digits bytes) parts.1 in
    record {
      groups = groups;
      side = record { each = All-from_recursion IsGroup groups read.each; digits_once = read.once };
      written = sym (joined-cut bytes) ∙ (ap (λ front. front ++ joined (cut bytes).1) parts.0 ∙ read.written);
      stands = refl;
    }

side_entries-is : (survival : Bool) (column : ℕ) (bytes : List ℕ) (entries : List Entry) → side_entries survival column bytes ≡ Ok entries → IsSideRead survival bytes entries
unfolding side_entries
side_entries-is survival column bytes entries =
    elim (side_read column (cut bytes)) as (λ r. side_read column (cut bytes) ≡ r → and_then r (λ groups. Ok (entries_of_side survival groups)) ≡ Ok entries → IsSideRead survival bytes entries) [
      | Ok groups ↦ λ read e. let is : entries_of_side survival groups ≡ entries = cc in subst (IsSideRead survival bytes) is (side_of survival column bytes groups read)
      | Err fault ↦ λ read e. cc
    ] refl

-- the two sides of a text that was read
record AreSidesRead (survival : Bool) (entries : List Entry) (first : Result (List Entry) RuleError) (behind : Result (ℕ × List ℕ) RuleError) : Type 0 where
  front : List Entry
  second : ℕ × List ℕ
  back : List Entry
  first_is : first ≡ Ok front
  behind_is : behind ≡ Ok second
  back_is : side_entries survival second.0 second.1 ≡ Ok back
  entries_are : entries ≡ front ++ back

second_is : (survival : Bool) (entries front : List Entry) (second : ℕ × List ℕ) → and_then (side_entries survival second.0 second.1) (λ others. Ok (front ++ others)) ≡ Ok entries → AreSidesRead survival entries (Ok front) (Ok second)
second_is survival entries front second =
    elim (side_entries survival second.0 second.1) as (λ r. side_entries survival second.0 second.1 ≡ r → and_then r (λ others. Ok (front ++ others)) ≡ Ok entries → AreSidesRead survival entries (Ok front) (Ok second)) [
      | Ok back ↦ λ read e. record { front = front; second = second; back = back; first_is = refl; behind_is = refl; back_is = read; entries_are = cc }
      | Err fault ↦ λ read e. cc
    ] refl

both_sides-are : (survival : Bool) (entries : List Entry) (first : Result (List Entry) RuleError) (behind : Result (ℕ × List ℕ) RuleError) → both_sides survival first behind ≡ Ok entries → AreSidesRead survival entries first behind
both_sides-are survival entries (Ok front) (Ok second) e = second_is survival entries front second e
both_sides-are survival entries (Ok front) (Err fault) e = cc
both_sides-are survival entries (Err fault) behind e = cc

two_codes : (a b byte : ℕ) → (nat_eq a byte || (nat_eq b byte || false)) ≡ true → (byte ≡ a) ⊎ (byte ≡ b)
two_codes a b byte e =
    elim (or_cases (nat_eq a byte) (nat_eq b byte || false) e) [
      | inl is ↦ inl (sym (eqb-true a byte is))
      | inr is ↦ inr (sym (eqb-true b byte (sym (or-false (nat_eq b byte)) ∙ is)))
    ]

after_mark-is : (column : ℕ) (bytes : List ℕ) (second : ℕ × List ℕ) → after_mark column bytes ≡ Ok second → (small_s : Bool) × (bytes ≡ between false small_s second.1)
after_mark-is column [] second = λ e. cc
after_mark-is column (byte ∷ rest) second =
    elim (is_survival_mark byte) as (λ b. is_survival_mark byte ≡ b → cond b (Ok (column + 1, rest)) (Err (Stray column)) ≡ Ok second → (small_s : Bool) × (byte ∷ rest ≡ between false small_s second.1)) [
      | true ↦ λ is e.
          let same : (column + 1, rest) ≡ second = cc in
          let behind : rest ≡ second.1 = ap (λ (p : ℕ × List ℕ). p.1) same in
          elim (two_codes 83 115 byte is) [
            | inl capital ↦ (false, ap (λ b. b ∷ rest) capital ∙ ap (λ bytes. 83 ∷ bytes) behind)
            | inr small ↦ (true, ap (λ b. b ∷ rest) small ∙ ap (λ bytes. 115 ∷ bytes) behind)
          ]
      | false ↦ λ is e. cc
    ] refl

slash_before : (small_s : Bool) (rest : List ℕ) → 47 ∷ between false small_s rest ≡ between true small_s rest
slash_before true rest = refl
slash_before false rest = refl

survival_after-is : (column : ℕ) (bytes : List ℕ) (second : ℕ × List ℕ) → survival_after column bytes ≡ Ok second → (slash : Bool) × ((small_s : Bool) × (bytes ≡ between slash small_s second.1))
survival_after-is column [] second = λ e. cc
survival_after-is column (byte ∷ rest) second =
    elim (is_slash byte) as (λ b. is_slash byte ≡ b → cond b (after_mark (column + 1) rest) (after_mark column (byte ∷ rest)) ≡ Ok second → (slash : Bool) × ((small_s : Bool) × (byte ∷ rest ≡ between slash small_s second.1))) [
      | true ↦ λ is e.
          let mark = after_mark-is (column + 1) rest second e in
          (true, (mark.0, ap (λ b. b ∷ rest) (sym (eqb-true 47 byte (sym (or-false (nat_eq 47 byte)) ∙ is))) ∙ (ap (λ bytes. 47 ∷ bytes) mark.1 ∙ slash_before mark.0 second.1)))
      | false ↦ λ is e. let mark = after_mark-is column (byte ∷ rest) second e in (false, mark)
    ] refl

-- bytes up to one that ends them, and the others
cut_side : (p : ℕ → Bool) (bytes : List ℕ) → take_while p bytes ++ drop (length (take_while p bytes)) bytes ≡ bytes
cut_side p bytes =
    ap (λ front. front ++ drop (length (take_while p bytes)) bytes) (sym (take-length-take_while p bytes)) ∙ take-append-drop (length (take_while p bytes)) bytes

-- the byte that ends them
ends_there : (p : ℕ → Bool) (bytes : List ℕ) (byte : ℕ) (rest : List ℕ) → drop (length (take_while p bytes)) bytes ≡ byte ∷ rest → p byte ≡ false
ends_there p [] byte rest e = cc
ends_there p (x ∷ xs) byte rest e =
    (elim (p x) as (λ b. p x ≡ b → drop (length (cond b (x ∷ take_while p xs) [])) (x ∷ xs) ≡ byte ∷ rest → p byte ≡ false) [
      | true ↦ λ is e. ends_there p xs byte rest e
      | false ↦ λ is e. let same : x ≡ byte = cc in ap p (sym same) ∙ is
    ]) refl (ap (λ front. drop (length front) (x ∷ xs)) (sym (take_while-cons p x xs)) ∙ e)

text_written : (small_b slash small_s : Bool) (birth survival : List Group) (bytes : List ℕ) → bytes ≡ text_of_side birth ++ between slash small_s (text_of_side survival) →
    cond {A = List ℕ} small_b (98 ∷ []) (66 ∷ []) ++ bytes ≡ text_of (BirthFirst small_b slash small_s) birth survival
text_written true slash small_s birth survival bytes e = ap (λ bytes. 98 ∷ bytes) (e ∙ sym (between_parts slash small_s (text_of_side birth) (text_of_side survival)))
text_written false slash small_s birth survival bytes e = ap (λ bytes. 66 ∷ bytes) (e ∙ sym (between_parts slash small_s (text_of_side birth) (text_of_side survival)))

-- the form with the birth side first
birth_first-is : (small_b : Bool) (bytes : List ℕ) (entries : List Entry) → birth_first bytes ≡ Ok entries → StandsFor (cond {A = List ℕ} small_b (98 ∷ []) (66 ∷ []) ++ bytes) entries
unfolding birth_first
birth_first-is small_b bytes entries e =
    let ends : ℕ → Bool = λ byte. not (is_slash byte || is_survival_mark byte) in
    let side = take_while ends bytes in
    let read = both_sides-are true entries (side_entries false 2 side) (survival_after (2 + length side) (drop (length side) bytes)) e in
    let birth = side_entries-is false 2 side read.front read.first_is in
    let survival = side_entries-is true read.second.0 read.second.1 read.back read.back_is in
    let mark = survival_after-is (2 + length side) (drop (length side) bytes) read.second read.behind_is in
    record {
      form = BirthFirst small_b mark.0 mark.1.0;
      birth = birth.groups;
      survival = survival.groups;
      birth_side = birth.side;
      survival_side = survival.side;
      written = text_written small_b mark.0 mark.1.0 birth.groups survival.groups bytes
          (sym (cut_side ends bytes) ∙ (ap (λ front. front ++ drop (length side) bytes) birth.written ∙
          ap (λ back. text_of_side birth.groups ++ back) (mark.1.1 ∙ ap (between mark.0 mark.1.0) survival.written)));
      stands = read.entries_are ∙ (ap (λ entries. entries ++ read.back) birth.stands ∙ ap (λ entries. entries_of_side false birth.groups ++ entries) survival.stands);
    }

birth_after-is : (column : ℕ) (bytes : List ℕ) (second : ℕ × List ℕ) → birth_after column bytes ≡ Ok second → (byte : ℕ) × (bytes ≡ byte ∷ second.1)
birth_after-is column [] second e = cc
birth_after-is column (byte ∷ rest) second e = let same : (column + 1, rest) ≡ second = cc in (byte, ap (λ (p : ℕ × List ℕ). byte ∷ p.1) same)

slash_is : (byte : ℕ) → not (is_slash byte) ≡ false → byte ≡ 47
slash_is byte e =
    elim (nat_eq 47 byte) as (λ b. nat_eq 47 byte ≡ b → not (b || false) ≡ false → byte ≡ 47) [ true ↦ λ is e. sym (eqb-true 47 byte is) | false ↦ λ is e. cc ] refl e

-- the form with the survival side first
survival_first-is : (bytes : List ℕ) (entries : List Entry) → survival_first bytes ≡ Ok entries → StandsFor bytes entries
unfolding survival_first
survival_first-is bytes entries e =
    let ends : ℕ → Bool = λ byte. not (is_slash byte) in
    let side = take_while ends bytes in
    let read = both_sides-are false entries (side_entries true 1 side) (birth_after (1 + length side) (drop (length side) bytes)) e in
    let survival = side_entries-is true 1 side read.front read.first_is in
    let birth = side_entries-is false read.second.0 read.second.1 read.back read.back_is in
    let slash = birth_after-is (1 + length side) (drop (length side) bytes) read.second read.behind_is in
    let is_slash : slash.0 ≡ 47 = slash_is slash.0 (ends_there ends bytes slash.0 read.second.1 slash.1) in
    record {
      form = SurvivalFirst;
      birth = birth.groups;
      survival = survival.groups;
      birth_side = birth.side;
      survival_side = survival.side;
      written = sym (cut_side ends bytes) ∙ (ap (λ front. front ++ drop (length side) bytes) survival.written ∙
          (ap (λ back. text_of_side survival.groups ++ back) (slash.1 ∙ (ap (λ b. b ∷ read.second.1) is_slash ∙ ap (λ bytes. 47 ∷ bytes) birth.written)) ∙
          sym (append_assoc (text_of_side survival.groups) (47 ∷ []) (text_of_side birth.groups))));
      stands = read.entries_are ∙ (ap (λ entries. entries ++ read.back) survival.stands ∙ ap (λ entries. entries_of_side true survival.groups ++ entries) birth.stands);
    }

marked : (byte : ℕ) (rest : List ℕ) (entries : List Entry) → is_birth_mark byte ≡ true → birth_first rest ≡ Ok entries → StandsFor (byte ∷ rest) entries
marked byte rest entries is e =
    elim (two_codes 66 98 byte is) [
      | inl capital ↦ subst (λ b. StandsFor (b ∷ rest) entries) (sym capital) (birth_first-is false rest entries e)
      | inr small ↦ subst (λ b. StandsFor (b ∷ rest) entries) (sym small) (birth_first-is true rest entries e)
    ]

pub reads_texts_alone : ReadsTextsAlone
reads_texts_alone [] entries = λ e. cc
reads_texts_alone (byte ∷ rest) entries =
    elim (is_birth_mark byte) as (λ b. is_birth_mark byte ≡ b → cond b (birth_first rest) (survival_first (byte ∷ rest)) ≡ Ok entries → StandsFor (byte ∷ rest) entries) [
      | true ↦ λ is e. marked byte rest entries is e
      | false ↦ λ is e. survival_first-is (byte ∷ rest) entries e
    ] refl
