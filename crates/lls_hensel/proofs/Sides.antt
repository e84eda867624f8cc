-- The groups of a side, one after another.
use Rattle.std.proofs.Common.{◌≡◌, ℕ, zero, suc, ◌+◌, ◌-◌, ◌<◌, Bool, true, false, cond, not, ◌==◌, List, [], ◌∷◌, ◌++◌, length, take, drop, get_or, Result, Ok, Err, flat_map, refl, ap, ◌∙◌, sym, subst, arith, add-one, add-zero, zero-add, add_assoc, ◌≤◌, length-drop, length-take}
use Rattle.std.proofs.Math.Seq.{drop-cons, take-add}
use Rattle.std.proofs.lemmas.List.{drop-drop}
use Rattle.lls_hensel.specs.Entries.{Group, among, entries_of_group}
use Rattle.lls_hensel.specs.Reading.{Cut, cut, cut_before, side_read, side_entries, misplaced, before_digit, is_count, group_read, groups_read, tail_read, listed, letters_read, letter_first}
use Rattle.lls_base.specs.Results.{and_then}
use Rattle.lls_hensel.specs.Sides.{groups_at, table_read, with_entries}
use Rattle.lls_hensel.specs.declared.read.RuleError.{RuleError}
use Rattle.lls_hensel.specs.declared.read.RuleError.TheVariants.{NoLetters, RepeatedDigit}
use Rattle.lls_hensel.proofs.Prefixes.{cut-drop, cut_at_digit, take-length-take_while, before_digit-take_while}
use Rattle.lls_hensel.proofs.With.{with_entries-append, with_entries-none}

from_place : (side : List ℕ) (at : ℕ) → at < length side → drop at side ≡ get_or side at 0 ∷ drop (at + 1) side
from_place side at h = subst (λ n. drop at side ≡ get_or side at 0 ∷ drop n side) (sym (add-one at)) (drop-cons side at 0 h)

pub digit_at : (side : List ℕ) (at : ℕ) → at < length side → before_digit (drop at side) ≡ [] → is_count (get_or side at 0) ≡ true
digit_at side at h e = (cut_at_digit (get_or side at 0) (drop (at + 1) side) (subst (λ bytes. before_digit bytes ≡ []) (from_place side at h) e)).0

-- the place of the next group
next_drop : (side : List ℕ) (at : ℕ) → drop (at + (1 + length (before_digit (drop (at + 1) side)))) side ≡ drop (length (before_digit (drop (at + 1) side))) (drop (at + 1) side)
next_drop side at =
    let m = length (before_digit (drop (at + 1) side)) in
    ap (λ n. drop n side) (sym (add_assoc at 1 m)) ∙ sym (drop-drop m (at + 1) side)

one_more : (m : ℕ) → 1 + m ≡ suc m
one_more m = omega arith

pub taken : (bytes : List ℕ) → take (length (before_digit bytes)) bytes ≡ before_digit bytes
taken bytes =
    ap (λ front. take (length front) bytes) (before_digit-take_while bytes) ∙ (take-length-take_while (λ byte. not (is_count byte)) bytes ∙ sym (before_digit-take_while bytes))

next_take : (side : List ℕ) (at : ℕ) → at < length side → take (at + (1 + length (before_digit (drop (at + 1) side)))) side ≡ take at side ++ (get_or side at 0 ∷ before_digit (drop (at + 1) side))
next_take side at h =
    let rest = drop (at + 1) side in
    let m = length (before_digit rest) in
    let front : take (1 + m) (get_or side at 0 ∷ rest) ≡ get_or side at 0 ∷ before_digit rest =
    ap (λ n. take n (get_or side at 0 ∷ rest)) (one_more m) ∙ ap (λ bytes. get_or side at 0 ∷ bytes) (taken rest) in
    take-add at (1 + m) side ∙ ap (λ bytes. take at side ++ bytes) (ap (take (1 + m)) (from_place side at h) ∙ front)

pub next_at_digit : (side : List ℕ) (at : ℕ) → before_digit (drop (at + (1 + length (before_digit (drop (at + 1) side)))) side) ≡ []
next_at_digit side at =
    ap before_digit (next_drop side at) ∙ ap (λ (pair : Cut). pair.0) (cut-drop (drop (at + 1) side))

-- the groups from a place on are the group there and those behind it
pub groups_at-step : (column : ℕ) (side : List ℕ) (at : ℕ) → at < length side → before_digit (drop at side) ≡ [] →
    groups_at column side at ≡ and_then (group_read (column + at) (take at side) (get_or side at 0) (before_digit (drop (at + 1) side))) (λ group.
    and_then (groups_at column side (at + (1 + length (before_digit (drop (at + 1) side))))) (λ groups. Ok (group ∷ groups)))
unfolding groups_at
groups_at-step column side at h e =
    let digit = get_or side at 0 in
    let rest = drop (at + 1) side in
    let tail = before_digit rest in
    let next = at + (1 + length tail) in
    let here = (cut_at_digit digit rest (subst (λ bytes. before_digit bytes ≡ []) (from_place side at h) e)).1 in
    let behind : groups_read (column + at + (1 + length tail)) (take at side ++ digit ∷ tail) (cut rest).1 ≡ groups_read (column + next) (take next side) (cut (drop next side)).1 =
    ap (λ n. groups_read n (take at side ++ digit ∷ tail) (cut rest).1) (add_assoc column at (1 + length tail)) ∙
    (ap (λ before. groups_read (column + next) before (cut rest).1) (sym (next_take side at h)) ∙
    sym (ap (λ bytes. groups_read (column + next) (take next side) (cut bytes).1) (next_drop side at) ∙ ap (λ (pair : Cut). groups_read (column + next) (take next side) pair.1) (cut-drop rest))) in
    ap (λ bytes. groups_read (column + at) (take at side) (cut bytes).1) (from_place side at h) ∙
    (ap (λ (pair : Cut). groups_read (column + at) (take at side) pair.1) here ∙
    ap (λ read. and_then (group_read (column + at) (take at side) digit tail) (λ group. and_then read (λ groups. Ok (group ∷ groups)))) behind)

-- a group and those behind it add what each says
pub table_read-cons : (survival : Bool) (table : List Bool) (group : Group) (read : Result (List Group) RuleError) →
    table_read survival table (and_then read (λ groups. Ok (group ∷ groups))) ≡ table_read survival (with_entries table (entries_of_group survival group)) read
unfolding table_read
table_read-cons survival table group (Ok groups) = ap Ok (sym (with_entries-append table (entries_of_group survival group) (flat_map (entries_of_group survival) groups)))
table_read-cons survival table group (Err fault) = refl

listed_is : (column count : ℕ) (minus : Bool) (letters : List ℕ) (group : Group) → listed column count minus letters ≡ Ok group → record { count = count; minus = minus; letters = letters } ≡ group
listed_is column count minus letters group =
    elim (letters_read column count [] letters) as (λ r. and_then r (λ _. Ok (record { count = count; minus = minus; letters = letters })) ≡ Ok group → record { count = count; minus = minus; letters = letters } ≡ group) [
      | Ok _ ↦ λ e. cc
      | Err _ ↦ λ e. cc
    ]

group_length : Group → ℕ
group_length group = cond group.minus 1 0 + length group.letters

tail_read-length : (column count : ℕ) (tail : List ℕ) (group : Group) → tail_read column count tail ≡ Ok group → cond group.minus 1 0 + length group.letters ≡ length tail
unfolding group_length
tail_read-length column count [] group =
    λ e. let is : record { count = count; minus = false; letters = [] } ≡ group = cc in sym (ap group_length is)
tail_read-length column count (byte ∷ rest) group =
    elim (byte == 45) as (λ b. cond b (cond (letter_first rest) (listed (column + 1) count true rest) (Err (NoLetters column))) (listed column count false (byte ∷ rest)) ≡ Ok group → cond group.minus 1 0 + length group.letters ≡ length (byte ∷ rest)) [
      | true ↦ elim (letter_first rest) as (λ b. cond b (listed (column + 1) count true rest) (Err (NoLetters column)) ≡ Ok group → cond group.minus 1 0 + length group.letters ≡ length (byte ∷ rest)) [
        | true ↦ λ e. sym (ap group_length (listed_is (column + 1) count true rest group e)) ∙ one_more (length rest)
        | false ↦ λ e. cc
      ]
      | false ↦ λ e. sym (ap group_length (listed_is column count false (byte ∷ rest) group e)) ∙ zero-add (length (byte ∷ rest))
    ]

-- a group's length in its text
pub group_read-length : (column : ℕ) (before : List ℕ) (digit : ℕ) (tail : List ℕ) (group : Group) → group_read column before digit tail ≡ Ok group → cond group.minus 1 0 + length group.letters ≡ length tail
group_read-length column before digit tail group =
    elim (among before digit) as (λ b. cond b (Err (RepeatedDigit column)) (tail_read (column + 1) (digit - 48) tail) ≡ Ok group → cond group.minus 1 0 + length group.letters ≡ length tail) [
      | true ↦ λ e. cc
      | false ↦ λ e. tail_read-length (column + 1) (digit - 48) tail group e
    ]

-- a faulty group is the fault of the side
pub table_read-fault : (survival : Bool) (table : List Bool) (column : ℕ) (side : List ℕ) (at : ℕ) (fault : RuleError) → at < length side → before_digit (drop at side) ≡ [] →
    group_read (column + at) (take at side) (get_or side at 0) (before_digit (drop (at + 1) side)) ≡ Err fault →
    table_read survival table (groups_at column side at) ≡ Err fault
unfolding table_read
table_read-fault survival table column side at fault h e g =
    ap (table_read survival table) (groups_at-step column side at h e ∙ ap (λ read. and_then read (λ group. and_then (groups_at column side (at + (1 + length (before_digit (drop (at + 1) side))))) (λ groups. Ok (group ∷ groups)))) g)

-- a group adds what it says, and the next stands behind it
pub table_read-group : (survival : Bool) (table : List Bool) (column : ℕ) (side : List ℕ) (at : ℕ) (group : Group) (len : ℕ) → at < length side → before_digit (drop at side) ≡ [] →
    group_read (column + at) (take at side) (get_or side at 0) (before_digit (drop (at + 1) side)) ≡ Ok group → len ≡ 1 + cond group.minus 1 0 + length group.letters →
    (at + len ≤ length side) × (before_digit (drop (at + len) side) ≡ []) × (table_read survival table (groups_at column side at) ≡ table_read survival (with_entries table (entries_of_group survival group)) (groups_at column side (at + len)))
table_read-group survival table column side at group len h e g is =
    let tail = before_digit (drop (at + 1) side) in
    let long : cond group.minus 1 0 + length group.letters ≡ length tail = group_read-length (column + at) (take at side) (get_or side at 0) tail group g in
    let next : len ≡ 1 + length tail = omega (arith, is, long) in
    let short : length tail ≤ length (drop (at + 1) side) = omega (arith, ap length (taken (drop (at + 1) side)), length-take (length tail) (drop (at + 1) side)) in (
      omega (arith, next, short, length-drop (at + 1) side),
      subst (λ n. before_digit (drop (at + n) side) ≡ []) (sym next) (next_at_digit side at),
      ap (table_read survival table) (groups_at-step column side at h e ∙ ap (λ read. and_then read (λ group. and_then (groups_at column side (at + (1 + length tail))) (λ groups. Ok (group ∷ groups)))) g) ∙
          (table_read-cons survival table group (groups_at column side (at + (1 + length tail))) ∙
          ap (λ n. table_read survival (with_entries table (entries_of_group survival group)) (groups_at column side (at + n))) (sym next)),
    )

drop_past : (n : ℕ) (bytes : List ℕ) → length bytes ≤ n → drop n bytes ≡ []
drop_past zero [] h = refl
drop_past zero (byte ∷ rest) h = absurd (omega arith)
drop_past (suc n) [] h = refl
drop_past (suc n) (byte ∷ rest) h = drop_past n rest (omega arith)

-- no group stands at a side's end
pub table_read-end : (survival : Bool) (table : List Bool) (column : ℕ) (side : List ℕ) (at : ℕ) → length table ≡ 512 → length side ≤ at → table_read survival table (groups_at column side at) ≡ Ok table
unfolding table_read groups_at
table_read-end survival table column side at whole h =
    ap (λ bytes. table_read survival table (groups_read (column + at) (take at side) (cut bytes).1)) (drop_past at side h) ∙ ap Ok (with_entries-none table whole)

side_read-groups : (column : ℕ) (pair : Cut) → pair.0 ≡ [] → side_read column pair ≡ groups_read column [] pair.1
side_read-groups column ([], groups) e = refl
side_read-groups column (byte ∷ front, groups) e = cc

table_read-entries : (survival : Bool) (table : List Bool) (read : Result (List Group) RuleError) →
    table_read survival table read ≡ and_then (and_then read (λ groups. Ok (flat_map (entries_of_group survival) groups))) (λ entries. Ok (with_entries table entries))
unfolding table_read
table_read-entries survival table (Ok groups) = refl
table_read-entries survival table (Err fault) = refl

-- a side that begins with a digit
pub side_entries-groups : (survival : Bool) (table : List Bool) (column : ℕ) (side : List ℕ) → before_digit side ≡ [] →
    table_read survival table (groups_at column side 0) ≡ and_then (side_entries survival column side) (λ entries. Ok (with_entries table entries))
unfolding groups_at side_entries
side_entries-groups survival table column side e =
    ap (λ n. table_read survival table (groups_read n [] (cut side).1)) (add-zero column) ∙
    (ap (table_read survival table) (sym (side_read-groups column (cut side) e)) ∙ table_read-entries survival table (side_read column (cut side)))

-- a side that begins with another byte
pub side_entries-misplaced : (survival : Bool) (column : ℕ) (side : List ℕ) → 1 ≤ length side → is_count (get_or side 0 0) ≡ false → side_entries survival column side ≡ Err (misplaced (get_or side 0 0) column)
unfolding side_entries
side_entries-misplaced survival column [] h e = absurd (omega arith)
side_entries-misplaced survival column (byte ∷ rest) h e =
    ap (λ b. and_then (side_read column (cut_before b byte (cut rest))) (λ groups. Ok (flat_map (entries_of_group survival) groups))) e

-- a side without bytes
pub side_entries-none : (survival : Bool) (column : ℕ) (side : List ℕ) → length side < 1 → side_entries survival column side ≡ Ok []
unfolding side_entries
side_entries-none survival column [] h = refl
side_entries-none survival column (byte ∷ rest) h = absurd (omega arith)

pub before_digit-at_digit : (side : List ℕ) → is_count (get_or side 0 0) ≡ true → before_digit side ≡ []
before_digit-at_digit [] e = refl
before_digit-at_digit (byte ∷ rest) e = ap (λ b. (cut_before b byte (cut rest)).0) e
