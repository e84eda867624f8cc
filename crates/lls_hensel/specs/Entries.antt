-- What a rule text says as a list of entries, each a side and a class, and the successor by them.
use Rattle.std.specs.Prelude.{ℕ, ◌==◌, Bool, true, false, not, List, map, filter, length, Option, Some, None, ◌&&◌, if◌then◌else◌}
use Rattle.std.specs.List.{list_any}
use Rattle.std.proofs.Math.Bool.{beq}
use Rattle.lls_rule.specs.Rule.{has_centre, around}
use Rattle.lls_hensel.specs.declared.class.Class.{Class}
use Rattle.lls_hensel.specs.Class.{pictures, is_of_class}

-- a class at which cells survive, or are born
pub record Entry : Type 0 where
  pub survival : Bool
  pub class : Class

-- whether an entry says that the centre of a neighbourhood lives on: the centre has the entry's side, and the eight others its class
unfoldable pub tells : ℕ → Entry → Bool
tells nine entry = beq entry.survival (has_centre nine) && is_of_class (around nine) entry.class

-- the successor of a neighbourhood by entries
unfoldable pub next_of : List Entry → ℕ → Bool
next_of entries nine = list_any (tells nine) entries

-- a group of a rule text: a digit, perhaps `-`, and letters
pub record Group : Type 0 where
  pub count : ℕ
  pub minus : Bool
  pub letters : List ℕ

-- the letters of a count; None is the one class of 0 or 8
abbrev pub letters_of : ℕ → List (Option ℕ)
letters_of count = map (λ p. p.letter) (pictures count)

-- whether a byte is among those of a list
abbrev pub among : List ℕ → ℕ → Bool
among bytes byte = list_any (λ other. other == byte) bytes

abbrev pub is_named : List ℕ → Option ℕ → Bool
is_named letters None = false
is_named letters (Some letter) = among letters letter

-- whether a group stands for one of its digit's letters: each where it names none, else those that it names, or after `-` all others
abbrev pub stands_for : Group → Option ℕ → Bool
stands_for group letter =
    if length group.letters == 0 then true else not (beq group.minus (is_named group.letters letter))

-- the entries for which a group stands
unfoldable pub entries_of_group : Bool → Group → List Entry
entries_of_group survival group =
    map (λ letter. record { survival = survival; class = record { count = group.count; letter = letter } })
    (filter (stands_for group) (letters_of group.count))
