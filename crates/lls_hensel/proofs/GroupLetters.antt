-- The letters of a group are read exactly where each is one of the count's and none stands twice.
use Rattle.std.proofs.Common.{◌≡◌, ℕ, zero, suc, ◌+◌, nat_eq, Bool, true, false, cond, not, ◌&&◌, ◌||◌, List, [], ◌∷◌, ◌++◌, Option, Some, None, Result, Ok, Err, inl, inr, refl, ap, ◌∙◌, sym, arith}
use Rattle.std.specs.List.{list_any, list_all, AllByRecursion, IsDistinct}
use Rattle.std.specs.Char.{is_ascii_lowercase}
use Rattle.std.proofs.Math.Bool.{or-false}
use Rattle.std.proofs.lemmas.Bool.{and_parts, and_from, or_cases, or_parts, or_from}
use Rattle.std.proofs.lemmas.List.Folds.{list_any-append}
use Rattle.std.proofs.lemmas.Map.Keys.{IsDistinct-head, IsDistinct-tail, IsDistinct-cons}
use Rattle.lls_hensel.specs.Class.{Picture, pictures, letter_among, same_letter}
use Rattle.lls_hensel.specs.Entries.{among}
use Rattle.lls_hensel.specs.Reading.{letters_read, is_count, is_slash, is_survival_mark}
use Rattle.lls_hensel.specs.declared.read.RuleError.{RuleError}
use Rattle.lls_hensel.specs.declared.read.RuleError.TheVariants.{BadLetter, RepeatedLetter, Stray}
use Rattle.lls_hensel.proofs.Classes.{letter_same}
use Rattle.lls_hensel.proofs.Tells.{pictures_none}

-- bytes that stand in a side, and those that stand behind a digit
abbrev pub is_inside : ℕ → Bool
is_inside byte = not (is_slash byte || is_survival_mark byte)

abbrev pub is_behind : ℕ → Bool
is_behind byte = not (is_count byte) && is_inside byte

-- a small letter that may stand behind a digit
abbrev is_small : ℕ → Bool
is_small byte = is_ascii_lowercase byte && is_behind byte

abbrev is_small_letter : Option ℕ → Bool
is_small_letter None = true
is_small_letter (Some letter) = is_small letter

small_pictures : (count : ℕ) → list_all (λ p. is_small_letter p.letter) (pictures count) ≡ true
small_pictures zero = refl
small_pictures (suc zero) = refl
small_pictures (suc (suc zero)) = refl
small_pictures (suc (suc (suc zero))) = refl
small_pictures (suc (suc (suc (suc zero)))) = refl
small_pictures (suc (suc (suc (suc (suc zero))))) = refl
small_pictures (suc (suc (suc (suc (suc (suc zero)))))) = refl
small_pictures (suc (suc (suc (suc (suc (suc (suc zero))))))) = refl
small_pictures (suc (suc (suc (suc (suc (suc (suc (suc zero)))))))) = refl
small_pictures (suc (suc (suc (suc (suc (suc (suc (suc (suc count))))))))) =
    ap (list_all (λ p. is_small_letter p.letter)) (pictures_none (suc (suc (suc (suc (suc (suc (suc (suc (suc count))))))))) (omega arith))

small_among : (ps : List Picture) (byte : ℕ) → list_all (λ p. is_small_letter p.letter) ps ≡ true → list_any (λ p. same_letter p.letter (Some byte)) ps ≡ true → is_small byte ≡ true
small_among [] byte h e = cc
small_among (p ∷ ps) byte h e =
    let parts = and_parts (is_small_letter p.letter) (list_all (λ p. is_small_letter p.letter) ps) h in
    elim (or_cases (same_letter p.letter (Some byte)) (list_any (λ p. same_letter p.letter (Some byte)) ps) e) [
      | inl is ↦ ap is_small_letter (sym (letter_same p.letter (Some byte) is)) ∙ parts.0
      | inr more ↦ small_among ps byte parts.1 more
    ]

-- each letter of a count is a small letter that may stand behind a digit
pub small-letter_among : (count byte : ℕ) → letter_among count byte ≡ true → (is_ascii_lowercase byte ≡ true) × (is_behind byte ≡ true)
small-letter_among count byte h =
    and_parts (is_ascii_lowercase byte) (is_behind byte) (small_among (pictures count) byte (small_pictures count) h)

three_tests : (low of_count before : Bool) (first second third : RuleError) (rest : Result (Unit {0}) RuleError) →
    cond (not low) (Err first) (cond (not of_count) (Err second) (cond before (Err third) rest)) ≡ Ok tt → (low ≡ true) × (of_count ≡ true) × (before ≡ false) × (rest ≡ Ok tt)
three_tests true true false first second third rest e = (refl, refl, refl, e)
three_tests true true true first second third rest e = cc
three_tests true false before first second third rest e = cc
three_tests false of_count before first second third rest e = cc

-- what it is for letters to be read
pub letters_read-first : (column count : ℕ) (before : List ℕ) (byte : ℕ) (rest : List ℕ) → letters_read column count before (byte ∷ rest) ≡ Ok tt →
    (is_ascii_lowercase byte ≡ true) × (letter_among count byte ≡ true) × (among before byte ≡ false) × (letters_read (column + 1) count (before ++ byte ∷ []) rest ≡ Ok tt)
letters_read-first column count before byte rest e =
    three_tests (is_ascii_lowercase byte) (letter_among count byte) (among before byte) (Stray column) (BadLetter column) (RepeatedLetter column) (letters_read (column + 1) count (before ++ byte ∷ []) rest) e

three_passed : (low of_count before : Bool) (first second third : RuleError) (rest : Result (Unit {0}) RuleError) → low ≡ true → of_count ≡ true → before ≡ false → rest ≡ Ok tt →
    cond (not low) (Err first) (cond (not of_count) (Err second) (cond before (Err third) rest)) ≡ Ok tt
three_passed true true false first second third rest e f g h = h
three_passed true true true first second third rest e f g h = cc
three_passed true false before first second third rest e f g h = cc
three_passed false of_count before first second third rest e f g h = cc

pub among-push : (xs : List ℕ) (x byte : ℕ) → among (xs ++ x ∷ []) byte ≡ (among xs byte || nat_eq x byte)
among-push xs x byte = list_any-append (λ other. nat_eq other byte) xs (x ∷ []) ∙ ap (λ b. among xs byte || b) (or-false (nat_eq x byte))

-- letters stand neither before nor after others
abbrev pub AreApart : List ℕ → List ℕ → Type 0
AreApart before letters = AllByRecursion (λ letter. among before letter ≡ false) letters

apart_push : (before : List ℕ) (x : ℕ) (letters : List ℕ) → AreApart before letters → AllByRecursion (λ letter. nat_eq x letter ≡ false) letters → AreApart (before ++ x ∷ []) letters
apart_push before x [] h g = tt
apart_push before x (letter ∷ letters) h g =
    (among-push before x letter ∙ or_from (among before letter) (nat_eq x letter) h.0 g.0, apart_push before x letters h.1 g.1)

apart_parts : (before : List ℕ) (x : ℕ) (letters : List ℕ) → AreApart (before ++ x ∷ []) letters → AreApart before letters × AllByRecursion (λ letter. nat_eq x letter ≡ false) letters
apart_parts before x [] h = (tt, tt)
apart_parts before x (letter ∷ letters) h =
    let here = or_parts (among before letter) (nat_eq x letter) (sym (among-push before x letter) ∙ h.0) in
    let more = apart_parts before x letters h.1 in
    ((here.0, more.0), (here.1, more.1))

-- letters of the count that differ are read
pub letters_read-distinct : (column count : ℕ) (before letters : List ℕ) → list_all (letter_among count) letters ≡ true → AreApart before letters → IsDistinct nat_eq letters → letters_read column count before letters ≡ Ok tt
letters_read-distinct column count before [] h apart once = refl
letters_read-distinct column count before (letter ∷ letters) h apart once =
    let parts = and_parts (letter_among count letter) (list_all (letter_among count) letters) h in
    let rest = letters_read-distinct (column + 1) count (before ++ letter ∷ []) letters parts.1 (apart_push before letter letters apart.1 (IsDistinct-head nat_eq letter letters once)) (IsDistinct-tail nat_eq letter letters once) in
    three_passed (is_ascii_lowercase letter) (letter_among count letter) (among before letter) (Stray column) (BadLetter column) (RepeatedLetter column) (letters_read (column + 1) count (before ++ letter ∷ []) letters)
    (small-letter_among count letter parts.0).0 parts.0 apart.0 rest

pub record AreLetters (count : ℕ) (before letters : List ℕ) : Type 0 where
  pub of_count : list_all (letter_among count) letters ≡ true
  pub apart : AreApart before letters
  pub once : IsDistinct nat_eq letters

-- letters that are read are of the count and differ
pub distinct-letters_read : (column count : ℕ) (before letters : List ℕ) → letters_read column count before letters ≡ Ok tt → AreLetters count before letters
unfolding IsDistinct
distinct-letters_read column count before [] e = record { of_count = refl; apart = tt; once = tt }
distinct-letters_read column count before (letter ∷ letters) e =
    let first = letters_read-first column count before letter letters e in
    let rest = distinct-letters_read (column + 1) count (before ++ letter ∷ []) letters first.3 in
    let apart = apart_parts before letter letters rest.apart in
    record {
      of_count = and_from (letter_among count letter) (list_all (letter_among count) letters) first.1 rest.of_count;
      apart = (first.2, apart.0);
      once = IsDistinct-cons nat_eq letter letters apart.1 rest.once;
    }
