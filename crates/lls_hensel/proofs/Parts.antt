-- Parts of the letters of a count.
use Rattle.std.proofs.Common.{◌≡◌, ℕ, nat_eq, Bool, true, false, cond, ◌&&◌, ◌||◌, List, [], ◌∷◌, map, filter, inl, inr, refl, ap, ◌∙◌, sym, subst}
use Rattle.std.specs.List.{list_any, list_all, AllByRecursion, IsDistinct}
use Rattle.std.specs.Cmp.Lexicographic.{pointwise}
use Rattle.std.specs.Cmp.{booleans_Decides}
use Rattle.std.proofs.Math.Bool.{beq}
use Rattle.std.proofs.lemmas.Bool.{and_parts, and_from, or_cases, or_left, or_right, eqb-true, false_from_ne_true}
use Rattle.std.proofs.lemmas.Slice.Eq.{slice_eq-Decides}
use Rattle.std.proofs.lemmas.Map.Keys.{IsDistinct-head, IsDistinct-tail, IsDistinct-cons}
use Rattle.lls_hensel.specs.Entries.{among}

-- letters, each with eight neighbours of its class
abbrev pub Lettered : Type 0
Lettered = List (ℕ × List Bool)

abbrev pub letters : Lettered → List ℕ
letters qs = map (λ (q : ℕ × List Bool). q.0) qs

-- the letters whose classes pass a test
abbrev pub part : (List Bool → Bool) → Lettered → List ℕ
part test qs = letters (filter (λ (q : ℕ × List Bool). test q.1) qs)

abbrev pub part_step : Bool → ℕ → List ℕ → List ℕ
part_step passes letter rest = cond passes (letter ∷ rest) rest

pub part-cons : (test : List Bool → Bool) (q : ℕ × List Bool) (qs : Lettered) → part test (q ∷ qs) ≡ part_step (test q.1) q.0 (part test qs)
part-cons test q qs =
    elim (test q.1) as (λ b. letters (cond b (q ∷ filter (λ (q : ℕ × List Bool). test q.1) qs) (filter (λ (q : ℕ × List Bool). test q.1) qs)) ≡ part_step b q.0 (part test qs)) [ true ↦ refl | false ↦ refl ]

-- what all letters are, those of a part are
pub list_all-part : (ok : ℕ → Bool) (test : List Bool → Bool) (qs : Lettered) → list_all ok (letters qs) ≡ true → list_all ok (part test qs) ≡ true
list_all-part ok test [] h = refl
list_all-part ok test (q ∷ qs) h =
    let parts = and_parts (ok q.0) (list_all ok (letters qs)) h in
    let more = list_all-part ok test qs parts.1 in
    ap (list_all ok) (part-cons test q qs) ∙ elim (test q.1) as (λ b. list_all ok (part_step b q.0 (part test qs)) ≡ true) [
      | true ↦ and_from (ok q.0) (list_all ok (part test qs)) parts.0 more
      | false ↦ more
    ]

-- a byte that is among a part's letters is among all
pub among-part-all : (test : List Bool → Bool) (qs : Lettered) (byte : ℕ) → among (part test qs) byte ≡ true → among (letters qs) byte ≡ true
among-part-all test [] byte h = h
among-part-all test (q ∷ qs) byte h =
    let at = sym (ap (λ bytes. among bytes byte) (part-cons test q qs)) ∙ h in
    (elim (test q.1) as (λ b. among (part_step b q.0 (part test qs)) byte ≡ true → among (letters (q ∷ qs)) byte ≡ true) [
      | true ↦ λ e. elim (or_cases (nat_eq q.0 byte) (among (part test qs) byte) e) [
        | inl x ↦ or_left (nat_eq q.0 byte) (among (letters qs) byte) x
        | inr x ↦ or_right (nat_eq q.0 byte) (among (letters qs) byte) (among-part-all test qs byte x)
      ]
      | false ↦ λ e. or_right (nat_eq q.0 byte) (among (letters qs) byte) (among-part-all test qs byte e)
    ]) at

-- letters that differ differ in a part
each-part : (P : ℕ → Type 0) (test : List Bool → Bool) (qs : Lettered) → AllByRecursion P (letters qs) → AllByRecursion P (part test qs)
each-part P test [] h = tt
each-part P test (q ∷ qs) h =
    let more = each-part P test qs h.1 in
    subst (AllByRecursion P) (sym (part-cons test q qs)) (elim (test q.1) as (λ b. AllByRecursion P (part_step b q.0 (part test qs))) [ true ↦ (h.0, more) | false ↦ more ])

pub IsDistinct-part : (test : List Bool → Bool) (qs : Lettered) → IsDistinct nat_eq (letters qs) → IsDistinct nat_eq (part test qs)
IsDistinct-part test [] h = h
IsDistinct-part test (q ∷ qs) h =
    let more = IsDistinct-part test qs (IsDistinct-tail nat_eq q.0 (letters qs) h) in
    subst (IsDistinct nat_eq) (sym (part-cons test q qs)) (elim (test q.1) as (λ b. IsDistinct nat_eq (part_step b q.0 (part test qs))) [
      | true ↦ IsDistinct-cons nat_eq q.0 (part test qs) (each-part (λ y. nat_eq q.0 y ≡ false) test qs (IsDistinct-head nat_eq q.0 (letters qs) h)) more
      | false ↦ more
    ])

-- one that differs from each of a list differs from one of them
differs : (x : ℕ) (xs : List ℕ) (y : ℕ) → AllByRecursion (λ y. nat_eq x y ≡ false) xs → among xs y ≡ true → nat_eq x y ≡ false
differs x [] y h e = cc
differs x (z ∷ zs) y h e =
    elim (or_cases (nat_eq z y) (among zs y) e) [
      | inl is ↦ subst (λ w. nat_eq x w ≡ false) (eqb-true z y is) h.0
      | inr more ↦ differs x zs y h.1 more
    ]

-- whether a letter stands there with these eight
abbrev pub stands_with : Lettered → ℕ → List Bool → Bool
stands_with qs letter eight = list_any (λ (q : ℕ × List Bool). nat_eq q.0 letter && pointwise beq q.1 eight) qs

stands_among : (qs : Lettered) (letter : ℕ) (eight : List Bool) → stands_with qs letter eight ≡ true → among (letters qs) letter ≡ true
stands_among [] letter eight h = h
stands_among (q ∷ qs) letter eight h =
    elim (or_cases (nat_eq q.0 letter && pointwise beq q.1 eight) (stands_with qs letter eight) h) [
      | inl x ↦ or_left (nat_eq q.0 letter) (among (letters qs) letter) (and_parts (nat_eq q.0 letter) (pointwise beq q.1 eight) x).0
      | inr x ↦ or_right (nat_eq q.0 letter) (among (letters qs) letter) (stands_among qs letter eight x)
    ]

-- a letter is among a part exactly where its class passes the test
pub among-part : (test : List Bool → Bool) (qs : Lettered) (letter : ℕ) (eight : List Bool) → IsDistinct nat_eq (letters qs) → stands_with qs letter eight ≡ true → among (part test qs) letter ≡ test eight
among-part test [] letter eight once h = cc
among-part test (q ∷ qs) letter eight once h =
    let others = IsDistinct-head nat_eq q.0 (letters qs) once in
    ap (λ bytes. among bytes letter) (part-cons test q qs) ∙
    elim (or_cases (nat_eq q.0 letter && pointwise beq q.1 eight) (stands_with qs letter eight) h) [
      | inl x ↦
          let parts = and_parts (nat_eq q.0 letter) (pointwise beq q.1 eight) x in
          let same : q.1 ≡ eight = (slice_eq-Decides booleans_Decides q.1 eight true (sym parts.1)).0 refl in
          let gone : among (part test qs) letter ≡ false = false_from_ne_true (among (part test qs) letter) (λ t.
          let never = differs q.0 (letters qs) letter others (among-part-all test qs letter t) in let is = parts.0 in cc) in
          (elim (test q.1) as (λ b. among (part_step b q.0 (part test qs)) letter ≡ b) [ true ↦ or_left (nat_eq q.0 letter) (among (part test qs) letter) parts.0 | false ↦ gone ]) ∙ ap test same
      | inr x ↦
          let more = among-part test qs letter eight (IsDistinct-tail nat_eq q.0 (letters qs) once) x in
          let other = differs q.0 (letters qs) letter others (stands_among qs letter eight x) in
          (elim (test q.1) as (λ b. among (part_step b q.0 (part test qs)) letter ≡ among (part test qs) letter) [ true ↦ ap (λ b. b || among (part test qs) letter) other | false ↦ refl ]) ∙ more
    ]
