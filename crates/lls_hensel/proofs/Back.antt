-- The group that is printed for a count is well formed, and stands for the classes that are in.
use Rattle.std.proofs.Common.{◌≡◌, ◌⊎◌, inl, inr, ℕ, zero, suc, ◌-◌, ◌<◌, ◌≤◌, nat_eq, nat_le, Bool, true, false, cond, not, ◌&&◌, ◌||◌, List, [], ◌∷◌, map, filter, length, Option, Some, None, Ok, refl, ap, ◌∙◌, sym, subst, arith}
use Rattle.std.specs.Prelude.{replicate}
use Rattle.std.specs.List.{list_all, IsDistinct}
use Rattle.std.specs.Int.Count.{ones}
use Rattle.std.specs.Cmp.Lexicographic.{pointwise}
use Rattle.std.specs.Cmp.{booleans_Decides}
use Rattle.std.proofs.Math.Bool.{beq, not-not}
use Rattle.std.proofs.lemmas.Bool.{agree_below, agree_below_at, and_parts, eqb-true, ne_eqb, leb-true, or_cases, cases_Bool}
use Rattle.std.proofs.lemmas.Bool.Decides.{leb_tells}
use Rattle.std.proofs.lemmas.List.Sums.{AllPass-from_list_all}
use Rattle.std.proofs.lemmas.Slice.Eq.{slice_eq-Decides}
use Rattle.lls_rule.specs.Rule.{answer, around}
use Rattle.lls_hensel.specs.Class.{Picture, pictures, lettered, letter_among}
use Rattle.lls_hensel.specs.Entries.{Group, among, stands_for}
use Rattle.lls_hensel.specs.Neighbours.{eight_of}
use Rattle.lls_hensel.specs.Notation.{IsGroup}
use Rattle.lls_hensel.specs.Numbers.{class_by_number, letter_by_number, representative_by_number, representatives_of, representatives_of_fewer, images_by_number, fewer_of, turned, mirrored, flipped}
use Rattle.lls_hensel.specs.Printing.{number_with, first_eight, representative_eight, letters_at, named, listing, grouped, canonical_group}
use Rattle.lls_hensel.specs.Reading.{letters_read}
use Rattle.lls_hensel.proofs.GroupLetters.{distinct-letters_read}
use Rattle.lls_hensel.proofs.Parts.{Lettered, letters, part, part_step, part-cons, list_all-part, IsDistinct-part, stands_with, among-part}
use Rattle.lls_hensel.proofs.Sources.{no_letters}

-- the answer of a side at the representative of a number's class
abbrev pub own_answer : List Bool → Bool → ℕ → Bool
own_answer table survival n = answer table (number_with survival (representative_eight (eight_of n)))

-- a count whose classes are all out
pub record IsAbsent (table : List Bool) (survival : Bool) (count : ℕ) : Type 0 where
  pub none : canonical_group table survival count ≡ []
  pub out : (n : ℕ) → n < 256 → (class_by_number n).count ≡ count → own_answer table survival n ≡ false

-- a count whose group stands for the classes that are in
pub record IsPresent (table : List Bool) (survival : Bool) (count : ℕ) (group : Group) : Type 0 where
  pub only : canonical_group table survival count ≡ group ∷ []
  pub well : IsGroup group
  pub counts : group.count ≡ count
  pub stands : (n : ℕ) → n < 256 → (class_by_number n).count ≡ count → stands_for group (class_by_number n).letter ≡ own_answer table survival n

abbrev pub GroupBack : List Bool → Bool → ℕ → Type 0
GroupBack table survival count = IsAbsent table survival count ⊎ ((group : Group) × IsPresent table survival count group)

-- the letters of a count from one to seven, each with eight of its class
lettered_at : ℕ → Lettered
lettered_at count =
    cond (nat_le count 4) (map {B = ℕ × List Bool} (λ p. (p.0, around p.1)) (lettered count)) (map {B = ℕ × List Bool} (λ p. (p.0, map not (around p.1))) (lettered (8 - count)))

-- whether a class stands in the table of letters as its representative
own_stands : ℕ → ℕ → Option ℕ → List Bool → Bool
own_stands n count (Some letter) eight = nat_le 1 count && nat_le count 7 && stands_with (lettered_at count) letter eight
own_stands n count None eight = (nat_eq count 0 || nat_eq count 8) && pointwise beq (first_eight (pictures count)) eight

each_stands : agree_below (λ n. own_stands n (class_by_number n).count (class_by_number n).letter (representative_eight (eight_of n))) (λ _. true) 256 ≡ true
unfolding own_stands lettered_at representative_eight class_by_number letter_by_number representative_by_number representatives_of representatives_of_fewer images_by_number fewer_of turned mirrored flipped ones
each_stands = refl

-- what holds of the letters of each count from one to seven
record IsLettered (count : ℕ) : Type 0 where
  named_pictures : pictures count ≡ map (λ (q : ℕ × List Bool). record { letter = Some q.0; eight = q.1 }) (lettered_at count)
  read : letters_read 0 count [] (letters (lettered_at count)) ≡ Ok tt

is_lettered : (count : ℕ) → 1 ≤ count → count ≤ 7 → IsLettered count
unfolding lettered_at
is_lettered zero h g = absurd (omega arith)
is_lettered (suc zero) h g = record { named_pictures = refl; read = refl }
is_lettered (suc (suc zero)) h g = record { named_pictures = refl; read = refl }
is_lettered (suc (suc (suc zero))) h g = record { named_pictures = refl; read = refl }
is_lettered (suc (suc (suc (suc zero)))) h g = record { named_pictures = refl; read = refl }
is_lettered (suc (suc (suc (suc (suc zero))))) h g = record { named_pictures = refl; read = refl }
is_lettered (suc (suc (suc (suc (suc (suc zero)))))) h g = record { named_pictures = refl; read = refl }
is_lettered (suc (suc (suc (suc (suc (suc (suc zero))))))) h g = record { named_pictures = refl; read = refl }
is_lettered (suc (suc (suc (suc (suc (suc (suc (suc count)))))))) h g = absurd (omega arith)

told : (n : ℕ) → n < 256 → own_stands n (class_by_number n).count (class_by_number n).letter (representative_eight (eight_of n)) ≡ true
told n h = agree_below_at (λ n. own_stands n (class_by_number n).count (class_by_number n).letter (representative_eight (eight_of n))) (λ _. true) 256 n each_stands h

with_letter : (n count : ℕ) (letter : Option ℕ) (eight : List Bool) → 1 ≤ count → count ≤ 7 → own_stands n count letter eight ≡ true →
    (l : ℕ) × (letter ≡ Some l) × (stands_with (lettered_at count) l eight ≡ true)
unfolding own_stands
with_letter n count None eight h g e =
    elim (or_cases (nat_eq count 0) (nat_eq count 8) (and_parts (nat_eq count 0 || nat_eq count 8) (pointwise beq (first_eight (pictures count)) eight) e).0) [
      | inl x ↦ absurd (omega (arith, eqb-true count 0 x))
      | inr x ↦ absurd (omega (arith, eqb-true count 8 x))
    ]
with_letter n count (Some letter) eight h g e =
    (letter, refl, (and_parts (nat_le 1 count && nat_le count 7) (stands_with (lettered_at count) letter eight) e).1)

without_letter : (n count : ℕ) (letter : Option ℕ) (eight : List Bool) → (count ≡ 0) ⊎ (count ≡ 8) → own_stands n count letter eight ≡ true →
    (letter ≡ None) × (first_eight (pictures count) ≡ eight)
unfolding own_stands
without_letter n count None eight h e =
    (refl, (slice_eq-Decides booleans_Decides (first_eight (pictures count)) eight true (sym (and_parts (nat_eq count 0 || nat_eq count 8) (pointwise beq (first_eight (pictures count)) eight) e).1)).0 refl)
without_letter n count (Some letter) eight h e =
    let both = and_parts (nat_le 1 count) (nat_le count 7) (and_parts (nat_le 1 count && nat_le count 7) (stands_with (lettered_at count) letter eight) e).0 in
    let low = leb-true 1 count both.0 in let high = leb-true count 7 both.1 in
    elim h [ inl x ↦ absurd (omega arith) | inr x ↦ absurd (omega arith) ]

abbrev answer_is : List Bool → Bool → Bool → List Bool → Bool
answer_is table survival live eight = beq (answer table (number_with survival eight)) live

is_true : (b : Bool) → beq b true ≡ b
is_true b = elim b as (λ v. beq v true ≡ v) [ true ↦ refl | false ↦ refl ]

is_false : (b : Bool) → beq b false ≡ not b
is_false b = elim b as (λ v. beq v false ≡ not v) [ true ↦ refl | false ↦ refl ]

lettered_filter : (test : List Bool → Bool) (qs : Lettered) →
    map (λ p. p.letter) (filter (λ p. test p.eight) (map {B = Picture} (λ (q : ℕ × List Bool). record { letter = Some q.0; eight = q.1 }) qs)) ≡ map Some (part test qs)
lettered_filter test [] = refl
lettered_filter test (q ∷ qs) =
    let rest = filter (λ p. test p.eight) (map {B = Picture} (λ (q : ℕ × List Bool). record { letter = Some q.0; eight = q.1 }) qs) in
    let more = lettered_filter test qs in
    (elim (test q.1) as (λ b. map (λ p. p.letter) (cond b (record { letter = Some q.0; eight = q.1 } ∷ rest) rest) ≡ map Some (part_step b q.0 (part test qs))) [
      | true ↦ ap (λ ls. Some q.0 ∷ ls) more
      | false ↦ more
    ]) ∙ ap (map Some) (sym (part-cons test q qs))

letters_at-part : (table : List Bool) (survival : Bool) (count : ℕ) (live : Bool) → IsLettered count → letters_at table survival count live ≡ map Some (part (answer_is table survival live) (lettered_at count))
unfolding letters_at
letters_at-part table survival count live l =
    ap (λ ps. map (λ p. p.letter) (filter (λ p. answer_is table survival live p.eight) ps)) l.named_pictures ∙ lettered_filter (answer_is table survival live) (lettered_at count)

named-some : (xs : List ℕ) → named (map Some xs) ≡ xs
named-some [] = refl
named-some (x ∷ xs) = ap (λ ls. x ∷ ls) (named-some xs)

-- letters of a count, each once
record AreOf (count : ℕ) (bytes : List ℕ) : Type 0 where
  of_count : list_all (letter_among count) bytes ≡ true
  once : IsDistinct nat_eq bytes

are_of-part : (count : ℕ) (test : List Bool → Bool) → IsLettered count → AreOf count (part test (lettered_at count))
are_of-part count test l =
    let all = distinct-letters_read 0 count [] (letters (lettered_at count)) l.read in
    record { of_count = list_all-part (letter_among count) test (lettered_at count) all.of_count; once = IsDistinct-part test (lettered_at count) all.once }

-- what is known of the letters that are in and those that are out
record IsSplit (table : List Bool) (survival : Bool) (count : ℕ) (inside outside : List ℕ) : Type 0 where
  group : canonical_group table survival count ≡ grouped count (map Some inside) (map Some outside)
  are_inside : AreOf count inside
  are_outside : AreOf count outside
  own : (n : ℕ) → n < 256 → (class_by_number n).count ≡ count → (l : ℕ) × ((class_by_number n).letter ≡ Some l) × (among inside l ≡ own_answer table survival n) × (among outside l ≡ not (own_answer table survival n))

split : (table : List Bool) (survival : Bool) (count : ℕ) → 1 ≤ count → count ≤ 7 → IsSplit table survival count (part (answer_is table survival true) (lettered_at count)) (part (answer_is table survival false) (lettered_at count))
unfolding canonical_group
split table survival count h g =
    let l = is_lettered count h g in
    let qs = lettered_at count in
    let once = (distinct-letters_read 0 count [] (letters qs) l.read).once in
    let inside = answer_is table survival true in
    let outside = answer_is table survival false in
    record {
      group = ap (λ found. grouped count found (letters_at table survival count false)) (letters_at-part table survival count true l) ∙ ap (grouped count (map Some (part inside qs))) (letters_at-part table survival count false l);
      are_inside = are_of-part count inside l;
      are_outside = are_of-part count outside l;
      own = λ n within is.
          let found = with_letter n count (class_by_number n).letter (representative_eight (eight_of n)) h g (subst (λ m. own_stands n m (class_by_number n).letter (representative_eight (eight_of n)) ≡ true) is (told n within)) in (
            found.0,
            found.1,
            among-part inside qs found.0 (representative_eight (eight_of n)) once found.2 ∙ is_true (own_answer table survival n),
            among-part outside qs found.0 (representative_eight (eight_of n)) once found.2 ∙ is_false (own_answer table survival n),
          );
    }

-- groups of letters of the count, each once
some_letters : (count : ℕ) (minus : Bool) (letter : ℕ) (letters : List ℕ) → count ≤ 8 → AreOf count (letter ∷ letters) → IsGroup (listing count minus (letter ∷ letters))
some_letters count minus letter letters h are =
    record { count = h; letters = AllPass-from_list_all (letter_among count) (letter ∷ letters) are.of_count; letters_once = are.once; minus = λ _. omega arith }

stands_few : (count x l : ℕ) (xs : List ℕ) → stands_for (listing count false (x ∷ xs)) (Some l) ≡ among (x ∷ xs) l
stands_few count x l xs =
    ap (λ b. cond b true (not (beq false (among (x ∷ xs) l)))) (ne_eqb (length (x ∷ xs)) 0 (λ e. absurd (omega arith))) ∙
    (elim (among (x ∷ xs) l) as (λ b. not (beq false b) ≡ b) [ true ↦ refl | false ↦ refl ])

stands_many : (count y l : ℕ) (ys : List ℕ) → stands_for (listing count true (y ∷ ys)) (Some l) ≡ not (among (y ∷ ys) l)
stands_many count y l ys =
    ap (λ b. cond b true (not (beq true (among (y ∷ ys) l)))) (ne_eqb (length (y ∷ ys)) 0 (λ e. absurd (omega arith))) ∙
    (elim (among (y ∷ ys) l) as (λ b. not (beq true b) ≡ not b) [ true ↦ refl | false ↦ refl ])

some_out : (x : ℕ) (xs : List ℕ) → nat_eq (length (map Some (x ∷ xs))) 0 ≡ false
some_out x xs = ne_eqb (length (map Some (x ∷ xs))) 0 (λ e. absurd (omega arith))

by_split : (table : List Bool) (survival : Bool) (count : ℕ) (inside outside : List ℕ) → count ≤ 8 → IsSplit table survival count inside outside → GroupBack table survival count
by_split table survival count [] outside h s = inl (record {
  none = s.group;
  out = λ n within is. let own = s.own n within is in sym own.2;
})
by_split table survival count (x ∷ xs) [] h s = inr (
  listing count false [],
  record {
    only = s.group ∙ rw (some_out x xs) refl;
    well = no_letters count h;
    counts = refl;
    stands = λ n within is. let own = s.own n within is in ap not own.3 ∙ not-not (own_answer table survival n);
  },
)
by_split table survival count (x ∷ xs) (y ∷ ys) h s =
    let inside = x ∷ xs in
    let outside = y ∷ ys in
    let some_in = some_out x xs in
    let some_out = some_out y ys in
    elim (leb_tells (length (map Some inside)) (length (map Some outside))) [
      | inl t ↦ inr (
        listing count false inside,
        record {
          only = s.group ∙ rw (some_in, some_out, t.0) (ap (λ bytes. listing count false bytes ∷ []) (named-some inside));
          well = some_letters count false x xs h s.are_inside;
          counts = refl;
          stands = λ n within is. let own = s.own n within is in ap (stands_for (listing count false inside)) own.1 ∙ (stands_few count x own.0 xs ∙ own.2);
        },
      )
      | inr t ↦ inr (
        listing count true outside,
        record {
          only = s.group ∙ rw (some_in, some_out, t.0) (ap (λ bytes. listing count true bytes ∷ []) (named-some outside));
          well = some_letters count true y ys h s.are_outside;
          counts = refl;
          stands = λ n within is. let own = s.own n within is in ap (stands_for (listing count true outside)) own.1 ∙ (stands_many count y own.0 ys ∙ (ap not own.3 ∙ not-not (own_answer table survival n)));
        },
      )
    ]

single_group : (count : ℕ) (p : Picture) (b : Bool) →
    grouped count (map (λ p. p.letter) (cond (beq b true) (p ∷ []) [])) (map (λ p. p.letter) (cond (beq b false) (p ∷ []) [])) ≡ cond b (listing count false [] ∷ []) []
single_group count p b = elim b as (λ b. grouped count (map (λ p. p.letter) (cond (beq b true) (p ∷ []) [])) (map (λ p. p.letter) (cond (beq b false) (p ∷ []) [])) ≡ cond b (listing count false [] ∷ []) []) [ true ↦ refl | false ↦ refl ]

-- a count with one class alone
by_single : (table : List Bool) (survival : Bool) (count : ℕ) (p : Picture) → count ≤ 8 → pictures count ≡ p ∷ [] → (count ≡ 0) ⊎ (count ≡ 8) → GroupBack table survival count
unfolding canonical_group letters_at
by_single table survival count p few only is =
    let b = answer table (number_with survival p.eight) in
    let group : canonical_group table survival count ≡ cond b (listing count false [] ∷ []) [] =
    ap (λ ps. grouped count (map (λ p. p.letter) (filter (λ p. beq (answer table (number_with survival p.eight)) true) ps)) (map (λ p. p.letter) (filter (λ p. beq (answer table (number_with survival p.eight)) false) ps))) only ∙
    single_group count p b in
    let own : (n : ℕ) → n < 256 → (class_by_number n).count ≡ count → ((class_by_number n).letter ≡ None) × (p.eight ≡ representative_eight (eight_of n)) =
    λ n within same.
    let found = without_letter n count (class_by_number n).letter (representative_eight (eight_of n)) is (subst (λ m. own_stands n m (class_by_number n).letter (representative_eight (eight_of n)) ≡ true) same (told n within)) in
    (found.0, sym (ap first_eight only) ∙ found.1) in
    elim (cases_Bool b) [
      | inl t ↦ inr (
        listing count false [],
        record {
          only = group ∙ ap (λ v. cond v (listing count false [] ∷ []) []) t;
          well = no_letters count few;
          counts = refl;
          stands = λ n within same. sym (ap (λ eight. answer table (number_with survival eight)) (sym (own n within same).1) ∙ t);
        },
      )
      | inr f ↦ inl (record {
        none = group ∙ ap (λ v. cond v (listing count false [] ∷ []) []) f;
        out = λ n within same. ap (λ eight. answer table (number_with survival eight)) (sym (own n within same).1) ∙ f;
      })
    ]

-- the group of a count is well formed and stands for the classes that are in
pub group_back : (table : List Bool) (survival : Bool) (count : ℕ) → count ≤ 8 → GroupBack table survival count
group_back table survival zero h = by_single table survival 0 (record { letter = None; eight = replicate 8 false }) h refl (inl refl)
group_back table survival (suc count) h =
    elim (leb_tells count 6) [
      | inl t ↦ by_split table survival (suc count) _ _ h (split table survival (suc count) (omega arith) (omega (arith, t.1)))
      | inr t ↦
          let is : suc count ≡ 8 = omega (arith, t.1) in
          by_single table survival (suc count) (record { letter = None; eight = replicate 8 true }) h (ap pictures is) (inr is)
    ]
