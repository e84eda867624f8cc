-- The text of a rule by its parts.
use Rattle.std.proofs.Common.{◌≡◌, ◌≢◌, ℕ, zero, suc, ◌+◌, ◌<◌, ◌≤◌, Bool, List, [], ◌∷◌, ◌++◌, map, flat_map, take, get_or, length, Option, refl, ap, ◌∙◌, sym, arith, add-zero, zero-add, add-one, true, false, append-nil}
use Rattle.std.specs.List.{range_with_len}
use Rattle.std.proofs.lemmas.Bool.{eq-eqb, ne_eqb, le-leb, lt-leb}
use Rattle.std.proofs.lemmas.Grind.{flat_map-append}
use Rattle.std.proofs.lemmas.List.{take_more, flat_map_more, length-map}
use Rattle.lls_hensel.specs.Numbers.{classes_by_number, representatives_of, letter_text}
use Rattle.lls_hensel.specs.Notation.{text_of_group, text_of_side}
use Rattle.lls_hensel.specs.Printing.{letters_at, named, listing, grouped, canonical_group, canonical_side, rule_text}
use Rattle.lls_hensel.specs.Texts.{group_text, side_text}
use Rattle.lls_hensel.proofs.Representatives.{letters_at-classes, letter_text-classes}
use Rattle.lls_hensel.proofs.Written.{between_parts}

pub text_more : {X : Type 0} (f : X → List ℕ) (old text now : List ℕ) (xs : List X) (i : ℕ) (d : X) → i < length xs →
    text ≡ old ++ flat_map f (take i xs) → now ≡ text ++ f (get_or xs i d) → now ≡ old ++ flat_map f (take (i + 1) xs)
text_more f old text now xs i d h e g =
    g ∙ (ap (λ bytes. bytes ++ f (get_or xs i d)) e ∙ (flat_map_more f old (take i xs) (get_or xs i d) ∙ ap (λ ys. old ++ flat_map f ys) (sym (take_more xs i d h))))

range_more : (a n : ℕ) → range_with_len a (suc n) ≡ range_with_len a n ++ (a + n) ∷ []
range_more a zero = ap (λ m. m ∷ []) (sym (add-zero a))
range_more a (suc n) = ap (λ ms. a ∷ ms) (range_more (a + 1) n ∙ ap (λ m. range_with_len (a + 1) n ++ m ∷ []) (omega arith))

pub count_more : (f : ℕ → List ℕ) (old text now : List ℕ) (n : ℕ) → text ≡ old ++ flat_map f (range_with_len 0 n) → now ≡ text ++ f n → now ≡ old ++ flat_map f (range_with_len 0 (n + 1))
count_more f old text now n e g =
    let range : range_with_len 0 (n + 1) ≡ range_with_len 0 n ++ n ∷ [] =
    ap (range_with_len 0) (add-one n) ∙ (range_more 0 n ∙ ap (λ m. range_with_len 0 n ++ m ∷ []) (zero-add n)) in
    g ∙ (ap (λ bytes. bytes ++ f n) e ∙ (flat_map_more f old (range_with_len 0 n) n ∙ ap (λ ys. old ++ flat_map f ys) (sym range)))

-- a count's group by how many letters are in and out
grouped_none : (count a : ℕ) (inside outside : List (Option ℕ)) → a ≡ length inside → a ≡ 0 → grouped count inside outside ≡ []
grouped_none count a inside outside e h = rw (eq-eqb (length inside) 0 (sym e ∙ h)) refl

grouped_all : (count a b : ℕ) (inside outside : List (Option ℕ)) → a ≡ length inside → b ≡ length outside → a ≢ 0 → b ≡ 0 → grouped count inside outside ≡ listing count false [] ∷ []
grouped_all count a b inside outside e g h k = rw (ne_eqb (length inside) 0 (λ z. h (e ∙ z)), eq-eqb (length outside) 0 (sym g ∙ k)) refl

grouped_few : (count a b : ℕ) (inside outside : List (Option ℕ)) → a ≡ length inside → b ≡ length outside → a ≢ 0 → b ≢ 0 → a ≤ b → grouped count inside outside ≡ listing count false (named inside) ∷ []
grouped_few count a b inside outside e g h k l =
    rw (ne_eqb (length inside) 0 (λ z. h (e ∙ z)), ne_eqb (length outside) 0 (λ z. k (g ∙ z)), le-leb (length inside) (length outside) (omega arith)) refl

grouped_many : (count a b : ℕ) (inside outside : List (Option ℕ)) → a ≡ length inside → b ≡ length outside → a ≢ 0 → b ≢ 0 → b < a → grouped count inside outside ≡ listing count true (named outside) ∷ []
grouped_many count a b inside outside e g h k l =
    rw (ne_eqb (length inside) 0 (λ z. h (e ∙ z)), ne_eqb (length outside) 0 (λ z. k (g ∙ z)), lt-leb (length inside) (length outside) (omega arith)) refl

by_classes : (table : List Bool) (survival : Bool) (count : ℕ) → count ≤ 8 →
    canonical_group table survival count ≡ grouped count (map (λ r. r.letter) (classes_by_number table survival count true)) (map (λ r. r.letter) (classes_by_number table survival count false))
unfolding canonical_group
by_classes table survival count h =
    ap (λ inside. grouped count inside (letters_at table survival count false)) (letters_at-classes table survival count true h) ∙
    ap (grouped count (map (λ r. r.letter) (classes_by_number table survival count true))) (letters_at-classes table survival count false h)

pub take_whole : {X : Type 0} (n : ℕ) (xs : List X) → length xs ≤ n → take n xs ≡ xs
take_whole zero [] h = refl
take_whole zero (x ∷ xs) h = absurd (omega arith)
take_whole (suc n) [] h = refl
take_whole (suc n) (x ∷ xs) h = ap (λ ys. x ∷ ys) (take_whole n xs (omega arith))

classes_counted : (table : List Bool) (survival : Bool) (count : ℕ) (live : Bool) (n : ℕ) → n ≡ length (classes_by_number table survival count live) → n ≡ length (map (λ r. r.letter) (classes_by_number table survival count live))
classes_counted table survival count live n e = e ∙ sym (length-map (classes_by_number table survival count live) (λ r. r.letter))

pub group_text-none : (table : List Bool) (survival : Bool) (count a : ℕ) → count ≤ 8 → a ≡ length (classes_by_number table survival count true) → a ≡ 0 → group_text table survival count ≡ []
unfolding group_text
group_text-none table survival count a h e z =
    ap text_of_side (by_classes table survival count h ∙ grouped_none count a _ _ (classes_counted table survival count true a e) z)

pub group_text-all : (table : List Bool) (survival : Bool) (count a b : ℕ) → count ≤ 8 → a ≡ length (classes_by_number table survival count true) → b ≡ length (classes_by_number table survival count false) →
    a ≢ 0 → b ≡ 0 → group_text table survival count ≡ (48 + count) ∷ []
unfolding group_text
group_text-all table survival count a b h e g y z =
    ap text_of_side (by_classes table survival count h ∙ grouped_all count a b _ _ (classes_counted table survival count true a e) (classes_counted table survival count false b g) y z)

pub group_text-few : (table : List Bool) (survival : Bool) (count a b : ℕ) → count ≤ 8 → a ≡ length (classes_by_number table survival count true) → b ≡ length (classes_by_number table survival count false) →
    a ≢ 0 → b ≢ 0 → a ≤ b → group_text table survival count ≡ (48 + count) ∷ flat_map (letter_text table survival count true) (representatives_of count)
unfolding group_text
group_text-few table survival count a b h e g y z l =
    ap text_of_side (by_classes table survival count h ∙ grouped_few count a b _ _ (classes_counted table survival count true a e) (classes_counted table survival count false b g) y z l) ∙
    ap (λ letters. (48 + count) ∷ letters) (append-nil (named (map (λ r. r.letter) (classes_by_number table survival count true))) ∙ sym (letter_text-classes table survival count true))

pub group_text-many : (table : List Bool) (survival : Bool) (count a b : ℕ) → count ≤ 8 → a ≡ length (classes_by_number table survival count true) → b ≡ length (classes_by_number table survival count false) →
    a ≢ 0 → b ≢ 0 → b < a → group_text table survival count ≡ (48 + count) ∷ 45 ∷ flat_map (letter_text table survival count false) (representatives_of count)
unfolding group_text
group_text-many table survival count a b h e g y z l =
    ap text_of_side (by_classes table survival count h ∙ grouped_many count a b _ _ (classes_counted table survival count true a e) (classes_counted table survival count false b g) y z l) ∙
    ap (λ letters. (48 + count) ∷ 45 ∷ letters) (append-nil (named (map (λ r. r.letter) (classes_by_number table survival count false))) ∙ sym (letter_text-classes table survival count false))

-- the text of a side by counts
texts_of : (table : List Bool) (survival : Bool) (counts : List ℕ) → flat_map (group_text table survival) counts ≡ text_of_side (flat_map (canonical_group table survival) counts)
unfolding group_text
texts_of table survival [] = refl
texts_of table survival (count ∷ counts) =
    ap (λ bytes. text_of_side (canonical_group table survival count) ++ bytes) (texts_of table survival counts) ∙
    sym (flat_map-append text_of_group (canonical_group table survival count) (flat_map (canonical_group table survival) counts))

pub side_text-counts : (table : List Bool) (survival : Bool) → flat_map (group_text table survival) (range_with_len 0 9) ≡ side_text table survival
unfolding side_text canonical_side
side_text-counts table survival = texts_of table survival (range_with_len 0 9)

pub rule_text-sides : (table : List Bool) → 66 ∷ side_text table false ++ 47 ∷ 83 ∷ side_text table true ≡ rule_text table
unfolding rule_text side_text
rule_text-sides table = ap (λ bytes. 66 ∷ bytes) (sym (between_parts true false (text_of_side (canonical_side table false)) (text_of_side (canonical_side table true))))
