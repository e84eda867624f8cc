-- Texts that are the same, and lists of distinct texts.
use Rattle.std.proofs.Common.{◌≡◌, ◌<◌, ℕ, zero, suc, ◌+◌, eqb, Bool, true, false, cond, not, ◌&&◌, ◌||◌, List, [], ◌∷◌, ◌++◌, length, get_or, refl, sym, ap, ◌∙◌, arith, Bor, Some, ◌⊎◌, inl, inr}
use Rattle.std.specs.List.{list_any, position_or_len}
use Rattle.std.specs.Cmp.Lexicographic.{pointwise}
use Rattle.std.proofs.lemmas.Slice.Eq.{bytes_eq-Decides}
use Rattle.std.proofs.lemmas.Bool.{and_parts}
use Rattle.std.proofs.lemmas.List.{map-append}
use Rattle.std.proofs.lemmas.List.Folds.{list_any-append}
use Rattle.std.proofs.lemmas.List.Sums.{prefix_len_is}
use Rattle.lls_search_file.specs.Posed.{same_text, are_distinct}
use Rattle.lls_search_file.specs.Kept.{texts, with_name}

pub pointwise-same_text : (a b : List ℕ) → pointwise eqb a b ≡ same_text a b
pointwise-same_text [] [] = refl
pointwise-same_text [] (y ∷ b) = refl
pointwise-same_text (x ∷ a) [] = refl
pointwise-same_text (x ∷ a) (y ∷ b) = ap (λ v. eqb x y && v) (pointwise-same_text a b)

pub same_true : (a b : List ℕ) → same_text a b ≡ true → a ≡ b
same_true a b e = (bytes_eq-Decides a b).0 (pointwise-same_text a b ∙ e)

pub same_refl : (a : List ℕ) → same_text a a ≡ true
same_refl a = sym (pointwise-same_text a a) ∙ (bytes_eq-Decides a a).1 refl

pub by_cases : (b : Bool) → (b ≡ true) ⊎ (b ≡ false)
by_cases true = inl refl
by_cases false = inr refl

pub same_sym : (a b : List ℕ) → same_text a b ≡ false → same_text b a ≡ false
same_sym a b e =
    elim (by_cases (same_text b a)) [
      | inl t ↦ absurd (let swapped : true ≡ false = sym (same_refl a) ∙ (ap (same_text a) (sym (same_true b a t)) ∙ e) in cc)
      | inr f ↦ f
    ]

-- a place, and whether there is one, among borrowed texts
pub place_of-texts : (name : List ℕ) (keys : List (Bor (List ℕ))) → position_or_len (λ key. pointwise eqb name key.now) keys ≡ position_or_len (same_text name) (texts keys)
place_of-texts name [] = refl
place_of-texts name (key ∷ keys) = rw (pointwise-same_text name key.now, place_of-texts name keys) refl

pub any-texts : (name : List ℕ) (keys : List (Bor (List ℕ))) → list_any (λ key. pointwise eqb name key.now) keys ≡ list_any (same_text name) (texts keys)
any-texts name [] = refl
any-texts name (key ∷ keys) = rw (pointwise-same_text name key.now, any-texts name keys) refl

pub or_parts : (x y : Bool) → (x || y) ≡ false → (x ≡ false) × (y ≡ false)
or_parts true y e = cc
or_parts false y e = (refl, e)

-- a name that isn't there has no place
pub place_past : (name : List ℕ) (names : List (List ℕ)) → list_any (same_text name) names ≡ false → position_or_len (same_text name) names ≡ length names
place_past name [] e = refl
place_past name (other ∷ names) e =
    let parts = or_parts (same_text name other) (list_any (same_text name) names) e in
    rw (parts.0, place_past name names parts.1) (omega arith)

-- a name that is there stands at its place
pub place_found : (name : List ℕ) (names : List (List ℕ)) → list_any (same_text name) names ≡ true
    → (position_or_len (same_text name) names < length names) × (get_or names (position_or_len (same_text name) names) [] ≡ name)
place_found name [] e = cc
place_found name (other ∷ names) e =
    let P : Bool → Type 0 = λ v. (v || list_any (same_text name) names) ≡ true → same_text name other ≡ v
    → (cond (not v) (1 + position_or_len (same_text name) names) 0 < length (other ∷ names)) × (get_or (other ∷ names) (cond (not v) (1 + position_or_len (same_text name) names) 0) [] ≡ name) in
    (elim (same_text name other) as P [
      | true ↦ λ any same. (omega arith, sym (same_true name other same))
      | false ↦ λ any same.
          let later = place_found name names any in
          let one : 1 + position_or_len (same_text name) names ≡ suc (position_or_len (same_text name) names) = omega arith in
          rw one (omega (arith, later.0), later.1)
    ]) e refl

not_true : (b : Bool) → not b ≡ true → b ≡ false
not_true true e = cc
not_true false e = refl

none_at : (name : List ℕ) (names : List (List ℕ)) (j : ℕ) → list_any (same_text name) names ≡ false → j < length names → same_text name (get_or names j []) ≡ false
none_at name [] j e within = absurd (omega arith)
none_at name (other ∷ names) zero e within = (or_parts (same_text name other) (list_any (same_text name) names) e).0
none_at name (other ∷ names) (suc j) e within = none_at name names j (or_parts (same_text name other) (list_any (same_text name) names) e).1 (omega arith)

-- distinct texts at two places differ
pub apart : (names : List (List ℕ)) (i j : ℕ) → are_distinct names ≡ true → i < j → j < length names → same_text (get_or names i []) (get_or names j []) ≡ false
apart [] i j distinct lt within = absurd (omega arith)
apart (name ∷ names) i zero distinct lt within = absurd (omega arith)
apart (name ∷ names) zero (suc j) distinct lt within =
    let parts = and_parts (not (list_any (same_text name) names)) (are_distinct names) distinct in
    none_at name names j (not_true (list_any (same_text name) names) parts.0) (omega arith)
apart (name ∷ names) (suc i) (suc j) distinct lt within =
    let parts = and_parts (not (list_any (same_text name) names)) (are_distinct names) distinct in
    apart names i j parts.1 (omega arith) (omega arith)

-- a text stands at its own place among distinct ones
pub place_own : (names : List (List ℕ)) (n : ℕ) → are_distinct names ≡ true → n < length names → position_or_len (same_text (get_or names n [])) names ≡ n
place_own names n distinct within =
    prefix_len_is (λ x. not (same_text (get_or names n []) x)) names n [] (omega arith)
    (λ k lt. rw (same_sym (get_or names k []) (get_or names n []) (apart names k n distinct lt within)) refl)
    (λ _. rw (same_refl (get_or names n [])) refl)

-- one more text that isn't there
pub distinct_more : (names : List (List ℕ)) (name : List ℕ) → are_distinct names ≡ true → list_any (same_text name) names ≡ false → are_distinct (names ++ name ∷ []) ≡ true
distinct_more [] name distinct new = refl
distinct_more (other ∷ names) name distinct new =
    let parts = and_parts (not (list_any (same_text other) names)) (are_distinct names) distinct in
    let news = or_parts (same_text name other) (list_any (same_text name) names) new in
    let none = not_true (list_any (same_text other) names) parts.0 in
    let more : list_any (same_text other) (names ++ name ∷ []) ≡ false =
    list_any-append (same_text other) names (name ∷ []) ∙ rw (none, same_sym name other news.0) refl in
    rw (more, distinct_more names name parts.1 news.1) refl

chosen : (b : Bool) (name : Bor (List ℕ)) (keys : List (Bor (List ℕ))) → texts (cond b keys (keys ++ name ∷ [])) ≡ cond b (texts keys) (texts keys ++ name.now ∷ [])
chosen true name keys = refl
chosen false name keys = map-append (λ key. key.now) keys (name ∷ [])

-- one more borrowed text, where it is new
pub insert-texts : (name : Bor (List ℕ)) (keys : List (Bor (List ℕ)))
    → texts (cond (list_any (λ key. pointwise eqb name.now key.now) keys) keys (keys ++ name ∷ [])) ≡ with_name (texts keys) (Some name.now)
insert-texts name keys =
    chosen (list_any (λ key. pointwise eqb name.now key.now) keys) name keys ∙
    ap (λ b. cond b (texts keys) (texts keys ++ name.now ∷ [])) (any-texts name.now keys)
