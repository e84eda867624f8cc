-- Cells whose names are numbered by first appearance.
use Rattle.std.proofs.Common.{◌≡◌, ◌<◌, ◌≤◌, ℕ, zero, suc, ◌+◌, eqb, ltb, Bool, true, false, List, [], ◌∷◌, ◌++◌, length, get_or, take, map, Option, None, Some, refl, ap, ◌∙◌, arith, ◌⊎◌, inl, inr, length-append, append_assoc, subst}
use Rattle.std.specs.List.{list_any, list_all, position_or_len}
use Rattle.std.specs.Option.{option_map_or}
use Rattle.std.proofs.lemmas.Bool.{and_parts, and_from, eqb-true, lt-ltb, le-ltb, cases_lt}
use Rattle.std.proofs.lemmas.Bool.Decides.{nat_tests, eqb_tells}
use Rattle.std.proofs.lemmas.List.{map-append, take_more}
use Rattle.lls_search_file.specs.declared.word.Word as read
use Rattle.lls_search_file.specs.Seen.{seen_word}
use Rattle.std.proofs.lemmas.List.Folds.{list_all-append}
use Rattle.std.proofs.Math.ListN.{get_or-append}
use Rattle.std.proofs.Math.Seq.{get_or-append_seam}
use Rattle.lls_search_file.specs.declared.cell.Cell.{Cell}
use Rattle.lls_search_file.specs.declared.cell.Kind.{Kind}
use Rattle.lls_search_file.specs.declared.cell.Kind.TheVariants.{Dead, Live, Free, Named, Negated}
use Rattle.lls_search_file.specs.Posed.{name_of, names_after, are_numbered, are_distinct, is_name, same_text}
use Rattle.lls_search_file.specs.Words.{Said, dead, live, free, named, negated, Word}
use Rattle.lls_search_file.specs.Reading.{name_said, kind_said, cell_said}
use Rattle.lls_search_file.specs.Kept.{IsNumbered, is_named_within, said_in, word_in, words_in, with_name, is_spelled, is_said_spelled}
use Rattle.lls_search_file.proofs.Texts.{place_past, place_found, distinct_more, by_cases}

-- what follows where a cell may bring the next name
pub numbered_next : (count next n : ℕ) (cells : List Cell) → are_numbered cells count (names_after (Some n) next) ≡ true
    → ((n < next) × (are_numbered cells count (Some next) ≡ true)) ⊎ ((n ≡ next) × (are_numbered cells count (Some (next + 1)) ≡ true))
numbered_next count next n cells e =
    elim (cases_lt n next) [
      | inl t ↦ let below = lt-ltb n next t in inl (t, rw below at e)
      | inr f ↦ let not_below = le-ltb n next f in elim (eqb_tells n next) [
        | inl t ↦ inr (t.1, rw (not_below, t.0) at e)
        | inr g ↦ absurd (let bad : false ≡ true = rw (not_below, g.0) at e in cc)
      ]
    ]

pub numbered-le : (cells : List Cell) (count next : ℕ) → are_numbered cells count (Some next) ≡ true → next ≤ count
numbered-le [] count next e = omega (arith, eqb-true next count e)
numbered-le (cell ∷ cells) count next e =
    (elim (name_of cell.kind) as (λ o. are_numbered cells count (names_after o next) ≡ true → next ≤ count) [
      | None ↦ λ e. numbered-le cells count next e
      | Some n ↦ λ e. elim (numbered_next count next n cells e) [
        | inl t ↦ numbered-le cells count next t.1
        | inr t ↦ omega (arith, numbered-le cells count (next + 1) t.1)
      ]
    ]) e

-- a cell's number is below the number of names
number_lt : (cells : List Cell) (count next n : ℕ) → are_numbered cells count (names_after (Some n) next) ≡ true → n < count
number_lt cells count next n e =
    elim (numbered_next count next n cells e) [
      | inl t ↦ omega (arith, t.0, numbered-le cells count next t.1)
      | inr t ↦ omega (arith, t.0, numbered-le cells count (next + 1) t.1)
    ]

eqb_same : (n : ℕ) → eqb n n ≡ true
eqb_same n = grind (arith, nat_tests)

-- one more cell at the end
pub numbered_more : (cells : List Cell) (cell : Cell) (count after : ℕ) (next : Option ℕ) → are_numbered cells count next ≡ true
    → names_after (name_of cell.kind) count ≡ Some after → are_numbered (cells ++ cell ∷ []) after next ≡ true
numbered_more cells cell count after None e step = cc
numbered_more [] cell count after (Some next) e step =
    ap (are_numbered [] after) (ap (names_after (name_of cell.kind)) (eqb-true next count e) ∙ step) ∙ eqb_same after
numbered_more (first ∷ cells) cell count after (Some next) e step = numbered_more cells cell count after (names_after (name_of first.kind) next) e step

-- names that say the same below a number
abbrev Agree : List (List ℕ) → List (List ℕ) → ℕ → Type 0
Agree names others count = (n : ℕ) → n < count → get_or others n [] ≡ get_or names n []

says_agree : (names others : List (List ℕ)) (count : ℕ) (kind : Kind) → Agree names others count → ((n : ℕ) → name_of kind ≡ Some n → n < count) → said_in others kind ≡ said_in names kind
says_agree names others count Dead agree within = refl
says_agree names others count Live agree within = refl
says_agree names others count Free agree within = refl
says_agree names others count (Named n) agree within = ap named (agree n (within n refl))
says_agree names others count (Negated n) agree within = ap negated (agree n (within n refl))

pub numbers_lt : (cells : List Cell) (count next : ℕ) (cell : Cell) → are_numbered (cell ∷ cells) count (Some next) ≡ true → (n : ℕ) → name_of cell.kind ≡ Some n → n < count
numbers_lt cells count next cell e n is = number_lt cells count next n (subst (λ o. are_numbered cells count (names_after o next) ≡ true) is e)

-- so each cell's name is among them
named_within : (kind : Kind) (count : ℕ) → ((n : ℕ) → name_of kind ≡ Some n → n < count) → option_map_or (λ number. ltb number count) (name_of kind) true ≡ true
named_within Dead count within = refl
named_within Live count within = refl
named_within Free count within = refl
named_within (Named n) count within = lt-ltb n count (within n refl)
named_within (Negated n) count within = lt-ltb n count (within n refl)

pub all_named_within : (cells : List Cell) (count : ℕ) (next : Option ℕ) → are_numbered cells count next ≡ true → list_all (is_named_within count) cells ≡ true
all_named_within cells count None e = cc
all_named_within [] count (Some next) e = refl
all_named_within (cell ∷ cells) count (Some next) e =
    and_from (is_named_within count cell) (list_all (is_named_within count) cells) (named_within cell.kind count (numbers_lt cells count next cell e))
    (all_named_within cells count (names_after (name_of cell.kind) next) e)

-- the words of cells under names that say the same
pub words_agree : (names others : List (List ℕ)) (count : ℕ) (cells : List Cell) (next : Option ℕ) → Agree names others count → are_numbered cells count next ≡ true
    → words_in others cells ≡ words_in names cells
words_agree names others count cells None agree e = cc
words_agree names others count [] (Some next) agree e = refl
words_agree names others count (cell ∷ cells) (Some next) agree e =
    rw (
      says_agree names others count cell.kind agree (numbers_lt cells count next cell e),
      words_agree names others count cells (names_after (name_of cell.kind) next) agree e,
    ) refl

-- there are no more names than cells
pub count-le : (cells : List Cell) (count next : ℕ) → are_numbered cells count (Some next) ≡ true → count ≤ next + length cells
count-le [] count next e = omega (arith, eqb-true next count e)
count-le (cell ∷ cells) count next e =
    (elim (name_of cell.kind) as (λ o. are_numbered cells count (names_after o next) ≡ true → count ≤ next + length (cell ∷ cells)) [
      | None ↦ λ e. omega (arith, count-le cells count next e)
      | Some n ↦ λ e. elim (numbered_next count next n cells e) [
        | inl t ↦ omega (arith, count-le cells count next t.1)
        | inr t ↦ omega (arith, count-le cells count (next + 1) t.1)
      ]
    ]) e

-- what one more word leaves
pub record Pushed (names others : List (List ℕ)) (cells : List Cell) (cell : Cell) (word : Word) : Type 0 where
  pub numbered : IsNumbered others (cells ++ cell ∷ [])
  pub words : words_in others (cells ++ cell ∷ []) ≡ words_in names cells ++ word ∷ []

pushed_by : (names others : List (List ℕ)) (cells : List Cell) (cell : Cell) (word : Word) → IsNumbered names cells → are_distinct others ≡ true → list_all is_name others ≡ true
    → Agree names others (length names) → names_after (name_of cell.kind) (length names) ≡ Some (length others) → word_in others cell ≡ word → Pushed names others cells cell word
pushed_by names others cells cell word kept distinct spelled agree after says = record {
  numbered = record { distinct = distinct; spelled = spelled; numbered = numbered_more cells cell (length names) (length others) (Some 0) kept.numbered after };
  words = map-append (word_in others) cells (cell ∷ []) ∙
      (ap (λ words. words ++ word_in others cell ∷ []) (words_agree names others (length names) cells (Some 0) agree kept.numbered) ∙
      ap (λ w. words_in names cells ++ w ∷ []) says);
}

pushed_name : (names : List (List ℕ)) (cells : List Cell) (cell : ℕ → Cell) (word : List ℕ → Word) → ((n : ℕ) → name_of (cell n).kind ≡ Some n)
    → ((others : List (List ℕ)) (n : ℕ) → word_in others (cell n) ≡ word (get_or others n [])) → IsNumbered names cells → (name : List ℕ) → is_name name ≡ true
    → Pushed names (with_name names (Some name)) cells (cell (position_or_len (same_text name) names)) (word name)
pushed_name names cells cell word number_is word_is kept name spelled =
    let place = position_or_len (same_text name) names in
    elim (by_cases (list_any (same_text name) names)) [
      | inl known ↦
          let found = place_found name names known in
          let below = lt-ltb place (length names) found.0 in
          rw known (pushed_by names names cells (cell place) (word name) kept kept.distinct kept.spelled (λ n lt. refl)
          (ap (λ o. names_after o (length names)) (number_is place) ∙ rw below refl)
          (word_is names place ∙ ap word found.1))
      | inr new ↦
          let past : place ≡ length names = place_past name names new in
          let others = names ++ name ∷ [] in
          let not_below = le-ltb (length names) (length names) (omega arith) in
          let all_names : list_all is_name others ≡ true = list_all-append is_name names (name ∷ []) ∙ rw (kept.spelled, spelled) refl in
          let more : length others ≡ length names + 1 = length-append names (name ∷ []) in
          rw new (pushed_by names others cells (cell place) (word name) kept (distinct_more names name kept.distinct new) all_names
          (λ n lt. get_or-append names (name ∷ []) [] n lt)
          (ap (λ o. names_after o (length names)) (number_is place ∙ ap Some past) ∙ rw (not_below, eqb_same (length names), more) refl)
          (word_is others place ∙ (ap (λ n. word (get_or others n [])) past ∙ ap word (get_or-append_seam names name [] []))))
    ]

pushed_said : (names : List (List ℕ)) (cells : List Cell) (mark : Bool) (says : Said) → IsNumbered names cells → is_said_spelled says ≡ true
    → Pushed names (with_name names (name_said says)) cells (record { mark = mark; kind = kind_said names says }) (record { mark = mark; says = says })
pushed_said names cells mark dead kept spelled = pushed_by names names cells _ _ kept kept.distinct kept.spelled (λ n lt. refl) refl refl
pushed_said names cells mark live kept spelled = pushed_by names names cells _ _ kept kept.distinct kept.spelled (λ n lt. refl) refl refl
pushed_said names cells mark free kept spelled = pushed_by names names cells _ _ kept kept.distinct kept.spelled (λ n lt. refl) refl refl
pushed_said names cells mark (named name) kept spelled =
    pushed_name names cells (λ n. record { mark = mark; kind = Named n }) (λ text. record { mark = mark; says = named text }) (λ n. refl) (λ others n. refl) kept name spelled
pushed_said names cells mark (negated name) kept spelled =
    pushed_name names cells (λ n. record { mark = mark; kind = Negated n }) (λ text. record { mark = mark; says = negated text }) (λ n. refl) (λ others n. refl) kept name spelled

-- one more word, its name numbered
pub pushed : (names : List (List ℕ)) (cells : List Cell) (word : Word) → IsNumbered names cells → is_spelled word ≡ true
    → Pushed names (with_name names (name_said word.says)) cells (cell_said names word) word
pushed names cells word kept spelled = pushed_said names cells word.mark word.says kept spelled

spelled_at : (words : List read.Word) (index : ℕ) (d : read.Word) → index < length words → list_all is_spelled (map seen_word words) ≡ true → is_spelled (seen_word (get_or words index d)) ≡ true
spelled_at [] index d within e = absurd (omega arith)
spelled_at (w ∷ words) zero d within e = (and_parts (is_spelled (seen_word w)) (list_all is_spelled (map seen_word words)) e).0
spelled_at (w ∷ words) (suc index) d within e = spelled_at words index d (omega arith) (and_parts (is_spelled (seen_word w)) (list_all is_spelled (map seen_word words)) e).1

-- the same, while words are gone through
pub pushed_step : (start : List Word) (names others : List (List ℕ)) (cells : List Cell) (cell : Cell) (words : List read.Word) (index : ℕ) (d : read.Word)
    → index < length words → list_all is_spelled (map seen_word words) ≡ true → IsNumbered names cells → words_in names cells ≡ start ++ map seen_word (take index words)
    → cell ≡ cell_said names (seen_word (get_or words index d)) → others ≡ with_name names (name_said (seen_word (get_or words index d)).says)
    → IsNumbered others (cells ++ cell ∷ []) × (words_in others (cells ++ cell ∷ []) ≡ start ++ map seen_word (take (index + 1) words))
pushed_step start names others cells cell words index d within spelled kept so_far cell_is others_are =
    let word = seen_word (get_or words index d) in
    let one = pushed names cells word kept (spelled_at words index d within spelled) in
    let more : map seen_word (take (index + 1) words) ≡ map seen_word (take index words) ++ word ∷ [] =
    ap (map seen_word) (take_more words index d within) ∙ map-append seen_word (take index words) (get_or words index d ∷ []) in
    rw (cell_is, others_are, more) (one.numbered, one.words ∙ (ap (λ ws. ws ++ word ∷ []) so_far ∙ append_assoc start (map seen_word (take index words)) (word ∷ [])))
