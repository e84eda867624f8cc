-- Numbering the names of words gives back cells whose names are numbered by first appearance.
use Rattle.std.proofs.Common.{◌≡◌, ◌<◌, ◌≤◌, ℕ, zero, suc, ◌+◌, Bool, true, false, cond, not, ◌&&◌, ◌||◌, List, [], ◌∷◌, length, get_or, take, drop, map, filter, Option, None, Some, refl, sym, ap, ◌∙◌, arith, inl, inr, add-one, drop-cons, length-take}
use Rattle.std.specs.List.{list_any, filter_map}
use Rattle.std.proofs.lemmas.List.{take_more, get_or-take}
use Rattle.std.proofs.Math.ListN.{drop_of_length-le}
use Rattle.std.proofs.lemmas.Bool.{eqb-true}
use Rattle.std.proofs.lemmas.List.Folds.{list_any-append, list_any_at}
use Rattle.std.proofs.lemmas.List.Elements.{filter_agree}
use Rattle.lls_search_file.specs.declared.cell.Cell.{Cell}
use Rattle.lls_search_file.specs.declared.cell.Kind.{Kind}
use Rattle.lls_search_file.specs.declared.cell.Kind.TheVariants.{Dead, Live, Free, Named, Negated}
use Rattle.lls_search_file.specs.Posed.{name_of, names_after, are_numbered, are_distinct, same_text}
use Rattle.lls_search_file.specs.Reading.{name_said, kind_said, cell_said, first_seen, names_of}
use Rattle.lls_search_file.specs.Kept.{IsNumbered, said_in, words_in}
use Rattle.lls_search_file.proofs.Texts.{place_own, apart, by_cases, same_refl, same_true}
use Rattle.lls_search_file.proofs.Numbering.{numbered_next, numbered-le, numbers_lt}

-- the names that cells cite, in order
abbrev cited : List (List ℕ) → List Cell → List (List ℕ)
cited names cells = filter_map (λ w. name_said w.says) (words_in names cells)

-- a text that isn't among the first ones
abbrev is_later : List (List ℕ) → ℕ → List ℕ → Bool
is_later names k text = not (list_any (λ seen. same_text seen text) (take k names))

filter_both : {X : Type 0} (p q : X → Bool) (xs : List X) → filter p (filter q xs) ≡ filter (λ x. q x && p x) xs
filter_both p q [] = refl
filter_both p q (x ∷ xs) =
    elim (q x) as (λ b. filter p (cond b (x ∷ filter q xs) (filter q xs)) ≡ cond (b && p x) (x ∷ filter (λ x. q x && p x) xs) (filter (λ x. q x && p x) xs)) [
      | true ↦ ap (λ rest. cond (p x) (x ∷ rest) rest) (filter_both p q xs)
      | false ↦ filter_both p q xs
    ]

-- a name that is among the first ones
below_known : (names : List (List ℕ)) (k n : ℕ) → n < k → k ≤ length names → list_any (λ seen. same_text seen (get_or names n [])) (take k names) ≡ true
below_known names k n lt within =
    list_any_at (λ seen. same_text seen (get_or names n [])) (take k names) n [] (omega (arith, length-take k names))
    (ap (λ seen. same_text seen (get_or names n [])) (get_or-take k names n [] lt) ∙ same_refl (get_or names n []))

-- leaving out one of the first ones changes nothing
same_later : (names : List (List ℕ)) (k : ℕ) (name text : List ℕ) → list_any (λ seen. same_text seen name) (take k names) ≡ true
    → (not (same_text name text) && is_later names k text) ≡ is_later names k text
same_later names k name text known =
    elim (by_cases (same_text name text)) [
      | inl t ↦
          let among : list_any (λ seen. same_text seen text) (take k names) ≡ true = ap (λ x. list_any (λ seen. same_text seen x) (take k names)) (sym (same_true name text t)) ∙ known in
          rw (t, among) refl
      | inr f ↦ rw f refl
    ]

at_place : (names : List (List ℕ)) (k : ℕ) → k < length names → drop k names ≡ get_or names k [] ∷ drop (k + 1) names
at_place names k within = rw (add-one, drop-cons names k []) refl

-- one more of the first ones
more_later : (names : List (List ℕ)) (k : ℕ) (text : List ℕ) → k < length names → is_later names (k + 1) text ≡ (not (same_text (get_or names k []) text) && is_later names k text)
more_later names k text within =
    ap (λ front. not (list_any (λ seen. same_text seen text) front)) (take_more names k [] within) ∙
    (ap not (list_any-append (λ seen. same_text seen text) (take k names) (get_or names k [] ∷ [])) ∙
    swapped (list_any (λ seen. same_text seen text) (take k names)) (same_text (get_or names k []) text))
  where
    swapped : (a b : Bool) → not (a || (b || false)) ≡ (not b && not a)
    swapped true true = refl
    swapped true false = refl
    swapped false true = refl
    swapped false false = refl

-- the name at a place isn't among those before it
new_at : (names : List (List ℕ)) (k : ℕ) → are_distinct names ≡ true → k < length names → is_later names k (get_or names k []) ≡ true
new_at names k distinct within =
    ap not (none_below names k k distinct within (omega arith))
  where
    none_below : (names : List (List ℕ)) (k m : ℕ) → are_distinct names ≡ true → k < length names → m ≤ k → list_any (λ seen. same_text seen (get_or names k [])) (take m names) ≡ false
    none_below names k zero distinct within le = refl
    none_below names k (suc m) distinct within le =
        let one : suc m ≡ m + 1 = omega arith in
        ap (λ n. list_any (λ seen. same_text seen (get_or names k [])) (take n names)) one ∙
        (ap (list_any (λ seen. same_text seen (get_or names k []))) (take_more names m [] (omega arith)) ∙
        (list_any-append (λ seen. same_text seen (get_or names k [])) (take m names) (get_or names m [] ∷ []) ∙
        rw (none_below names k m distinct within (omega arith), apart names m k distinct (omega arith) within) refl))

-- the names that cells cite, after the first k, are the names from k on
abbrev SeenFrom : List (List ℕ) → List (List ℕ) → ℕ → Type 0
SeenFrom names texts k = filter (is_later names k) (first_seen texts) ≡ drop k names

cited_name : (names : List (List ℕ)) (cells : List Cell) (k n : ℕ) → are_distinct names ≡ true
    → ((k : ℕ) → are_numbered cells (length names) (Some k) ≡ true → SeenFrom names (cited names cells) k)
    → are_numbered cells (length names) (names_after (Some n) k) ≡ true → SeenFrom names (get_or names n [] ∷ cited names cells) k
cited_name names cells k n distinct more e =
    let rest = first_seen (cited names cells) in
    let name = get_or names n [] in
    elim (numbered_next (length names) k n cells e) [
      | inl t ↦
          let known : list_any (λ seen. same_text seen name) (take k names) ≡ true = below_known names k n t.0 (numbered-le cells (length names) k t.1) in
          rw known (filter_both (is_later names k) (λ other. not (same_text name other)) rest ∙
          (filter_agree (λ other. not (same_text name other) && is_later names k other) (is_later names k) (λ text. same_later names k name text known) rest ∙
          more k t.1))
      | inr t ↦
          let within : k < length names = omega (arith, numbered-le cells (length names) (k + 1) t.1) in
          let here : get_or names n [] ≡ get_or names k [] = ap (λ m. get_or names m []) t.0 in
          let first = get_or names k [] in
          let new = new_at names k distinct within in
          let later : filter (is_later names k) (filter (λ other. not (same_text first other)) rest) ≡ drop (k + 1) names =
          filter_both (is_later names k) (λ other. not (same_text first other)) rest ∙
          (filter_agree (λ other. not (same_text first other) && is_later names k other) (is_later names (k + 1)) (λ text. sym (more_later names k text within)) rest ∙
          more (k + 1) t.1) in
          ap (λ text. filter (is_later names k) (text ∷ filter (λ other. not (same_text text other)) rest)) here ∙
          (ap (λ b. cond b (first ∷ filter (is_later names k) (filter (λ other. not (same_text first other)) rest)) (filter (is_later names k) (filter (λ other. not (same_text first other)) rest))) new ∙
          (ap (λ behind. first ∷ behind) later ∙ sym (at_place names k within)))
    ]

by_kind : (names : List (List ℕ)) (cells : List Cell) (mark : Bool) (k : ℕ) (kind : Kind) → are_distinct names ≡ true
    → ((k : ℕ) → are_numbered cells (length names) (Some k) ≡ true → SeenFrom names (cited names cells) k)
    → are_numbered cells (length names) (names_after (name_of kind) k) ≡ true → SeenFrom names (cited names (record { mark = mark; kind = kind } ∷ cells)) k
by_kind names cells mark k Dead distinct more e = more k e
by_kind names cells mark k Live distinct more e = more k e
by_kind names cells mark k Free distinct more e = more k e
by_kind names cells mark k (Named n) distinct more e = cited_name names cells k n distinct more e
by_kind names cells mark k (Negated n) distinct more e = cited_name names cells k n distinct more e

seen_from : (names : List (List ℕ)) → are_distinct names ≡ true → (cells : List Cell) (k : ℕ) → are_numbered cells (length names) (Some k) ≡ true
    → SeenFrom names (cited names cells) k
seen_from names distinct [] k e = sym (drop_of_length-le names (omega (arith, eqb-true k (length names) e)))
seen_from names distinct (cell ∷ cells) k e = by_kind names cells cell.mark k cell.kind distinct (λ k. seen_from names distinct cells k) e

all_kept : {X : Type 0} (xs : List X) → filter (λ _. true) xs ≡ xs
all_kept [] = refl
all_kept (x ∷ xs) = ap (λ rest. x ∷ rest) (all_kept xs)

-- the names of the words of numbered cells
pub names_of-words_in : (names : List (List ℕ)) (cells : List Cell) → IsNumbered names cells → names_of (words_in names cells) ≡ names
names_of-words_in names cells kept =
    sym (all_kept (names_of (words_in names cells))) ∙ seen_from names kept.distinct cells 0 kept.numbered

kind_back : (names : List (List ℕ)) (kind : Kind) → are_distinct names ≡ true → ((n : ℕ) → name_of kind ≡ Some n → n < length names) → kind_said names (said_in names kind) ≡ kind
kind_back names Dead distinct within = refl
kind_back names Live distinct within = refl
kind_back names Free distinct within = refl
kind_back names (Named n) distinct within = ap Named (place_own names n distinct (within n refl))
kind_back names (Negated n) distinct within = ap Negated (place_own names n distinct (within n refl))

cells_back : (names : List (List ℕ)) (cells : List Cell) (next : Option ℕ) → are_distinct names ≡ true → are_numbered cells (length names) next ≡ true
    → map (cell_said names) (words_in names cells) ≡ cells
cells_back names cells None distinct e = cc
cells_back names [] (Some next) distinct e = refl
cells_back names (cell ∷ cells) (Some next) distinct e =
    rw (
      kind_back names cell.kind distinct (numbers_lt cells (length names) next cell e),
      cells_back names cells (names_after (name_of cell.kind) next) distinct e,
    ) refl

-- the cells of the words of numbered cells
pub cells_said-words_in : (names : List (List ℕ)) (cells : List Cell) → IsNumbered names cells → map (cell_said (names_of (words_in names cells))) (words_in names cells) ≡ cells
cells_said-words_in names cells kept =
    ap (λ ns. map (cell_said ns) (words_in names cells)) (names_of-words_in names cells kept) ∙ cells_back names cells (Some 0) kept.distinct kept.numbered
