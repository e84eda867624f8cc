-- The first item of words, and the items of the words behind it.
use Rattle.std.proofs.Common.{◌≡◌, ◌+◌, ℕ, suc, true, false, cond, List, [], ◌∷◌, length, map, drop, Some, refl, ap, ◌∙◌, arith, string_bytes, String, Global}
use Rattle.std.specs.List.{slice_get}
use Rattle.std.proofs.lemmas.Bool.Decides.{nat_tests}
use Rattle.std.proofs.lemmas.List.{drop-map, length-map}
use Rattle.lls_words.specs.Items.{item_of, takes_next, words_taken, items_of}

items_of-longer : (place : ℕ) (word next : List ℕ) (words : List (List ℕ)) (taken : ℕ) → taken ≡ cond (takes_next word) 2 1
    → cond (takes_next word) (items_of (place + 2) words) (items_of (place + 1) (next ∷ words)) ≡ items_of (place + taken) (drop taken (word ∷ next ∷ words))
items_of-longer place word next words taken is =
    elim (takes_next word) as (λ b. taken ≡ cond b 2 1 → cond b (items_of (place + 2) words) (items_of (place + 1) (next ∷ words)) ≡ items_of (place + taken) (drop taken (word ∷ next ∷ words))) [
      | true ↦ λ e. rw e refl
      | false ↦ λ e. rw e refl
    ] is

taken-some : (word : List ℕ) (n : ℕ) → words_taken word (suc n) ≡ cond (takes_next word) 2 1
taken-some word n = grind (arith, nat_tests)

pub items_of-first : (place : ℕ) (word : List ℕ) (words : List (List ℕ))
    → items_of place (word ∷ words) ≡ item_of place word (slice_get words 0) ∷ items_of (place + words_taken word (length words)) (drop (words_taken word (length words)) (word ∷ words))
items_of-first place word [] = refl
items_of-first place word (next ∷ words) =
    ap (λ rest. item_of place word (Some next) ∷ rest) (items_of-longer place word next words (words_taken word (suc (length words))) (taken-some word (length words)))

-- the items of strings
pub items_of-strings : (place : ℕ) (word : String Global) (strings : List (String Global)) (taken : ℕ) → taken ≡ words_taken (string_bytes word) (length strings)
    → items_of place (map string_bytes (word ∷ strings))
    ≡ item_of place (string_bytes word) (slice_get (map string_bytes strings) 0) ∷ items_of (place + taken) (map string_bytes (drop taken (word ∷ strings)))
items_of-strings place word strings taken is =
    items_of-first place (string_bytes word) (map string_bytes strings) ∙
    rw (length-map strings string_bytes, ← is, drop-map string_bytes taken (word ∷ strings)) refl
