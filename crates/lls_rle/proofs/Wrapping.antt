-- Texts that are put behind one another in lines.
use Rattle.std.proofs.Common.{◌≡◌, ◌<◌, ◌≤◌, ◌+◌, ℕ, Bool, true, false, cond, List, [], ◌∷◌, ◌++◌, length, map, drop, get_or, sym, ap, ◌∙◌, add-one, drop-cons, append_assoc}
use Rattle.std.specs.Prelude.{codes, nat_lt}
use Rattle.lls_rle.specs.declared.item.Item.{Item}
use Rattle.lls_rle.specs.Printing.{item_text, wrapped, body_text}

-- the texts of the items from one on, and `!`
abbrev pub texts_from : List Item → List (List ℕ)
texts_from items = map item_text items ++ codes "!" ∷ []

pub texts_from-more : (items : List Item) (i : ℕ) (d : Item) → i < length items → texts_from (drop i items) ≡ item_text (get_or items i d) ∷ texts_from (drop (i + 1) items)
texts_from-more items i d within = ap texts_from (drop-cons items i d within) ∙ ap (λ n. item_text (get_or items i d) ∷ texts_from (drop n items)) (sym (add-one i))

-- what was put behind a text so far
pub record IsPushing (old : List ℕ) (items : List Item) (text : List ℕ) (used : ℕ) (i : ℕ) : Type 0 where
  pub most : used ≤ 70
  pub whole : text ++ wrapped used (texts_from (drop i items)) ≡ old ++ wrapped 0 (texts_from items)

by_room : (b : Bool) (text : List ℕ) → cond b (text ++ 10 ∷ []) text ++ 33 ∷ 10 ∷ [] ≡ (text ++ cond b (10 ∷ 33 ∷ []) (33 ∷ [])) ++ 10 ∷ []
by_room true text = append_assoc text (10 ∷ []) (33 ∷ 10 ∷ []) ∙ sym (append_assoc text (10 ∷ 33 ∷ []) (10 ∷ []))
by_room false text = sym (append_assoc text (33 ∷ []) (10 ∷ []))

-- at the end `!` and a line feed
pub pushed_all : (old : List ℕ) (items : List Item) (text roomy : List ℕ) (used : ℕ) → text ++ wrapped used (texts_from []) ≡ old ++ wrapped 0 (texts_from items)
    → roomy ≡ cond (nat_lt 70 (used + 1)) (text ++ 10 ∷ []) text → roomy ++ 33 ∷ 10 ∷ [] ≡ old ++ body_text items
pushed_all old items text roomy used whole room =
    ap (λ r. r ++ 33 ∷ 10 ∷ []) room ∙ by_room (nat_lt 70 (used + 1)) text ∙ ap (λ ts. ts ++ 10 ∷ []) whole ∙ append_assoc old (wrapped 0 (texts_from items)) (10 ∷ [])
