-- What holds of all items of a list, or of one of them.
use Rattle.std.proofs.Common.{◌≡◌, ◌<◌, ℕ, zero, suc, Bool, true, List, [], ◌∷◌, length, take, drop, get_or, refl, sym, ap, ◌∙◌, arith}
use Rattle.std.specs.List.{list_all}
use Rattle.std.proofs.lemmas.Bool.{and_parts, and_from}
use Rattle.std.proofs.lemmas.List.{take-append-drop}
use Rattle.std.proofs.lemmas.List.Folds.{list_all-append}
use Rattle.lls_grid.specs.Chunks.{chunked}

-- what holds of all items holds of the items of each piece
pub all_take : {X : Type 0} (p : X → Bool) (n : ℕ) (items : List X) → list_all p items ≡ true → list_all p (take n items) ≡ true
all_take p n items e =
    (and_parts (list_all p (take n items)) (list_all p (drop n items)) (sym (list_all-append p (take n items) (drop n items)) ∙ (ap (list_all p) (take-append-drop n items) ∙ e))).0

pub all_drop : {X : Type 0} (p : X → Bool) (n : ℕ) (items : List X) → list_all p items ≡ true → list_all p (drop n items) ≡ true
all_drop p n items e =
    (and_parts (list_all p (take n items)) (list_all p (drop n items)) (sym (list_all-append p (take n items) (drop n items)) ∙ (ap (list_all p) (take-append-drop n items) ∙ e))).1

pub all_chunked : {X : Type 0} (p : X → Bool) (size count : ℕ) (items : List X) → list_all p items ≡ true → list_all (list_all p) (chunked size count items) ≡ true
all_chunked p size zero items e = refl
all_chunked p size (suc count) items e =
    and_from (list_all p (take size items)) (list_all (list_all p) (chunked size count (drop size items))) (all_take p size items e) (all_chunked p size count (drop size items) (all_drop p size items e))

-- and of the item at a place
pub all_at : {X : Type 0} (p : X → Bool) (items : List X) (i : ℕ) (d : X) → i < length items → list_all p items ≡ true → p (get_or items i d) ≡ true
all_at p [] i d within e = absurd (omega arith)
all_at p (item ∷ items) zero d within e = (and_parts (p item) (list_all p items) e).0
all_at p (item ∷ items) (suc i) d within e = all_at p items i d (omega arith) (and_parts (p item) (list_all p items) e).1
