-- The neighbourhoods of the open classes are those at which the low rule gives 0 and the high one 1.
use Rattle.std.proofs.Common.{◌≡◌, ℕ, zero, suc, ◌<◌, Bool, true, false, not, cond, ◌&&◌, ◌||◌, List, [], ◌∷◌, map, length, get_or, refl, ap, ◌∙◌, sym, arith}
use Rattle.std.specs.Prelude.{filter}
use Rattle.std.specs.List.{list_any}
use Rattle.std.proofs.Math.Bool.{beq}
use Rattle.std.proofs.lemmas.Bool.{and_parts}
use Rattle.std.proofs.lemmas.List.Folds.{list_any-append}
use Rattle.lls_rule.specs.Rule.{answer, has_bit, around}
use Rattle.lls_rule.proofs.Tables.{answer-table_of}
use Rattle.lls_hensel.specs.declared.class.Class.{Class}
use Rattle.lls_hensel.specs.Class.{classes, classes_of, is_of_class}
use Rattle.lls_hensel.specs.Entries.{tells, next_of}
use Rattle.lls_hensel.specs.Isotropy.{IsIsotropic}
use Rattle.lls_hensel.specs.Neighbours.{are_images}
use Rattle.lls_hensel.proofs.Classes.{classes_of-class_by_number}
use Rattle.lls_hensel.proofs.EntriesIsotropy.{IsIsotropic-table_of}
use Rattle.lls_hensel.proofs.Tells.{around_number-lt, around-eight_of}
use Rattle.lls_open.specs.declared.class.SideClass.{SideClass}
use Rattle.lls_open.specs.Classes.{entry_of, is_of, side_classes, all_classes, gives, is_open, open_classes, class_number}
use Rattle.lls_open.proofs.Constant.{gives-answer}

-- what a filter keeps passes
filter_passes : (p : SideClass → Bool) (xs : List SideClass) (k : ℕ) (d : SideClass) → k < length (filter p xs) → p (get_or (filter p xs) k d) ≡ true
filter_passes p [] k d inside = absurd (omega (arith, inside))
filter_passes p (x ∷ xs) k d inside =
    elim (p x) as (λ b. p x ≡ b → k < length (cond b (x ∷ filter p xs) (filter p xs)) → p (get_or (cond b (x ∷ filter p xs) (filter p xs)) k d) ≡ true) [
      | true ↦ λ here inside. at_front p x (filter p xs) k d here (λ j j_in. filter_passes p xs j d j_in) inside
      | false ↦ λ here inside. filter_passes p xs k d inside
    ] refl inside
  where
    at_front : (p : SideClass → Bool) (x : SideClass) (rest : List SideClass) (k : ℕ) (d : SideClass) → p x ≡ true → ((j : ℕ) → j < length rest → p (get_or rest j d) ≡ true) → k < length (x ∷ rest) → p (get_or (x ∷ rest) k d) ≡ true
    at_front p x rest zero d here later inside = here
    at_front p x rest (suc k) d here later inside = later k (omega (arith, inside))

-- an open class is open
pub IsOpen-number : (low high : List Bool) (k : ℕ) → k < length (open_classes low high)
    → (gives low (class_number (open_classes low high) k) ≡ false) × (gives high (class_number (open_classes low high) k) ≡ true)
unfolding open_classes
IsOpen-number low high k inside =
    let parts = and_parts _ _ (filter_passes (is_open low high) all_classes k _ inside) in (not_true _ parts.0, parts.1)
  where
    not_true : (b : Bool) → not b ≡ true → b ≡ false
    not_true true e = cc
    not_true false e = refl

-- so the low rule gives 0 at its neighbourhoods, and the high one 1
pub answers-open : (low high : List Bool) (k n : ℕ) → IsIsotropic low → IsIsotropic high → k < length (open_classes low high) → n < 512 → is_of (class_number (open_classes low high) k) n ≡ true
    → (answer low n ≡ false) × (answer high n ≡ true)
answers-open low high k n even even' inside h of =
    let class = class_number (open_classes low high) k in
    let opened = IsOpen-number low high k inside in
    (sym (gives-answer low class n even h of) ∙ opened.0, sym (gives-answer high class n even' h of) ∙ opened.1)

-- every neighbourhood is of some class
any_kept : (p : Class → Bool) (xs : List Class) (y : Class) (ys : List Class) → filter p xs ≡ y ∷ ys → list_any p xs ≡ true
any_kept p [] y ys e = cc
any_kept p (x ∷ xs) y ys e =
    elim (p x) as (λ b. cond b (x ∷ filter p xs) (filter p xs) ≡ y ∷ ys → (b || list_any p xs) ≡ true) [
      | true ↦ λ e. refl
      | false ↦ λ e. any_kept p xs y ys e
    ] e

any_own : (n : ℕ) → n < 512 → list_any (is_of_class (around n)) classes ≡ true
unfolding classes_of
any_own n h = any_kept (is_of_class (around n)) classes _ _ (ap (λ eight. filter (is_of_class eight) classes) (around-eight_of n h) ∙ classes_of-class_by_number _ (around_number-lt n h))

any_on_side : (n : ℕ) (survival : Bool) (xs : List Class) → survival ≡ has_bit n 4 → list_any (is_of_class (around n)) xs ≡ true
    → list_any (λ class. is_of class n) (map (λ class. record { survival = survival; class = class }) xs) ≡ true
unfolding tells
any_on_side n survival [] side any = cc
any_on_side n survival (x ∷ xs) side any =
    elim (is_of_class (around n) x) as (λ b. is_of_class (around n) x ≡ b → (b || list_any (is_of_class (around n)) xs) ≡ true
    → (beq survival (has_bit n 4) && is_of_class (around n) x || list_any (λ class. is_of class n) (map {B = SideClass} (λ class. record { survival = survival; class = class }) xs)) ≡ true) [
      | true ↦ λ here any. first _ _ (ap (λ b. beq b (has_bit n 4) && is_of_class (around n) x) side ∙ both (has_bit n 4) (is_of_class (around n) x) here)
      | false ↦ λ here any. second _ _ (any_on_side n survival xs side any)
    ] refl any
  where
    both : (b c : Bool) → c ≡ true → (beq b b && c) ≡ true
    both true c e = e
    both false c e = e

    first : (b c : Bool) → b ≡ true → (b || c) ≡ true
    first true c e = refl
    first false c e = cc

    second : (b c : Bool) → c ≡ true → (b || c) ≡ true
    second true c e = refl
    second false c e = e

any_side : (n : ℕ) (survival : Bool) → n < 512 → survival ≡ has_bit n 4 → list_any (λ class. is_of class n) (side_classes survival) ≡ true
unfolding side_classes
any_side n survival h side = any_on_side n survival classes side (any_own n h)

any_class : (n : ℕ) → n < 512 → list_any (λ class. is_of class n) all_classes ≡ true
any_class n h =
    list_any-append (λ class. is_of class n) (side_classes false) (side_classes true)
    ∙ elim (has_bit n 4) as (λ b. has_bit n 4 ≡ b → (list_any (λ class. is_of class n) (side_classes false) || list_any (λ class. is_of class n) (side_classes true)) ≡ true) [
      | true ↦ λ live. second _ _ (any_side n true h (sym live))
      | false ↦ λ live. first _ _ (any_side n false h (sym live))
    ] refl
  where
    first : (b c : Bool) → b ≡ true → (b || c) ≡ true
    first true c e = refl
    first false c e = cc

    second : (b c : Bool) → c ≡ true → (b || c) ≡ true
    second true c e = refl
    second false c e = e

-- a filter that keeps all that pass a test
any_filtered : (p q : SideClass → Bool) (xs : List SideClass) → ((x : SideClass) → p x ≡ true → q x ≡ true) → list_any p xs ≡ true → list_any p (filter q xs) ≡ true
any_filtered p q [] kept any = any
any_filtered p q (x ∷ xs) kept any =
    elim (q x) as (λ b. q x ≡ b → list_any p (cond b (x ∷ filter q xs) (filter q xs)) ≡ true) [
      | true ↦ λ here. with_first (p x) (list_any p xs) (list_any p (filter q xs)) (λ rest. any_filtered p q xs kept rest) any
      | false ↦ λ here. any_filtered p q xs kept (without (p x) (list_any p xs) (λ passes. absurd (true_false (sym (kept x passes) ∙ here))) any)
    ] refl
  where
    true_false : true ≡ false → ⊥
    true_false e = cc

    with_first : (b c d : Bool) → (c ≡ true → d ≡ true) → (b || c) ≡ true → (b || d) ≡ true
    with_first true c d f e = refl
    with_first false c d f e = f e

    without : (b c : Bool) → (b ≡ true → c ≡ true) → (b || c) ≡ true → c ≡ true
    without true c f e = f refl
    without false c f e = e

-- where the low rule gives 0 and the high one 1, the neighbourhood is of an open class
pub any_open : (low high : List Bool) (n : ℕ) → IsIsotropic low → IsIsotropic high → n < 512 → answer low n ≡ false → answer high n ≡ true → list_any (λ class. is_of class n) (open_classes low high) ≡ true
unfolding open_classes
any_open low high n even even' h dead live =
    any_filtered (λ class. is_of class n) (is_open low high) all_classes
    (λ class of. opens _ _ (gives-answer low class n even h of ∙ dead) (gives-answer high class n even' h of ∙ live)) (any_class n h)
  where
    opens : (a b : Bool) → a ≡ false → b ≡ true → (not a && b) ≡ true
    opens true b e e' = cc
    opens false b e e' = e'

-- images are of the same classes
or_none : (b : Bool) → (b || false) ≡ b
or_none true = refl
or_none false = refl

pub is_of-image : (class : SideClass) (m n : ℕ) → m < 512 → n < 512 → has_bit m 4 ≡ has_bit n 4 → are_images (around m) (around n) ≡ true → is_of class m ≡ is_of class n
unfolding next_of
is_of-image class m n m_in n_in centres images =
    sym (or_none (is_of class m))
    ∙ sym (answer-table_of (next_of (entry_of class ∷ [])) m m_in)
    ∙ IsIsotropic-table_of (entry_of class ∷ []) m n m_in n_in centres images
    ∙ answer-table_of (next_of (entry_of class ∷ [])) n n_in
    ∙ or_none (is_of class n)
