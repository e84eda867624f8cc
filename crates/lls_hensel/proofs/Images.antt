-- Functions of eight neighbours that have one value at all images of the eight.
use Rattle.std.proofs.Common.{◌≡◌, ℕ, ◌<◌, nat_lt, Bool, true, ◌&&◌, List, [], ◌∷◌, ◌++◌, map, inl, inr, refl, ap, ◌∙◌, sym, subst}
use Rattle.std.specs.List.{list_any}
use Rattle.std.specs.Cmp.Lexicographic.{pointwise}
use Rattle.std.specs.Cmp.{booleans_Decides}
use Rattle.std.proofs.Math.Bool.{beq}
use Rattle.std.proofs.lemmas.Bool.{agree_below, agree_below_at, and_parts, or_cases, ltb-true}
use Rattle.std.proofs.lemmas.Slice.Eq.{slice_eq-Decides}
use Rattle.lls_rule.specs.Rule.{around}
use Rattle.lls_hensel.specs.Groups.{around_number}
use Rattle.lls_hensel.specs.Neighbours.{eight_of, quarter_turn, mirror, turns, are_images}
use Rattle.lls_hensel.specs.Numbers.{turned, mirrored}
use Rattle.lls_hensel.proofs.Tells.{around_number-lt, around-eight_of}

pub same_eight : (a b : List Bool) → pointwise beq a b ≡ true → a ≡ b
same_eight a b e = (slice_eq-Decides booleans_Decides a b true (sym e)).0 refl

turn_is_number : agree_below (λ n. nat_lt (turned n) 256 && pointwise beq (quarter_turn (eight_of n)) (eight_of (turned n))) (λ _. true) 256 ≡ true
unfolding turned
turn_is_number = refl

mirror_is_number : agree_below (λ n. nat_lt (mirrored n) 256 && pointwise beq (mirror (eight_of n)) (eight_of (mirrored n))) (λ _. true) 256 ≡ true
unfolding mirrored
mirror_is_number = refl

-- a quarter turn of the eight is that of their number
pub quarter_turn-eight_of : (n : ℕ) → n < 256 → (turned n < 256) × (quarter_turn (eight_of n) ≡ eight_of (turned n))
quarter_turn-eight_of n h =
    let parts = and_parts (nat_lt (turned n) 256) (pointwise beq (quarter_turn (eight_of n)) (eight_of (turned n)))
    (agree_below_at (λ n. nat_lt (turned n) 256 && pointwise beq (quarter_turn (eight_of n)) (eight_of (turned n))) (λ _. true) 256 n turn_is_number h) in
    (ltb-true (turned n) 256 parts.0, same_eight (quarter_turn (eight_of n)) (eight_of (turned n)) parts.1)

-- the eight in the mirror are those of their number in the mirror
pub mirror-eight_of : (n : ℕ) → n < 256 → (mirrored n < 256) × (mirror (eight_of n) ≡ eight_of (mirrored n))
mirror-eight_of n h =
    let parts = and_parts (nat_lt (mirrored n) 256) (pointwise beq (mirror (eight_of n)) (eight_of (mirrored n)))
    (agree_below_at (λ n. nat_lt (mirrored n) 256 && pointwise beq (mirror (eight_of n)) (eight_of (mirrored n))) (λ _. true) 256 n mirror_is_number h) in
    (ltb-true (mirrored n) 256 parts.0, same_eight (mirror (eight_of n)) (eight_of (mirrored n)) parts.1)

-- a quarter turn and the mirror keep the function's value
pub record IsKept {X : Type 0} (f : List Bool → X) : Type 0 where
  pub by_turn : (n : ℕ) → n < 256 → f (quarter_turn (eight_of n)) ≡ f (eight_of n)
  pub by_mirror : (n : ℕ) → n < 256 → f (mirror (eight_of n)) ≡ f (eight_of n)

-- eight that have a number, with this value of the function
record HasValue {X : Type 0} (f : List Bool → X) (value : X) (eight : List Bool) : Type 0 where
  number : ℕ
  below : number < 256
  is : eight ≡ eight_of number
  same : f eight ≡ value

turn_has_value : {X : Type 0} (f : List Bool → X) (value : X) (eight : List Bool) → IsKept f → HasValue f value eight → HasValue f value (quarter_turn eight)
turn_has_value f value eight kept has = record {
  number = turned has.number;
  below = (quarter_turn-eight_of has.number has.below).0;
  is = ap quarter_turn has.is ∙ (quarter_turn-eight_of has.number has.below).1;
  same = ap (λ bits. f (quarter_turn bits)) has.is ∙ (kept.by_turn has.number has.below ∙ (ap f (sym has.is) ∙ has.same));
}

mirror_same : {X : Type 0} (f : List Bool → X) (value : X) (eight : List Bool) → IsKept f → HasValue f value eight → f (mirror eight) ≡ value
mirror_same f value eight kept has =
    ap (λ bits. f (mirror bits)) has.is ∙ (kept.by_mirror has.number has.below ∙ (ap f (sym has.is) ∙ has.same))

abbrev HaveValue : {X : Type 0} → (List Bool → X) → X → List (List Bool) → Type 0
HaveValue f value [] = Unit {0}
HaveValue f value (x ∷ xs) = (f x ≡ value) × HaveValue f value xs

one_of : {X : Type 0} (f : List Bool → X) (value : X) (second : List Bool) (xs : List (List Bool)) → HaveValue f value xs → list_any (pointwise beq second) xs ≡ true → f second ≡ value
one_of f value second [] all h = cc
one_of f value second (x ∷ xs) all h =
    elim (or_cases (pointwise beq second x) (list_any (pointwise beq second) xs) h) [
      | inl t ↦ ap f (same_eight second x t) ∙ all.0
      | inr t ↦ one_of f value second xs all.1 t
    ]

-- images of the eight have their value
at_image : {X : Type 0} (f : List Bool → X) (n : ℕ) (second : List Bool) → IsKept f → n < 256 → are_images (eight_of n) second ≡ true → f second ≡ f (eight_of n)
at_image f n second kept h t =
    let eight = eight_of n in
    let value = f eight in
    let first : HasValue f value eight = record { number = n; below = h; is = refl; same = refl } in
    let once = turn_has_value f value eight kept first in
    let twice = turn_has_value f value (quarter_turn eight) kept once in
    let thrice = turn_has_value f value (quarter_turn (quarter_turn eight)) kept twice in
    one_of f value second (turns eight ++ map mirror (turns eight)) (
      first.same,
      (
        once.same,
        (
          twice.same,
          (
            thrice.same,
            (
              mirror_same f value eight kept first,
              (
                mirror_same f value (quarter_turn eight) kept once,
                (mirror_same f value (quarter_turn (quarter_turn eight)) kept twice, (mirror_same f value (quarter_turn (quarter_turn (quarter_turn eight))) kept thrice, tt)),
              ),
            ),
          ),
        ),
      ),
    ) t

-- neighbourhoods of one class have one value
pub same_around : {X : Type 0} (f : List Bool → X) (m n : ℕ) → IsKept f → m < 512 → are_images (around m) (around n) ≡ true → f (around m) ≡ f (around n)
same_around f m n kept h images =
    let number = around_number m in
    let is = around-eight_of m h in
    ap f is ∙ sym (at_image f number (around n) kept (around_number-lt m h) (subst (λ eight. are_images eight (around n) ≡ true) is images))
