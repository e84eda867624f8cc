-- A rule is isotropic where no neighbourhood differs from its class's representative.
use Rattle.std.proofs.Common.{◌≡◌, ℕ, zero, suc, ◌+◌, ◌<◌, ◌≤◌, nat_lt, Bool, true, false, cond, not, ◌&&◌, List, find, Some, None, ◌↔◌, refl, ap, ◌∙◌, sym, arith}
use Rattle.std.specs.List.{range_with_len}
use Rattle.std.specs.Cmp.Lexicographic.{pointwise}
use Rattle.std.proofs.Math.Bool.{beq}
use Rattle.std.proofs.lemmas.Bool.{agree_below, agree_below_at, and_parts, ltb-true}
use Rattle.lls_rule.specs.Rule.{answer, has_bit, around}
use Rattle.lls_hensel.specs.Neighbours.{eight_of, quarter_turn, mirror, are_images}
use Rattle.lls_hensel.specs.Isotropy.{IsIsotropic}
use Rattle.lls_hensel.specs.Printing.{number_with, representative_eight, representative_nine, differs, uneven}
use Rattle.lls_hensel.proofs.RoundTrip.{isotropic}
use Rattle.lls_hensel.proofs.Uneven.{beq_same}
use Rattle.lls_hensel.proofs.Images.{IsKept, same_eight, same_around}

turn_keeps_class : agree_below (λ n. pointwise beq (representative_eight (quarter_turn (eight_of n))) (representative_eight (eight_of n)) && pointwise beq (representative_eight (mirror (eight_of n))) (representative_eight (eight_of n))) (λ _. true) 256 ≡ true
unfolding representative_eight
turn_keeps_class = refl

representatives_told : agree_below (λ n. nat_lt (representative_nine n) 512 && beq (has_bit n 4) (has_bit (representative_nine n) 4) && are_images (around n) (around (representative_nine n))) (λ _. true) 512 ≡ true
unfolding representative_nine representative_eight
representatives_told = refl

class_told : (n : ℕ) → n < 256 → (representative_eight (quarter_turn (eight_of n)) ≡ representative_eight (eight_of n)) × (representative_eight (mirror (eight_of n)) ≡ representative_eight (eight_of n))
class_told n h =
    let parts = and_parts (pointwise beq (representative_eight (quarter_turn (eight_of n))) (representative_eight (eight_of n))) (pointwise beq (representative_eight (mirror (eight_of n))) (representative_eight (eight_of n)))
    (agree_below_at (λ n. pointwise beq (representative_eight (quarter_turn (eight_of n))) (representative_eight (eight_of n)) && pointwise beq (representative_eight (mirror (eight_of n))) (representative_eight (eight_of n))) (λ _. true) 256 n turn_keeps_class h) in
    (same_eight (representative_eight (quarter_turn (eight_of n))) (representative_eight (eight_of n)) parts.0, same_eight (representative_eight (mirror (eight_of n))) (representative_eight (eight_of n)) parts.1)

-- a turn and the mirror keep the representative
representative_kept : IsKept representative_eight
representative_kept = record { by_turn = λ n h. (class_told n h).0; by_mirror = λ n h. (class_told n h).1 }

from_even : (table : List Bool) → uneven table ≡ None → IsIsotropic table
unfolding representative_nine
from_even table even m n below within centres images =
    isotropic table even m below ∙
    (ap (λ centre. answer table (number_with centre (representative_eight (around m)))) centres ∙
    (ap (λ eight. answer table (number_with (has_bit n 4) eight)) (same_around representative_eight m n representative_kept below images) ∙ sym (isotropic table even n within)))

none_passes : (p : ℕ → Bool) (from many : ℕ) → ((k : ℕ) → from ≤ k → k < from + many → p k ≡ false) → find p (range_with_len from many) ≡ None
none_passes p from zero h = refl
none_passes p from (suc many) h =
    ap (λ b. cond b (Some from) (find p (range_with_len (from + 1) many))) (h from (omega arith) (omega arith)) ∙ none_passes p (from + 1) many (λ k l g. h k (omega arith) (omega arith))

same_bits : (a b : Bool) → beq a b ≡ true → a ≡ b
same_bits true true e = refl
same_bits true false e = cc
same_bits false true e = cc
same_bits false false e = refl

to_even : (table : List Bool) → IsIsotropic table → uneven table ≡ None
unfolding uneven differs
to_even table even =
    none_passes (λ n. not (beq (answer table n) (answer table (representative_nine n)))) 0 512 (λ n l h.
    let parts = and_parts (nat_lt (representative_nine n) 512 && beq (has_bit n 4) (has_bit (representative_nine n) 4)) (are_images (around n) (around (representative_nine n)))
    (agree_below_at (λ n. nat_lt (representative_nine n) 512 && beq (has_bit n 4) (has_bit (representative_nine n) 4) && are_images (around n) (around (representative_nine n))) (λ _. true) 512 n representatives_told (omega arith)) in
    let first = and_parts (nat_lt (representative_nine n) 512) (beq (has_bit n 4) (has_bit (representative_nine n) 4)) parts.0 in
    ap not (beq_same (answer table n) (answer table (representative_nine n))
    (even n (representative_nine n) (omega arith) (ltb-true (representative_nine n) 512 first.0) (same_bits (has_bit n 4) (has_bit (representative_nine n) 4) first.1) parts.1)))

-- no neighbourhood differs exactly where the rule is isotropic
pub uneven-IsIsotropic : (table : List Bool) → (uneven table ≡ None) ↔ IsIsotropic table
uneven-IsIsotropic table = (from_even table, to_even table)
