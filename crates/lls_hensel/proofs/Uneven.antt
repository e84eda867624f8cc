-- The least neighbourhood whose answer differs from that of its class's representative.
use Rattle.std.proofs.Common.{◌≡◌, ◌≢◌, ℕ, suc, ◌+◌, ◌-◌, ◌<◌, ◌≤◌, Bool, true, false, cond, not, List, find, Some, None, refl, ap, ◌∙◌, arith}
use Rattle.std.specs.List.{range_with_len}
use Rattle.std.proofs.Math.Bool.{beq}
use Rattle.lls_rule.specs.Rule.{answer}
use Rattle.lls_hensel.specs.Printing.{differs, uneven, representative_nine}
use Rattle.lls_hensel.specs.Texts.{uneven_from}

pub uneven_from-start : (table : List Bool) → uneven table ≡ uneven_from table 0
unfolding uneven uneven_from
uneven_from-start table = refl

one_step : (table : List Bool) (n : ℕ) → n < 512 → uneven_from table n ≡ cond (differs table n) (Some n) (uneven_from table (n + 1))
unfolding uneven_from
one_step table n h =
    let k : 512 - n ≡ suc (512 - (n + 1)) = omega arith in
    ap (λ m. find (differs table) (range_with_len n m)) k

pub beq_same : (a b : Bool) → a ≡ b → beq a b ≡ true
beq_same true true e = refl
beq_same true false e = cc
beq_same false true e = cc
beq_same false false e = refl

beq_other : (a b : Bool) → a ≢ b → beq a b ≡ false
beq_other true true e = absurd (e refl)
beq_other true false e = refl
beq_other false true e = refl
beq_other false false e = absurd (e refl)

pub uneven_from-step : (table : List Bool) (n : ℕ) → n < 512 → answer table n ≡ answer table (representative_nine n) → uneven_from table n ≡ uneven_from table (n + 1)
unfolding differs
uneven_from-step table n h e =
    one_step table n h ∙ ap (λ b. cond (not b) (Some n) (uneven_from table (n + 1))) (beq_same (answer table n) (answer table (representative_nine n)) e)

pub uneven_from-here : (table : List Bool) (n : ℕ) → n < 512 → answer table n ≢ answer table (representative_nine n) → uneven_from table n ≡ Some n
unfolding differs
uneven_from-here table n h e =
    one_step table n h ∙ ap (λ b. cond (not b) (Some n) (uneven_from table (n + 1))) (beq_other (answer table n) (answer table (representative_nine n)) e)

pub uneven_from-end : (table : List Bool) (n : ℕ) → 512 ≤ n → uneven_from table n ≡ None
unfolding uneven_from
uneven_from-end table n h = let k : 512 - n ≡ 0 = omega arith in ap (λ m. find (differs table) (range_with_len n m)) k

pub from_beq : (a b : Bool) → not (beq a b) ≡ false → a ≡ b
from_beq true true e = refl
from_beq true false e = cc
from_beq false true e = cc
from_beq false false e = refl

pub from_not_beq : (a b : Bool) → not (beq a b) ≡ true → a ≢ b
from_not_beq true true e = λ _. cc
from_not_beq true false e = λ g. cc
from_not_beq false true e = λ g. cc
from_not_beq false false e = λ _. cc
