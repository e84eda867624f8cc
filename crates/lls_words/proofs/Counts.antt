-- A rule that answers by the number of live neighbours is isotropic.
use Rattle.std.proofs.Common.{◌≡◌, ℕ, ◌<◌, nat_eq, cond, Bool, true, ◌&&◌, List, count_by, refl, ap, ◌∙◌, sym}
use Rattle.std.proofs.lemmas.Bool.{agree_below, agree_below_at, and_parts, eqb-true}
use Rattle.lls_rule.specs.Rule.{has_bit, has_centre, live_neighbours, by_counts, table_of}
use Rattle.lls_rule.proofs.Tables.{answer-table_of}
use Rattle.lls_hensel.specs.Isotropy.{IsIsotropic}
use Rattle.lls_hensel.specs.Neighbours.{eight_of, quarter_turn, mirror}
use Rattle.lls_hensel.proofs.Images.{IsKept, same_around}

abbrev live_count : List Bool → ℕ
live_count = count_by (λ live. live)

-- whether a turn and the mirror of the eight of a number keep how many are live
abbrev keeps_count : ℕ → Bool
keeps_count n = nat_eq (live_count (quarter_turn (eight_of n))) (live_count (eight_of n)) && nat_eq (live_count (mirror (eight_of n))) (live_count (eight_of n))

counts_kept : agree_below keeps_count (λ _. true) 256 ≡ true
counts_kept = refl

count_told : (n : ℕ) → n < 256 → (live_count (quarter_turn (eight_of n)) ≡ live_count (eight_of n)) × (live_count (mirror (eight_of n)) ≡ live_count (eight_of n))
count_told n h =
    let parts = and_parts (nat_eq (live_count (quarter_turn (eight_of n))) (live_count (eight_of n))) (nat_eq (live_count (mirror (eight_of n))) (live_count (eight_of n)))
    (agree_below_at keeps_count (λ _. true) 256 n counts_kept h) in
    (eqb-true _ _ parts.0, eqb-true _ _ parts.1)

-- a turn and the mirror keep how many of eight are live
count_kept : IsKept live_count
count_kept = record { by_turn = λ n h. (count_told n h).0; by_mirror = λ n h. (count_told n h).1 }

pub IsIsotropic-by_counts : (birth survive : ℕ) → IsIsotropic (table_of (by_counts birth survive))
IsIsotropic-by_counts birth survive m n below within centres images =
    answer-table_of (by_counts birth survive) m below ∙
    (ap (λ centre. has_bit (cond centre survive birth) (live_neighbours m)) centres ∙
    (ap (λ count. has_bit (cond (has_centre n) survive birth) count) (same_around live_count m n count_kept below images) ∙ sym (answer-table_of (by_counts birth survive) n within)))
