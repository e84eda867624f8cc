-- What the masks of the centre and of the eight round it give, for each of the 512 neighbourhoods.
use Rattle.std.proofs.Common.{◌≡◌, ℕ, ◌<◌, ◌≤◌, [], ◌∷◌, nat_eq, true, bit_and, refl, arith}
use Rattle.std.specs.Prelude.{count_ones}
use Rattle.std.specs.Int.Count.{ones}
use Rattle.std.proofs.lemmas.Bool.{agree_below, agree_below_at}
use Rattle.std.proofs.lemmas.Bool.Decides.{nat_tests}
use Rattle.std.proofs.lemmas.List.Sums.{count_by-le-length}
use Rattle.std.specs.Prelude.{not}
use Rattle.lls_rule.specs.Rule.{has_bit, live_neighbours}

counts_agree : agree_below (λ n. nat_eq (count_ones (bit_and n 495)) (live_neighbours n)) (λ _. true) 512 ≡ true
unfolding ones
counts_agree = refl

centres_agree : agree_below (λ n. nat_eq (bit_and n 16) 0) (λ n. not (has_bit n 4)) 512 ≡ true
centres_agree = refl

pub count_ones-around : (n : ℕ) → n < 512 → count_ones (bit_and n 495) ≡ live_neighbours n
count_ones-around n h =
    let e = agree_below_at (λ n. nat_eq (count_ones (bit_and n 495)) (live_neighbours n)) (λ _. true) 512 n counts_agree h in
    grind (arith, nat_tests, e)

pub live_neighbours-le : (n : ℕ) → live_neighbours n ≤ 8
live_neighbours-le n = count_by-le-length (has_bit n) (8 ∷ 7 ∷ 6 ∷ 5 ∷ 3 ∷ 2 ∷ 1 ∷ 0 ∷ [])

pub centre_test : (n : ℕ) → n < 512 → nat_eq (bit_and n 16) 0 ≡ not (has_bit n 4)
centre_test n h = agree_below_at (λ n. nat_eq (bit_and n 16) 0) (λ n. not (has_bit n 4)) 512 n centres_agree h
