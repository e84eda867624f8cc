-- What the masks and shifts of the eight neighbours give, for each of the 256.
use Rattle.std.proofs.Common.{◌≡◌, ℕ, ◌-◌, ◌*◌, ◌/◌, ◌%◌, ◌<◌, nat_eq, true, suc, zero, ◌≢◌, [], ◌∷◌, ◌≤◌, None, arith, bit_and, bit_or, refl}
use Rattle.std.proofs.lemmas.Bool.{agree_below, agree_below_at, eqb-true}
use Rattle.lls_hensel.specs.Numbers.{turned, mirrored, flipped, representatives_of_fewer}

-- two functions that were compared at each number below 256
pub same_below : (f g : ℕ → ℕ) → agree_below (λ n. nat_eq (f n) (g n)) (λ _. true) 256 ≡ true → (n : ℕ) → n < 256 → f n ≡ g n
same_below f g h n within = eqb-true (f n) (g n) (agree_below_at (λ n. nat_eq (f n) (g n)) (λ _. true) 256 n h within)

turn_by_masks : ℕ → ℕ
turn_by_masks n =
    bit_or (bit_or (bit_or (bit_or (bit_or (bit_and n 4 * 32 % 256) (bit_and n 17 * 4 % 256)) (bit_and n 2 * 8 % 256)) (bit_and n 136 / 4)) (bit_and n 64 / 8)) (bit_and n 32 / 32)

turns_agree : agree_below (λ n. nat_eq (turn_by_masks n) (turned n)) (λ _. true) 256 ≡ true
unfolding turn_by_masks turned
turns_agree = refl

pub turn_by_masks-turned : (n : ℕ) → n < 256 →
    bit_or (bit_or (bit_or (bit_or (bit_or (bit_and n 4 * 32 % 256) (bit_and n 17 * 4 % 256)) (bit_and n 2 * 8 % 256)) (bit_and n 136 / 4)) (bit_and n 64 / 8)) (bit_and n 32 / 32) ≡ turned n
unfolding turn_by_masks
turn_by_masks-turned n h = same_below turn_by_masks turned turns_agree n h

mirror_by_masks : ℕ → ℕ
mirror_by_masks n =
    bit_or (bit_or (bit_or (bit_or (bit_and n 132 / 4) (bit_and n 33 * 4 % 256)) (bit_and n 16 / 2)) (bit_and n 8 * 2 % 256)) (bit_and n 66)

mirrors_agree : agree_below (λ n. nat_eq (mirror_by_masks n) (mirrored n)) (λ _. true) 256 ≡ true
unfolding mirror_by_masks mirrored
mirrors_agree = refl

pub mirror_by_masks-mirrored : (n : ℕ) → n < 256 →
    bit_or (bit_or (bit_or (bit_or (bit_and n 132 / 4) (bit_and n 33 * 4 % 256)) (bit_and n 16 / 2)) (bit_and n 8 * 2 % 256)) (bit_and n 66) ≡ mirrored n
unfolding mirror_by_masks
mirror_by_masks-mirrored n h = same_below mirror_by_masks mirrored mirrors_agree n h

flips_agree : agree_below (λ n. nat_eq (255 - n) (flipped n)) (λ _. true) 256 ≡ true
unfolding flipped
flips_agree = refl

pub sub-flipped : (n : ℕ) → n < 256 → 255 - n ≡ flipped n
sub-flipped n h = same_below (λ n. 255 - n) flipped flips_agree n h

-- a count up to four that is none of these has one class
pub representatives_of_fewer_none : (m : ℕ) → m ≤ 4 → m ≢ 1 → m ≢ 2 → m ≢ 3 → m ≢ 4 → representatives_of_fewer m ≡ record { letter = None; eight = 0 } ∷ []
unfolding representatives_of_fewer
representatives_of_fewer_none zero h one two three four = refl
representatives_of_fewer_none (suc zero) h one two three four = absurd (one refl)
representatives_of_fewer_none (suc (suc zero)) h one two three four = absurd (two refl)
representatives_of_fewer_none (suc (suc (suc zero))) h one two three four = absurd (three refl)
representatives_of_fewer_none (suc (suc (suc (suc zero)))) h one two three four = absurd (four refl)
representatives_of_fewer_none (suc (suc (suc (suc (suc m))))) h one two three four = absurd (omega arith)
