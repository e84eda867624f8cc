-- Of two lists of bits, the one that has the greater number is the one that leads: it is live where they first differ.
use Rattle.std.proofs.Common.{◌≡◌, ◌<◌, ◌≤◌, ℕ, ◌+◌, ◌*◌, Bool, true, false, cond, List, [], ◌∷◌, map, refl, sym, ap, ◌∙◌, arith}
use Rattle.std.specs.List.{fold, filter}
use Rattle.std.proofs.Math.Bool.{beq}

-- at these numbers, the first function leads the second, or they are the same
abbrev pub leads : (ℕ → Bool) → (ℕ → Bool) → List ℕ → Bool
leads a b [] = true
leads a b (k ∷ ks) = cond (beq (a k) (b k)) (leads a b ks) (a k)

abbrev pub number_from : ℕ → List Bool → ℕ
number_from n bits = fold (λ n bit. 2 * n + cond bit 1 0) n bits

bit-lt : (bit : Bool) → cond bit 1 0 < 2
bit-lt true = omega arith
bit-lt false = omega arith

-- what is less so far stays less
stays_less : (a b : ℕ → Bool) (ks : List ℕ) (x y : ℕ) → x < y → number_from x (map a ks) < number_from y (map b ks)
stays_less a b [] x y less = less
stays_less a b (k ∷ ks) x y less =
    stays_less a b ks (2 * x + cond (a k) 1 0) (2 * y + cond (b k) 1 0) (let first = bit-lt (a k) in omega (arith, first, less))

pub le_by_leads : (a b : ℕ → Bool) (ks : List ℕ) (x : ℕ) → leads a b ks ≡ true → number_from x (map b ks) ≤ number_from x (map a ks)
le_by_leads a b [] x lead = omega arith
le_by_leads a b (k ∷ ks) x lead = by_values (le_by_leads a b ks) (a k) (b k) lead
  where
    by_values : ((y : ℕ) → leads a b ks ≡ true → number_from y (map b ks) ≤ number_from y (map a ks)) → (u v : Bool) → cond (beq u v) (leads a b ks) u ≡ true → number_from (2 * x + cond v 1 0) (map b ks) ≤ number_from (2 * x + cond u 1 0) (map a ks)
    by_values later true true lead = later (2 * x + 1) lead
    by_values later true false lead = let less = stays_less b a ks (2 * x + 0) (2 * x + 1) (omega arith) in omega (arith, less)
    by_values later false true lead = cc
    by_values later false false lead = later (2 * x + 0) lead

pub leads_by_le : (a b : ℕ → Bool) (ks : List ℕ) (x : ℕ) → number_from x (map b ks) ≤ number_from x (map a ks) → leads a b ks ≡ true
leads_by_le a b [] x le = refl
leads_by_le a b (k ∷ ks) x le = by_values (leads_by_le a b ks) (a k) (b k) le
  where
    by_values : ((y : ℕ) → number_from y (map b ks) ≤ number_from y (map a ks) → leads a b ks ≡ true) → (u v : Bool) → number_from (2 * x + cond v 1 0) (map b ks) ≤ number_from (2 * x + cond u 1 0) (map a ks) → cond (beq u v) (leads a b ks) u ≡ true
    by_values later true true le = later (2 * x + 1) le
    by_values later true false le = refl
    by_values later false true le = let less = stays_less a b ks (2 * x + 0) (2 * x + 1) (omega arith) in absurd (omega (arith, less, le))
    by_values later false false le = later (2 * x + 0) le

same_there : (u v w : Bool) → u ≡ v → cond (beq u v) w u ≡ w
same_there true true w same = refl
same_there true false w same = cc
same_there false true w same = cc
same_there false false w same = refl

-- numbers at which both have one value may be left out
pub leads-filter : (a b : ℕ → Bool) (f : ℕ → Bool) (ks : List ℕ) → ((k : ℕ) → f k ≡ false → a k ≡ b k) → leads a b (filter f ks) ≡ leads a b ks
leads-filter a b f [] same = refl
leads-filter a b f (k ∷ ks) same =
    elim (f k) as (λ t. f k ≡ t → leads a b (cond t (k ∷ filter f ks) (filter f ks)) ≡ leads a b (k ∷ ks)) [
      | true ↦ λ passes. ap (λ rest. cond (beq (a k) (b k)) rest (a k)) (leads-filter a b f ks same)
      | false ↦ λ fails. leads-filter a b f ks same ∙ sym (same_there (a k) (b k) (leads a b ks) (same k fails))
    ] refl
