-- Tests over a range of numbers.
use Rattle.std.proofs.Common.{◌≡◌, ℕ, zero, suc, ◌+◌, ◌<◌, ◌≤◌, Bool, true, false, ◌||◌, refl, ap, ◌∙◌, sym, arith, inl, inr}
use Rattle.std.specs.List.{list_any, range_with_len}
use Rattle.std.proofs.lemmas.Bool.Decides.{eqb_tells}

or_first : (b c : Bool) → b ≡ true → (b || c) ≡ true
or_first true c e = refl
or_first false c e = cc

or_second : (b c : Bool) → c ≡ true → (b || c) ≡ true
or_second true c e = refl
or_second false c e = e

neither : (b c : Bool) → b ≡ false → c ≡ false → (b || c) ≡ false
neither true c e e' = cc
neither false c e e' = e'

pub any_none : (p : ℕ → Bool) (a n : ℕ) → ((k : ℕ) → a ≤ k → k < a + n → p k ≡ false) → list_any p (range_with_len a n) ≡ false
any_none p a zero none = refl
any_none p a (suc n) none =
    neither (p a) (list_any p (range_with_len (a + 1) n)) (none a (omega arith) (omega arith)) (any_none p (a + 1) n (λ k low high. none k (omega (arith, low)) (omega (arith, high))))

pub any_at : (p : ℕ → Bool) (a n k : ℕ) → a ≤ k → k < a + n → p k ≡ true → list_any p (range_with_len a n) ≡ true
any_at p a zero k low high passes = absurd (omega (arith, low, high))
any_at p a (suc n) k low high passes = elim (eqb_tells k a) [
  | inl t ↦ or_first (p a) _ (ap p (sym t.1) ∙ passes)
  | inr t ↦ or_second (p a) _ (any_at p (a + 1) n k (omega (arith, low, t.1)) (omega (arith, high)) passes)
]

-- a number at which a test passes
pub record IsFound (p : ℕ → Bool) (a n : ℕ) : Type 0 where
  pub k : ℕ
  pub low : a ≤ k
  pub high : k < a + n
  pub passes : p k ≡ true

pub found_in : (p : ℕ → Bool) (a n : ℕ) → list_any p (range_with_len a n) ≡ true → IsFound p a n
found_in p a zero any = cc
found_in p a (suc n) any =
    elim (p a) as (λ b. p a ≡ b → (b || list_any p (range_with_len (a + 1) n)) ≡ true → IsFound p a (suc n)) [
      | true ↦ λ here any. record { k = a; low = omega arith; high = omega arith; passes = here }
      | false ↦ λ here any. let later = found_in p (a + 1) n any in record { k = later.k; low = omega (arith, later.low); high = omega (arith, later.high); passes = later.passes }
    ] refl any

pub any_same : (p q : ℕ → Bool) (a n : ℕ) → ((k : ℕ) → p k ≡ q k) → list_any p (range_with_len a n) ≡ list_any q (range_with_len a n)
any_same p q a zero same = refl
any_same p q a (suc n) same = ap (λ b. b || list_any p (range_with_len (a + 1) n)) (same a) ∙ ap (λ b. q a || b) (any_same p q (a + 1) n same)
