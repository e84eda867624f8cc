-- A loop that tests number after number.
use Rattle.std.proofs.Common.{◌≡◌, ◌<◌, ◌≤◌, ℕ, zero, suc, ◌+◌, Bool, true, false, not, refl, sym, ◌∙◌, subst, arith, add-one, inl, inr, cond}
use Rattle.std.specs.List.{list_all, range_with_len}
use Rattle.std.proofs.lemmas.Bool.{and_parts, and_from, cases_lt}
use Rattle.std.proofs.lemmas.List.Folds.{list_all_at}
use Rattle.std.proofs.lemmas.List.FromFn.{length-range_with_len, get_or-range_with_len}

all_from-more : (p : ℕ → Bool) (a n : ℕ) → list_all p (range_with_len a n) ≡ true → p (a + n) ≡ true → list_all p (range_with_len a (suc n)) ≡ true
all_from-more p a zero so_far next =
    let here : a + 0 ≡ a = omega arith in
    and_from (p a) true (subst (λ k. p k ≡ true) here next) refl
all_from-more p a (suc n) so_far next =
    let parts = and_parts (p a) (list_all p (range_with_len (a + 1) n)) so_far in
    let there : a + suc n ≡ a + 1 + n = omega arith in
    and_from (p a) (list_all p (range_with_len (a + 1) (suc n))) parts.0 (all_from-more p (a + 1) n parts.1 (subst (λ k. p k ≡ true) there next))

-- one number more
pub all_more : (p : ℕ → Bool) (n : ℕ) → list_all p (range_with_len 0 n) ≡ true → p n ≡ true → list_all p (range_with_len 0 (n + 1)) ≡ true
all_more p n so_far next =
    let at : n ≡ 0 + n = omega arith in
    rw add-one (all_from-more p 0 n so_far (subst (λ k. p k ≡ true) at next))

-- a number that fails
pub all_fails : (p : ℕ → Bool) (n k : ℕ) → k < n → p k ≡ false → list_all p (range_with_len 0 n) ≡ false
all_fails p n k below fails =
    let at : k ≡ 0 + k = omega arith in
    list_all_at p (range_with_len 0 n) k 0 (subst (λ m. k < m) (sym (length-range_with_len 0 n)) below)
    (subst (λ m. p m ≡ false) (at ∙ sym (get_or-range_with_len 0 n k 0 below)) fails)

pub all_from-each : (p : ℕ → Bool) (a n k : ℕ) → list_all p (range_with_len a n) ≡ true → a ≤ k → k < a + n → p k ≡ true
all_from-each p a zero k all low high = absurd (omega arith)
all_from-each p a (suc n) k all low high =
    let parts = and_parts (p a) (list_all p (range_with_len (a + 1) n)) all in
    elim (cases_lt a k) [
      | inl less ↦ all_from-each p (a + 1) n k parts.1 (omega arith) (omega arith)
      | inr rest ↦ let same : a ≡ k = omega arith in subst (λ m. p m ≡ true) same parts.0
    ]

-- each number passes
pub all_each : (p : ℕ → Bool) (n k : ℕ) → list_all p (range_with_len 0 n) ≡ true → k < n → p k ≡ true
all_each p n k all below = all_from-each p 0 n k all (omega arith) (omega arith)

-- all numbers have been tested
pub all_ends : (p : ℕ → Bool) (n k : ℕ) → n ≤ k → k ≤ n → list_all p (range_with_len 0 k) ≡ true → list_all p (range_with_len 0 n) ≡ true
all_ends p n k low high all = let same : k ≡ n = omega arith in subst (λ m. list_all p (range_with_len 0 m) ≡ true) same all

-- a test that is made where another one passes
pub where_true : (b x y : Bool) → b ≡ true → x ≡ y → x ≡ cond b y true
where_true b x y passes same = rw passes same

-- two bits that are tested for a difference
pub where_apart : (b : Bool) → not b ≡ true → b ≡ false
where_apart true e = cc
where_apart false e = refl

pub where_same : (b : Bool) → not b ≡ false → b ≡ true
where_same true e = refl
where_same false e = cc
