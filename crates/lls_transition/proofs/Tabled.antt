-- A table of so many rows, filled row by row.
use Rattle.std.proofs.Common.{◌≡◌, ℕ, zero, suc, ◌+◌, ◌<◌, ◌≤◌, List, Bool, true, false, map, set, length, replicate, refl, ap, ◌∙◌, sym, get_or, arith, inl, inr}
use Rattle.std.specs.List.{range_with_len}
use Rattle.std.proofs.lemmas.List.{same_lists, length-set, length-replicate, get_or-set_other, get_or_default}
use Rattle.std.proofs.lemmas.List.FromFn.{length-map-range_with_len, get_or-map-range_with_len}
use Rattle.std.proofs.lemmas.Grind.{get_or-set_at}
use Rattle.std.proofs.lemmas.Bool.Decides.{eqb_tells}
use Rattle.lls_cube.specs.Table.{is_forbidden}

-- the rows before one are as a test says, and the others are allowed
pub record IsFilled (rows : ℕ) (p : ℕ → Bool) (row : ℕ) (table : List Bool) : Type 0 where
  pub all : length table ≡ rows
  pub before : (k : ℕ) → k < row → is_forbidden table k ≡ p k
  pub after : (k : ℕ) → row ≤ k → is_forbidden table k ≡ false

allowed : (n k : ℕ) → get_or (replicate n false) k false ≡ false
allowed zero k = refl
allowed (suc n) zero = refl
allowed (suc n) (suc k) = allowed n k

pub filled_none : (rows : ℕ) (p : ℕ → Bool) (table : List Bool) → table ≡ replicate rows false → IsFilled rows p 0 table
filled_none rows p table empty = record {
  all = ap length empty ∙ length-replicate rows false;
  before = λ k low. absurd (omega arith);
  after = λ k high. ap (λ t. is_forbidden t k) empty ∙ allowed rows k;
}

pub filled_forbidden : (rows : ℕ) (p : ℕ → Bool) (row : ℕ) (table new : List Bool) → row < rows → p row ≡ true → new ≡ set table row true → IsFilled rows p row table → IsFilled rows p (row + 1) new
filled_forbidden rows p row table new inside passes is f = record {
  all = ap length is ∙ length-set table row true ∙ f.all;
  before = λ k low. ap (λ t. is_forbidden t k) is ∙ elim (eqb_tells k row) [
    | inl t ↦ get_or-set_at table row k true false t.1 (omega (arith, f.all)) ∙ sym passes ∙ ap p (sym t.1)
    | inr t ↦ get_or-set_other table row k true false t.1 ∙ f.before k (omega (arith, t.1))
  ];
  after = λ k high. ap (λ t. is_forbidden t k) is ∙ get_or-set_other table row k true false (λ e. absurd (omega arith)) ∙ f.after k (omega arith);
}

pub filled_allowed : (rows : ℕ) (p : ℕ → Bool) (row : ℕ) (table : List Bool) → p row ≡ false → IsFilled rows p row table → IsFilled rows p (row + 1) table
filled_allowed rows p row table fails f = record {
  all = f.all;
  before = λ k low. elim (eqb_tells k row) [
    | inl t ↦ f.after k (omega (arith, t.1)) ∙ sym fails ∙ ap p (sym t.1)
    | inr t ↦ f.before k (omega (arith, t.1))
  ];
  after = λ k high. f.after k (omega arith);
}

pub filled_all : (rows : ℕ) (p : ℕ → Bool) (row : ℕ) (table : List Bool) → row ≡ rows → IsFilled rows p row table → table ≡ map p (range_with_len 0 rows)
filled_all rows p row table all f =
    let count = length-map-range_with_len p 0 rows in
    same_lists table (map p (range_with_len 0 rows)) (f.all ∙ sym count) (λ k d inside.
    let within : k < rows = omega (arith, f.all, inside) in
    get_or_default table k d false inside ∙ f.before k (omega arith) ∙ sym (get_or-map-range_with_len p 0 rows k k d within (omega arith)))
