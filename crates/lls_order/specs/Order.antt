-- An order of variables: which come out first.
use Rattle.std.specs.Prelude.{◌≡◌, ◌≢◌, ◌<◌, ◌-◌, ◌⊎◌, ℕ, zero, suc, Bool, true, false, List, slice_index, slice_index_or}

-- the number of variables; by variable from 1 its activity, and whether it is in; and the greatest activity that was given
pub record OrderState : Type 0 where
  pub vars : ℕ
  pub activities : List ℕ
  pub inside : List Bool
  pub top : ℕ

abbrev pub activity_of : OrderState → ℕ → ℕ
activity_of order v = slice_index order.activities (v - 1)

-- the variable is in; 0, which is no variable, isn't
abbrev pub is_in : OrderState → ℕ → Bool
is_in order zero = false
is_in order (suc n) = slice_index_or order.inside n false

-- the first variable has more activity, or as much and a smaller number
abbrev pub ComesBefore : OrderState → ℕ → ℕ → Type 0
ComesBefore order v w = (activity_of order w < activity_of order v) ⊎ ((activity_of order w ≡ activity_of order v) × (v < w))

-- a variable that is in and comes before every other that is
pub record IsGreatest (order : OrderState) (v : ℕ) : Type 0 where
  pub stands : is_in order v ≡ true
  pub first : (w : ℕ) → is_in order w ≡ true → w ≢ v → ComesBefore order v w

-- no variable is in
abbrev pub IsEmpty : OrderState → Type 0
IsEmpty order = (v : ℕ) → is_in order v ≡ false
