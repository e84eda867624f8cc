-- Bytes that wait until what ends at some byte is whole.
use Rattle.std.specs.Prelude.{◌≡◌, ◌+◌, ◌-◌, ◌≤◌, ◌<◌, ◌==◌, ℕ, Bool, false, List, ◌∷◌, ◌++◌, length, take, drop}
use Rattle.std.specs.List.{list_any}

-- the byte that ends what stands before it, and the bytes that wait
pub record WaitingState : Type 0 where
  pub end : ℕ
  pub bytes : List ℕ

-- the byte is among them
abbrev pub has_byte : ℕ → List ℕ → Bool
has_byte byte bytes = list_any (λ b. b == byte) bytes

-- so many bytes stand before the first that is the end
pub record IsFirstEnd (end : ℕ) (bytes : List ℕ) (len : ℕ) : Type 0 where
  pub within : len < length bytes
  pub whole : bytes ≡ take len bytes ++ end ∷ drop (len + 1) bytes
  pub none_before : has_byte end (take len bytes) ≡ false

-- for private contracts alone: so many bytes were taken, and so many behind them were searched and have no end
pub record IsSearched (end : ℕ) (bytes : List ℕ) (taken searched : ℕ) : Type 0 where
  pub taken_within : taken ≤ length bytes
  pub searched_within : searched ≤ length bytes - taken
  pub none : has_byte end (take searched (drop taken bytes)) ≡ false
