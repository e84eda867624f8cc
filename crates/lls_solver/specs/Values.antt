-- For private contracts alone: the values of variables that a trail has.
use Rattle.std.specs.Prelude.{◌≡◌, ◌<◌, ℕ, ◌+◌, pos, Bool, false, List, length, slice_index_or}
use Rattle.lls_store.specs.Trail.{Entry, has}

-- the value of the variable n + 1 is the nth
abbrev pub AreValues : List Entry → List Bool → Type 0
AreValues entries values = (n : ℕ) → n < length values → slice_index_or values n false ≡ has entries (pos (n + 1))
