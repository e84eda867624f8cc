-- Lists cut into pieces of one length.
use Rattle.std.specs.Prelude.{ℕ, zero, suc, List, [], ◌∷◌, take, drop}

-- that many pieces of `size` elements each, from the front on
abbrev pub chunked : {X : Type 0} → ℕ → ℕ → List X → List (List X)
chunked size zero items = []
chunked size (suc count) items = take size items ∷ chunked size count (drop size items)
