-- What one call of a sink takes.
use Rattle.std.specs.Prelude.{◌≡◌, ◌<◌, ℕ, List, [], length, take, Result, Ok, Err}
use Rattle.lls_base.specs.declared.sink.Failed.{Failed}

-- the first bytes of the piece, as many as the answer says
abbrev pub bytes_taken : Result ℕ Failed → List ℕ → List ℕ
bytes_taken (Ok n) piece = take n piece
bytes_taken (Err e) piece = []

-- the answer is 0 at a piece that isn't empty
abbrev pub TookNone : Result ℕ Failed → List ℕ → Type 0
TookNone answer piece = (answer ≡ Ok 0) × (0 < length piece)
