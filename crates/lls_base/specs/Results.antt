-- Results: what follows from a part, and what a call answers that may lack memory.
use Rattle.std.specs.Prelude.{◌≡◌, ◌≢◌, Result, Ok, Err}

-- what follows from a part, or its fault
abbrev pub and_then : {A B E : Type 0} → Result A E → (A → Result B E) → Result B E
and_then (Ok part) more = more part
and_then (Err fault) more = Err fault

-- a call answered what is defined, its value seen by view; where it lacked memory, it may have answered that instead
abbrev pub Gives : {X Y E : Type 0} → E → (X → Y) → Result X E → Result Y E → Type 0
Gives memory view (Ok value) defined = defined ≡ Ok (view value)
Gives memory view (Err fault) defined = fault ≢ memory → defined ≡ Err fault

-- the same where a fault is wrapped in the error: where a call answered a fault, that is the defined one
abbrev pub GivesWrapped : {X Y E F : Type 0} → (F → E) → (X → Y) → Result X E → Result Y F → Type 0
GivesWrapped wrapped view (Ok value) defined = defined ≡ Ok (view value)
GivesWrapped {F = F} wrapped view (Err error) defined = (fault : F) → error ≡ wrapped fault → defined ≡ Err fault
