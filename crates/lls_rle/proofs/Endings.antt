-- Before a `!` a pattern may be at fault, and never lacks its end.
use Rattle.std.proofs.Common.{◌≡◌, ◌+◌, ℕ, Bool, true, false, cond, List, [], ◌∷◌, ◌++◌, Option, None, Some, refl}
use Rattle.std.specs.Prelude.{nat_le, nat_lt, Err}
use Rattle.lls_grid.specs.History.{History}
use Rattle.lls_rle.specs.declared.rle_fault.RleFault.{RleFault}
use Rattle.lls_rle.specs.declared.rle_fault.RleFault.TheVariants.{TooWide, TooHigh, NoEnd}
use Rattle.lls_rle.specs.declared.parts.Part.{Part}
use Rattle.lls_rle.specs.declared.parts.Part.TheVariants as part
use Rattle.lls_rle.specs.Tokens.{PlacedToken}
use Rattle.lls_rle.specs.Parts.{part_of}
use Rattle.lls_rle.specs.Items.{Items, Ending, ended, unended, stray, with_part, items_behind, items_of}
use Rattle.lls_rle.specs.Picture.{Run, runs_from, misfit, first_misfit, or_else, unless_misfit, at_ending, picture, pictured}

abbrev pub bang : PlacedToken
bang = record { line = 0; column = 0; text = 33 ∷ [] }

-- a token before items that have an end
with_end : (token : PlacedToken) (p : Part) (count : Option ℕ) (rest : Option ℕ → Items) → ((c : Option ℕ) → (rest c).ending ≡ unended → ⊥) → (with_part token p count rest).ending ≡ unended → ⊥
with_end token (part.Run tag) count rest later e = later None e
with_end token (part.Count n) None rest later e = later (Some n) e
with_end token (part.Count n) (Some m) rest later e = cc
with_end token part.End None rest later e = cc
with_end token part.End (Some m) rest later e = cc
with_end token (part.Bad k) None rest later e = cc
with_end token (part.Bad k) (Some m) rest later e = cc

has_end : (tokens : List PlacedToken) (count : Option ℕ) → (items_behind count (tokens ++ bang ∷ [])).ending ≡ unended → ⊥
has_end [] None e = cc
has_end [] (Some n) e = cc
has_end (token ∷ tokens) count e = with_end token (part_of token.text) count (λ c. items_behind c (tokens ++ bang ∷ [])) (has_end tokens) e

-- a run that doesn't fit is another fault
misfit_other : (height width : ℕ) (run : Run) → misfit height width run ≡ Some NoEnd → ⊥
misfit_other height width run e = by_tests (nat_le height run.row) (nat_lt width (run.column + run.count)) e where
  by_tests : (high far : Bool) → cond high (Some (TooHigh run.row)) (cond far (Some (TooWide run.row)) None) ≡ Some NoEnd → ⊥
  by_tests true far e = cc
  by_tests false true e = cc
  by_tests false false e = cc

either_other : (first later : Option RleFault) → (first ≡ Some NoEnd → ⊥) → (later ≡ Some NoEnd → ⊥) → or_else first later ≡ Some NoEnd → ⊥
either_other None later no_first no_later e = no_later e
either_other (Some fault) later no_first no_later e = no_first e

misfits_other : (height width : ℕ) (runs : List Run) → first_misfit height width runs ≡ Some NoEnd → ⊥
misfits_other height width [] e = cc
misfits_other height width (run ∷ runs) e = either_other (misfit height width run) (first_misfit height width runs) (misfit_other height width run) (misfits_other height width runs) e

at_other : (fault : Option RleFault) (history : History) (ending : Ending) → (fault ≡ Some NoEnd → ⊥) → (ending ≡ unended → ⊥) → unless_misfit fault (at_ending history ending) ≡ Err NoEnd → ⊥
at_other None history ended no_fault no_end e = cc
at_other None history unended no_fault no_end e = no_end refl
at_other None history (stray line column) no_fault no_end e = cc
at_other (Some fault) history ending no_fault no_end e = no_fault cc

pub never_unended : (height width : ℕ) (tokens : List PlacedToken) → pictured height width (items_of (tokens ++ bang ∷ [])) ≡ Err NoEnd → ⊥
never_unended height width tokens e =
    let all = items_of (tokens ++ bang ∷ []) in
    let runs = runs_from 0 0 all.items in
    at_other (first_misfit height width runs) (picture height width runs) all.ending (misfits_other height width runs) (has_end tokens None) e
