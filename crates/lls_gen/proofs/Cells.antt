-- Cells drawn from numbers: none has a name, and each agrees with its value.
use Rattle.std.proofs.Common.{◌≡◌, ℕ, zero, suc, Bool, true, false, None, Some, List, [], ◌∷◌, ◌++◌, length, map, get_or, refl, ap, ◌∙◌, ◌+◌, arith, length-append, if◌then◌else◌}
use Rattle.std.proofs.lemmas.List.{length-map}
use Rattle.lls_search_file.specs.declared.cell.Kind.{Kind}
use Rattle.lls_search_file.specs.declared.cell.Kind.TheVariants.{Dead, Live, Free, Named, Negated}
use Rattle.lls_search_file.specs.Posed.{name_of, names_after, are_numbered}
use Rattle.lls_problem.specs.Solution.{cell_number, HasItsBit, AreTied, MeetsCells}
use Rattle.lls_gen.specs.Drawing.{is_live, is_unknown, known, drawn, plain, cells_of_both}

name_of-known : (live : Bool) → name_of (known live) ≡ None
name_of-known true = refl
name_of-known false = refl

name_of-drawn : (number : ℕ) → name_of (drawn number) ≡ None
name_of-drawn number = unnamed (is_unknown number) (is_live number)
  where
    unnamed : (unknown live : Bool) → name_of (if unknown then Free else known live) ≡ None
    unnamed true live = refl
    unnamed false live = name_of-known live

HasItsBit-known : (live : Bool) → HasItsBit (known live) live
HasItsBit-known true = refl
HasItsBit-known false = refl

HasItsBit-drawn : (number : ℕ) → HasItsBit (drawn number) (is_live number)
HasItsBit-drawn number = agrees (is_unknown number) (is_live number)
  where
    agrees : (unknown live : Bool) → HasItsBit (if unknown then Free else known live) live
    agrees true live = tt
    agrees false live = HasItsBit-known live

pub length-cells : (numbers : List ℕ) (next : List Bool) → length (cells_of_both numbers next) ≡ length numbers + length next
length-cells numbers next = length-append (map (λ number. plain (drawn number)) numbers) (map (λ live. plain (known live)) next) ∙ omega (arith, length-map numbers (λ number. plain (drawn number)), length-map next (λ live. plain (known live)))

-- no names to number
pub are_numbered-cells : (numbers : List ℕ) (next : List Bool) → are_numbered (cells_of_both numbers next) 0 (Some 0) ≡ true
are_numbered-cells [] [] = refl
are_numbered-cells [] (live ∷ next) = ap (λ name. are_numbered (cells_of_both [] next) 0 (names_after name 0)) (name_of-known live) ∙ are_numbered-cells [] next
are_numbered-cells (number ∷ numbers) next = ap (λ name. are_numbered (cells_of_both numbers next) 0 (names_after name 0)) (name_of-drawn number) ∙ are_numbered-cells numbers next

name_of-cell : (numbers : List ℕ) (next : List Bool) (k : ℕ) → name_of (cell_number (cells_of_both numbers next) k).kind ≡ None
name_of-cell [] [] k = refl
name_of-cell [] (live ∷ next) zero = name_of-known live
name_of-cell [] (live ∷ next) (suc k) = name_of-cell [] next k
name_of-cell (number ∷ numbers) next zero = name_of-drawn number
name_of-cell (number ∷ numbers) next (suc k) = name_of-cell numbers next k

HasItsBit-cell : (numbers : List ℕ) (next : List Bool) (k : ℕ) → HasItsBit (cell_number (cells_of_both numbers next) k).kind (get_or (map is_live numbers ++ next) k false)
HasItsBit-cell [] [] k = refl
HasItsBit-cell [] (live ∷ next) zero = HasItsBit-known live
HasItsBit-cell [] (live ∷ next) (suc k) = HasItsBit-cell [] next k
HasItsBit-cell (number ∷ numbers) next zero = HasItsBit-drawn number
HasItsBit-cell (number ∷ numbers) next (suc k) = HasItsBit-cell numbers next k

-- a cell without a name is tied to none
AreTied-unnamed : (kind other : Kind) (a b : Bool) → name_of kind ≡ None → AreTied kind other a b
AreTied-unnamed Dead other a b unnamed = tt
AreTied-unnamed Live other a b unnamed = tt
AreTied-unnamed Free other a b unnamed = tt
AreTied-unnamed (Named n) other a b unnamed = cc
AreTied-unnamed (Negated n) other a b unnamed = cc

pub MeetsCells-drawn : (numbers : List ℕ) (next : List Bool) → MeetsCells (cells_of_both numbers next) (map is_live numbers ++ next)
MeetsCells-drawn numbers next = record {
  fixed = λ k within. HasItsBit-cell numbers next k;
  tied = λ j k within others. AreTied-unnamed _ _ _ _ (name_of-cell numbers next j);
}
