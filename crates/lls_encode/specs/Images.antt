-- The clauses by which generation 0 comes first of its images, behind those of a form's formula.
use Rattle.std.specs.Prelude.{ℕ, zero, suc, ◌+◌, ℤ, Bool, not, ◌==◌, List, [], ◌∷◌, ◌++◌, filter, length, slice_index_or}
use Rattle.std.specs.List.{flat_map, range_with_len}
use Rattle.lls_lit.specs.Literal.{negation}
use Rattle.lls_lit.specs.Formula.{Clause, Cnf}
use Rattle.lls_grid.specs.History.{History}
use Rattle.lls_search_file.specs.Posed.{sizes_of}
use Rattle.lls_symmetry.specs.declared.motion.Motion.{Motion}
use Rattle.lls_problem.specs.declared.form.Images.{Images}
use Rattle.lls_problem.specs.declared.form.Images.TheVariants as images
use Rattle.lls_problem.specs.declared.form.Formulation.{Formulation}
use Rattle.lls_problem.specs.Problem.{PosedProblem}
use Rattle.lls_images.specs.Image.{image_index}
use Rattle.lls_images.specs.Same.{same_motions}
use Rattle.lls_images.specs.First.{IsFirst, AreOfOneKind}
use Rattle.lls_problem.specs.Solution.{IsSolution}
use Rattle.lls_encode.specs.History.{HasAssignment}
use Rattle.lls_encode.specs.Formula.{generation_size, cell_of_generation, difference_variable, formula_of}

-- the cells of generation 0 whose images under a motion are other cells, in their order
abbrev pub image_of_cell : PosedProblem → Motion → ℕ → ℕ
image_of_cell p motion k = image_index motion (sizes_of p.posed) k

abbrev pub is_changed : PosedProblem → Motion → ℕ → Bool
is_changed p motion k = not (image_of_cell p motion k == k)

abbrev pub changed_cells : PosedProblem → Motion → List ℕ
changed_cells p motion = filter (is_changed p motion) (range_with_len 0 (generation_size p))

-- Where `before` isn't true, the cell is live where its image is; and `same` is true where they have one value.
abbrev pub compared : List ℤ → ℤ → ℤ → ℤ → List Clause
compared before cell image same =
    (before ++ cell ∷ negation image ∷ []) ∷ (before ++ negation image ∷ same ∷ []) ∷ (before ++ cell ∷ same ∷ []) ∷ []

-- Of these cells, each has a variable behind the first `base`: true where it and all before it have the values of their images.
abbrev pub before_of : ℕ → ℕ → List ℤ
before_of base zero = []
before_of base (suc i) = negation (difference_variable base i) ∷ []

abbrev pub comparison : PosedProblem → Motion → ℕ → List ℕ → ℕ → List Clause
comparison p motion base cells i =
    let k = slice_index_or cells i 0 in
    compared (before_of base i) (cell_of_generation p 0 k) (cell_of_generation p 0 (image_of_cell p motion k)) (difference_variable base i)

abbrev pub comparisons : PosedProblem → Motion → ℕ → List ℕ → List Clause
comparisons p motion base cells = flat_map (comparison p motion base cells) (range_with_len 0 (length cells))

-- of motions one after another, each with variables of its own
abbrev pub all_comparisons : PosedProblem → ℕ → List Motion → List Clause
all_comparisons p base [] = []
all_comparisons p base (motion ∷ motions) =
    comparisons p motion base (changed_cells p motion) ++ all_comparisons p (base + length (changed_cells p motion)) motions

abbrev pub all_comparison_vars : PosedProblem → List Motion → ℕ
all_comparison_vars p [] = 0
all_comparison_vars p (motion ∷ motions) = length (changed_cells p motion) + all_comparison_vars p motions

-- where one of each kind is asked
abbrev pub images_part : PosedProblem → Images → ℕ → List Clause
images_part p images.All base = []
images_part p images.One base = all_comparisons p base (same_motions p)

abbrev pub images_vars : PosedProblem → Images → ℕ
images_vars p images.All = 0
images_vars p images.One = all_comparison_vars p (same_motions p)

-- the formula of the form, and these clauses behind it
unfoldable pub formulated : PosedProblem → Formulation → Cnf
formulated p formulation =
    let formula = formula_of p formulation.form in
    record {
      vars = formula.vars + images_vars p formulation.images;
      clauses = formula.clauses ++ images_part p formulation.images formula.vars;
    }

-- the solutions that are left: all, or those that come first of their images
abbrev pub IsLeft : Images → PosedProblem → History → Type 0
IsLeft images.All p history = Unit {0}
IsLeft images.One p history = IsFirst p history

-- of the kind of a history there is a solution that has an assignment
pub record HasOneOfKind (problem : PosedProblem) (formula : Cnf) (history : History) : Type 0 where
  pub left : History
  pub kind : AreOfOneKind problem history left
  pub solution : IsSolution problem left
  pub assignment : HasAssignment formula left
