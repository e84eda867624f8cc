-- The formula of a formulation leaves the solutions that it says, and is unsatisfiable just where there is no solution.
use Rattle.std.proofs.Common.{◌≡◌, ◌<◌, ◌≤◌, ℕ, ◌+◌, Bool, true, false, not, ◌&&◌, List, [], ◌∷◌, ◌++◌, map, length, take, get_or, refl, sym, ap, ◌∙◌, subst, arith, append_assoc, length-append, nat_eq, eqb-true}
use Rattle.std.specs.List.{AllByRecursion as Each, range_with_len}
use Rattle.std.proofs.Math.Bool.{beq}
use Rattle.std.proofs.Math.Seq.{take-append_seam}
use Rattle.std.proofs.lemmas.Bool.{and_parts, and_from, false_from_ne_true}
use Rattle.std.proofs.lemmas.List.{ext_get_or, get_or_append_left, get_or-append-add}
use Rattle.std.proofs.lemmas.List.Elements.{recursion_from_All, All-from_recursion}
use Rattle.std.proofs.lemmas.List.FromFn.{get_or-map-range_with_len, length-map-range_with_len}
use Rattle.lls_lit.specs.Formula.{satisfies, IsUnsatisfiable}
use Rattle.lls_rule.specs.Rule.{number_of}
use Rattle.lls_grid.specs.History.{History, cells_of}
use Rattle.lls_search_file.specs.Posed.{IsPosed, sizes_of}
use Rattle.lls_symmetry.specs.declared.motion.Motion.{Motion}
use Rattle.lls_symmetry.specs.Motion.{exchanges}
use Rattle.lls_problem.specs.declared.form.Images.{Images}
use Rattle.lls_problem.specs.declared.form.Images.TheVariants as images
use Rattle.lls_problem.specs.declared.form.Formulation.{Formulation}
use Rattle.lls_problem.specs.Problem.{PosedProblem, AreFitting}
use Rattle.lls_problem.specs.Solution.{IsSolution, IsAbsent}
use Rattle.lls_images.specs.Image.{image}
use Rattle.lls_images.specs.Same.{same_motions}
use Rattle.lls_images.specs.First.{beginning, AreOfOneKind}
use Rattle.lls_images.proofs.First.{Each-mapped, few_motions, squares, first_law}
use Rattle.lls_images.proofs.Images.{HasSizes-image}
use Rattle.lls_images.proofs.Patterns.{length-beginning, beginning-image, image_index-forth, below}
use Rattle.lls_encode.specs.Formula.{generation_size, formula_of}
use Rattle.lls_encode.specs.History.{history_of, HasAssignment}
use Rattle.lls_encode.specs.Parts.{HasExtension}
use Rattle.lls_encode.specs.Images.{image_of_cell, is_changed, changed_cells, comparisons, all_comparisons, all_comparison_vars, images_part, images_vars, formulated, IsLeft, HasOneOfKind}
use Rattle.lls_encode.proofs.Compared.{filter_range-below, length-all_comparisons}
use Rattle.lls_encode.proofs.Complete.{HasCells-cells_of, extension_of, length-values, satisfies-formula_of}
use Rattle.lls_encode.proofs.Differences.{cell_in_order}
use Rattle.lls_encode.proofs.Differing.{count_of, HasCells-append}
use Rattle.lls_encode.proofs.Leading.{leads, leads_by_le, le_by_leads, leads-filter}
use Rattle.lls_encode.proofs.Left.{own, imaged, is_true-own, leads_by_clauses, marks_from, length-marks_from, satisfies-comparisons}
use Rattle.lls_encode.proofs.Made.{cells_among, few_clauses}
use Rattle.lls_encode.proofs.Parts.{satisfies-append}
use Rattle.lls_encode.proofs.Sound.{HasCells-history_of, IsSolution-history_of}
use Rattle.lls_encode.proofs.Unlisted.{first_cells, length-first_cells, is_true-first_cell}
use Rattle.lls_encode.proofs.Unseen.{AreMarks, marks_front, marks_back}
use Rattle.lls_encode.proofs.Values.{HasCells}

-- a cell whose image is itself has the value of its image
unchanged : (p : PosedProblem) (motion : Motion) (values : List Bool) (k : ℕ) → is_changed p motion k ≡ false → own values k ≡ imaged p motion values k
unchanged p motion values k is = by_test (nat_eq (image_of_cell p motion k) k) refl is
  where
    by_test : (b : Bool) → nat_eq (image_of_cell p motion k) k ≡ b → not b ≡ false → own values k ≡ imaged p motion values k
    by_test true same is = ap (λ i. get_or values i false) (sym (eqb-true (image_of_cell p motion k) k same))
    by_test false same is = cc

-- generation 0 and its image, by the values of an assignment
module _ (p : PosedProblem) (h : History) (values : List Bool) (has : HasCells p values h) where
  first_cell : (k : ℕ) → k < generation_size p → get_or (first_cells h) k false ≡ own values k
  first_cell k k_in = sym (is_true-first_cell p h values has k k_in) ∙ is_true-own p values k

  cells_are : first_cells h ≡ map (own values) (range_with_len 0 (generation_size p))
  cells_are =
      let size = length-first_cells p h values has in
      ext_get_or false (first_cells h) (map (own values) (range_with_len 0 (generation_size p))) (size ∙ sym (length-map-range_with_len (own values) 0 (generation_size p))) (λ k k_in.
      let within : k < generation_size p = subst (λ n. k < n) size k_in in
      first_cell k within ∙ sym (get_or-map-range_with_len (own values) 0 (generation_size p) k k false within (omega arith)))

  module _ (motion : Motion) (square : exchanges motion ≡ true → p.posed.height ≡ p.posed.width) where
    abbrev h' : History
    h' = image motion p.posed.height p.posed.width h

    image_within : (k : ℕ) → k < generation_size p → image_of_cell p motion k < generation_size p
    image_within k k_in =
        image_index-forth motion (sizes_of p.posed) k square has.kept.width.0 has.kept.height.0 (below p motion h square has.sizes has.kept k k_in) k_in

    images_are : first_cells h' ≡ map (imaged p motion values) (range_with_len 0 (generation_size p))
    images_are =
        let size = length-beginning p.posed.generations p.posed.height p.posed.width h' (HasSizes-image motion p.posed.generations p.posed.height p.posed.width h has.sizes) has.kept.generations.0 in
        ext_get_or false (first_cells h') (map (imaged p motion values) (range_with_len 0 (generation_size p))) (size ∙ sym (length-map-range_with_len (imaged p motion values) 0 (generation_size p))) (λ k k_in.
        let within : k < generation_size p = subst (λ n. k < n) size k_in in
        beginning-image p motion h square has.sizes has.kept k within ∙ first_cell (image_of_cell p motion k) (image_within k within)
        ∙ sym (get_or-map-range_with_len (imaged p motion values) 0 (generation_size p) k k false within (omega arith)))

    -- the image has no greater number just where the cells that change lead
    le_by_lead : leads (own values) (imaged p motion values) (changed_cells p motion) ≡ true → beginning h' ≤ beginning h
    le_by_lead lead =
        rw (images_are, cells_are)
        (le_by_leads (own values) (imaged p motion values) (range_with_len 0 (generation_size p)) 0
        (sym (leads-filter (own values) (imaged p motion values) (is_changed p motion) (range_with_len 0 (generation_size p)) (unchanged p motion values)) ∙ lead))

    lead_by_le : beginning h' ≤ beginning h → leads (own values) (imaged p motion values) (changed_cells p motion) ≡ true
    lead_by_le le =
        leads-filter (own values) (imaged p motion values) (is_changed p motion) (range_with_len 0 (generation_size p)) (unchanged p motion values)
        ∙ leads_by_le (own values) (imaged p motion values) (range_with_len 0 (generation_size p)) 0
        (subst (λ cells. number_of (map (imaged p motion values) (range_with_len 0 (generation_size p))) ≤ number_of cells) cells_are (subst (λ cells. number_of cells ≤ beginning h) images_are le))

  abbrev KeepsGrid : Motion → Type 0
  KeepsGrid motion = exchanges motion ≡ true → p.posed.height ≡ p.posed.width

  abbrev Comes : Motion → Type 0
  Comes motion = beginning (image motion p.posed.height p.posed.width h) ≤ beginning h

  -- so it is with all motions
  all_come : (base : ℕ) (motions : List Motion) → Each KeepsGrid motions → satisfies values (all_comparisons p base motions) ≡ true → Each Comes motions
  all_come base [] grids satisfied = tt
  all_come base (motion ∷ motions) grids satisfied =
      let parts = and_parts _ _ (sym (satisfies-append values (comparisons p motion base (changed_cells p motion)) (all_comparisons p (base + length (changed_cells p motion)) motions)) ∙ satisfied) in
      (le_by_lead motion grids.0 (leads_by_clauses p motion values base (changed_cells p motion) parts.0), all_come (base + length (changed_cells p motion)) motions grids.1 parts.1)

-- the values of all new variables
abbrev all_marks : PosedProblem → List Bool → List Motion → List Bool
all_marks p values [] = []
all_marks p values (motion ∷ motions) = marks_from (own values) (imaged p motion values) true (changed_cells p motion) ++ all_marks p values motions

length-all_marks : (p : PosedProblem) (values : List Bool) (motions : List Motion) → length (all_marks p values motions) ≡ all_comparison_vars p motions
length-all_marks p values [] = refl
length-all_marks p values (motion ∷ motions) =
    length-append (marks_from (own values) (imaged p motion values) true (changed_cells p motion)) (all_marks p values motions)
    ∙ ap (λ n. n + length (all_marks p values motions)) (length-marks_from (own values) (imaged p motion values) true (changed_cells p motion))
    ∙ ap (λ n. length (changed_cells p motion) + n) (length-all_marks p values motions)

-- they satisfy the clauses of a history that comes first
satisfies-all : (p : PosedProblem) (h : History) (values : List Bool) (has : HasCells p values h) (base : ℕ) (motions : List Motion) → Each (KeepsGrid p h values has) motions → Each (Comes p h values has) motions
    → AreMarks values base (all_marks p values motions) → satisfies values (all_comparisons p base motions) ≡ true
satisfies-all p h values has base [] grids come are = refl
satisfies-all p h values has base (motion ∷ motions) grids come are =
    let marks = marks_from (own values) (imaged p motion values) true (changed_cells p motion) in
    satisfies-append values (comparisons p motion base (changed_cells p motion)) (all_comparisons p (base + length (changed_cells p motion)) motions)
    ∙ and_from _ _
    (satisfies-comparisons p motion values base (changed_cells p motion) (marks_front values base marks (all_marks p values motions) are) (lead_by_le p h values has motion grids.0 come.0))
    (satisfies-all p h values has (base + length (changed_cells p motion)) motions grids.1 come.1
    (subst (λ n. AreMarks values (base + n) (all_marks p values motions)) (length-marks_from (own values) (imaged p motion values) true (changed_cells p motion))
    (marks_back values base marks (all_marks p values motions) are)))

marks_from-same : (a b a' b' : ℕ → Bool) (same : Bool) (ks : List ℕ) → Each (λ k. (a k ≡ a' k) × (b k ≡ b' k)) ks → marks_from a b same ks ≡ marks_from a' b' same ks
marks_from-same a b a' b' same [] each = refl
marks_from-same a b a' b' same (k ∷ ks) each =
    let now : (same && beq (a k) (b k)) ≡ (same && beq (a' k) (b' k)) = ap (λ u. same && beq u (b k)) each.0.0 ∙ ap (λ v. same && beq (a' k) v) each.0.1 in
    ap (λ t. t ∷ marks_from a b t ks) now ∙ ap (λ rest. (same && beq (a' k) (b' k)) ∷ rest) (marks_from-same a b a' b' (same && beq (a' k) (b' k)) ks each.1)

-- there is a variable for each cell
pub cells_formulated : (p : PosedProblem) (f : Formulation) → length p.posed.cells ≤ (formulated p f).vars
unfolding formulated
cells_formulated p f = let among = cells_among p f.form in omega (arith, among)

module _ (p : PosedProblem) (kept : IsPosed p.posed) (fitting : AreFitting p.posed p.demands) where
  grids : Each (λ motion. exchanges motion ≡ true → p.posed.height ≡ p.posed.width) (same_motions p)
  grids = recursion_from_All (λ motion. exchanges motion ≡ true → p.posed.height ≡ p.posed.width) (same_motions p) (squares p fitting kept)

  -- an assignment of the clauses begins with a history that is to be left
  pub IsLeft-by_clauses : (images : Images) (h : History) (values : List Bool) → HasCells p values h → (base : ℕ) → satisfies values (images_part p images base) ≡ true → IsLeft images p h
  IsLeft-by_clauses images.All h values has base satisfied = tt
  IsLeft-by_clauses images.One h values has base satisfied = All-from_recursion (Comes p h values has) (same_motions p) (all_come p h values has base (same_motions p) grids satisfied)

  -- more values do not change what is said of generation 0
  marks_same : (h : History) (values more : List Bool) → HasCells p values h → length p.posed.cells ≤ length values → (motions : List Motion)
      → Each (λ motion. exchanges motion ≡ true → p.posed.height ≡ p.posed.width) motions → all_marks p (values ++ more) motions ≡ all_marks p values motions
  marks_same h values more has enough [] grids = refl
  marks_same h values more has enough (motion ∷ motions) grids =
      let cell : (k : ℕ) → k < generation_size p → own (values ++ more) k ≡ own values k = λ k k_in.
      get_or_append_left values more false k (let all = cell_in_order p kept 0 k kept.generations.0 k_in in omega (arith, all, enough)) in
      let both = Each-mapped (λ k. k < generation_size p) (λ k. (own (values ++ more) k ≡ own values k) × (imaged p motion (values ++ more) k ≡ imaged p motion values k)) (changed_cells p motion)
      (λ k k_in. (cell k k_in, cell (image_of_cell p motion k) (image_within p h values has motion grids.0 k k_in)))
      (recursion_from_All (λ k. k < generation_size p) (changed_cells p motion) (filter_range-below (is_changed p motion) (generation_size p))) in
      ap (λ front. front ++ all_marks p (values ++ more) motions) (marks_from-same (own (values ++ more)) (imaged p motion (values ++ more)) (own values) (imaged p motion values) true (changed_cells p motion) both)
      ∙ ap (λ back. marks_from (own values) (imaged p motion values) true (changed_cells p motion) ++ back) (marks_same h values more has enough motions grids.1)

  abbrev more_of : Images → List Bool → List Bool
  more_of images.All values = []
  more_of images.One values = all_marks p values (same_motions p)

  length-more_of : (images : Images) (values : List Bool) → length (more_of images values) ≡ images_vars p images
  length-more_of images.All values = refl
  length-more_of images.One values = length-all_marks p values (same_motions p)

  satisfies-part : (images : Images) (h : History) (values : List Bool) → HasCells p values h → length p.posed.cells ≤ length values → IsLeft images p h
      → satisfies (values ++ more_of images values) (images_part p images (length values)) ≡ true
  satisfies-part images.All h values has enough left = refl
  satisfies-part images.One h values has enough left =
      let more : List Bool = all_marks p values (same_motions p) in
      let all = HasCells-append p h values more has enough in
      satisfies-all p h (values ++ more) all (length values) (same_motions p) grids (recursion_from_All (Comes p h (values ++ more) all) (same_motions p) left)
      (subst (AreMarks (values ++ more) (length values)) (sym (marks_same h values more has enough (same_motions p) grids)) (λ k within. get_or-append-add values more k false))

  -- so a solution that is to be left has an assignment
  pub HasAssignment-formulated : (f : Formulation) → (h : History) → IsSolution p h → IsLeft f.images p h → HasAssignment (formulated p f) h
  unfolding formulated
  HasAssignment-formulated f h solution left =
      let cells : List Bool = cells_of h in
      let after : HasExtension p cells = extension_of p kept fitting h solution in
      let values : List Bool = cells ++ after.more in
      let more : List Bool = more_of f.images values in
      let count : length cells ≡ length p.posed.cells = count_of p h kept solution.sizes in
      let plain : length values ≡ (formula_of p f.form).vars = length-values p f.form h kept solution.sizes after in
      let enough : length p.posed.cells ≤ length values = subst (λ n. length p.posed.cells ≤ n) (sym plain) (cells_among p f.form) in
      let has : HasCells p values h = HasCells-append p h cells after.more (HasCells-cells_of p h kept solution.sizes) (omega (arith, count)) in
      let all : values ++ more ≡ cells ++ (after.more ++ more) = append_assoc cells after.more more in
      record {
        values = values ++ more;
        count = length-append values more ∙ ap (λ n. n + length more) plain ∙ ap (λ n. (formula_of p f.form).vars + n) (length-more_of f.images values);
        cells = ap (take (length cells)) all ∙ take-append_seam cells (after.more ++ more);
        satisfied = satisfies-append (values ++ more) (formula_of p f.form).clauses (images_part p f.images (formula_of p f.form).vars)
            ∙ and_from _ _ (ap (λ vs. satisfies vs (formula_of p f.form).clauses) all ∙ satisfies-formula_of p f.form h kept fitting solution after more)
            (subst (λ n. satisfies (values ++ more) (images_part p f.images n) ≡ true) plain (satisfies-part f.images h values has enough left));
      }

  -- of the kind of a solution there is one that is to be left
  some_left : (images : Images) (h : History) → IsSolution p h → (left : History) × (AreOfOneKind p h left) × (IsSolution p left) × (IsLeft images p left)
  some_left images.All h solution = (h, record { motions = []; same = refl; taken = refl }, solution, tt)
  some_left images.One h solution = let first = first_law p fitting kept h solution in (first.0, first.1.kind, first.1.solution, first.1.first)

  pub HasOneOfKind-formulated : (f : Formulation) (h : History) → IsSolution p h → HasOneOfKind p (formulated p f) h
  HasOneOfKind-formulated f h solution =
      let some = some_left f.images h solution in
      record { left = some.0; kind = some.1; solution = some.2; assignment = HasAssignment-formulated f some.0 some.2 some.3 }

  pub absent_by_formulated : (f : Formulation) → IsUnsatisfiable (formulated p f) → IsAbsent p
  absent_by_formulated f unsatisfiable h solution =
      let assigned = (HasOneOfKind-formulated f h solution).assignment in
      let none = unsatisfiable assigned.values assigned.count in
      let all = assigned.satisfied in
      cc

  -- an assignment begins with a solution that is to be left
  parts_of : (f : Formulation) (values : List Bool) → satisfies values (formulated p f).clauses ≡ true
      → (satisfies values (formula_of p f.form).clauses ≡ true) × (satisfies values (images_part p f.images (formula_of p f.form).vars) ≡ true)
  unfolding formulated
  parts_of f values satisfied =
      and_parts _ _ (sym (satisfies-append values (formula_of p f.form).clauses (images_part p f.images (formula_of p f.form).vars)) ∙ satisfied)

  pub IsSolution-formulated : (f : Formulation) (values : List Bool) → length p.posed.cells ≤ length values → satisfies values (formulated p f).clauses ≡ true → IsSolution p (history_of p values)
  IsSolution-formulated f values enough satisfied = IsSolution-history_of p f.form kept fitting values enough (parts_of f values satisfied).0

  pub IsLeft-formulated : (f : Formulation) (values : List Bool) → length p.posed.cells ≤ length values → satisfies values (formulated p f).clauses ≡ true → IsLeft f.images p (history_of p values)
  IsLeft-formulated f values enough satisfied =
      IsLeft-by_clauses f.images (history_of p values) values (HasCells-history_of p values kept enough) (formula_of p f.form).vars (parts_of f values satisfied).1

  pub unsatisfiable_by_absent : (f : Formulation) → IsAbsent p → IsUnsatisfiable (formulated p f)
  unsatisfiable_by_absent f absent values len =
      false_from_ne_true (satisfies values (formulated p f).clauses) (λ satisfied.
      absent (history_of p values) (IsSolution-formulated f values (omega (arith, len, cells_formulated p f)) satisfied))

-- all clauses together are few
few_images : (p : PosedProblem) (images : Images) (base : ℕ) → IsPosed p.posed → length (images_part p images base) ≤ 86016
few_images p images.All base kept = omega arith
few_images p images.One base kept = let few = length-all_comparisons p kept base (same_motions p) in let motions = few_motions p in omega (arith, few, motions)

pub few_formulated : (p : PosedProblem) (f : Formulation) → IsPosed p.posed → AreFitting p.posed p.demands → length (formulated p f).clauses < 200000000
unfolding formulated
few_formulated p f kept fitting =
    omega (
      arith,
      length-append (formula_of p f.form).clauses (images_part p f.images (formula_of p f.form).vars),
      few_clauses p f.form kept fitting,
      few_images p f.images (formula_of p f.form).vars kept,
    )
