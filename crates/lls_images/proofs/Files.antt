-- What a posed file says of the cells of a history, it says of the cells of its image.
use Rattle.std.proofs.Common.{◌≡◌, ◌<◌, ℕ, Bool, true, false, not, cond, length, get_or, Option, None, Some, refl, sym, ap, ◌∙◌, subst, nat_eq, eqb-true, eq-eqb}
use Rattle.std.specs.Prelude.{is_some}
use Rattle.std.specs.Option.{option_eq}
use Rattle.std.proofs.Math.Bool.{beq}
use Rattle.std.proofs.lemmas.Bool.{and_parts}
use Rattle.std.proofs.lemmas.Option.{cond_some}
use Rattle.lls_grid.specs.Sizes.{cell_count}
use Rattle.lls_grid.specs.History.{History, cells_of}
use Rattle.lls_search_file.specs.declared.cell.Kind.{Kind}
use Rattle.lls_search_file.specs.declared.cell.Kind.TheVariants.{Dead, Live, Free, Named, Negated}
use Rattle.lls_search_file.specs.Posed.{IsPosed, sizes_of, name_of}
use Rattle.lls_symmetry.specs.declared.motion.Motion.{Motion}
use Rattle.lls_symmetry.specs.Motion.{cell_place, exchanges}
use Rattle.lls_symmetry.proofs.Grids.{image-on_grid}
use Rattle.lls_symmetry.proofs.Symmetric.{row-on_grid, IsOnGrid-cell}
use Rattle.lls_problem.specs.Problem.{PosedProblem}
use Rattle.lls_problem.specs.Solution.{cell_number, HasItsBit, AreTied, MeetsCells}
use Rattle.lls_problem.specs.Judgement.{HasItsSizes}
use Rattle.lls_problem.proofs.Places.{index_of-lt}
use Rattle.lls_images.specs.Image.{place_at, image_index}
use Rattle.lls_images.specs.Same.{is_alike, is_kept, keeps_cells, tie, kind_at, is_tie_kept, are_ties_kept, keeps_ties}
use Rattle.lls_images.proofs.Tests.{all_each}
use Rattle.lls_images.proofs.Places.{IsInside-place_at}
use Rattle.lls_images.proofs.Images.{cells_of-image}
use Rattle.lls_images.proofs.Neighbours.{same_bits}
use Rattle.lls_images.proofs.Everywhere.{imaged}

-- a cell that is alike has its bit where the other one has
bit_by_alike : (kind other : Kind) (value : Bool) → is_alike kind other ≡ true → HasItsBit other value → HasItsBit kind value
bit_by_alike Dead Dead value alike has = has
bit_by_alike Dead Live value alike has = cc
bit_by_alike Dead Free value alike has = cc
bit_by_alike Dead (Named n) value alike has = cc
bit_by_alike Dead (Negated n) value alike has = cc
bit_by_alike Live Dead value alike has = cc
bit_by_alike Live Live value alike has = has
bit_by_alike Live Free value alike has = cc
bit_by_alike Live (Named n) value alike has = cc
bit_by_alike Live (Negated n) value alike has = cc
bit_by_alike Free other value alike has = tt
bit_by_alike (Named m) other value alike has = tt
bit_by_alike (Negated m) other value alike has = tt

-- two values are the same, or not
abbrev Differ : Bool → Bool → Bool → Type 0
Differ false a b = a ≡ b
Differ true a b = a ≡ not b

tie_told : (m n : ℕ) (d e : Bool) → cond (nat_eq m n) (Some d) None ≡ Some e → (m ≡ n) × (d ≡ e)
tie_told m n d e told = let found = cond_some (nat_eq m n) d e told in (eqb-true m n found.0, found.1)

tie_by_name : (m n : ℕ) (d : Bool) → m ≡ n → cond (nat_eq m n) (Some d) None ≡ Some d
tie_by_name m n d one = ap (λ b. cond b (Some d) None) (eq-eqb m n one)

-- what a tie says of values
Differ-by_tied : (kind other : Kind) (a b d : Bool) → tie kind other ≡ Some d → AreTied kind other a b → Differ d a b
Differ-by_tied Dead other a b d told tied = cc
Differ-by_tied Live other a b d told tied = cc
Differ-by_tied Free other a b d told tied = cc
Differ-by_tied (Named m) Dead a b d told tied = cc
Differ-by_tied (Named m) Live a b d told tied = cc
Differ-by_tied (Named m) Free a b d told tied = cc
Differ-by_tied (Named m) (Named n) a b d told tied = let one = tie_told m n false d told in subst (λ d. Differ d a b) one.1 (tied one.0)
Differ-by_tied (Named m) (Negated n) a b d told tied = let one = tie_told m n true d told in subst (λ d. Differ d a b) one.1 (tied one.0)
Differ-by_tied (Negated m) Dead a b d told tied = cc
Differ-by_tied (Negated m) Live a b d told tied = cc
Differ-by_tied (Negated m) Free a b d told tied = cc
Differ-by_tied (Negated m) (Named n) a b d told tied = let one = tie_told m n true d told in subst (λ d. Differ d a b) one.1 (tied one.0)
Differ-by_tied (Negated m) (Negated n) a b d told tied = let one = tie_told m n false d told in subst (λ d. Differ d a b) one.1 (tied one.0)

AreTied-by_differ : (kind other : Kind) (a b : Bool) → ((d : Bool) → tie kind other ≡ Some d → Differ d a b) → AreTied kind other a b
AreTied-by_differ Dead other a b each = tt
AreTied-by_differ Live other a b each = tt
AreTied-by_differ Free other a b each = tt
AreTied-by_differ (Named m) Dead a b each = tt
AreTied-by_differ (Named m) Live a b each = tt
AreTied-by_differ (Named m) Free a b each = tt
AreTied-by_differ (Named m) (Named n) a b each = λ one. each false (tie_by_name m n false one)
AreTied-by_differ (Named m) (Negated n) a b each = λ one. each true (tie_by_name m n true one)
AreTied-by_differ (Negated m) Dead a b each = tt
AreTied-by_differ (Negated m) Live a b each = tt
AreTied-by_differ (Negated m) Free a b each = tt
AreTied-by_differ (Negated m) (Named n) a b each = λ one. each true (tie_by_name m n true one)
AreTied-by_differ (Negated m) (Negated n) a b each = λ one. each false (tie_by_name m n false one)

same_told : (one other : Option Bool) (d : Bool) → option_eq beq one other ≡ true → one ≡ Some d → other ≡ Some d
same_told None other d same told = cc
same_told (Some a) None d same told = cc
same_told (Some a) (Some b) d same told = let equal = same_bits a b same in ap Some (sym equal) ∙ told

named_by_tie : (kind other : Kind) (d : Bool) → tie kind other ≡ Some d → is_some (name_of kind) ≡ true
named_by_tie Dead other d told = cc
named_by_tie Live other d told = cc
named_by_tie Free other d told = cc
named_by_tie (Named m) other d told = refl
named_by_tie (Negated m) other d told = refl

passes : (b x : Bool) → b ≡ true → cond b x true ≡ true → x ≡ true
passes true x is e = e
passes false x is e = cc

module _ (p : PosedProblem) (motion : Motion) (h : History) (square : exchanges motion ≡ true → p.posed.height ≡ p.posed.width) (sizes : HasItsSizes p h) (posed : IsPosed p.posed) where
  within : (k : ℕ) → k < length p.posed.cells → k < cell_count (sizes_of p.posed)
  within k below = subst (λ n. k < n) posed.count below

  -- the image of a cell is one
  pub image_index-lt : (k : ℕ) → k < length p.posed.cells → image_index motion (sizes_of p.posed) k < length p.posed.cells
  unfolding image_index
  image_index-lt k below =
      let place = place_at (sizes_of p.posed) k in
      let inside = IsInside-place_at (sizes_of p.posed) k posed.width.0 posed.height.0 (within k below) in
      let on = image-on_grid motion p.posed.height p.posed.width (cell_place place.y place.x) square (IsOnGrid-cell p.posed.height p.posed.width place.y place.x inside.row inside.column) in
      index_of-lt p.posed _ posed (record { generation = inside.generation; row = row-on_grid p.posed.height _ on.top on.bottom; column = row-on_grid p.posed.width _ on.left on.right })

  pub value-image : (k : ℕ) → k < length p.posed.cells → get_or (cells_of (imaged p motion h)) k false ≡ get_or (cells_of h) (image_index motion (sizes_of p.posed) k) false
  value-image k below = cells_of-image motion (sizes_of p.posed) h k square sizes posed.height.0 posed.width.0 (within k below)

  bit-image : keeps_cells motion p.posed ≡ true → MeetsCells p.posed.cells (cells_of h) → (k : ℕ) → k < length p.posed.cells
      → HasItsBit (cell_number p.posed.cells k).kind (get_or (cells_of (imaged p motion h)) k false)
  bit-image kept meets k below =
      let to = image_index motion (sizes_of p.posed) k in
      let parts = and_parts _ _ (all_each (is_kept motion p.posed) (length p.posed.cells) k kept below) in
      subst (HasItsBit (cell_number p.posed.cells k).kind) (sym (value-image k below))
      (bit_by_alike (cell_number p.posed.cells k).kind (cell_number p.posed.cells to).kind (get_or (cells_of h) to false) parts.1 (meets.fixed to (image_index-lt k below)))

  tied-image : keeps_ties motion p.posed ≡ true → MeetsCells p.posed.cells (cells_of h) → (j k : ℕ) → j < length p.posed.cells → k < length p.posed.cells
      → AreTied (cell_number p.posed.cells j).kind (cell_number p.posed.cells k).kind (get_or (cells_of (imaged p motion h)) j false) (get_or (cells_of (imaged p motion h)) k false)
  tied-image kept meets j k j_in k_in =
      let from = image_index motion (sizes_of p.posed) j in
      let to = image_index motion (sizes_of p.posed) k in
      AreTied-by_differ (kind_at p.posed j) (kind_at p.posed k) _ _ (λ d told.
      let all = passes _ _ (named_by_tie (kind_at p.posed j) (kind_at p.posed k) d told) (all_each (are_ties_kept motion p.posed) (length p.posed.cells) j kept j_in) in
      let same = all_each (is_tie_kept motion p.posed j) (length p.posed.cells) k all k_in in
      let there = same_told (tie (kind_at p.posed j) (kind_at p.posed k)) (tie (kind_at p.posed from) (kind_at p.posed to)) d same told in
      subst (λ a. Differ d a (get_or (cells_of (imaged p motion h)) k false)) (sym (value-image j j_in))
      (subst (Differ d (get_or (cells_of h) from false)) (sym (value-image k k_in))
      (Differ-by_tied (kind_at p.posed from) (kind_at p.posed to) (get_or (cells_of h) from false) (get_or (cells_of h) to false) d there
      (meets.tied from to (image_index-lt j j_in) (image_index-lt k k_in)))))

  -- the cells of the image are as the file says
  pub MeetsCells-image : keeps_cells motion p.posed ≡ true → keeps_ties motion p.posed ≡ true → MeetsCells p.posed.cells (cells_of h)
      → MeetsCells p.posed.cells (cells_of (imaged p motion h))
  MeetsCells-image cells ties meets = record { fixed = bit-image cells meets; tied = tied-image ties meets }
