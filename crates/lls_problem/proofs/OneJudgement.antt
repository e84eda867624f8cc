-- The demands in their order, and what each judgement says of them.
use Rattle.std.proofs.Common.{◌≡◌, ◌≢◌, ◌<◌, ◌≤◌, ℕ, zero, suc, ◌+◌, List, [], None, Some, inl, inr, length, lit<, lit≤, refl, sym, ap, ◌∙◌, subst, arith}
use Rattle.std.specs.Option.{option_map_or}
use Rattle.std.proofs.lemmas.Bool.{cases_lt}
use Rattle.lls_grid.specs.declared.sizes.GridPlace.{GridPlace}
use Rattle.lls_grid.specs.History.{History, cells_of}
use Rattle.lls_search_file.specs.Posed.{IsPosed, sizes_of}
use Rattle.lls_grid.specs.Sizes.{index_of}
use Rattle.lls_problem.specs.declared.judgement.Judgement.{Judgement}
use Rattle.lls_problem.specs.declared.judgement.Judgement.TheVariants.{Meets, Size, Cell, Name, Symmetry, Background, Moved, Rule, Population, Same, Shorter, Listed}
use Rattle.lls_problem.specs.declared.losses.Loss.{Loss}
use Rattle.lls_problem.specs.declared.losses.Loss.TheVariants.{OfBackground, OfPlace}
use Rattle.lls_problem.specs.declared.population.Count.{Count}
use Rattle.lls_problem.specs.Problem.{PosedProblem, AreFitting}
use Rattle.lls_problem.specs.Solution.{IsSolution}
use Rattle.lls_problem.specs.Plane.{PlaneLaw}
use Rattle.lls_problem.specs.Firsts.{Place, first}
use Rattle.lls_problem.specs.Unlike.{unlike_cells}
use Rattle.lls_problem.specs.Losses.{losses}
use Rattle.lls_problem.specs.Exact.{shorter_lengths}
use Rattle.lls_problem.specs.Judgement.{Demand, size, cell, name, symmetry, period, rule, population, same, exact, unlisted, rank, Keeps, KeepsBefore, IsFirstCell, IsJudgement, judgement_of}
use Rattle.lls_problem.proofs.Places.{index_of-lt}
use Rattle.lls_problem.proofs.Sides.{Succeeds-by_obeys}
use Rattle.lls_problem.proofs.NameValues.{MeetsCells-by_firsts}
use Rattle.lls_problem.proofs.Order.{IsFirstBroken-one, IsFirstCell-one}
use Rattle.lls_problem.proofs.Symmetric.{unlike_cells-symmetric}
use Rattle.lls_problem.proofs.Returned.{losses-returned}
use Rattle.lls_problem.proofs.Shorter.{shorter_lengths-exact}
use Rattle.lls_problem.proofs.Populated.{first_outside-populated}
use Rattle.lls_problem.proofs.FirstListed.{first_listed_broken, first_listed-one}
use Rattle.lls_problem.proofs.Plane.{plane_law}

-- the demand at a place of the order
demand_at : ℕ → Demand
demand_at zero = size
demand_at (suc zero) = cell
demand_at (suc (suc zero)) = name
demand_at (suc (suc (suc zero))) = symmetry
demand_at (suc (suc (suc (suc zero)))) = period
demand_at (suc (suc (suc (suc (suc zero))))) = rule
demand_at (suc (suc (suc (suc (suc (suc zero)))))) = population
demand_at (suc (suc (suc (suc (suc (suc (suc zero))))))) = same
demand_at (suc (suc (suc (suc (suc (suc (suc (suc zero)))))))) = exact
demand_at (suc (suc (suc (suc (suc (suc (suc (suc (suc n))))))))) = unlisted

demand_at-rank : (demand : Demand) → demand_at (rank demand) ≡ demand
unfolding demand_at
demand_at-rank size = refl
demand_at-rank cell = refl
demand_at-rank name = refl
demand_at-rank symmetry = refl
demand_at-rank period = refl
demand_at-rank rule = refl
demand_at-rank population = refl
demand_at-rank same = refl
demand_at-rank exact = refl
demand_at-rank unlisted = refl

-- nothing comes before the sizes
pub KeepsBefore-size : (p : PosedProblem) (h : History) → KeepsBefore p h size
KeepsBefore-size p h = λ earlier less. absurd (omega (arith, less))

-- a demand more that is kept
pub KeepsBefore-next : (p : PosedProblem) (h : History) (demand next : Demand) → rank next ≡ rank demand + 1 → KeepsBefore p h demand → Keeps p h demand → KeepsBefore p h next
KeepsBefore-next p h demand next place before keeps = λ earlier less. elim (cases_lt (rank earlier) (rank demand)) [
  | inl below ↦ before earlier below
  | inr rest ↦
      let one : rank demand ≡ rank earlier = omega (arith, less, place, rest) in
      let same : demand ≡ earlier = sym (demand_at-rank demand) ∙ (ap demand_at one ∙ demand_at-rank earlier) in
      subst (Keeps p h) same keeps
]

-- a solution keeps every demand
Keeps-by_solution : (p : PosedProblem) (h : History) → IsSolution p h → (demand : Demand) → Keeps p h demand
Keeps-by_solution p h solution size = solution.sizes
Keeps-by_solution p h solution cell = solution.cells.fixed
Keeps-by_solution p h solution name = λ k within n first named is. solution.cells.tied first k is.within within
Keeps-by_solution p h solution symmetry = solution.symmetric
Keeps-by_solution p h solution period = solution.moved
Keeps-by_solution p h solution rule = solution.rule
Keeps-by_solution p h solution population = solution.populated
Keeps-by_solution p h solution same = solution.differ
Keeps-by_solution p h solution exact = solution.exact
Keeps-by_solution p h solution unlisted = solution.unlisted

-- and what keeps them all is a solution
pub IsSolution-by_demands : (p : PosedProblem) (h : History) → KeepsBefore p h unlisted → Keeps p h unlisted → IsSolution p h
IsSolution-by_demands p h before is_unlisted = record {
  sizes = before size (lit< tt);
  cells = MeetsCells-by_firsts p.posed.cells (cells_of h) (before cell (lit< tt)) (before name (lit< tt));
  symmetric = before symmetry (lit< tt);
  moved = before period (lit< tt);
  rule = before rule (lit< tt);
  populated = before population (lit< tt);
  differ = before same (lit< tt);
  exact = before exact (lit< tt);
  unlisted = is_unlisted;
}

-- the place of the demand that a judgement says is broken; no demand has the last
broken_at : Judgement → ℕ
broken_at Size = rank size
broken_at (Cell t y x) = rank cell
broken_at (Name t y x) = rank name
broken_at (Rule t y x) = rank rule
broken_at Meets = rank unlisted + 1
broken_at (Symmetry t y x) = rank symmetry
broken_at (Background t) = rank period
broken_at (Moved t y x) = rank period
broken_at (Population t n) = rank population
broken_at Same = rank same
broken_at (Shorter d) = rank exact
broken_at (Listed n) = rank unlisted

broken_at-le : (j : Judgement) → broken_at j ≤ rank unlisted + 1
unfolding broken_at
broken_at-le Meets = lit≤ tt
broken_at-le Size = lit≤ tt
broken_at-le (Cell t y x) = lit≤ tt
broken_at-le (Name t y x) = lit≤ tt
broken_at-le (Symmetry t y x) = lit≤ tt
broken_at-le (Background t) = lit≤ tt
broken_at-le (Moved t y x) = lit≤ tt
broken_at-le (Rule t y x) = lit≤ tt
broken_at-le (Population t n) = lit≤ tt
broken_at-le Same = lit≤ tt
broken_at-le (Shorter d) = lit≤ tt
broken_at-le (Listed n) = lit≤ tt

-- the demands before it are kept
kept_before : (p : PosedProblem) (h : History) (j : Judgement) → IsJudgement p h j → (demand : Demand) → rank demand < broken_at j → Keeps p h demand
unfolding broken_at
kept_before p h Meets fits demand less = Keeps-by_solution p h fits demand
kept_before p h Size fits demand less = fits.kept demand less
kept_before p h (Cell t y x) fits demand less = fits.kept demand less
kept_before p h (Name t y x) fits demand less = fits.kept demand less
kept_before p h (Rule t y x) fits demand less = fits.kept demand less
kept_before p h (Symmetry t y x) fits demand less = fits.kept demand less
kept_before p h (Background t) fits demand less = fits.kept demand less
kept_before p h (Moved t y x) fits demand less = fits.kept demand less
kept_before p h (Population t n) fits demand less = fits.kept demand less
kept_before p h Same fits demand less = fits.kept demand less
kept_before p h (Shorter d) fits demand less = fits.kept demand less
kept_before p h (Listed n) fits demand less = fits.kept demand less

-- it is not kept
first_cell_broken : (p : PosedProblem) (KeepsOne : ℕ → Type 0) (t y x : ℕ) → IsPosed p.posed → IsFirstCell p.posed KeepsOne (record { t = t; y = y; x = x })
    → ((k : ℕ) → k < length p.posed.cells → KeepsOne k) → ⊥
first_cell_broken p KeepsOne t y x posed first keeps =
    first.broken (keeps (index_of (sizes_of p.posed) (record { t = t; y = y; x = x })) (index_of-lt p.posed (record { t = t; y = y; x = x }) posed first.inside))

nothing_found : {X : Type 0} (xs : List X) (x : X) → first xs ≡ Some x → xs ≡ [] → ⊥
nothing_found xs x found none = let missing : None ≡ Some x = sym (ap first none) ∙ found in cc

-- no judgement's broken demand comes before another's
not_earlier : (p : PosedProblem) (h : History) (j k : Judgement) → IsPosed p.posed → AreFitting p.posed p.demands → IsJudgement p h j → IsJudgement p h k
    → broken_at j < broken_at k → ⊥
unfolding broken_at
not_earlier p h Size k posed fitting fits other less = fits.first (kept_before p h k other size less)
not_earlier p h (Cell t y x) k posed fitting fits other less = first_cell_broken p _ t y x posed fits.first (kept_before p h k other cell less)
not_earlier p h (Name t y x) k posed fitting fits other less = first_cell_broken p _ t y x posed fits.first (kept_before p h k other name less)
not_earlier p h (Symmetry t y x) k posed fitting fits other less =
    nothing_found (unlike_cells p h) _ fits.first (unlike_cells-symmetric p h (kept_before p h k other symmetry less))
not_earlier p h (Background t) k posed fitting fits other less =
    nothing_found (losses p h) _ fits.first (losses-returned p h (fits.kept size (lit< tt)) fitting (kept_before p h k other period less))
not_earlier p h (Moved t y x) k posed fitting fits other less =
    nothing_found (losses p h) _ fits.first (losses-returned p h (fits.kept size (lit< tt)) fitting (kept_before p h k other period less))
not_earlier p h (Rule t y x) k posed fitting fits other less =
    fits.first.broken (Succeeds-by_obeys p h (record { t = t; y = y; x = x }) (kept_before p h k other rule less) fits.first.demanded)
not_earlier p h Same k posed fitting fits other less = fits.first (kept_before p h k other same less)
not_earlier p h (Shorter d) k posed fitting fits other less =
    nothing_found (shorter_lengths p h) _ fits.first (shorter_lengths-exact p h (fits.kept size (lit< tt)) fitting (kept_before p h k other exact less))
not_earlier p h (Listed n) k posed fitting fits other less = first_listed_broken p.demands.listed _ n fits.first (kept_before p h k other unlisted less)
not_earlier p h Meets k posed fitting fits other less = omega (arith, less, broken_at-le k)
not_earlier p h (Population t n) k posed fitting fits other less = first_outside-populated p h _ fits.first (kept_before p h k other population less)

-- judgements of one demand are one
same_demand : (p : PosedProblem) (h : History) (j k : Judgement) → IsJudgement p h j → IsJudgement p h k → broken_at j ≡ broken_at k → j ≡ k
unfolding broken_at
same_demand p h Meets Meets fits other one = refl
same_demand p h Size Size fits other one = refl
same_demand p h (Cell t y x) (Cell t' y' x') fits other one = ap (λ c. Cell c.t c.y c.x) (IsFirstCell-one p.posed _ (record { t = t; y = y; x = x }) (record { t = t'; y = y'; x = x' }) fits.first other.first)
same_demand p h (Name t y x) (Name t' y' x') fits other one = ap (λ c. Name c.t c.y c.x) (IsFirstCell-one p.posed _ (record { t = t; y = y; x = x }) (record { t = t'; y = y'; x = x' }) fits.first other.first)
same_demand p h (Symmetry t y x) (Symmetry t' y' x') fits other one =
    ap (λ found. option_map_or (λ (c : GridPlace). Symmetry c.t c.y c.x) found Meets) (sym fits.first ∙ other.first)
same_demand p h (Background t) (Background t') fits other one = ap (λ found. option_map_or judgement_of found Meets) (sym fits.first ∙ other.first)
same_demand p h (Background t) (Moved t' y' x') fits other one = ap (λ found. option_map_or judgement_of found Meets) (sym fits.first ∙ other.first)
same_demand p h (Moved t y x) (Background t') fits other one = ap (λ found. option_map_or judgement_of found Meets) (sym fits.first ∙ other.first)
same_demand p h (Moved t y x) (Moved t' y' x') fits other one = ap (λ found. option_map_or judgement_of found Meets) (sym fits.first ∙ other.first)
same_demand p h (Rule t y x) (Rule t' y' x') fits other one =
    let place : record { t = t; y = y; x = x } ≡ record { t = t'; y = y'; x = x' } = IsFirstBroken-one _ _ _ _ fits.first other.first in
    ap (λ (place : Place). Rule place.t place.y place.x) place
same_demand p h (Population t n) (Population t' n') fits other one =
    ap (λ found. option_map_or (λ (c : Count). Population c.t c.live) found Meets) (sym fits.first ∙ other.first)
same_demand p h Same Same fits other one = refl
same_demand p h (Shorter d) (Shorter e) fits other one = ap (λ found. option_map_or Shorter found Meets) (sym fits.first ∙ other.first)
same_demand p h (Listed n) (Listed m) fits other one = ap Listed (first_listed-one p.demands.listed _ n m fits.first other.first)
same_demand p h j k fits other one = absurd (omega (arith, one))

-- exactly one judgement fits
pub one_judgement : (p : PosedProblem) (h : History) (j k : Judgement) → IsPosed p.posed → AreFitting p.posed p.demands → IsJudgement p h j → IsJudgement p h k → j ≡ k
one_judgement p h j k posed fitting fits other =
    elim (cases_lt (broken_at j) (broken_at k)) [
      | inl less ↦ absurd (not_earlier p h j k posed fitting fits other less)
      | inr rest ↦ elim (cases_lt (broken_at k) (broken_at j)) [
        | inl more ↦ absurd (not_earlier p h k j posed fitting other fits more)
        | inr back ↦ same_demand p h j k fits other (omega (arith, rest, back))
      ]
    ]

-- what follows from a judgement that fits
pub record Judged (p : PosedProblem) (h : History) (j : Judgement) : Type 0 where
  pub judgement : IsJudgement p h j
  pub unique : (other : Judgement) → IsJudgement p h other → other ≡ j
  pub meets : j ≡ Meets → IsSolution p h
  pub broken : j ≢ Meets → IsSolution p h → ⊥
  pub plane : j ≡ Meets → PlaneLaw p h

pub judged : (p : PosedProblem) (h : History) (j : Judgement) → IsPosed p.posed → AreFitting p.posed p.demands → IsJudgement p h j → Judged p h j
judged p h j posed fitting fits = record {
  judgement = fits;
  unique = λ other fits'. one_judgement p h other j posed fitting fits' fits;
  meets = λ same. subst (IsJudgement p h) same fits;
  broken = λ fault solution. fault (one_judgement p h j Meets posed fitting fits solution);
  plane = λ same. plane_law p h (subst (IsJudgement p h) same fits);
}

-- the judgement of what is lost first
pub judgement_of-fits : (p : PosedProblem) (h : History) (loss : Loss) → KeepsBefore p h period → Some loss ≡ first (losses p h) → IsJudgement p h (judgement_of loss)
judgement_of-fits p h (OfBackground t) before found = record { kept = before; first = sym found }
judgement_of-fits p h (OfPlace place) before found = record { kept = before; first = sym found }
