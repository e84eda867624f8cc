-- For private contracts: literals that go out of the clause since the others imply them.
use Rattle.std.specs.Prelude.{◌≡◌, ◌≤◌, ◌⊎◌, ◌∷◌, ◌++◌, [], ◌-◌, ℤ, true, false, List, Contains, length, slice_set, count_by}
use Rattle.lls_lit.specs.Literal.{variable_of}
use Rattle.lls_store.specs.Trail.{Entry, TrailState, HasNegated}
use Rattle.lls_store.specs.Clauses.{LiveClause}
use Rattle.lls_analyse.specs.declared.visited.Seen.TheVariants.{Kept, Followed}
use Rattle.lls_analyse.specs.Visited.{VisitedState, is_seen, is_open, status}
use Rattle.lls_analyse.specs.Marked.{AreMarked, GivesWay}

-- false literals were visited, and follow
pub data IsGrown (entries : List Entry) (old : VisitedState) : VisitedState → Type 0 where
  same : IsGrown entries old old
  more : (s : VisitedState) (l : ℤ) → IsGrown entries old s → HasNegated entries l → (1 ≤ variable_of l) × (variable_of l ≤ s.vars) → is_seen (status s.seen l) ≡ false
      → IsGrown entries old (record s { seen = slice_set s.seen (variable_of l - 1) Followed; lits = s.lits ++ l ∷ [] })

-- what is known stays, but that literals that were kept now follow
pub record Minimises (live : List LiveClause) (trail : TrailState) (old new : VisitedState) : Type 0 where
  pub marked : AreMarked trail new
  pub stays : (l : ℤ) → is_seen (status old.seen l) ≡ true → (status new.seen l ≡ status old.seen l) ⊎ ((status old.seen l ≡ Kept) × (status new.seen l ≡ Followed))
  pub newly : (l : ℤ) → Contains new.lits l → is_seen (status old.seen l) ≡ false → status new.seen l ≡ Followed
  pub of_old : (l : ℤ) → Contains new.lits l → is_seen (status old.seen l) ≡ true → Contains old.lits l
  pub lits_stay : length old.lits ≤ length new.lits
  pub opens_stay : count_by is_open new.seen ≡ count_by is_open old.seen
  pub gives_way : (l : ℤ) → Contains new.lits l → status new.seen l ≡ Followed → (Contains old.lits l × (status old.seen l ≡ Followed)) ⊎ GivesWay live trail.entries new.seen l
