-- For private contracts: what the visited literals have to do with the trail and the live clauses.
use Rattle.std.specs.Prelude.{replicate, ◌⊎◌, ◌≡◌, ◌≢◌, ◌<◌, ℕ, ◌-◌, ◌++◌, ◌∷◌, [], ℤ, Bool, true, false, List, Contains, Option, Some, None, ◌==◌, if◌then◌else◌, slice_set, fold, count_by}
use Rattle.std.specs.FinSet as set
use Rattle.lls_lit.specs.Literal.{variable_of}
use Rattle.lls_store.specs.Trail.{Entry, TrailState, HasNegated, level_of, reason_of}
use Rattle.lls_store.specs.Clauses.{LiveClause, Literals, IsIn, clause_numbered}
use Rattle.lls_store.specs.Uip.{IsUip}
use Rattle.lls_analyse.specs.declared.visited.Seen.{Seen}
use Rattle.lls_analyse.specs.declared.visited.Seen.TheVariants.{No, Open, Kept, Followed}
use Rattle.lls_analyse.specs.Learnt.{IsCurrentConflict}
use Rattle.lls_analyse.specs.Visited.{VisitedState, is_seen, is_open, is_held, status}

abbrev pub is_level : Option ℕ → ℕ → Bool
is_level None current = false
is_level (Some level) current = level == current

-- how a literal of the clause is held
abbrev pub holding : TrailState → ℤ → Seen
holding trail l = if is_level (level_of trail.entries (variable_of l)) trail.current then Open else Kept

-- the literal is of the clause, where nothing was known of its variable
abbrev pub held_in : TrailState → VisitedState → ℤ → VisitedState
held_in trail s l =
    if is_seen (status s.seen l) then s else record s { seen = slice_set s.seen (variable_of l - 1) (holding trail l); lits = s.lits ++ l ∷ [] }

-- the visited literals are false, and are held by their levels
pub record AreMarked (trail : TrailState) (s : VisitedState) : Type 0 where
  pub same_vars : s.vars ≡ trail.vars
  pub all_false : (l : ℤ) → Contains s.lits l → HasNegated trail.entries l
  pub current : (l : ℤ) → Contains s.lits l → status s.seen l ≡ Open → level_of trail.entries (variable_of l) ≡ Some trail.current
  pub lower : (l : ℤ) → Contains s.lits l → status s.seen l ≡ Kept → level_of trail.entries (variable_of l) ≢ Some trail.current

-- the literals of a live clause are of the clause, where nothing was known of their variables
pub record HoldsClause (live : List LiveClause) (trail : TrailState) (old new : VisitedState) (number : ℕ) : Type 0 where
  pub clause : LiveClause
  pub is_live : clause_numbered live number ≡ Some clause
  pub lits : List ℤ
  pub spelled : set.from_list lits ≡ clause.lits
  pub held : new ≡ fold (held_in trail) old lits

-- something is known of each literal of the clause that forced the negation of the literal
pub record GivesWay (live : List LiveClause) (entries : List Entry) (seen : List Seen) (l : ℤ) : Type 0 where
  pub reason : ℕ
  pub clause : LiveClause
  pub has_reason : reason_of entries (variable_of l) ≡ Some reason
  pub is_live : clause_numbered live reason ≡ Some clause
  pub all_seen : (m : ℤ) → IsIn clause.lits m → is_seen (status seen m) ≡ true

-- so it is at each literal that was followed, and of each literal of the conflict something is known
pub record IsExplained (live : List LiveClause) (entries : List Entry) (conflict : LiveClause) (s : VisitedState) : Type 0 where
  pub conflict_seen : (m : ℤ) → IsIn conflict.lits m → is_seen (status s.seen m) ≡ true
  pub followed : (l : ℤ) → Contains s.lits l → status s.seen l ≡ Followed → GivesWay live entries s.seen l

-- the literals that are held are of the first unique implication point
pub record HoldsPartOf (live : List LiveClause) (trail : TrailState) (conflict : Literals) (s : VisitedState) : Type 0 where
  pub uip : Literals
  pub is_uip : IsUip live trail conflict uip
  pub among : (l : ℤ) → Contains s.lits l → is_held (status s.seen l) ≡ true → IsIn uip l

-- what was visited explains the conflict of that number
pub record IsAnalysed (live : List LiveClause) (trail : TrailState) (number : ℕ) (s : VisitedState) : Type 0 where
  pub conflict : LiveClause
  pub is_live : clause_numbered live number ≡ Some conflict
  pub marked : AreMarked trail s
  pub explained : IsExplained live trail.entries conflict s

-- and so many literals of the current level are left
pub record IsResolved (live : List LiveClause) (trail : TrailState) (number left : ℕ) (s : VisitedState) : Type 0 where
  pub analysed : IsAnalysed live trail number s
  pub opens : count_by is_open s.seen ≡ left
  pub part : left ≡ 1 → 0 < trail.current → HoldsPartOf live trail analysed.conflict.lits s

-- a literal of the current level gives way to the others of the clause that forced its negation
pub record Follows (live : List LiveClause) (trail : TrailState) (old new : VisitedState) (v : ℕ) : Type 0 where
  pub reason : ℕ
  pub has_reason : reason_of trail.entries v ≡ Some reason
  pub holds : HoldsClause live trail (record old { seen = slice_set old.seen (v - 1) Followed }) new reason

-- nothing is known
abbrev pub nothing_seen : ℕ → VisitedState
nothing_seen vars = record { vars = vars; seen = replicate vars No; lits = [] }

-- one literal of the current level may be left of a conflict that has one, and none at level 0, where each has a reason
abbrev pub CanLeave : List LiveClause → TrailState → ℕ → ℕ → Type 0
CanLeave live trail number left =
    ((left ≡ 0) × (trail.current ≡ 0)) ⊎ ((left ≡ 1) × ((0 < trail.current) × IsCurrentConflict live trail number))
