-- For private contracts: what an analysis knows of each variable, and the false literals that it has come by.
use Rattle.std.specs.Prelude.{◌≡◌, ◌≤◌, ℕ, ◌+◌, ◌-◌, ℤ, Bool, true, false, List, length, Contains, slice_index_or, count_by}
use Rattle.lls_lit.specs.declared.var.TheConstants.Var.{MOST}
use Rattle.lls_lit.specs.Literal.{variable_of}
use Rattle.lls_lit.specs.Formula.{is_within}
use Rattle.lls_prooflog.specs.Spent.{has_variables_once}
use Rattle.lls_analyse.specs.declared.visited.Seen.{Seen}
use Rattle.lls_analyse.specs.declared.visited.Seen.TheVariants.{No, Open, Kept, Followed}

abbrev pub is_seen : Seen → Bool
is_seen No = false
is_seen Open = true
is_seen Kept = true
is_seen Followed = true

abbrev pub is_open : Seen → Bool
is_open No = false
is_open Open = true
is_open Kept = false
is_open Followed = false

abbrev pub is_held : Seen → Bool
is_held No = false
is_held Open = true
is_held Kept = true
is_held Followed = false

abbrev pub is_followed : Seen → Bool
is_followed No = false
is_followed Open = false
is_followed Kept = false
is_followed Followed = true

abbrev pub is_kept : Seen → Bool
is_kept No = false
is_kept Open = false
is_kept Kept = true
is_kept Followed = false

-- the number of variables, what is known of each, and the literals that were visited, in their order
pub record VisitedState : Type 0 where
  pub vars : ℕ
  pub seen : List Seen
  pub lits : List ℤ

-- what is known of a variable
abbrev pub status_of : List Seen → ℕ → Seen
status_of seen v = slice_index_or seen (v - 1) No

abbrev pub status : List Seen → ℤ → Seen
status seen l = status_of seen (variable_of l)

-- a visited literal of the variable
pub record IsListed (lits : List ℤ) (v : ℕ) : Type 0 where
  pub lit : ℤ
  pub stands : Contains lits lit
  pub of_variable : variable_of lit ≡ v

-- the variables of the visited literals, each once, are those that were seen
pub record AreVisited (s : VisitedState) : Type 0 where
  pub vars_fit : s.vars ≤ MOST
  pub each : length s.seen ≡ s.vars
  pub within : is_within s.vars s.lits ≡ true
  pub once : has_variables_once s.lits ≡ true
  pub all_seen : (l : ℤ) → Contains s.lits l → is_seen (status s.seen l) ≡ true
  pub listed : (i : ℕ) → is_seen (slice_index_or s.seen i No) ≡ true → IsListed s.lits (i + 1)
  pub counted : count_by is_seen s.seen ≡ length s.lits

-- what holds of the parts, where there is so much room for literals
pub record AreKept (s : VisitedState) (room opens : ℕ) : Type 0 where
  pub visited : AreVisited s
  pub room_for_all : s.vars ≤ room
  pub opened : opens ≡ count_by is_open s.seen
