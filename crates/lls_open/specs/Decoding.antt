-- What an assignment of the formula's variables says of the rule, and the assignments that say a history and a rule.
use Rattle.std.specs.Prelude.{◌≡◌, ℕ, ◌+◌, Bool, true, false, List, ◌++◌, map, length, slice_index_or, ◌||◌, ◌&&◌}
use Rattle.std.specs.List.{list_any, range_with_len}
use Rattle.lls_lit.specs.Formula.{Cnf, satisfies}
use Rattle.lls_rule.specs.Rule.{answer, table_of}
use Rattle.lls_grid.specs.History.{History, cells_of}
use Rattle.lls_problem.specs.Problem.{PosedProblem}
use Rattle.lls_open.specs.declared.class.SideClass.{SideClass}
use Rattle.lls_open.specs.Classes.{is_of, gives, class_number, open_classes}

-- the value of the kth open class's variable, which stands behind those of the cells
abbrev pub class_value : PosedProblem → List Bool → ℕ → Bool
class_value p values k = slice_index_or values (length p.posed.cells + k) false

-- whether a neighbourhood is of an open class whose variable is true
abbrev pub is_chosen : PosedProblem → List SideClass → List Bool → ℕ → Bool
is_chosen p classes values nine = list_any (λ k. is_of (class_number classes k) nine && class_value p values k) (range_with_len 0 (length classes))

-- the rule that gives 1 where the low rule does, and at the open classes whose variables are true
unfoldable pub rule_with : PosedProblem → List SideClass → List Bool → List Bool
rule_with p classes values = table_of (λ nine. answer p.rule nine || is_chosen p classes values nine)

abbrev pub rule_of : PosedProblem → List Bool → List Bool → List Bool
rule_of p high values = rule_with p (open_classes p.rule high) values

-- values of all variables that satisfy the formula: first those of the history's cells, then what the rule gives at each open
-- class
pub record HasOpenAssignment (p : PosedProblem) (high : List Bool) (formula : Cnf) (history : History) (rule : List Bool) : Type 0 where
  pub more : List Bool
  pub values : List Bool
  pub are : values ≡ cells_of history ++ map (gives rule) (open_classes p.rule high) ++ more
  pub count : length values ≡ formula.vars
  pub satisfied : satisfies values formula.clauses ≡ true
