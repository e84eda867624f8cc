-- Formulas within their variables: more variables, fewer clauses, one more clause.
use Rattle.std.proofs.Common.{◌≡◌, ℕ, ◌+◌, ◌<◌, ◌≤◌, true, leb, leb-true, take, List, [], ◌∷◌, ◌++◌, length, refl, arith}
use Rattle.std.specs.Prelude.{ℤ}
use Rattle.std.specs.List.{list_all}
use Rattle.std.proofs.lemmas.Bool.{and_parts, le-leb}
use Rattle.std.proofs.lemmas.List.{length_push, length-take}
use Rattle.std.proofs.lemmas.List.Folds.{list_all-append}
use Rattle.lls_lit.specs.Literal.{variable_of}
use Rattle.lls_lit.specs.Formula.{Clause, is_literal_of, is_within}
use Rattle.lls_lit.specs.declared.var.TheConstants.Var.{MOST}
use Rattle.lls_cnf.specs.declared.formula.TheConstants.Formula.{MOST_CLAUSES}
use Rattle.lls_cnf.specs.Formula.{IsFormula}

-- what is within the variables is within more of them
pub is_literal_of-more : (v w : ℕ) (l : ℤ) → v ≤ w → is_literal_of v l ≡ true → is_literal_of w l ≡ true
is_literal_of-more v w l le e =
    let both = and_parts (leb 1 (variable_of l)) (leb (variable_of l) v) e in
    rw (both.0, le-leb (variable_of l) w (omega (arith, leb-true (variable_of l) v both.1))) refl

pub is_within-more : (v w : ℕ) (clause : Clause) → v ≤ w → is_within v clause ≡ true → is_within w clause ≡ true
is_within-more v w [] le e = refl
is_within-more v w (l ∷ ls) le e =
    let both = and_parts (is_literal_of v l) (is_within v ls) e in
    rw (is_literal_of-more v w l le both.0, is_within-more v w ls le both.1) refl

all_within-more : (v w : ℕ) (clauses : List Clause) → v ≤ w → list_all (is_within v) clauses ≡ true → list_all (is_within w) clauses ≡ true
all_within-more v w [] le e = refl
all_within-more v w (c ∷ cs) le e =
    let both = and_parts (is_within v c) (list_all (is_within v) cs) e in
    rw (is_within-more v w c le both.0, all_within-more v w cs le both.1) refl

-- more variables
pub IsFormula-more : (vars more : ℕ) (clauses : List Clause) → IsFormula vars clauses → vars + more ≤ MOST → IsFormula (vars + more) clauses
IsFormula-more vars more clauses h fits = record {
  vars_fit = fits;
  clauses_fit = h.clauses_fit;
  within = all_within-more vars (vars + more) clauses (omega arith) h.within;
}

-- the first clauses, and the variables that they have
pub IsFormula-cut : (vars few n : ℕ) (clauses : List Clause) → IsFormula vars clauses → few ≤ vars → list_all (is_within few) (take n clauses) ≡ true → IsFormula few (take n clauses)
IsFormula-cut vars few n clauses h le w = record {
  vars_fit = omega (arith, h.vars_fit);
  clauses_fit = omega (arith, h.clauses_fit, length-take n clauses);
  within = w;
}

-- one more clause
pub IsFormula-push : (vars : ℕ) (clauses : List Clause) (more : Clause) → IsFormula vars clauses → is_within vars more ≡ true → length clauses < MOST_CLAUSES → IsFormula vars (clauses ++ more ∷ [])
IsFormula-push vars clauses more h w lt = record {
  vars_fit = h.vars_fit;
  clauses_fit = omega (arith, length_push clauses more);
  within = rw (list_all-append (is_within vars) clauses (more ∷ []), h.within, w) refl;
}
