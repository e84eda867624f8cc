use Rattle.std.proofs.Common.{◌≡◌, ◌+◌, ◌≤◌, ◌++◌, true, length}
use Rattle.lls_lit.specs.Formula.{is_within}
use Rattle.lls_cnf.specs.Dimacs.{first_fault, numbers_of}
use Rattle.lls_cnf.specs.Reading.{written}
use Rattle.lls_cnf.proofs.read.read_clauses.Given as goal

abbrev pub invariant-loop-word : goal.invariant-loop-word
invariant-loop-word l = record {
  vars : l.formula.vars ≡ l.vars;
  clause : is_within l.vars l.clause.items ≡ true;
  room : length l.formula.clauses + length l.words ≤ length l.initial.words;
  fault : first_fault l.vars l.words ≡ first_fault l.vars l.initial.words;
  numbers : written l.formula.clauses l.clause.items ++ numbers_of l.words ≡ numbers_of l.initial.words;
}

abbrev pub decreases-loop-word : goal.decreases-loop-word
decreases-loop-word l = length l.words
