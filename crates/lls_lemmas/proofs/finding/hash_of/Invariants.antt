use Rattle.std.proofs.Common.{◌≡◌, ◌%◌, ◌^◌, take}
use Rattle.std.specs.FinSet as set
use Rattle.lls_lemmas.specs.Indexed.{shares}
use Rattle.lls_lemmas.proofs.finding.hash_of.Given as goal

abbrev pub invariant-loop-lit : goal.invariant-loop-lit
invariant-loop-lit l = record {
  lits : l.marks.lits ≡ set.from_list (take l.lit-index l.lits);
  sum : l.sum ≡ shares l.marks.lits l.initial.marks.vars % 2 ^ 64;
  vars : l.marks.vars ≡ l.initial.marks.vars;
}
