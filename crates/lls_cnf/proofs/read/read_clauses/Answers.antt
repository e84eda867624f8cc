use Rattle.std.proofs.Common.{◌≡◌, ◌<◌, length, arith, ap, ◌∙◌, true}
use Rattle.std.specs.List.{list_all}
use Rattle.std.proofs.lemmas.Grind.{common_steps}
use Rattle.lls_lit.specs.Formula.{Cnf, is_within}
use Rattle.lls_cnf.proofs.Zeros.{clauses_in-ended, clauses_in-open}
use Rattle.lls_cnf.proofs.read.read_clauses.Goals as goal

pub returns-then-not-is_empty-clause-clauses : goal.returns-then-not-is_empty-clause-clauses
returns-then-not-is_empty-clause-clauses c =
    let i = c.loop-word.invariant in
    let some : 0 < length c.loop-word.clause.items = grind (arith, common_steps) in
    λ fault is.
    let open_at_end = clauses_in-open c.args.vars c.args.words c.loop-word.words c.loop-word.formula.clauses c.loop-word.clause.items c.in_default.ensures.0 i.fault i.numbers i.clause some in
    cc

pub returns-clause-clauses : goal.returns-clause-clauses
returns-clause-clauses c =
    let i = c.loop-word.invariant in
    let empty : length c.loop-word.clause.items ≡ 0 = grind (arith, common_steps) in
    let view = c.formula-2.view_is in
    let vars = ap (λ (f : Cnf). f.vars) view ∙ i.vars in
    let w : list_all (is_within c.args.vars) c.loop-word.formula.clauses ≡ true = rw (← vars, ← ap (λ (f : Cnf). f.clauses) view) c.formula-2.invariant.within in
    clauses_in-ended c.args.vars c.args.words c.loop-word.words c.loop-word.formula.clauses c.loop-word.clause.items c.in_default.ensures.0 i.fault i.numbers w empty
