use Rattle.std.proofs.Common.{◌∙◌, ◌∷◌, ◌++◌, [], ap, arith, length, take, length-append, length-take-le}
use Rattle.lls_lit.specs.Formula.{Cnf}
use Rattle.lls_cnf.proofs.Within.{is_within-more}
use Rattle.lls_encode.proofs.Appended.{with_first-more}
use Rattle.lls_encode.proofs.append.append.Goals as goal

pub push-requires-clause-within : goal.push-requires-clause-within
push-requires-clause-within c =
    let vars = ap (λ (f : Cnf). f.vars) c.loop-k.invariant in
    is_within-more c.args.more.now.vars c.loop-k.formula.vars c.clause.result.now (omega (arith, vars)) c.clause.ensures.within

pub push-requires-clause-room : goal.push-requires-clause-room
push-requires-clause-room c =
    let count = ap (λ (f : Cnf). length f.clauses) c.loop-k.invariant ∙ length-append c.args.formula.now.clauses (take c.loop-k.k c.args.more.now.clauses) in
    let taken = length-take-le c.loop-k.k c.args.more.now.clauses (omega (arith, c.loop-k-test.true)) in
    omega (arith, count, taken, c.loop-k-test.true, c.requires.room)

pub loop-k-preserved : goal.loop-k-preserved
loop-k-preserved c =
    c.in-Ok.ensures.ok ∙ ap (λ (f : Cnf). record f { clauses = f.clauses ++ c.clause.result.now ∷ [] }) c.loop-k.invariant
    ∙ with_first-more c.args.formula.now c.args.more.now c.loop-k.k c.clause.result.now (omega (arith, c.loop-k-test.true)) c.clause.ensures.value
