use Rattle.std.proofs.Common.{◌≡◌, ◌+◌, ◌∙◌, length, ap, arith, length-append}
use Rattle.lls_lit.specs.Formula.{Cnf}
use Rattle.lls_encode.specs.Formula.{front_part}
use Rattle.lls_encode.proofs.Made.{few_after_vars, length-front_part, length-after_part}
use Rattle.lls_formula_tests.proofs.encode.parts.around.Goals as goal

pub push_before-requires-clause-room : goal.push_before-requires-clause-room
push_before-requires-clause-room c =
    let none : length c.new-formula.result.clauses ≡ 0 = ap (λ (f : Cnf). length f.clauses) c.new-formula.ensures in
    omega (arith, none, length-front_part c.args.problem.now c.posed.ensures.kept c.demands-demands.ensures.kept)

pub push_after-requires-clause-vars : goal.push_after-requires-clause-vars
push_after-requires-clause-vars c =
    omega (
      arith,
      ap (λ (f : Cnf). f.vars) c.in_ok-push_before.ensures.ok,
      ap (λ (f : Cnf). f.vars) c.new-formula.ensures,
      c.if-vars-gt1000.false,
      few_after_vars c.args.problem.now c.posed.ensures.kept c.demands-demands.ensures.kept,
    )

pub push_after-requires-clause-room : goal.push_after-requires-clause-room
push_after-requires-clause-room c =
    let p = c.args.problem.now in
    let none : length c.new-formula.result.clauses ≡ 0 = ap (λ (f : Cnf). length f.clauses) c.new-formula.ensures in
    let front : length c.push_before.new.formula.clauses ≡ length c.new-formula.result.clauses + length (front_part p) =
    ap (λ (f : Cnf). length f.clauses) c.in_ok-push_before.ensures.ok ∙ length-append c.new-formula.result.clauses (front_part p) in
    omega (
      arith,
      none,
      front,
      length-front_part p c.posed.ensures.kept c.demands-demands.ensures.kept,
      length-after_part p c.posed.ensures.kept c.demands-demands.ensures.kept c.push_before.new.formula.vars,
    )
