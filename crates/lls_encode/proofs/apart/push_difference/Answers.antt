use Rattle.std.proofs.Common.{◌≡◌, ◌+◌, ◌∙◌, length, ap, arith, length-append}
use Rattle.lls_lit.specs.Formula.{Cnf}
use Rattle.lls_encode.specs.Formula.{asked_part, exact_part}
use Rattle.lls_encode.proofs.Made.{length-asked_part}
use Rattle.lls_encode.proofs.Parted.{all_parts, length-exact_part}
use Rattle.lls_encode.proofs.Steps.{on_ok}
use Rattle.lls_encode.proofs.apart.push_difference.Goals as goal

pub push_exact-requires-clause-room : goal.push_exact-requires-clause-room
push_exact-requires-clause-room c =
    let p = c.args.problem.now in
    let asked = asked_part p c.args.formula.now.vars in
    let count : length c.push_asked.new.formula.clauses ≡ length c.args.formula.now.clauses + length asked =
    ap (λ (f : Cnf). length f.clauses) c.in_ok-push_asked.ensures ∙ length-append c.args.formula.now.clauses asked in
    omega (arith, count, length-asked_part p c.posed-posed.ensures.kept c.args.formula.now.vars, c.requires.room)

pub push_listed-requires-clause-room : goal.push_listed-requires-clause-room
push_listed-requires-clause-room c =
    let p = c.args.problem.now in
    let asked = asked_part p c.args.formula.now.vars in
    let exact = exact_part p c.push_asked.new.formula.vars in
    let first : length c.push_asked.new.formula.clauses ≡ length c.args.formula.now.clauses + length asked =
    ap (λ (f : Cnf). length f.clauses) c.in_ok-push_asked.ensures ∙ length-append c.args.formula.now.clauses asked in
    let second : length c.push_exact.new.formula.clauses ≡ length c.push_asked.new.formula.clauses + length exact =
    ap (λ (f : Cnf). length f.clauses) c.in_ok-push_exact.ensures ∙ length-append c.push_asked.new.formula.clauses exact in
    omega (
      arith,
      first,
      second,
      length-asked_part p c.posed-posed.ensures.kept c.args.formula.now.vars,
      length-exact_part p c.posed-posed.ensures.kept c.demands-demands.ensures.kept c.push_asked.new.formula.vars,
      c.requires.room,
    )

pub push_listed-requires-clause-vars : goal.push_listed-requires-clause-vars
push_listed-requires-clause-vars c =
    omega (arith, c.requires.vars, ap (λ (f : Cnf). f.vars) c.in_ok-push_asked.ensures, ap (λ (f : Cnf). f.vars) c.in_ok-push_exact.ensures)

pub returns : goal.returns
returns c =
    on_ok c.push_listed.result _ _ (all_parts c.args.problem.now c.args.formula.now c.push_asked.new.formula c.push_exact.new.formula c.push_listed.new.formula
    c.in_ok-push_asked.ensures c.in_ok-push_exact.ensures) c.push_listed.ensures
