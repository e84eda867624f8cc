use Rattle.std.proofs.Common.{Some, sym, ap, ◌∙◌, subst}
use Rattle.lls_problem.specs.Problem.{IsPeriod, part_of}
use Rattle.lls_problem.proofs.Shorter.{part-found, part_keeps, part_made}
use Rattle.lls_problem.proofs.demands.Period.part.Goals as goal

pub returns-clause-part : goal.returns-clause-part
returns-clause-part c =
    let found = part-found c.args.self c.args.q (sym c.is_prime.ensures ∙ c.if-not-is_prime.false) (sym c.is_multiple.ensures ∙ c.if-not-is_multiple.false) in
    ap Some (part_made c.args.self c.args.q c.requires.period found) ∙ sym found

pub returns-clause-within : goal.returns-clause-within
returns-clause-within c =
    let found = part-found c.args.self c.args.q (sym c.is_prime.ensures ∙ c.if-not-is_prime.false) (sym c.is_multiple.ensures ∙ c.if-not-is_multiple.false) in
    subst IsPeriod (sym (part_made c.args.self c.args.q c.requires.period found)) (part_keeps c.args.self c.args.q (part_of c.args.self c.args.q) c.requires.period found).0

pub returns-clause-shorter : goal.returns-clause-shorter
returns-clause-shorter c =
    let found = part-found c.args.self c.args.q (sym c.is_prime.ensures ∙ c.if-not-is_prime.false) (sym c.is_multiple.ensures ∙ c.if-not-is_multiple.false) in
    (part_keeps c.args.self c.args.q (part_of c.args.self c.args.q) c.requires.period found).1
