use Rattle.std.proofs.Common.{◌≡◌, false, ap, sym, subst, ◌∙◌, arith}
use Rattle.std.specs.Prelude.{IsSome}
use Rattle.lls_lit.specs.Literal.{variable_of}
use Rattle.lls_store.specs.Trail.{entry_of}
use Rattle.lls_store.proofs.Tabled.{variable_bounds}
use Rattle.lls_analyse.specs.Visited.{VisitedState, is_seen, status, status_of}
use Rattle.lls_analyse.specs.Minimised.{IsGrown}
use Rattle.lls_analyse.specs.Minimised.IsGrown.{same, more}
use Rattle.lls_analyse.proofs.Valued.{false_has_value}
use Rattle.lls_analyse.proofs.minimise.follow.Goals as goal

pub returns-then-is_seen-clause-grown : goal.returns-then-is_seen-clause-grown
returns-then-is_seen-clause-grown c = same

pub returns-then-not-may_follow-clause-grown : goal.returns-then-not-may_follow-clause-grown
returns-then-not-may_follow-clause-grown c = same

pub returns-clause-grown : goal.returns-clause-grown
returns-clause-grown c =
    let s = c.args.visited.now in
    let l = c.args.lit in
    let bounds = variable_bounds c.args.trail.now.vars (variable_of l) c.requires.within in
    let unseen : is_seen (status s.seen l) ≡ false = ap (λ v. is_seen (status_of s.seen v)) (sym c.var-var.ensures.var) ∙ sym c.is_seen.ensures.is_seen ∙ c.if-is_seen.false in
    let P : VisitedState → Type 0 = λ t. IsGrown c.args.trail.now.entries s t in
    subst P (sym c.visit.ensures) (more s l same (c.requires.is_false unseen) (bounds.0, omega (arith, bounds.1, c.requires.vars)) unseen)

pub may_follow-requires : goal.may_follow-requires
may_follow-requires c =
    let es = c.args.trail.now.entries in
    let unseen : is_seen (status c.args.visited.now.seen c.args.lit) ≡ false = ap (λ v. is_seen (status_of c.args.visited.now.seen v)) (sym c.var-var.ensures.var) ∙ sym c.is_seen.ensures.is_seen ∙ c.if-is_seen.false in
    subst (λ v. IsSome (entry_of es v)) (sym c.var-var.ensures.var) (false_has_value es c.args.lit (c.requires.is_false unseen))
