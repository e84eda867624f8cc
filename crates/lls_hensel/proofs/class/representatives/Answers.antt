use Rattle.std.proofs.Common.{◌∙◌, sym, ap, arith}
use Rattle.lls_hensel.specs.Numbers.{representatives_of, representatives_of_fewer}
use Rattle.lls_hensel.proofs.Numbers.{representatives_of_fewer_none}
use Rattle.lls_hensel.proofs.class.representatives.Goals as goal

pub returns-in-1 : goal.returns-in-1
unfolding representatives_of representatives_of_fewer
returns-in-1 c = sym (ap representatives_of_fewer (sym c.min.ensures ∙ c.in-1.is))

pub returns-in-2 : goal.returns-in-2
unfolding representatives_of representatives_of_fewer
returns-in-2 c = sym (ap representatives_of_fewer (sym c.min.ensures ∙ c.in-2.is))

pub returns-in-3 : goal.returns-in-3
unfolding representatives_of representatives_of_fewer
returns-in-3 c = sym (ap representatives_of_fewer (sym c.min.ensures ∙ c.in-3.is))

pub returns-in-4 : goal.returns-in-4
unfolding representatives_of representatives_of_fewer
returns-in-4 c = sym (ap representatives_of_fewer (sym c.min.ensures ∙ c.in-4.is))

pub returns-in_default : goal.returns-in_default
unfolding representatives_of
returns-in_default c =
    sym (ap representatives_of_fewer (sym c.min.ensures) ∙
    representatives_of_fewer_none c.min.result (omega (arith, c.min.ensures)) (λ e. absurd (omega arith)) (λ e. absurd (omega arith)) (λ e. absurd (omega arith)) (λ e. absurd (omega arith)))
