use Rattle.std.proofs.Common.{◌≡◌, Some, None, true, false, sym, ap, ◌∙◌, subst, arith}
use Rattle.std.specs.Option.{IsSome}
use Rattle.lls_lit.specs.Literal.{negation, variable_of}
use Rattle.lls_store.specs.Trail.{Has, entry_of}
use Rattle.lls_store.proofs.Values.{variable_of-negation}
use Rattle.lls_watch.proofs.Passed.{has_at}
use Rattle.lls_watch.proofs.Places.{found_by_variable, none_before}
use Rattle.lls_watch.proofs.progress.Progress.take_back.Goals as goal

pub known_place-requires : goal.known_place-requires
known_place-requires c =
    let is_false = c.value.ensures.is_false.0 (c.in-Some.is ∙ ap Some c.if-not-value.true) in
    subst (λ v. IsSome (entry_of c.args.trail.now.entries v)) (variable_of-negation c.args.lit ∙ sym c.var.ensures.var) (found_by_variable c.args.trail.now.entries (negation c.args.lit) is_false)

pub returns-then-not-value-clause-apart : goal.returns-then-not-value-clause-apart
returns-then-not-value-clause-apart c = λ place entry before found is.
    none_before c.args.trail.now.entries c.var.result c.known_place.result place entry c.known_place.ensures (omega (arith, before, c.min-self.ensures)) found
    (ap variable_of is ∙ variable_of-negation c.args.lit ∙ sym c.var.ensures.var)

pub returns-else-not-value-clause-apart : goal.returns-else-not-value-clause-apart
returns-else-not-value-clause-apart c = λ place entry before found is.
    let value = c.value.ensures.is_false.1 (subst (Has c.args.trail.now.entries) is (has_at c.args.trail.now.entries place entry found)) in
    let both : Some true ≡ Some false = sym (c.in-Some.is ∙ ap Some c.if-not-value.false) ∙ value in
    absurd cc

pub returns-in_default-clause-apart : goal.returns-in_default-clause-apart
returns-in_default-clause-apart c = λ place entry before found is.
    let value = c.value.ensures.is_false.1 (subst (Has c.args.trail.now.entries) is (has_at c.args.trail.now.entries place entry found)) in
    let both : None ≡ Some false = sym c.in_default.is ∙ value in
    absurd cc
