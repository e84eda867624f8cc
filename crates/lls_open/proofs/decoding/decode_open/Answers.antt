-- What satisfies the formula says an open solution.
use Rattle.std.proofs.Common.{◌≡◌, ◌∙◌, ap, sym, subst, arith}
use Rattle.lls_grid.specs.History.{History}
use Rattle.lls_encode.specs.History.{history_of}
use Rattle.lls_open.specs.Between.{IsOpenSolution}
use Rattle.lls_open.specs.Classes.{open_classes}
use Rattle.lls_open.specs.Decoding.{rule_with, rule_of}
use Rattle.lls_open.proofs.Sound.{IsOpenSolution-by_clauses}
use Rattle.lls_open.proofs.decoding.decode_open.Goals as goal

pub returns-clause-solution : goal.returns-clause-solution
returns-clause-solution c = λ form satisfied.
    let p = c.args.problem.now in
    let high = c.args.high.now in
    let values = c.args.assignment.now in
    let classes : c.deref.result.now ≡ open_classes p.rule high = c.deref.ensures.value ∙ c.in_ok-classes.ensures ∙ ap (λ low. open_classes low high) c.rule.ensures in
    let rule : c.chosen_rule.result ≡ rule_of p high values =
    c.chosen_rule.ensures ∙ ap (λ xs. rule_with p xs c.values.result.now) classes ∙ ap (rule_with p (open_classes p.rule high)) c.values.ensures in
    let found = IsOpenSolution-by_clauses p form high values c.posed-posed.ensures.kept c.demands-demands.ensures.kept c.requires.ends (omega (arith, c.requires.values)) satisfied in
    subst (λ (h : History). IsOpenSolution p high h c.chosen_rule.result) (sym c.in_ok-history.ensures.history)
    (subst (IsOpenSolution p high (history_of p values)) (sym rule) found)
