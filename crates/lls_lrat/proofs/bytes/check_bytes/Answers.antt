use Rattle.std.proofs.Common.{◌≡◌, true, ap, ◌∙◌, subst}
use Rattle.std.specs.List.{list_all}
use Rattle.lls_lit.specs.Formula.{is_within}
use Rattle.std.specs.Option.{option_map}
use Rattle.lls_lrat.specs.Feeding.{FeedState, fed}
use Rattle.lls_lrat.proofs.Accepting.{unsatisfiable_if_accepted}
use Rattle.lls_lrat.proofs.LineChecks.{fault_of_text}
use Rattle.lls_lrat.proofs.bytes.check_bytes.Goals as goal

pub returns-clause-exact : goal.returns-clause-exact
returns-clause-exact c =
    let begins = ap (λ (v : FeedState). option_map (λ f. fed f c.args.text.now) v.feeding) c.in_ok-feed.ensures in
    fault_of_text c.feed.new.self.feeding c.in-Err.fault c.args.formula.now c.args.text.now c.in-Err.ensures.answer (λ some. c.feed.ensures.fed some ∙ begins)

pub returns-in_err-feed-clause-refutes : goal.returns-in_err-feed-clause-refutes
returns-in_err-feed-clause-refutes c = unsatisfiable_if_accepted c.args.formula.now c.args.text.now (subst (λ n. list_all (is_within n) c.args.formula.now.clauses ≡ true) c.vars-vars.ensures.vars c.vars-vars.ensures.within)

pub returns-in-Ok-clause-refutes : goal.returns-in-Ok-clause-refutes
returns-in-Ok-clause-refutes c = unsatisfiable_if_accepted c.args.formula.now c.args.text.now (subst (λ n. list_all (is_within n) c.args.formula.now.clauses ≡ true) c.vars-vars.ensures.vars c.vars-vars.ensures.within)

pub returns-clause-refutes : goal.returns-clause-refutes
returns-clause-refutes c = unsatisfiable_if_accepted c.args.formula.now c.args.text.now (subst (λ n. list_all (is_within n) c.args.formula.now.clauses ≡ true) c.vars-vars.ensures.vars c.vars-vars.ensures.within)
