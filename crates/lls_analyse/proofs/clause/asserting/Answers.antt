use Rattle.std.proofs.Common.{◌≡◌, All, false, sym, ap, ◌∙◌, arith, subst, take}
use Rattle.std.specs.Prelude.{ℤ, List}
use Rattle.std.proofs.lemmas.List.{take_all}
use Rattle.lls_analyse.specs.Visited.{is_open, status, status_of}
use Rattle.lls_analyse.proofs.Clauses.{All-take_more}
use Rattle.lls_analyse.proofs.clause.asserting.Goals as goal

pub loop-lit-preserved : goal.loop-lit-preserved
loop-lit-preserved c =
    All-take_more (λ (m : ℤ). is_open (status c.args.visited.now.seen m) ≡ false) c.lits-lit-items.result.now c.loop-lit.lit-index c.lit-item.result c.loop-lit-test.true c.lit-item.is c.loop-lit.invariant
    (ap (λ v. is_open (status_of c.args.visited.now.seen v)) (sym c.var.ensures.var) ∙ sym c.is_open.ensures ∙ c.if-is_open.false)

pub returns-clause-none : goal.returns-clause-none
returns-clause-none c =
    let all : take c.loop-lit.lit-index c.lits-lit-items.result.now ≡ c.args.visited.now.lits = take_all c.loop-lit.lit-index c.lits-lit-items.result.now (omega (arith, c.loop-lit-test.false)) ∙ c.lits-lit-items.ensures.lits in
    let P : List ℤ → Type 0 = λ ls. All (λ (m : ℤ). is_open (status c.args.visited.now.seen m) ≡ false) ls in
    subst P all c.loop-lit.invariant
