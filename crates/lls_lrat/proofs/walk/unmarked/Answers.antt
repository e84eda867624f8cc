use Rattle.std.proofs.Common.{Bool, not, sym, ap, ◌∙◌, int_eq}
use Rattle.std.specs.Prelude.{ℤ}
use Rattle.std.proofs.lemmas.Bool.{not-true}
use Rattle.lls_prooflog.specs.UnitWalk.{is_among}
use Rattle.lls_lrat.proofs.Lefts.{left_of, left_in-differs}
use Rattle.lls_lrat.proofs.walk.unmarked.Goals as goal

pub returns-then-ne-clause-left : goal.returns-then-ne-clause-left
returns-then-ne-clause-left c =
    let keep : ℤ → Bool = λ m. not (is_among c.args.assumed.now.lits m) in
    let l = c.lit-item.result in
    let passes = ap keep (sym c.lit-item.is) ∙ ap not (sym c.if-has.ensures) in
    let apart = ap (int_eq c.in-Some.other) (sym c.lit-item.is) ∙ not-true (int_eq c.in-Some.other l) (sym c.if-ne.ensures) in
    sym (left_in-differs keep c.args.clause.now c.loop-lit.lit-index c.in-Some.other l c.loop-lit-test.true (c.loop-lit.invariant.0 ∙ ap left_of c.in-Some.is) passes apart)
