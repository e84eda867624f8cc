use Rattle.std.proofs.Common.{Bool, not, sym, ap, ◌∙◌, int_eq}
use Rattle.std.specs.Prelude.{ℤ}
use Rattle.lls_lit.specs.Literal.{negation}
use Rattle.lls_prooflog.specs.UnitWalk.{is_among}
use Rattle.lls_lrat.proofs.Groups.{any_kept_at}
use Rattle.lls_lrat.proofs.pivot.has_true.Goals as goal

pub returns-then-has : goal.returns-then-has
returns-then-has c =
    let l = c.lit-item.result in
    let keep : ℤ → Bool = λ m. not (int_eq c.args.left_out m) in
    let test : ℤ → Bool = λ m. is_among c.args.assumed.now.lits (negation m) in
    sym (any_kept_at keep test c.args.clause.now c.loop-lit.lit-index l c.loop-lit-test.true
    (ap keep (sym c.lit-item.is) ∙ sym c.if-ne.ensures)
    (ap test (sym c.lit-item.is) ∙ ap (is_among c.args.assumed.now.lits) (sym c.negated.ensures) ∙ sym c.if-has.ensures))
