use Rattle.std.proofs.Common.{◌≡◌, sym, ◌∙◌}
use Rattle.std.specs.Prelude.{Ok, Some}
use Rattle.lls_prooflog.specs.Number.{literal_in, item}
use Rattle.lls_prooflog.specs.Numeral.{next_item}
use Rattle.lls_prooflog.proofs.Lists.{listed-next, listed-step, listed-ended}
use Rattle.lls_drat.proofs.Answered.{given_line_fault}
use Rattle.lls_drat.proofs.line.read_list.Goals as goal

pub returns-in_err-lit-clause-items : goal.returns-in_err-lit-clause-items
returns-in_err-lit-clause-items c =
    let words = c.loop-lit.words in
    given_line_fault _ c.in_err-lit.field-0.0 _ _ c.from_residual.ensures.1 (sym c.loop-lit.invariant.listed ∙ listed-ended (item literal_in) words c.loop-lit.lits.items c.in_err-lit.field-0.0 c.in_err-lit.ensures.item)

pub loop-lit-preserved : goal.loop-lit-preserved
loop-lit-preserved c =
    let item_of = item literal_in in
    let words = c.loop-lit.words in
    let e : Ok (Some c.in-Some.lit) ≡ next_item item_of words = rw (← c.in-Some.is) c.in_ok-lit.ensures.item in
    record {
      listed = rw (c.in_ok-push.ensures.items, c.in_ok-lit.ensures.rest) (listed-step item_of words c.loop-lit.lits.items c.in-Some.lit e ∙ c.loop-lit.invariant.listed);
      behind = rw c.in_ok-lit.ensures.rest (sym (listed-next item_of words c.in-Some.lit e).1 ∙ c.loop-lit.invariant.behind);
    }
