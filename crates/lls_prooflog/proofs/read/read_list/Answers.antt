use Rattle.std.proofs.Common.{◌≡◌, sym, ◌∙◌}
use Rattle.std.specs.Prelude.{Ok, Some}
use Rattle.lls_prooflog.specs.Numeral.{item_by, next_item}
use Rattle.lls_prooflog.proofs.Lists.{listed-next, listed-step, listed-ended}
use Rattle.lls_prooflog.proofs.Given.{given_fault}
use Rattle.lls_prooflog.proofs.read.read_list.Goals as goal

pub returns-in_err-item-clause-items : goal.returns-in_err-item-clause-items
returns-in_err-item-clause-items g c =
    let words = c.loop-item.numerals in
    given_fault _ c.in_err-item.field-0.0 _ _ c.from_residual.ensures.1 (sym c.loop-item.invariant.listed ∙ listed-ended (item_by g.K.Kind.item_of) words c.loop-item.items.items c.in_err-item.field-0.0 c.in_err-item.ensures.item)

pub loop-item-preserved : goal.loop-item-preserved
loop-item-preserved g c =
    let item_of = item_by g.K.Kind.item_of in
    let words = c.loop-item.numerals in
    let e : Ok (Some c.in-Some.item) ≡ next_item item_of words = rw (← c.in-Some.is) c.in_ok-item.ensures.item in
    record {
      listed = rw (c.in_ok-push.ensures.items, c.in_ok-item.ensures.rest) (listed-step item_of words c.loop-item.items.items c.in-Some.item e ∙ c.loop-item.invariant.listed);
      behind = rw c.in_ok-item.ensures.rest (sym (listed-next item_of words c.in-Some.item e).1 ∙ c.loop-item.invariant.behind);
    }
