use Rattle.std.proofs.Common.{Ok, Err, ◌∙◌, sym}
use Rattle.std.proofs.lemmas.Result.{err_from_is_err_and}
use Rattle.lls_words.specs.Seen.{seen_item, seen_scan, items_left}
use Rattle.lls_words.proofs.Steps.{with_items-first}
use Rattle.lls_words.proofs.scan.scan_words.Goals as goal

pub returns-in_err-take : goal.returns-in_err-take
returns-in_err-take c =
    let p = err_from_is_err_and c.from_residual.result c.from_residual.ensures.1 in
    rw (p.1, p.2)
    (λ other. sym c.loop-item.invariant
    ∙ with_items-first c.args.command (seen_scan c.loop-item.scan) (items_left c.loop-item.item-iterator) (items_left c.next.new.self) (seen_item c.in-Some.item) (Err c.in_err-take.field-0.0) c.in-Some.ensures.steps (c.in_err-take.ensures other))

pub loop-item-preserved : goal.loop-item-preserved
loop-item-preserved c =
    sym (with_items-first c.args.command (seen_scan c.loop-item.scan) (items_left c.loop-item.item-iterator) (items_left c.next.new.self) (seen_item c.in-Some.item) (Ok (seen_scan c.take.new.self)) c.in-Some.ensures.steps c.in_ok-take.ensures)
    ∙ c.loop-item.invariant
