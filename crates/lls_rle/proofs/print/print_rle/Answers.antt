use Rattle.std.proofs.Common.{◌≡◌, ◌++◌, ◌∙◌, ap, Err, Ok}
use Rattle.std.proofs.lemmas.Result.{err_from_is_err_and}
use Rattle.lls_hensel.specs.Printing.{uneven}
use Rattle.lls_grid.specs.History.{height_of, width_of, rows_at}
use Rattle.lls_rle.specs.Reading.{rle_of}
use Rattle.lls_rle.specs.Printing.{rle_text, header_text, body_text, items_of_rows}
use Rattle.lls_rle.proofs.RoundTrip.{rle_of-rle_text}
use Rattle.lls_rle.proofs.Isotropic.{fault_handed_on, none_at_fault, memory_apart}
use Rattle.lls_rle.proofs.print.print_rle.Goals as goal

pub returns-in_err-rule_text-clause-not_isotropic : goal.returns-in_err-rule_text-clause-not_isotropic
returns-in_err-rule_text-clause-not_isotropic c =
    let p = err_from_is_err_and c.from_residual.result c.from_residual.ensures.1 in
    fault_handed_on c.print_rule.result c.from_residual.result (uneven c.args.rule.now) c.in_err-rule_text.field-0.0 c.print_rule.ensures.not_isotropic c.in_err-rule_text.was (p.1 ∙ ap Err p.2)

pub returns-in_err-text_of-clause-not_isotropic : goal.returns-in_err-text_of-clause-not_isotropic
returns-in_err-text_of-clause-not_isotropic c =
    let p = err_from_is_err_and c.from_residual-in_err-text_of.result c.from_residual-in_err-text_of.ensures.1 in
    none_at_fault c.print_rule.result c.in_ok-rule_text.rule_text c.from_residual-in_err-text_of.result (uneven c.args.rule.now) c.print_rule.ensures.not_isotropic c.in_ok-rule_text.was (memory_apart c.from_residual-in_err-text_of.result (p.1 ∙ ap Err p.2))

pub returns-clause-not_isotropic : goal.returns-clause-not_isotropic
returns-clause-not_isotropic c =
    none_at_fault c.print_rule.result c.in_ok-rule_text.rule_text (Ok c.in_ok-text_of.field-0) (uneven c.args.rule.now) c.print_rule.ensures.not_isotropic c.in_ok-rule_text.was (λ nine h. cc)

pub returns-clause-reads_back : goal.returns-clause-reads_back
returns-clause-reads_back c =
    let history = c.args.history.now in
    let text : c.in_ok-text_of.field-0.items ≡ rle_text c.args.rule.now history c.args.t =
    c.in_ok-text_of.ensures ∙ ap (λ r. header_text (width_of history) (height_of history) r ++ body_text (items_of_rows (rows_at history c.args.t))) (c.deref.ensures.value ∙ c.in_ok-rule_text.ensures.text) in
    ap (rle_of (height_of history) (width_of history)) text ∙ rle_of-rle_text c.args.rule.now history c.args.t c.sizes-sizes.ensures.kept c.requires
