-- An isotropic rule isn't refused.
use Rattle.std.proofs.Common.{◌≡◌, ◌∙◌, ap, Some, None, Err}
use Rattle.lls_hensel.specs.Printing.{uneven}
use Rattle.lls_answers.proofs.print.rule_line.Goals as goal

pub unreachable-requires : goal.unreachable-requires
unreachable-requires c =
    let none : uneven c.args.rule.now ≡ None = c.print_rule.ensures.isotropic.1 c.requires in
    let some : uneven c.args.rule.now ≡ Some c.in-Err-NotIsotropic.field-0-0 =
    (c.print_rule.ensures.not_isotropic c.in-Err-NotIsotropic.field-0-0).0 (c.in-Err-NotIsotropic.is ∙ ap Err c.in-Err-NotIsotropic.field-0-is) in
    cc
