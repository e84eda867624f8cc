use Rattle.std.proofs.Common.{◌∙◌, sym, ap, Ok, Err}
use Rattle.lls_hensel.specs.Sides.{with_entries}
use Rattle.lls_base.specs.Results.{and_then}
use Rattle.lls_hensel.proofs.Sides.{side_entries-groups, side_entries-misplaced, side_entries-none, before_digit-at_digit}
use Rattle.lls_hensel.proofs.With.{with_entries-none}
use Rattle.lls_hensel.proofs.read.read_side.Goals as goal

pub returns-in_default : goal.returns-in_default
returns-in_default c =
    sym (ap (λ read. and_then read (λ entries. Ok (with_entries c.args.rule entries))) (side_entries-none c.args.survival c.args.side.column c.args.side.bytes.now c.in_default.len_below) ∙ ap Ok (with_entries-none c.args.rule c.requires.whole))

pub returns-then-not-is_count : goal.returns-then-not-is_count
returns-then-not-is_count c =
    sym (ap (λ read. and_then read (λ entries. Ok (with_entries c.args.rule entries)))
    (side_entries-misplaced c.args.survival c.args.side.column c.args.side.bytes.now c.in-len1-up.len_at_least (sym c.is_count.ensures ∙ c.if-not-is_count.true) ∙ ap Err (sym c.misplaced.ensures)))

pub returns : goal.returns
returns c =
    c.read_groups.ensures ∙ side_entries-groups c.args.survival c.args.rule c.args.side.column c.args.side.bytes.now (before_digit-at_digit c.args.side.bytes.now (sym c.is_count.ensures ∙ c.if-not-is_count.false))
