use Rattle.std.proofs.Common.{◌≡◌, ◌+◌, ◌-◌, ◌∙◌, sym, ap, cond, not, length, take, drop, get_or, Err}
use Rattle.std.specs.List.{take_while}
use Rattle.std.proofs.lemmas.List.{take_rest}
use Rattle.lls_hensel.specs.Reading.{tail_read, before_digit, is_count}
use Rattle.lls_hensel.specs.declared.read.RuleError.TheVariants.{RepeatedDigit}
use Rattle.lls_hensel.proofs.Prefixes.{before_digit-take_while}
use Rattle.lls_hensel.proofs.Sides.{taken}
use Rattle.lls_hensel.proofs.read.read_group.Goals as goal

pub returns : goal.returns
returns c =
    let side = c.args.side.bytes.now in
    let behind = drop (c.args.at + 1) side in
    let column = c.args.side.column + c.args.at in
    let digit = get_or side c.args.at 0 in
    let rest : take (length side - (c.args.at + 1)) behind ≡ behind = take_rest side (c.args.at + 1) in
    let counted : c.digitless_len.result ≡ length (before_digit behind) =
    c.digitless_len.ensures ∙ (ap (λ bytes. length (take_while (λ byte. not (is_count byte)) bytes)) rest ∙ ap length (sym (before_digit-take_while behind))) in
    let tail : take c.digitless_len.result (take (length side - (c.args.at + 1)) behind) ≡ before_digit behind =
    ap (take c.digitless_len.result) rest ∙ (ap (λ n. take n behind) counted ∙ taken behind) in
    c.read_tail.ensures ∙ (ap (tail_read (column + 1) (digit - 48)) tail ∙
    ap (λ b. cond b (Err (RepeatedDigit column)) (tail_read (column + 1) (digit - 48) (before_digit behind))) (sym (sym c.contains.ensures.value ∙ c.if-contains.false)))
