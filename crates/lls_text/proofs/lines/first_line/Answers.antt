use Rattle.std.proofs.Common.{ap, map, ◌∙◌, refl}
use Rattle.std.specs.Str.Lines.{strip_carriage_return}
use Rattle.lls_text.proofs.Cuts.{cut_first}
use Rattle.lls_text.proofs.lines.first_line.Goals as goal

pub returns : goal.returns
returns c =
    ap (map strip_carriage_return) (cut_first c.args.text.now c.requires) ∙
    rw (c.behind.ensures, c.without_return.ensures, c.line_len-end.ensures) refl
