use Rattle.std.proofs.Common.{◌/◌, ◌%◌, ◌∙◌, sym, ap, get_or, nat_eq, arith}
use Rattle.std.proofs.lemmas.Nat.Bits.{shr_and_one}
use Rattle.lls_cube.specs.Table.{is_forbidden}
use Rattle.lls_cube.proofs.Bits.{is_forbidden-table_in}
use Rattle.lls_cube.proofs.table.Table.forbidden.Goals as goal

pub returns : goal.returns
returns g c =
    let words = c.self.inside.words in
    let row = c.args.row in
    ap (λ n. nat_eq n 1) (shr_and_one (get_or words (row / 64) 0) (row % 64))
    ∙ sym (is_forbidden-table_in words row (omega (arith, c.self.invariant.words_are, c.self.invariant.rows_are, c.requires)))
    ∙ ap (λ table. is_forbidden table row) c.self.view_is
