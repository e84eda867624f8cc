use Rattle.std.proofs.Common.{◌≡◌, ℕ, ◌+◌, ◌-◌, ◌∙◌, ap, true, false, List, length, take, drop, Ok}
use Rattle.std.proofs.lemmas.List.{take_rest}
use Rattle.std.proofs.lemmas.Result.{err_from_is_err_and}
use Rattle.lls_rule.proofs.Tables.{length-table_of}
use Rattle.lls_hensel.specs.Sides.{with_entries}
use Rattle.lls_hensel.specs.Reading.{survival_first, side_before, side_entries, birth_after, is_slash}
use Rattle.lls_base.specs.Results.{and_then}
use Rattle.lls_hensel.proofs.Both.{both_sides-fault, both_sides-fault_behind, length-first_side, both_sides-tables}
use Rattle.lls_hensel.proofs.Prefixes.{take-length-take_while}
use Rattle.lls_hensel.proofs.read.read_survival_first.Goals as goal

first_side : List ℕ → List ℕ
first_side bytes = side_before is_slash bytes

side_is : (bytes : List ℕ) (end : ℕ) → end ≡ length (side_before is_slash bytes) → take end bytes ≡ first_side bytes
unfolding first_side
side_is bytes end e = ap (λ n. take n bytes) e ∙ take-length-take_while _ bytes

behind_is : (bytes : List ℕ) (end : ℕ) → end ≡ length (side_before is_slash bytes) → birth_after (1 + end) (take (length bytes - end) (drop end bytes)) ≡ birth_after (1 + length (first_side bytes)) (drop (length (first_side bytes)) bytes)
unfolding first_side
behind_is bytes end e = ap (birth_after (1 + end)) (take_rest bytes end) ∙ ap (λ n. birth_after (1 + n) (drop n bytes)) e

pub read_side-requires-clause-whole : goal.read_side-requires-clause-whole
read_side-requires-clause-whole c = ap length c.dead.ensures ∙ length-table_of _

pub read_side-requires-2-clause-whole : goal.read_side-requires-2-clause-whole
read_side-requires-2-clause-whole c = length-first_side c.dead.result c.in_ok-surviving.surviving _ c.in_ok-surviving.ensures

pub returns-in_err-surviving : goal.returns-in_err-surviving
unfolding survival_first first_side
returns-in_err-surviving c =
    let p = err_from_is_err_and c.from_residual.result c.from_residual.ensures.1 in
    rw (p.1, p.2) (both_sides-fault false c.dead.result (side_entries true 1 (first_side c.args.bytes.now)) _ c.in_err-surviving.field-0.0
    (c.in_err-surviving.ensures ∙ ap (λ side. and_then (side_entries true 1 side) (λ entries. Ok (with_entries c.dead.result entries))) (side_is c.args.bytes.now c.survival_len-end.result c.survival_len-end.ensures)))

pub returns-in_err-birth_after : goal.returns-in_err-birth_after
unfolding survival_first first_side
returns-in_err-birth_after c =
    let p = err_from_is_err_and c.from_residual-in_err-birth_after.result c.from_residual-in_err-birth_after.ensures.1 in
    rw (p.1, p.2) (both_sides-fault_behind false c.dead.result c.in_ok-surviving.surviving (side_entries true 1 (first_side c.args.bytes.now)) _ c.in_err-birth_after.field-0.0
    (c.in_ok-surviving.ensures ∙ ap (λ side. and_then (side_entries true 1 side) (λ entries. Ok (with_entries c.dead.result entries))) (side_is c.args.bytes.now c.survival_len-end.result c.survival_len-end.ensures))
    (c.in_err-birth_after.ensures ∙ behind_is c.args.bytes.now c.survival_len-end.result c.survival_len-end.ensures))

pub returns : goal.returns
unfolding survival_first first_side
returns c =
    let end = c.survival_len-end.result in
    c.read_side-2.ensures ∙ both_sides-tables false c.in_ok-surviving.surviving (side_entries true 1 (first_side c.args.bytes.now)) (c.in_ok-birth_after.field-0.column, c.in_ok-birth_after.field-0.bytes.now) _
    (c.in_ok-surviving.ensures ∙ (ap (λ side. and_then (side_entries true 1 side) (λ entries. Ok (with_entries c.dead.result entries))) (side_is c.args.bytes.now end c.survival_len-end.ensures) ∙
    ap (λ table. and_then (side_entries true 1 (first_side c.args.bytes.now)) (λ entries. Ok (with_entries table entries))) c.dead.ensures))
    (c.in_ok-birth_after.ensures ∙ behind_is c.args.bytes.now end c.survival_len-end.ensures)
