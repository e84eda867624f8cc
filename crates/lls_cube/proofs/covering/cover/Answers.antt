use Rattle.std.proofs.Common.{◌≡◌, ◌∙◌, ◌^◌, ◌<◌, ◌≤◌, ap, sym, subst, arith, List, length, bit_and, []}
use Rattle.std.specs.Prelude.{All}
use Rattle.std.specs.List.{list_any}
use Rattle.lls_cube.specs.declared.cube.Cube.{Cube}
use Rattle.lls_cube.specs.Table.{forbidden_rows}
use Rattle.lls_cube.specs.Cube.{contains}
use Rattle.lls_cube.specs.Cover.{after_row}
use Rattle.lls_cube.proofs.Covered.{fold_more, cover_made, list_any-cover, length-cover, All-cared, All-inputs}
use Rattle.lls_cube.proofs.covering.cover.Goals as goal

pub loop-row-preserved : goal.loop-row-preserved
loop-row-preserved g c =
    c.in_ok-push_widest.ensures
    ∙ ap (λ cubes. after_row c.args.table.now g.row.K cubes c.loop-row.row) c.loop-row.invariant
    ∙ sym (fold_more (after_row c.args.table.now g.row.K) c.loop-row.row [])

pub returns-clause-cover : goal.returns-clause-cover
returns-clause-cover g c = cover_made c.args.table.now g.row.K c.loop-row.row c.loop-row.cubes.items (omega (arith, c.row_count-row-end.ensures.rows)) c.loop-row.invariant

pub returns-clause-covers : goal.returns-clause-covers
returns-clause-covers g c =
    λ row inside. ap (list_any (contains row)) (returns-clause-cover g c)
    ∙ list_any-cover c.args.table.now g.row.K row (sym c.row_count-row-end.ensures.rows ∙ c.row_count-row-end.ensures.inputs) inside

pub returns-clause-few : goal.returns-clause-few
returns-clause-few g c = subst (λ (cubes : List Cube). length cubes ≤ length (forbidden_rows c.args.table.now)) (sym (returns-clause-cover g c)) (length-cover c.args.table.now g.row.K)

pub returns-clause-cared : goal.returns-clause-cared
returns-clause-cared g c =
    subst (λ (cubes : List Cube). All (λ cube. bit_and cube.value cube.care ≡ cube.value) cubes) (sym (returns-clause-cover g c))
    (All-cared c.args.table.now g.row.K (sym c.row_count-row-end.ensures.rows ∙ c.row_count-row-end.ensures.inputs))

pub returns-clause-inputs : goal.returns-clause-inputs
returns-clause-inputs g c =
    subst (λ (cubes : List Cube). All (λ cube. cube.care < 2 ^ g.row.K) cubes) (sym (returns-clause-cover g c))
    (All-inputs c.args.table.now g.row.K (sym c.row_count-row-end.ensures.rows ∙ c.row_count-row-end.ensures.inputs))
