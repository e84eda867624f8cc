use Rattle.std.proofs.Common.{◌≡◌, ◌<◌, ◌^◌, ◌∙◌, ap, sym, arith, List, subst, bit_and}
use Rattle.std.specs.Prelude.{All}
use Rattle.std.specs.List.{list_any}
use Rattle.lls_cube.specs.declared.cube.Cube.{Cube}
use Rattle.lls_cube.specs.Table.{is_forbidden}
use Rattle.lls_cube.specs.Cube.{contains}
use Rattle.lls_cube.proofs.Listed.{cubes_pushed, cubes_passed, list_any-cubes, All-cubes, All-row_cubes}
use Rattle.lls_cube.proofs.cube.rows.Goals as goal
use Rattle.lls_cube.proofs.cube.rows.Goals.{then-forbidden+in_ok-push, else-forbidden}

pub loop-row-preserved : goal.loop-row-preserved
loop-row-preserved g c =
    let passes = is_forbidden c.args.table.now in
    elim c.if-forbidden.branch [
      | then-forbidden+in_ok-push w ↦
          rw w.cubes-is (cubes_pushed passes g.row.K c.loop-row.row c.row_count.result c.loop-row.cubes.items w.push.new.self.items c.row_count.ensures.inputs
          (sym c.forbidden.ensures ∙ w.if-forbidden.true) c.loop-row.invariant w.in_ok-push.ensures.items)
      | else-forbidden w ↦ rw w.cubes-is (cubes_passed passes g.row.K c.loop-row.row c.loop-row.cubes.items (sym c.forbidden.ensures ∙ w.if-forbidden.false) c.loop-row.invariant)
    ]

pub returns-clause-covers : goal.returns-clause-covers
returns-clause-covers g c =
    λ row inside. ap (λ cubes. list_any (contains row) cubes) c.loop-row.invariant
    ∙ list_any-cubes (is_forbidden c.args.table.now) g.row.K c.loop-row.row row (omega (arith, c.row_count-row-end.ensures.inputs)) inside

pub returns-clause-cared : goal.returns-clause-cared
returns-clause-cared g c =
    subst (λ (cubes : List Cube). All (λ cube. bit_and cube.value cube.care ≡ cube.value) cubes) (sym c.loop-row.invariant)
    (All-cubes (is_forbidden c.args.table.now) g.row.K c.loop-row.row (omega (arith, c.row_count-row-end.ensures.inputs)))

pub returns-clause-inputs : goal.returns-clause-inputs
returns-clause-inputs g c =
    subst (λ (cubes : List Cube). All (λ (cube : Cube). cube.care < 2 ^ g.row.K) cubes) (sym c.loop-row.invariant) (All-row_cubes g.row.K _)
