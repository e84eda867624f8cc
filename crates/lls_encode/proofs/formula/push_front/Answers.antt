-- The four parts in their order, and the room that each leaves.
use Rattle.std.proofs.Common.{◌≡◌, ◌∙◌, ap, arith, length, List}
use Rattle.std.specs.List.{flat_map, range_with_len}
use Rattle.lls_lit.specs.Formula.{Clause}
use Rattle.lls_search_file.specs.declared.cell.Cell.{Cell}
use Rattle.lls_problem.specs.Solution.{cell_number}
use Rattle.lls_transition.specs.Clause.{with_clauses}
use Rattle.lls_encode.specs.Formula.{fixed_clauses, name_clauses, fixed_part, name_part}
use Rattle.lls_encode.proofs.Steps.{on_ok}
use Rattle.lls_encode.proofs.Made.{made_front, room_for_names, room_for_symmetry, room_for_period}
use Rattle.lls_encode.proofs.formula.push_front.Goals as goal

abbrev fixed_of : List Cell → List Clause
fixed_of cells = flat_map (λ k. fixed_clauses k (cell_number cells k).kind) (range_with_len 0 (length cells))

abbrev names_of : List Cell → List Clause
names_of cells = flat_map (name_clauses cells) (range_with_len 0 (length cells))

pub push_names-requires-clause-room : goal.push_names-requires-clause-room
push_names-requires-clause-room c =
    let p = c.args.problem.now in
    let kept = c.posed-posed.ensures.kept in
    let cells : c.items-cells.result.now ≡ p.posed.cells = c.items-cells.ensures ∙ ap (λ f. f.cells) (c.posed.view_is ∙ c.posed-posed.ensures.value) in
    let fixed : c.push_fixed.new.formula ≡ with_clauses c.args.formula.now (fixed_part p) = c.in_ok-push_fixed.ensures ∙ ap (λ cells. with_clauses c.args.formula.now (fixed_of cells)) cells in
    let room = room_for_names p c.args.formula.now c.push_fixed.new.formula kept c.requires.room fixed in
    let count : length c.items-cells.result.now ≡ length p.posed.cells = ap length cells in
    omega (arith, room, count, kept.most)

pub push_symmetry-requires-clause-room : goal.push_symmetry-requires-clause-room
push_symmetry-requires-clause-room c =
    let p = c.args.problem.now in
    let kept = c.posed-posed.ensures.kept in
    let cells : c.items-cells.result.now ≡ p.posed.cells = c.items-cells.ensures ∙ ap (λ f. f.cells) (c.posed.view_is ∙ c.posed-posed.ensures.value) in
    let fixed : c.push_fixed.new.formula ≡ with_clauses c.args.formula.now (fixed_part p) = c.in_ok-push_fixed.ensures ∙ ap (λ cells. with_clauses c.args.formula.now (fixed_of cells)) cells in
    let names : c.push_names.new.formula ≡ with_clauses c.push_fixed.new.formula (name_part p) = c.in_ok-push_names.ensures ∙ ap (λ cells. with_clauses c.push_fixed.new.formula (names_of cells)) cells in
    let room = room_for_symmetry p c.push_fixed.new.formula c.push_names.new.formula kept (room_for_names p c.args.formula.now c.push_fixed.new.formula kept c.requires.room fixed) names in
    omega (arith, room)

pub push_period-requires-clause-room : goal.push_period-requires-clause-room
push_period-requires-clause-room c =
    let p = c.args.problem.now in
    let kept = c.posed-posed.ensures.kept in
    let cells : c.items-cells.result.now ≡ p.posed.cells = c.items-cells.ensures ∙ ap (λ f. f.cells) (c.posed.view_is ∙ c.posed-posed.ensures.value) in
    let fixed : c.push_fixed.new.formula ≡ with_clauses c.args.formula.now (fixed_part p) = c.in_ok-push_fixed.ensures ∙ ap (λ cells. with_clauses c.args.formula.now (fixed_of cells)) cells in
    let names : c.push_names.new.formula ≡ with_clauses c.push_fixed.new.formula (name_part p) = c.in_ok-push_names.ensures ∙ ap (λ cells. with_clauses c.push_fixed.new.formula (names_of cells)) cells in
    room_for_period p c.push_names.new.formula c.push_symmetry.new.formula kept
    (room_for_symmetry p c.push_fixed.new.formula c.push_names.new.formula kept (room_for_names p c.args.formula.now c.push_fixed.new.formula kept c.requires.room fixed) names)
    c.in_ok-push_symmetry.ensures

pub returns : goal.returns
returns c =
    let p = c.args.problem.now in
    let cells : c.items-cells.result.now ≡ p.posed.cells = c.items-cells.ensures ∙ ap (λ f. f.cells) (c.posed.view_is ∙ c.posed-posed.ensures.value) in
    let fixed : c.push_fixed.new.formula ≡ with_clauses c.args.formula.now (fixed_part p) = c.in_ok-push_fixed.ensures ∙ ap (λ cells. with_clauses c.args.formula.now (fixed_of cells)) cells in
    let names : c.push_names.new.formula ≡ with_clauses c.push_fixed.new.formula (name_part p) = c.in_ok-push_names.ensures ∙ ap (λ cells. with_clauses c.push_fixed.new.formula (names_of cells)) cells in
    on_ok c.push_period.result _ _
    (made_front p c.args.formula.now c.push_fixed.new.formula c.push_names.new.formula c.push_symmetry.new.formula c.push_period.new.formula fixed names c.in_ok-push_symmetry.ensures)
    c.push_period.ensures
