use Rattle.std.proofs.Common.{◌++◌, ◌∙◌, ap, sym, arith}
use Rattle.std.specs.List.{flat_map}
use Rattle.std.proofs.lemmas.Grind.{flat_map-append}
use Rattle.lls_symmetry.specs.declared.moved.Course.{Course}
use Rattle.lls_symmetry.specs.Moved.{all_leaving, all_entering, generation_moved}
use Rattle.lls_transition.specs.Clause.{with_clauses}
use Rattle.lls_encode.specs.Formula.{background_clauses, moved_clauses}
use Rattle.lls_encode.proofs.Steps.{HasRoom-behind, with_clauses-three, on_ok}
use Rattle.lls_encode.proofs.Bounds.{length-background_clauses, length-all_leaving}
use Rattle.lls_encode.proofs.period.push_return.Goals as goal

pub push_entering-requires-clause-room : goal.push_entering-requires-clause-room
push_entering-requires-clause-room c =
    let p = c.args.problem.now in
    let kept = c.posed-posed.ensures.kept in
    let course = c.course_of-course.result in
    HasRoom-behind c.push_background.new.formula c.push_leaving.new.formula (flat_map (moved_clauses p) (all_leaving course p.posed.height p.posed.width)) 16384 8192
    c.in_ok-push_leaving.ensures
    (omega (arith, length-all_leaving p course p.posed.height p.posed.width kept.height.1 kept.width.1))
    (HasRoom-behind c.args.formula.now c.push_background.new.formula (background_clauses p c.args.period c.args.t) 16385 16384 c.in_ok-push_background.ensures
    (omega (arith, length-background_clauses p c.args.period c.args.t)) c.requires.room)

pub returns : goal.returns
returns c =
    let p = c.args.problem.now in
    let formula = c.args.formula.now in
    let course = c.course_of-course.result in
    let leave = all_leaving course p.posed.height p.posed.width in
    let enter = all_entering course p.posed.height p.posed.width in
    on_ok c.push_entering.result _ _
    (λ entered.
    with_clauses-three formula c.push_background.new.formula c.push_leaving.new.formula c.push_entering.new.formula (background_clauses p c.args.period c.args.t)
    (flat_map (moved_clauses p) leave) (flat_map (moved_clauses p) enter) c.in_ok-push_background.ensures c.in_ok-push_leaving.ensures entered
    ∙ ap (λ list. with_clauses formula (background_clauses p c.args.period c.args.t ++ list)) (sym (flat_map-append (moved_clauses p) leave enter))
    ∙ ap (λ (course : Course). with_clauses formula (background_clauses p c.args.period c.args.t ++ flat_map (moved_clauses p) (generation_moved p.posed.height p.posed.width course))) c.course_of-course.ensures.course)
    c.push_entering.ensures
