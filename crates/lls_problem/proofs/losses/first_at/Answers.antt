use Rattle.std.proofs.Common.{◌+◌, false, ap, sym, ◌∙◌}
use Rattle.std.specs.List.{flat_map}
use Rattle.lls_rule.specs.Rule.{background}
use Rattle.lls_symmetry.specs.declared.moved.Course.{Course}
use Rattle.lls_symmetry.specs.Moved.{all_leaving, all_entering}
use Rattle.lls_problem.specs.Firsts.{first}
use Rattle.lls_problem.specs.Unlike.{differ}
use Rattle.lls_problem.specs.Losses.{lost_of}
use Rattle.lls_problem.proofs.Lost.{BackgroundKept, lost_from_grid, lost_from_outside, nothing_lost, differ-by_test}
use Rattle.lls_problem.proofs.losses.first_at.Goals as goal
use Rattle.lls_problem.proofs.losses.first_at.Goals.{After-course_of-course}

-- the background returns
kept : (c : After-course_of-course) → BackgroundKept c.args.problem.now c.args.period c.args.t
kept c =
    let early = c.background.ensures ∙ ap (λ rule. background rule c.args.t) c.rule-rule.ensures in
    let late = c.background-2.ensures ∙ ap (λ rule. background rule (c.args.t + c.args.period.length)) c.rule-rule.ensures in
    ap (λ value. differ value (background c.args.problem.now.rule (c.args.t + c.args.period.length))) (sym early) ∙ ap (differ c.background.result) (sym late)
    ∙ differ-by_test c.background.result c.background-2.result false c.if-background.false

pub returns-in-Some : goal.returns-in-Some
returns-in-Some c =
    let p = c.args.problem.now in
    let h = c.args.history.now in
    lost_from_grid p h c.args.period c.args.t c.in-Some.spot (kept (goal.at.returns-in-Some c).After-course_of-course)
    (c.in-Some.ensures ∙ ap (λ (course : Course). first (flat_map (lost_of p.rule h) (all_leaving course p.posed.height p.posed.width))) c.course_of-course.ensures.course)

pub returns-in-Some-first_entered : goal.returns-in-Some-first_entered
returns-in-Some-first_entered c =
    let p = c.args.problem.now in
    let h = c.args.history.now in
    lost_from_outside p h c.args.period c.args.t c.in-Some-first_entered.spot (kept (goal.at.returns-in-Some-first_entered c).After-course_of-course)
    (c.in_default.ensures ∙ ap (λ (course : Course). first (flat_map (lost_of p.rule h) (all_leaving course p.posed.height p.posed.width))) c.course_of-course.ensures.course)
    (c.in-Some-first_entered.ensures ∙ ap (λ (course : Course). first (flat_map (lost_of p.rule h) (all_entering course p.posed.height p.posed.width))) c.course_of-course.ensures.course)

pub returns-in-None : goal.returns-in-None
returns-in-None c =
    let p = c.args.problem.now in
    let h = c.args.history.now in
    nothing_lost p h c.args.period c.args.t (kept (goal.at.returns-in-None c).After-course_of-course)
    (c.in_default.ensures ∙ ap (λ (course : Course). first (flat_map (lost_of p.rule h) (all_leaving course p.posed.height p.posed.width))) c.course_of-course.ensures.course)
    (c.in-None.ensures ∙ ap (λ (course : Course). first (flat_map (lost_of p.rule h) (all_entering course p.posed.height p.posed.width))) c.course_of-course.ensures.course)
