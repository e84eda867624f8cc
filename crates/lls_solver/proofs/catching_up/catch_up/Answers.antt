use Rattle.std.proofs.Common.{◌≡◌, sym, ap, ◌∙◌, subst, arith}
use Rattle.lls_store.specs.Trail.{TrailState}
use Rattle.lls_store.specs.Sound.{IsSound}
use Rattle.lls_solver.proofs.Sharing.{behind_back, length-live, live_most, searching_whole}
use Rattle.lls_solver.proofs.catching_up.catch_up.Goals as goal

pub overflow_add-len : goal.overflow_add-len
overflow_add-len g c = omega (arith, c.len.ensures.most, live_most c.args.formula.now c.args.log.now.steps c.args.live.now c.requires.good c.requires.live, c.requires.few)

pub returns-then-count-len-clause-searching : goal.returns-then-count-len-clause-searching
returns-then-count-len-clause-searching g c =
    let formula = c.args.formula.now in
    let steps = c.args.log.now.steps in
    searching_whole formula steps (g.S.Store.state c.args.store.now) c.args.course.now c.requires.good c.requires.behind
    (omega (arith, length-live formula steps c.args.live.now c.requires.good c.requires.live, c.count.ensures.count, c.len.ensures.len, c.if-count-len.true))

pub add_rest-requires-clause-behind : goal.add_rest-requires-clause-behind
add_rest-requires-clause-behind g c =
    let old = g.S.Store.state c.args.store.now in
    let level : c.course.inside.trail.current ≡ 0 = ap (λ (t : TrailState). t.current) (c.course.view_is ∙ c.go_back.ensures.cut) in
    behind_back c.args.formula.now c.args.log.now.steps old (g.S.Store.state c.go_back.new.store) c.args.course.now c.course.inside.trail c.requires.behind c.go_back.ensures.state (subst (IsSound old.live) (sym c.course.view_is) c.go_back.ensures.sound) level
