use Rattle.std.proofs.Common.{◌+◌, Bool, List, length, get_or, ap, ◌∙◌, subst, arith}
use Rattle.std.proofs.lemmas.Bool.Decides.{nat_tests}
use Rattle.lls_solver.specs.Deletion.{MayGo, ids_marked}
use Rattle.lls_solver.specs.Searching.{SearcherState, additions, IsSearching}
use Rattle.lls_crew.proofs.Deletions.{at_place, count_behind}
use Rattle.lls_crew.proofs.forgetting.choose.Goals as goal

pub reasons_of-requires-clause-sound : goal.reasons_of-requires-clause-sound
reasons_of-requires-clause-sound c = λ k d lt. (c.requires.behind k d lt).on_course.sound

pub reasons_of-requires-clause-each : goal.reasons_of-requires-clause-each
reasons_of-requires-clause-each c = λ k d lt.
    let formula = c.args.formula.now in
    let steps = c.args.log.now.steps in
    let s = c.index-searchers-k.result in
    let searching = at_place (λ (x : SearcherState). IsSearching formula steps x.store x.trail) c.args.searchers.now c.args.k s c.requires.within c.index-searchers-k.is c.requires.searching in
    omega (arith, c.count.ensures.count, count_behind formula steps (get_or c.args.searchers.now k d) s.store (length formula.clauses + additions steps) searching.holds (c.requires.behind k d lt))

pub returns : goal.returns
returns c =
    let formula = c.args.formula.now in
    let steps = c.args.log.now.steps in
    let s = c.index-searchers-k.result in
    let searching = at_place (λ (x : SearcherState). IsSearching formula steps x.store x.trail) c.args.searchers.now c.args.k s c.requires.within c.index-searchers-k.is c.requires.searching in
    record {
      whole = s.store;
      reasons = c.in_ok-reasons.reasons.items;
      late = c.wants_to_forget.ensures c.if-not-wants_to_forget.false;
      live = c.count.ensures.live;
      holds = searching.holds;
      reasons_each = c.in_ok-reasons.ensures.len ∙ c.count.ensures.count;
      has_reasons = c.in_ok-reasons.ensures.reasons;
      marks_each = c.in_ok-marks.ensures.len;
      may_go = λ n is. subst (λ (rs : List Bool). MayGo s.store.live rs (length formula.clauses) n) c.deref.ensures.value (c.in_ok-marks.ensures.may_go n is);
      ids_are = c.in_ok-ids.ensures ∙ ap (λ (ms : List Bool). ids_marked ms s.store.live) c.deref-2.ensures.value;
      some = grind (arith, nat_tests);
    }
