use Rattle.std.proofs.Common.{◌≡◌, List, Ok, length, map, set, refl, sym, ap, ◌∙◌, subst, arith}
use Rattle.std.specs.Prelude.{All, IfSome, slice_get}
use Rattle.std.specs.Vec.{with_item, with_items}
use Rattle.std.proofs.lemmas.List.{length-map, with_items_is}
use Rattle.lls_solver.specs.Searching.{SearcherState, IsSearching}
use Rattle.lls_solver.specs.Sharing.{IsBehind}
use Rattle.lls_crew.specs.declared.stage.Stage.{Stage}
use Rattle.lls_crew.specs.declared.stage.Stage.TheVariants.{Going, Ended, Failed}
use Rattle.lls_crew.specs.Forgetting.{Forgets, ids_in}
use Rattle.lls_crew.specs.Crew.{CrewState, IsCrew, IsCrewOf, Learns, Stops, crew_of}
use Rattle.lls_crew.proofs.Deletions.{place_set}
use Rattle.lls_crew.proofs.TurnsTaken.{crew_is, crew_learnt, crew_ended, crew_failed, crew_forgot, crew_stuck, learns_seen, ended_seen, failed_seen, stuck_seen}
use Rattle.lls_crew.proofs.searchers.Crew.turn.Goals as goal

pub returns-in-Ended-clause-crew : goal.returns-in-Ended-clause-crew
returns-in-Ended-clause-crew c =
    let i = c.self.inside in
    subst IsCrew c.self.view_is (crew_is i.formula.now i.budget i.keep_all i.searchers.items i.log.steps i.live.items i.stage c.self.invariant)

pub returns-in-Failed-clause-crew : goal.returns-in-Failed-clause-crew
returns-in-Failed-clause-crew c =
    let i = c.self.inside in
    subst IsCrew c.self.view_is (crew_is i.formula.now i.budget i.keep_all i.searchers.items i.log.steps i.live.items i.stage c.self.invariant)

pub forget-requires-clause-searching : goal.forget-requires-clause-searching
forget-requires-clause-searching c =
    let i = c.self.inside in
    let items = i.searchers.items in
    let old = i.log.steps in
    let middle = c.take_turn.new.log.steps in
    let s = c.take_turn.new.searcher in
    let came = c.in-Ok-None.is ∙ ap Ok c.in-Ok-None.field-0-is in
    let learnt = c.take_turn.ensures.learnt came in
    let P : SearcherState → Type 0 = λ x. IsSearching i.formula.now middle x.store x.trail in
    let many : length c.args.self.now.held ≡ length items = ap (λ (crew : CrewState). length crew.held) (sym c.self.view_is) ∙ length-map items ids_in in
    subst (λ (xs : List SearcherState). IfSome (slice_get xs c.args.k) P) (sym c.deref_mut.ensures.value) (place_set P items c.args.k s (omega (arith, many, c.requires)) learnt.searching)

pub forget-requires-clause-behind : goal.forget-requires-clause-behind
forget-requires-clause-behind c =
    let i = c.self.inside in
    let items = i.searchers.items in
    let old = i.log.steps in
    let middle = c.take_turn.new.log.steps in
    let s = c.take_turn.new.searcher in
    let came = c.in-Ok-None.is ∙ ap Ok c.in-Ok-None.field-0-is in
    let learnt = c.take_turn.ensures.learnt came in
    let h = subst (IsCrewOf i.formula.now i.budget i.keep_all items old i.live.items) c.in-Going.is c.self.invariant in
    let on = crew_learnt i.formula.now i.budget i.keep_all items old middle i.live.items h c.take_turn.ensures.grown c.args.k s c.take_turn.new.live.items learnt (c.take_turn.ensures.live came) in
    subst (All (λ (x : SearcherState). IsBehind i.formula.now middle x.store x.trail)) (sym c.deref_mut.ensures.value) (on.behind refl)

pub invariant_of-self : goal.invariant_of-self
invariant_of-self c =
    let i = c.self.inside in
    let old = i.log.steps in
    let h = subst (IsCrewOf i.formula.now i.budget i.keep_all i.searchers.items old i.live.items) c.in-Going.is c.self.invariant in
    let right = c.take_turn.ensures.ended c.in-Ok-Some.outcome i.keep_all h.log.1 (c.in-Ok-Some.is ∙ ap Ok c.in-Ok-Some.field-0-is) in
    crew_ended i.formula.now i.budget i.keep_all i.searchers.items old c.take_turn.new.log.steps i.live.items h c.take_turn.ensures.grown c.args.k c.take_turn.new.searcher c.take_turn.new.live.items c.in-Ok-Some.outcome c.take_turn.ensures.first right

pub invariant_of-self-in-Err : goal.invariant_of-self-in-Err
invariant_of-self-in-Err c =
    let i = c.self.inside in
    let old = i.log.steps in
    let h = subst (IsCrewOf i.formula.now i.budget i.keep_all i.searchers.items old i.live.items) c.in-Going.is c.self.invariant in
    crew_failed i.formula.now i.budget i.keep_all i.searchers.items old c.take_turn.new.log.steps i.live.items h c.take_turn.ensures.grown c.args.k c.take_turn.new.searcher c.take_turn.new.live.items c.take_turn.ensures.first c.in-Err.ensures.err

pub invariant_of-self-in-Ok : goal.invariant_of-self-in-Ok
invariant_of-self-in-Ok c =
    let i = c.self.inside in
    let items = i.searchers.items in
    let old = i.log.steps in
    let middle = c.take_turn.new.log.steps in
    let s = c.take_turn.new.searcher in
    let came = c.in-Ok-None.is ∙ ap Ok c.in-Ok-None.field-0-is in
    let learnt = c.take_turn.ensures.learnt came in
    let h = subst (IsCrewOf i.formula.now i.budget i.keep_all items old i.live.items) c.in-Going.is c.self.invariant in
    let on = crew_learnt i.formula.now i.budget i.keep_all items old middle i.live.items h c.take_turn.ensures.grown c.args.k s c.take_turn.new.live.items learnt (c.take_turn.ensures.live came) in
    let new = c.forget.new.log.steps in
    let left = c.forget.new.searchers in
    let value = c.deref_mut.ensures.value in
    let same = with_items_is (with_item i.searchers c.args.k s) left (c.forget.auto.searchers ∙ c.deref_mut.ensures.len) in
    let forgets = subst (λ (xs : List SearcherState). Forgets i.formula.now i.keep_all middle new (map ids_in xs) (map ids_in left)) value c.forget.ensures.forgets in
    let then = crew_forgot i.formula.now i.budget i.keep_all (set items c.args.k s) left middle new c.take_turn.new.live.items c.forget.new.live.items on forgets c.forget.ensures.behind c.forget.ensures.good c.forget.ensures.live in
    subst (λ (xs : List SearcherState). IsCrewOf i.formula.now i.budget i.keep_all xs new c.forget.new.live.items i.stage) (sym same)
    (subst (IsCrewOf i.formula.now i.budget i.keep_all left new c.forget.new.live.items) (sym c.in-Going.is) then)

pub invariant_of-self-in-Err-forget : goal.invariant_of-self-in-Err-forget
invariant_of-self-in-Err-forget c =
    let i = c.self.inside in
    let items = i.searchers.items in
    let old = i.log.steps in
    let middle = c.take_turn.new.log.steps in
    let s = c.take_turn.new.searcher in
    let came = c.in-Ok-None.is ∙ ap Ok c.in-Ok-None.field-0-is in
    let learnt = c.take_turn.ensures.learnt came in
    let h = subst (IsCrewOf i.formula.now i.budget i.keep_all items old i.live.items) c.in-Going.is c.self.invariant in
    let on = crew_learnt i.formula.now i.budget i.keep_all items old middle i.live.items h c.take_turn.ensures.grown c.args.k s c.take_turn.new.live.items learnt (c.take_turn.ensures.live came) in
    let new = c.forget.new.log.steps in
    let left = c.forget.new.searchers in
    let value = c.deref_mut.ensures.value in
    let same = with_items_is (with_item i.searchers c.args.k s) left (c.forget.auto.searchers ∙ c.deref_mut.ensures.len) in
    let stuck = crew_stuck i.formula.now i.budget i.keep_all (set items c.args.k s) left middle new c.take_turn.new.live.items c.forget.new.live.items on (c.in-Err-forget.ensures.err_searchers ∙ value) c.in-Err-forget.ensures.err in
    subst (λ (xs : List SearcherState). IsCrewOf i.formula.now i.budget i.keep_all xs new c.forget.new.live.items Failed) (sym same) stuck

pub returns-in-Ok-clause-going : goal.returns-in-Ok-clause-going
returns-in-Ok-clause-going c = λ _.
    let i = c.self.inside in
    let items = i.searchers.items in
    let old = i.log.steps in
    let middle = c.take_turn.new.log.steps in
    let s = c.take_turn.new.searcher in
    let came = c.in-Ok-None.is ∙ ap Ok c.in-Ok-None.field-0-is in
    let learnt = c.take_turn.ensures.learnt came in
    let new = c.forget.new.log.steps in
    let left = c.forget.new.searchers in
    let value = c.deref_mut.ensures.value in
    let same = with_items_is (with_item i.searchers c.args.k s) left (c.forget.auto.searchers ∙ c.deref_mut.ensures.len) in
    let forgets = subst (λ (xs : List SearcherState). Forgets i.formula.now i.keep_all middle new (map ids_in xs) (map ids_in left)) value c.forget.ensures.forgets in
    let learns = learns_seen i.formula.now i.budget i.keep_all items left old middle new c.args.k s learnt forgets in
    let seen : Stage → CrewState → Type 0 = λ stage before. Learns before (crew_of i.formula.now i.budget i.keep_all (with_items (with_item i.searchers c.args.k s) left).items new stage) c.args.k in
    let still : seen Going (crew_of i.formula.now i.budget i.keep_all items old Going) =
    subst (λ (xs : List SearcherState). Learns (crew_of i.formula.now i.budget i.keep_all items old Going) (crew_of i.formula.now i.budget i.keep_all xs new Going) c.args.k) (sym same) learns
    in
    subst (seen i.stage) c.self.view_is (subst (λ (stage : Stage). seen stage (crew_of i.formula.now i.budget i.keep_all items old stage)) (sym c.in-Going.is) still)

pub returns-in-Ok-clause-crew : goal.returns-in-Ok-clause-crew
returns-in-Ok-clause-crew c =
    let i = c.self.inside in
    let items = i.searchers.items in
    let old = i.log.steps in
    let middle = c.take_turn.new.log.steps in
    let s = c.take_turn.new.searcher in
    let came = c.in-Ok-None.is ∙ ap Ok c.in-Ok-None.field-0-is in
    let learnt = c.take_turn.ensures.learnt came in
    let h = subst (IsCrewOf i.formula.now i.budget i.keep_all items old i.live.items) c.in-Going.is c.self.invariant in
    let on = crew_learnt i.formula.now i.budget i.keep_all items old middle i.live.items h c.take_turn.ensures.grown c.args.k s c.take_turn.new.live.items learnt (c.take_turn.ensures.live came) in
    let new = c.forget.new.log.steps in
    let left = c.forget.new.searchers in
    let value = c.deref_mut.ensures.value in
    let same = with_items_is (with_item i.searchers c.args.k s) left (c.forget.auto.searchers ∙ c.deref_mut.ensures.len) in
    let forgets = subst (λ (xs : List SearcherState). Forgets i.formula.now i.keep_all middle new (map ids_in xs) (map ids_in left)) value c.forget.ensures.forgets in
    let then = crew_forgot i.formula.now i.budget i.keep_all (set items c.args.k s) left middle new c.take_turn.new.live.items c.forget.new.live.items on forgets c.forget.ensures.behind c.forget.ensures.good c.forget.ensures.live in
    subst (λ (stage : Stage). IsCrew (crew_of i.formula.now i.budget i.keep_all (with_items (with_item i.searchers c.args.k s) left).items new stage)) (sym c.in-Going.is)
    (subst (λ (xs : List SearcherState). IsCrew (crew_of i.formula.now i.budget i.keep_all xs new Going)) (sym same) (crew_is i.formula.now i.budget i.keep_all left new c.forget.new.live.items Going then))

pub returns-in-Err-forget-clause-stops : goal.returns-in-Err-forget-clause-stops
returns-in-Err-forget-clause-stops c = λ _ _.
    let i = c.self.inside in
    let items = i.searchers.items in
    let old = i.log.steps in
    let middle = c.take_turn.new.log.steps in
    let s = c.take_turn.new.searcher in
    let came = c.in-Ok-None.is ∙ ap Ok c.in-Ok-None.field-0-is in
    let learnt = c.take_turn.ensures.learnt came in
    let new = c.forget.new.log.steps in
    let left = c.forget.new.searchers in
    let value = c.deref_mut.ensures.value in
    let same = with_items_is (with_item i.searchers c.args.k s) left (c.forget.auto.searchers ∙ c.deref_mut.ensures.len) in
    let stuck = stuck_seen i.formula.now i.budget i.keep_all items left old middle new c.args.k s learnt (c.in-Err-forget.ensures.err_searchers ∙ value) c.in-Err-forget.ensures.err in
    let next = crew_of i.formula.now i.budget i.keep_all (with_items (with_item i.searchers c.args.k s) left).items new Failed in
    let still : Stops (crew_of i.formula.now i.budget i.keep_all items old Going) next c.args.k =
    subst (λ (xs : List SearcherState). Stops (crew_of i.formula.now i.budget i.keep_all items old Going) (crew_of i.formula.now i.budget i.keep_all xs new Failed) c.args.k) (sym same) stuck
    in
    subst (λ (v : CrewState). Stops v next c.args.k) c.self.view_is
    (subst (λ (stage : Stage). Stops (crew_of i.formula.now i.budget i.keep_all items old stage) next c.args.k) (sym c.in-Going.is) still)

pub returns-in-Err-forget-clause-crew : goal.returns-in-Err-forget-clause-crew
returns-in-Err-forget-clause-crew c =
    let i = c.self.inside in
    let items = i.searchers.items in
    let old = i.log.steps in
    let middle = c.take_turn.new.log.steps in
    let s = c.take_turn.new.searcher in
    let came = c.in-Ok-None.is ∙ ap Ok c.in-Ok-None.field-0-is in
    let learnt = c.take_turn.ensures.learnt came in
    let h = subst (IsCrewOf i.formula.now i.budget i.keep_all items old i.live.items) c.in-Going.is c.self.invariant in
    let on = crew_learnt i.formula.now i.budget i.keep_all items old middle i.live.items h c.take_turn.ensures.grown c.args.k s c.take_turn.new.live.items learnt (c.take_turn.ensures.live came) in
    let new = c.forget.new.log.steps in
    let left = c.forget.new.searchers in
    let value = c.deref_mut.ensures.value in
    let same = with_items_is (with_item i.searchers c.args.k s) left (c.forget.auto.searchers ∙ c.deref_mut.ensures.len) in
    let stuck = crew_stuck i.formula.now i.budget i.keep_all (set items c.args.k s) left middle new c.take_turn.new.live.items c.forget.new.live.items on (c.in-Err-forget.ensures.err_searchers ∙ value) c.in-Err-forget.ensures.err in
    subst (λ (xs : List SearcherState). IsCrew (crew_of i.formula.now i.budget i.keep_all xs new Failed)) (sym same) (crew_is i.formula.now i.budget i.keep_all left new c.forget.new.live.items Failed stuck)

pub returns-in-Ok-Some-clause-stops : goal.returns-in-Ok-Some-clause-stops
returns-in-Ok-Some-clause-stops c = λ _ _.
    let i = c.self.inside in
    let old = i.log.steps in
    let new = c.take_turn.new.log.steps in
    let s = c.take_turn.new.searcher in
    let items = set i.searchers.items c.args.k s in
    let came = c.in-Ok-Some.is ∙ ap Ok c.in-Ok-Some.field-0-is in
    let whole = c.take_turn.ensures.whole c.in-Ok-Some.outcome came in
    let added = c.take_turn.ensures.added c.in-Ok-Some.outcome came in
    let next = crew_of i.formula.now i.budget i.keep_all items new (Ended c.in-Ok-Some.outcome) in
    subst (λ (v : CrewState). Stops v next c.args.k) c.self.view_is
    (subst (λ (stage : Stage). Stops (crew_of i.formula.now i.budget i.keep_all i.searchers.items old stage) next c.args.k) (sym c.in-Going.is)
    (ended_seen i.formula.now i.budget i.keep_all i.searchers.items old new c.in-Ok-Some.outcome c.args.k s c.take_turn.ensures.grown whole added))

pub returns-in-Ok-Some-clause-crew : goal.returns-in-Ok-Some-clause-crew
returns-in-Ok-Some-clause-crew c =
    let i = c.self.inside in
    let old = i.log.steps in
    let new = c.take_turn.new.log.steps in
    let s = c.take_turn.new.searcher in
    let h = subst (IsCrewOf i.formula.now i.budget i.keep_all i.searchers.items old i.live.items) c.in-Going.is c.self.invariant in
    let right = c.take_turn.ensures.ended c.in-Ok-Some.outcome i.keep_all h.log.1 (c.in-Ok-Some.is ∙ ap Ok c.in-Ok-Some.field-0-is) in
    crew_is i.formula.now i.budget i.keep_all (set i.searchers.items c.args.k s) new c.take_turn.new.live.items (Ended c.in-Ok-Some.outcome)
    (crew_ended i.formula.now i.budget i.keep_all i.searchers.items old new i.live.items h c.take_turn.ensures.grown c.args.k s c.take_turn.new.live.items c.in-Ok-Some.outcome c.take_turn.ensures.first right)

pub returns-in-Err-clause-stops : goal.returns-in-Err-clause-stops
returns-in-Err-clause-stops c = λ _ _.
    let i = c.self.inside in
    let old = i.log.steps in
    let new = c.take_turn.new.log.steps in
    let s = c.take_turn.new.searcher in
    let next = crew_of i.formula.now i.budget i.keep_all (set i.searchers.items c.args.k s) new Failed in
    subst (λ (v : CrewState). Stops v next c.args.k) c.self.view_is
    (subst (λ (stage : Stage). Stops (crew_of i.formula.now i.budget i.keep_all i.searchers.items old stage) next c.args.k) (sym c.in-Going.is)
    (failed_seen i.formula.now i.budget i.keep_all i.searchers.items old new c.args.k s c.in-Err.ensures.err))

pub returns-in-Err-clause-crew : goal.returns-in-Err-clause-crew
returns-in-Err-clause-crew c =
    let i = c.self.inside in
    let old = i.log.steps in
    let new = c.take_turn.new.log.steps in
    let s = c.take_turn.new.searcher in
    let h = subst (IsCrewOf i.formula.now i.budget i.keep_all i.searchers.items old i.live.items) c.in-Going.is c.self.invariant in
    crew_is i.formula.now i.budget i.keep_all (set i.searchers.items c.args.k s) new c.take_turn.new.live.items Failed
    (crew_failed i.formula.now i.budget i.keep_all i.searchers.items old new i.live.items h c.take_turn.ensures.grown c.args.k s c.take_turn.new.live.items c.take_turn.ensures.first c.in-Err.ensures.err)
