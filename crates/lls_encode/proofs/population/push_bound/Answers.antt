use Rattle.std.proofs.Common.{◌≡◌, ◌∙◌, true, ap, sym, subst, arith}
use Rattle.lls_lit.specs.Formula.{Cnf, is_within}
use Rattle.lls_cardinality.specs.declared.counter.CounterVars.{CounterVars}
use Rattle.lls_problem.specs.Bounds.{top_end}
use Rattle.lls_encode.specs.Formula.{generation_size}
use Rattle.lls_encode.proofs.Steps.{on_ok}
use Rattle.lls_encode.proofs.LiveCells.{some_cells, is_within-generation_cells}
use Rattle.lls_encode.proofs.Ends.{end_counted}
use Rattle.lls_encode.proofs.Counters.{counter_of, bound_pushed, room_behind_counter, room_behind_low}
use Rattle.lls_encode.proofs.population.push_bound.Goals as goal

pub push_counter-requires-clause-within : goal.push_counter-requires-clause-within
push_counter-requires-clause-within c =
    let p = c.args.problem.now in
    subst (λ cells. is_within c.args.formula.now.vars cells ≡ true) (sym (c.deref.ensures.value ∙ c.in_ok-cells.ensures))
    (is_within-generation_cells p c.posed-posed.ensures.kept c.args.bound.generation c.args.formula.now.vars c.requires.generation c.requires.cells)

pub push_counter-requires-clause-most : goal.push_counter-requires-clause-most
push_counter-requires-clause-most c =
    let it = counter_of c.args.problem.now c.args.bound c.generation_size-size.result c.counter_top-top.result c.deref.result.now c.generation_size-size.ensures.size c.counter_top-top.ensures (c.deref.ensures.value ∙ c.in_ok-cells.ensures) in
    omega (arith, it.vars, c.requires.few)

pub push_counter-requires-clause-vars : goal.push_counter-requires-clause-vars
push_counter-requires-clause-vars c =
    let it = counter_of c.args.problem.now c.args.bound c.generation_size-size.result c.counter_top-top.result c.deref.result.now c.generation_size-size.ensures.size c.counter_top-top.ensures (c.deref.ensures.value ∙ c.in_ok-cells.ensures) in
    omega (arith, it.vars, c.requires.vars)

pub push_counter-requires-clause-room : goal.push_counter-requires-clause-room
push_counter-requires-clause-room c =
    let it = counter_of c.args.problem.now c.args.bound c.generation_size-size.result c.counter_top-top.result c.deref.result.now c.generation_size-size.ensures.size c.counter_top-top.ensures (c.deref.ensures.value ∙ c.in_ok-cells.ensures) in
    omega (arith, it.vars, c.requires.room)

pub push_low-requires-clause-some : goal.push_low-requires-clause-some
push_low-requires-clause-some c =
    let p = c.args.problem.now in
    let it = counter_of p c.args.bound c.generation_size-size.result c.counter_top-top.result c.deref.result.now c.generation_size-size.ensures.size c.counter_top-top.ensures (c.deref.ensures.value ∙ c.in_ok-cells.ensures) in
    let cells = ap (λ (counter : CounterVars). counter.cells) c.in_ok-counter.ensures.counter in
    omega (arith, cells, it.count, some_cells p c.posed-posed.ensures.kept)

pub push_low-requires-clause-vars : goal.push_low-requires-clause-vars
push_low-requires-clause-vars c =
    let it = counter_of c.args.problem.now c.args.bound c.generation_size-size.result c.counter_top-top.result c.deref.result.now c.generation_size-size.ensures.size c.counter_top-top.ensures (c.deref.ensures.value ∙ c.in_ok-cells.ensures) in
    let vars = ap (λ (f : Cnf). f.vars) c.in_ok-counter.ensures.pushed in
    omega (arith, vars, it.vars, c.requires.vars)

pub push_low-requires-clause-room : goal.push_low-requires-clause-room
push_low-requires-clause-room c =
    let p = c.args.problem.now in
    let it = counter_of p c.args.bound c.generation_size-size.result c.counter_top-top.result c.deref.result.now c.generation_size-size.ensures.size c.counter_top-top.ensures (c.deref.ensures.value ∙ c.in_ok-cells.ensures) in
    let room = room_behind_counter p c.posed-posed.ensures.kept c.args.bound c.counter_top-top.result c.deref.result.now c.args.formula.now c.push_counter.new.formula it c.if-top-eq0.false c.in_ok-counter.ensures.pushed c.requires.room in
    omega (arith, room)

pub push_high-requires-clause-some : goal.push_high-requires-clause-some
push_high-requires-clause-some c =
    let p = c.args.problem.now in
    let it = counter_of p c.args.bound c.generation_size-size.result c.counter_top-top.result c.deref.result.now c.generation_size-size.ensures.size c.counter_top-top.ensures (c.deref.ensures.value ∙ c.in_ok-cells.ensures) in
    let cells = ap (λ (counter : CounterVars). counter.cells) c.in_ok-counter.ensures.counter in
    omega (arith, cells, it.count, some_cells p c.posed-posed.ensures.kept)

pub push_high-requires-clause-high : goal.push_high-requires-clause-high
push_high-requires-clause-high c = λ less.
    let p = c.args.problem.now in
    let it = counter_of p c.args.bound c.generation_size-size.result c.counter_top-top.result c.deref.result.now c.generation_size-size.ensures.size c.counter_top-top.ensures (c.deref.ensures.value ∙ c.in_ok-cells.ensures) in
    let cells = ap (λ (counter : CounterVars). counter.cells) c.in_ok-counter.ensures.counter in
    let top = ap (λ (counter : CounterVars). counter.top) c.in_ok-counter.ensures.counter in
    let end : c.top_end.result ≡ top_end (generation_size p) c.args.bound = c.top_end.ensures ∙ ap (λ size. top_end size c.args.bound) c.generation_size-size.ensures.size in
    let counted = end_counted (generation_size p) c.args.bound c.requires.ordered (omega (arith, less, cells, it.count, end)) in
    omega (arith, counted, top, it.counts, end)

pub push_high-requires-clause-vars : goal.push_high-requires-clause-vars
push_high-requires-clause-vars c =
    let it = counter_of c.args.problem.now c.args.bound c.generation_size-size.result c.counter_top-top.result c.deref.result.now c.generation_size-size.ensures.size c.counter_top-top.ensures (c.deref.ensures.value ∙ c.in_ok-cells.ensures) in
    let vars = ap (λ (f : Cnf). f.vars) c.in_ok-counter.ensures.pushed in
    let same = ap (λ (f : Cnf). f.vars) c.in_ok-push_low.ensures in
    omega (arith, vars, same, it.vars, c.requires.vars)

pub push_high-requires-clause-room : goal.push_high-requires-clause-room
push_high-requires-clause-room c =
    let p = c.args.problem.now in
    let it = counter_of p c.args.bound c.generation_size-size.result c.counter_top-top.result c.deref.result.now c.generation_size-size.ensures.size c.counter_top-top.ensures (c.deref.ensures.value ∙ c.in_ok-cells.ensures) in
    let room = room_behind_counter p c.posed-posed.ensures.kept c.args.bound c.counter_top-top.result c.deref.result.now c.args.formula.now c.push_counter.new.formula it c.if-top-eq0.false c.in_ok-counter.ensures.pushed c.requires.room in
    room_behind_low _ _ _ _ c.push_counter.new.formula c.push_low.new.formula c.in_ok-push_low.ensures room

pub returns : goal.returns
returns c =
    let p = c.args.problem.now in
    let it = counter_of p c.args.bound c.generation_size-size.result c.counter_top-top.result c.deref.result.now c.generation_size-size.ensures.size c.counter_top-top.ensures (c.deref.ensures.value ∙ c.in_ok-cells.ensures) in
    let end : c.top_end.result ≡ top_end (generation_size p) c.args.bound = c.top_end.ensures ∙ ap (λ size. top_end size c.args.bound) c.generation_size-size.ensures.size in
    on_ok c.push_high.result _ _
    (bound_pushed p c.args.bound c.counter_top-top.result c.top_end.result c.deref.result.now c.in_ok-counter.counter c.args.formula.now c.push_counter.new.formula c.push_low.new.formula c.push_high.new.formula
    it.counts c.if-top-eq0.false end it.literals c.in_ok-counter.ensures.counter c.in_ok-counter.ensures.pushed c.in_ok-push_low.ensures)
    c.push_high.ensures
