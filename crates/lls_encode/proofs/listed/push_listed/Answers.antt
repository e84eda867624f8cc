use Rattle.std.proofs.Common.{◌≡◌, ◌≤◌, ◌∙◌, length, take, map, ap, arith}
use Rattle.std.proofs.lemmas.List.{take_all}
use Rattle.lls_cnf.proofs.Within.{is_within-more}
use Rattle.lls_lit.specs.Formula.{Cnf}
use Rattle.lls_problem.specs.declared.demands.Demands.{Demands}
use Rattle.lls_encode.specs.Formula.{unlike}
use Rattle.lls_transition.specs.Clause.{with_clauses}
use Rattle.lls_encode.proofs.Unlisted.{listed_more, listed_room, listed_size}
use Rattle.lls_encode.proofs.listed.push_listed.Goals as goal

pub push-requires-clause-within : goal.push-requires-clause-within
push-requires-clause-within c =
    let cells = c.args.problem.now.posed.cells in
    let vars : length cells ≤ c.loop-pattern.formula.vars = omega (arith, c.requires.vars, ap (λ (f : Cnf). f.vars) c.loop-pattern.invariant) in
    rw c.deref.ensures.value (is_within-more (length cells) c.loop-pattern.formula.vars c.in_ok-clause.clause.items vars c.in_ok-clause.ensures.within)

pub push-requires-clause-room : goal.push-requires-clause-room
push-requires-clause-room c =
    let patterns = c.items-pattern-items.result.now in
    let is : patterns ≡ c.args.problem.now.demands.listed = c.items-pattern-items.ensures ∙ ap (λ (d : Demands). d.listed) c.demands.ensures.value in
    let few : length patterns ≤ 1000000 = omega (arith, ap length is, c.demands.ensures.kept.listed.few) in
    let room = listed_room c.args.problem.now c.args.formula.now c.loop-pattern.formula patterns c.loop-pattern.pattern-index c.loop-pattern-test.true c.loop-pattern.invariant few c.requires.room in
    omega (arith, room)

pub loop-pattern-preserved : goal.loop-pattern-preserved
loop-pattern-preserved c =
    listed_more c.args.problem.now c.args.formula.now c.loop-pattern.formula c.push.new.self c.items-pattern-items.result.now c.loop-pattern.pattern-index c.pattern-item.result c.deref.result.now
    c.loop-pattern-test.true c.loop-pattern.invariant c.in_ok-push.ensures.ok
    (c.deref.ensures.value ∙ c.in_ok-clause.ensures.clause ∙ ap (unlike c.args.problem.now) (c.cells.ensures ∙ c.pattern-item.is))

pub unlike-requires : goal.unlike-requires
unlike-requires c =
    let patterns = c.items-pattern-items.result.now in
    let is : patterns ≡ c.args.problem.now.demands.listed = c.items-pattern-items.ensures ∙ ap (λ (d : Demands). d.listed) c.demands.ensures.value in
    ap length (c.cells.ensures ∙ c.pattern-item.is)
    ∙ listed_size c.args.problem.now patterns c.loop-pattern.pattern-index c.pattern-item.result is c.demands.ensures.kept.listed c.loop-pattern-test.true

pub returns : goal.returns
returns c =
    let p = c.args.problem.now in
    let patterns = c.items-pattern-items.result.now in
    let is : patterns ≡ p.demands.listed = c.items-pattern-items.ensures ∙ ap (λ (d : Demands). d.listed) c.demands.ensures.value in
    let all : take c.loop-pattern.pattern-index patterns ≡ p.demands.listed = take_all c.loop-pattern.pattern-index patterns c.loop-pattern-test.false ∙ is in
    c.loop-pattern.invariant ∙ ap (λ ps. with_clauses c.args.formula.now (map (unlike p) ps)) all
