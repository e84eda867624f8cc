use Rattle.std.proofs.Common.{rules, ◌≡◌, ◌+◌, ◌-◌, ℕ, length, take, refl, sym, ap, ◌∙◌, subst, arith}
use Rattle.lls_prooflog.specs.Spent.{live_after}
use Rattle.lls_prooflog.specs.Lent.{hints_of, ids_of}
use Rattle.lls_store.specs.Store.{StoreState}
use Rattle.lls_solver.specs.Searching.{additions, HoldsClauses}
use Rattle.lls_solver.specs.Sharing.{HoldsFirst}
use Rattle.lls_solver.proofs.Sharing.{counted, first_added, first_searching, holds_behind, lacks_next, live_most, no_deletion, number_within, searching_added}
use Rattle.lls_solver.proofs.catching_up.add_rest.Goals as goal

pub overflow_sub-from : goal.overflow_sub-from
overflow_sub-from g c = omega (arith, c.count.ensures.count, c.len.ensures.len, c.requires.behind.count, c.requires.behind.first.whole_formula)

pub loop-k-init : goal.loop-k-init
loop-k-init g c =
    let formula = c.args.formula.now in
    let steps = c.args.log.now.steps in
    let s = g.S.Store.state c.args.store.now in
    let from : s.count ≡ length formula.clauses + (c.count.result - c.len.result) = omega (arith, c.count.ensures.count, c.len.ensures.len, c.requires.behind.count, c.requires.behind.first.whole_formula) in
    record {
      holds = subst (λ (n : ℕ). HoldsClauses s formula.vars (take n (live_after formula steps)) (length formula.clauses + additions steps)) from (holds_behind formula steps s c.args.trail.now c.requires.good c.requires.behind);
      vars = search rules;
      tracked = c.requires.tracked;
      sound = c.requires.behind.on_course.sound;
      policy = c.requires.policy;
    }

pub lend-requires : goal.lend-requires
lend-requires g c = number_within c.args.formula.now c.args.log.now.steps c.args.live.now c.loop-k.k c.requires.live c.loop-k-test.true

pub add_clause-requires-clause-id : goal.add_clause-requires-clause-id
add_clause-requires-clause-id g c =
    let a = c.in-Add.addition in
    (lacks_next c.args.formula.now c.args.log.now.steps c.args.live.now (g.S.Store.state c.loop-k.store) c.loop-k.k _ a.id a.lits.now (hints_of a.hints) c.requires.good c.requires.live c.loop-k-test.true refl c.in-Add.ensures.step c.loop-k.invariant.holds (omega (arith, c.len.ensures.len, c.len.ensures.most, c.requires.few))).is_new

pub add_clause-requires-clause-within : goal.add_clause-requires-clause-within
add_clause-requires-clause-within g c =
    let a = c.in-Add.addition in
    (lacks_next c.args.formula.now c.args.log.now.steps c.args.live.now (g.S.Store.state c.loop-k.store) c.loop-k.k _ a.id a.lits.now (hints_of a.hints) c.requires.good c.requires.live c.loop-k-test.true refl c.in-Add.ensures.step c.loop-k.invariant.holds (omega (arith, c.len.ensures.len, c.len.ensures.most, c.requires.few))).within

pub add_clause-requires-clause-most : goal.add_clause-requires-clause-most
add_clause-requires-clause-most g c =
    let formula = c.args.formula.now in
    let steps = c.args.log.now.steps in
    let many = counted formula steps c.args.live.now (g.S.Store.state c.loop-k.store) c.loop-k.k (length formula.clauses + additions steps) c.requires.good c.requires.live (omega (arith, c.loop-k-test.true)) c.loop-k.invariant.holds in
    omega (arith, many, c.len.ensures.len, c.len.ensures.most, c.requires.few, c.loop-k-test.true, live_most formula steps c.args.live.now c.requires.good c.requires.live)

pub unreachable-requires : goal.unreachable-requires
unreachable-requires g c =
    no_deletion c.args.formula.now c.args.log.now.steps c.args.live.now c.loop-k.k _ (ids_of c.in-Del.field-0) c.requires.live c.loop-k-test.true refl c.in-Del.ensures.step

pub returns-in_err-add_clause-in-Add-clause-first : goal.returns-in_err-add_clause-in-Add-clause-first
returns-in_err-add_clause-in-Add-clause-first g c =
    let formula = c.args.formula.now in
    let steps = c.args.log.now.steps in
    let first = first_added formula steps c.args.live.now (g.S.Store.state c.loop-k.store) c.loop-k.k (length formula.clauses + additions steps) c.requires.good c.requires.live (omega (arith, c.loop-k-test.true)) c.loop-k.invariant.holds in
    subst (λ (s : StoreState). HoldsFirst formula steps s.live) (sym c.in_err-add_clause-in-Add.ensures.err) first

pub loop-k-preserved : goal.loop-k-preserved
loop-k-preserved g c =
    let formula = c.args.formula.now in
    let steps = c.args.log.now.steps in
    let s = g.S.Store.state c.loop-k.store in
    let a = c.in-Add.addition in
    let last = length formula.clauses + additions steps in
    let next = lacks_next formula steps c.args.live.now s c.loop-k.k _ a.id a.lits.now (hints_of a.hints) c.requires.good c.requires.live c.loop-k-test.true refl c.in-Add.ensures.step c.loop-k.invariant.holds (omega (arith, c.len.ensures.len, c.len.ensures.most, c.requires.few)) in
    let ok = c.in_ok-add_clause-in-Add.ensures.ok in
    record {
      holds = subst (λ (x : StoreState). HoldsClauses x formula.vars (take (length formula.clauses + (c.loop-k.k + 1)) (live_after formula steps)) last) (sym ok) next.more;
      vars = ap (λ (x : StoreState). x.vars) ok ∙ c.loop-k.invariant.vars;
      tracked = c.in_ok-add_clause-in-Add.ensures.tracked;
      sound = c.in_ok-add_clause-in-Add.ensures.sound;
      policy = c.in_ok-add_clause-in-Add.ensures.policy;
    }

pub returns-clause-searching : goal.returns-clause-searching
returns-clause-searching g c =
    searching_added c.args.formula.now c.args.log.now.steps c.args.live.now (g.S.Store.state c.loop-k.store) c.args.trail.now c.loop-k.k c.requires.good c.requires.live (omega (arith, c.loop-k-test.false)) c.loop-k.invariant.holds c.loop-k.invariant.sound c.requires.level

pub returns-clause-first : goal.returns-clause-first
returns-clause-first g c =
    let formula = c.args.formula.now in
    let steps = c.args.log.now.steps in
    let s = g.S.Store.state c.loop-k.store in
    first_searching formula steps s c.args.trail.now
    (searching_added formula steps c.args.live.now s c.args.trail.now c.loop-k.k c.requires.good c.requires.live (omega (arith, c.loop-k-test.false)) c.loop-k.invariant.holds c.loop-k.invariant.sound c.requires.level)
