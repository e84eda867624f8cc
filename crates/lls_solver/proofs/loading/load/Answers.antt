use Rattle.std.proofs.Common.{◌≡◌, ◌+◌, ◌++◌, ◌∷◌, [], ℕ, length, take, sym, ap, ◌∙◌, subst, arith}
use Rattle.std.proofs.lemmas.List.{take_all}
use Rattle.std.proofs.lemmas.List.FromFn.{length-enumerate_from}
use Rattle.lls_prooflog.specs.UnitWalk.{Live, numbered}
use Rattle.lls_store.specs.Trail.{TrailState}
use Rattle.lls_store.specs.Sound.{IsSound}
use Rattle.lls_store.specs.Store.{StoreState, with_clause}
use Rattle.lls_solver.specs.Searching.{HoldsClauses}
use Rattle.lls_solver.proofs.Clauses.{holds_none, holds_push, next_id, take-numbered, sound_empty}
use Rattle.lls_solver.proofs.loading.load.Goals as goal

pub loop-k-init : goal.loop-k-init
loop-k-init g c =
    let s = g.S.Store.state c.args.store.now in
    record {
      holds = rw c.requires.store (holds_none c.args.formula.now.vars);
      tail = ap (λ (x : StoreState). x.tail) c.requires.store;
      tracked = c.requires.tracked;
      sound = subst (λ (t : TrailState). IsSound s.live t) (sym c.requires.trail) (sound_empty s.live c.args.formula.now.vars);
    }

pub add-requires-clause-id : goal.add-requires-clause-id
add-requires-clause-id g c =
    let pairs = numbered c.args.formula.now.clauses in
    next_id (g.S.Store.state c.loop-k.store) c.args.formula.now.vars (take c.loop-k.k pairs) c.loop-k.k c.loop-k.invariant.holds (omega (arith, c.loop-k-test.true, c.len-k-end.ensures.most))

pub loop-k-preserved : goal.loop-k-preserved
loop-k-preserved g c =
    let s = g.S.Store.state c.loop-k.store in
    let clauses = c.args.formula.now.clauses in
    let clause = c.clause.result.now in
    let pairs = numbered clauses in
    let id : 1 + c.loop-k.k ≡ c.loop-k.k + 1 = omega arith in
    let more : take (c.loop-k.k + 1) pairs ≡ take c.loop-k.k pairs ++ (c.loop-k.k + 1, clause) ∷ [] =
    take-numbered clauses 1 c.loop-k.k clause c.clause.ensures.value ∙ ap (λ (n : ℕ). take c.loop-k.k pairs ++ (n, clause) ∷ []) id
    in
    record {
      holds = subst (λ (x : StoreState). HoldsClauses x c.args.formula.now.vars (take (c.loop-k.k + 1) pairs) (c.loop-k.k + 1)) (sym c.in_ok-add.ensures.ok)
          (subst (λ (ps : Live). HoldsClauses (with_clause s (c.loop-k.k + 1) clause) c.args.formula.now.vars ps (c.loop-k.k + 1)) (sym more) (holds_push s c.args.formula.now.vars (take c.loop-k.k pairs) c.loop-k.k clause c.loop-k.invariant.holds));
      tail = ap (λ (x : StoreState). x.tail) c.in_ok-add.ensures.ok ∙ c.loop-k.invariant.tail;
      tracked = c.in_ok-add.ensures.tracked;
      sound = c.in_ok-add.ensures.sound;
    }

pub returns-clause-holds : goal.returns-clause-holds
returns-clause-holds g c =
    let pairs = numbered c.args.formula.now.clauses in
    let all : take c.loop-k.k pairs ≡ pairs = take_all c.loop-k.k pairs (omega (arith, length-enumerate_from 1 c.args.formula.now.clauses, c.loop-k-test.false, c.len-k-end.ensures.len)) in
    let last : c.loop-k.k ≡ length c.args.formula.now.clauses = omega (arith, c.loop-k-test.false, c.len-k-end.ensures.len) in
    subst (λ (n : ℕ). HoldsClauses (g.S.Store.state c.loop-k.store) c.args.formula.now.vars pairs n) last (subst (λ (ps : Live). HoldsClauses (g.S.Store.state c.loop-k.store) c.args.formula.now.vars ps c.loop-k.k) all c.loop-k.invariant.holds)
