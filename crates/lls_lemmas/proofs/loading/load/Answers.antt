use Rattle.std.proofs.Common.{◌≡◌, ◌≤◌, ◌+◌, ◌++◌, ◌∷◌, [], ℕ, length, take, sym, ap, ◌∙◌, subst, arith}
use Rattle.std.specs.Prelude.{Contains}
use Rattle.std.proofs.lemmas.List.{take_all}
use Rattle.std.proofs.lemmas.List.FromFn.{length-enumerate_from}
use Rattle.lls_lit.specs.Formula.{is_within}
use Rattle.lls_prooflog.specs.UnitWalk.{Live, numbered}
use Rattle.lls_prooflog.proofs.Soundness.{KeepsSatisfiable-numbered}
use Rattle.lls_store.specs.Trail.{TrailState}
use Rattle.lls_store.specs.Clauses.{LiveClause}
use Rattle.lls_store.specs.Sound.{IsSound}
use Rattle.lls_store.specs.Store.{StoreState, with_clause}
use Rattle.lls_analyse.specs.Spelled.{Spells}
use Rattle.lls_analyse.proofs.Gathering.{nothing_there}
use Rattle.lls_lemmas.proofs.Loaded.{ids_push, sound_empty, take-numbered, within_wider}
use Rattle.lls_lemmas.proofs.Logs.{spells-push}
use Rattle.lls_lemmas.proofs.loading.load.Goals as goal

pub loop-k-init : goal.loop-k-init
loop-k-init g c =
    let s = g.S.Store.state c.args.store.now in
    let vars = c.args.trail.now.vars in
    record {
      vars = ap (λ (x : StoreState). x.vars) c.requires.store;
      tail = ap (λ (x : StoreState). x.tail) c.requires.store;
      count = ap (λ (x : StoreState). x.count) c.requires.store;
      spelled = subst (λ (x : StoreState). Spells x.live []) (sym c.requires.store) tt;
      ids = λ clause inside. absurd (nothing_there clause (subst (λ (x : StoreState). Contains x.live clause) c.requires.store inside));
      tracked = c.requires.tracked;
      sound = subst (λ (t : TrailState). IsSound s.live t) (sym c.requires.trail) (sound_empty s.live vars);
    }

pub add-requires-clause-within : goal.add-requires-clause-within
add-requires-clause-within g c =
    ap (λ n. is_within n c.clause.result.now) c.loop-k.invariant.vars ∙ within_wider c.args.formula.now.vars c.args.trail.now.vars c.clause.result.now c.requires.vars c.clause.ensures.within

pub loop-k-preserved : goal.loop-k-preserved
loop-k-preserved g c =
    let i = c.loop-k.invariant in
    let s = g.S.Store.state c.loop-k.store in
    let clause = c.clause.result.now in
    let pairs = numbered c.args.formula.now.clauses in
    let id : 1 + c.loop-k.k ≡ c.loop-k.k + 1 = omega arith in
    let more : take (c.loop-k.k + 1) pairs ≡ take c.loop-k.k pairs ++ (c.loop-k.k + 1, clause) ∷ [] =
    take-numbered c.args.formula.now.clauses 1 c.loop-k.k clause c.clause.ensures.value ∙ ap (λ (n : ℕ). take c.loop-k.k pairs ++ (n, clause) ∷ []) id
    in
    let is = c.in_ok-add.ensures.ok in
    record {
      vars = ap (λ (x : StoreState). x.vars) is ∙ i.vars;
      tail = ap (λ (x : StoreState). x.tail) is ∙ i.tail;
      count = ap (λ (x : StoreState). x.count) is ∙ ap (λ n. n + 1) i.count;
      spelled = subst (λ (x : StoreState). Spells x.live (take (c.loop-k.k + 1) pairs)) (sym is)
          (subst (λ (ps : Live). Spells (with_clause s (c.loop-k.k + 1) clause).live ps) (sym more) (spells-push s.live (take c.loop-k.k pairs) s.count (c.loop-k.k + 1) clause i.spelled));
      ids = subst (λ (x : StoreState). (d : LiveClause) → Contains x.live d → d.id ≤ c.loop-k.k + 1) (sym is) (ids_push s c.loop-k.k clause i.ids);
      tracked = c.in_ok-add.ensures.tracked;
      sound = c.in_ok-add.ensures.sound;
    }

pub returns-clause-holds : goal.returns-clause-holds
returns-clause-holds g c =
    let i = c.loop-k.invariant in
    let pairs = numbered c.args.formula.now.clauses in
    let all : take c.loop-k.k pairs ≡ pairs = take_all c.loop-k.k pairs (omega (arith, length-enumerate_from 1 c.args.formula.now.clauses, c.loop-k-test.false, c.len-k-end.ensures.len)) in
    let last : c.loop-k.k ≡ length c.args.formula.now.clauses = omega (arith, c.loop-k-test.false, c.len-k-end.ensures.len) in
    record {
      no_tail = i.tail;
      rising = tt;
      most = omega arith;
      spelled = subst (λ (ps : Live). Spells (g.S.Store.state c.loop-k.store).live ps) all i.spelled;
      ids = λ clause inside. omega (arith, i.ids clause inside, last);
      kept = KeepsSatisfiable-numbered c.args.formula.now;
    }
