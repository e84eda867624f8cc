use Rattle.std.proofs.Common.{◌≡◌, ◌<◌, ℕ, List, [], Option, Some, None, refl, sym, ap, subst, ◌∙◌, arith}
use Rattle.std.specs.Prelude.{Contains, slice_index_or}
use Rattle.std.proofs.lemmas.List.Elements.{All-contains}
use Rattle.lls_prooflog.specs.Log.{Logged}
use Rattle.lls_prooflog.specs.declared.step.Step.{Step}
use Rattle.lls_store.specs.Trail.{TrailState, Entry}
use Rattle.lls_store.specs.Clauses.{LiveClause, clause_numbered}
use Rattle.lls_store.specs.Removal.{IsNoReason, all_but}
use Rattle.lls_store.specs.Store.{StoreState}
use Rattle.lls_store.proofs.Live.{clause_numbered-contained}
use Rattle.lls_analyse.proofs.LiveClauses.{IsSome-from}
use Rattle.lls_lemmas.specs.Lemmas.{DropsTautology, GoesOnBy, KeepsPlain}
use Rattle.lls_lemmas.specs.Units.{IsAtRest}
use Rattle.lls_lemmas.proofs.Dropping.{drops_one, keeps_others, not_left}
use Rattle.lls_lemmas.proofs.Indexing.{below}
use Rattle.lls_lemmas.proofs.Loaded.{none_in-replicate}
use Rattle.lls_lemmas.proofs.Logs.{well-none, well-then}
use Rattle.lls_lemmas.proofs.Without.{of_all_but}
use Rattle.lls_lemmas.proofs.loading.drop_tautologies.Goals.{then-is_tautology_at+in_ok-delete_clause, else-is_tautology_at}
use Rattle.lls_lemmas.proofs.loading.drop_tautologies.Goals as goal

pub loop-number-init : goal.loop-number-init
loop-number-init g c = record {
  rest = c.requires.rest;
  plain = λ clause inside lt. absurd (omega (arith, lt));
  of = λ clause inside. inside;
  drops = well-none DropsTautology c.args.formula.now c.args.log.now.steps;
  keeps = λ id clause found plain. found;
  count = refl;
  tracked = c.requires.tracked;
  vars = refl;
}

pub delete_clause-requires-clause-is_live : goal.delete_clause-requires-clause-is_live
delete_clause-requires-clause-is_live g c =
    let at = c.if-is_tautology_at.ensures.is refl in
    IsSome-from (clause_numbered (g.S.Store.state c.loop-number.store).live c.loop-number.number) at.has.clause at.has.is_live

pub delete_clause-requires-clause-free : goal.delete_clause-requires-clause-free
delete_clause-requires-clause-free g c =
    let t = c.args.trail.now in
    let vars = t.vars in
    let k = c.loop-number.number in
    let none : t.entries ≡ [] = ap (λ (x : TrailState). x.entries) c.requires.trail in
    let P : List Entry → Type 0 = λ es. IsNoReason es k in
    record {
      no_reason = subst P (sym none) (λ i d lt. absurd (omega (arith, lt)));
      no_unit = λ clause found i id is.
          let clash : None ≡ Some id = sym (none_in-replicate vars i) ∙ ap (λ (us : List (Option ℕ)). slice_index_or us i None) (sym c.requires.none) ∙ is in
          absurd cc;
    }

pub loop-number-preserved : goal.loop-number-preserved
loop-number-preserved g c =
    let i = c.loop-number.invariant in
    let formula = c.args.formula.now in
    let k = c.loop-number.number in
    let s = g.S.Store.state c.loop-number.store in
    elim c.if-is_tautology_at.branch [
      | then-is_tautology_at+in_ok-delete_clause w ↦ (
          let e = w.in_ok-delete_clause.ensures in
          let at = w.if-is_tautology_at.ensures.is refl in
          let steps = ap (λ (l : Logged). l.steps) w.log-is in
          let deletes = e.deletes at.lits at.has in
          let middle = c.loop-number.log.steps in
          let R : List Step → Type 0 = λ ss. IsAtRest formula ss (g.S.Store.state w.delete_clause.new.store) c.args.trail.now c.args.units.now 0 c.args.last in
          let D : List Step → Type 0 = λ ss. GoesOnBy DropsTautology formula c.args.log.now.steps ss in
          let K : List Step → Type 0 = λ ss. KeepsPlain formula c.args.log.now.steps ss in
          let left : (clause : LiveClause) → Contains (g.S.Store.state c.if-is_tautology_at.store).live clause → Contains (all_but s.live k) clause = λ clause inside. subst (λ (x : StoreState). Contains x.live clause) (ap g.S.Store.state w.store-is ∙ e.state) inside in
          record {
            rest = subst (λ (x : _). IsAtRest formula c.if-is_tautology_at.log.steps (g.S.Store.state x) c.args.trail.now c.args.units.now 0 c.args.last) (sym w.store-is) (subst R (sym steps) w.delete_clause.ensures.rest);
            plain = λ clause inside lt. below clause.number k lt (λ less. i.plain clause (of_all_but s.live k clause (left clause inside)) less) (λ same. absurd (not_left s.live k clause (left clause inside) same));
            of = λ clause inside. i.of clause (of_all_but s.live k clause (left clause inside));
            drops = subst D (sym steps) (well-then DropsTautology formula c.args.log.now.steps middle w.delete_clause.new.log.steps i.drops (drops_one formula middle w.delete_clause.new.log.steps at.lits deletes at.tautology));
            keeps = subst K (sym steps) (λ id clause found plain. keeps_others formula middle w.delete_clause.new.log.steps at.lits deletes at.tautology id clause (i.keeps id clause found plain) plain);
            count = ap (λ (x : StoreState). x.count) (ap g.S.Store.state w.store-is ∙ e.state) ∙ i.count;
            tracked = subst (λ (x : _). g.S.Store.tracks x c.args.trail.now) (sym w.store-is) w.delete_clause.ensures.tracked;
            vars = c.is_tautology_at.ensures.vars ∙ i.vars;
          })
      | else-is_tautology_at w ↦ (
          let steps = ap (λ (l : Logged). l.steps) w.log-is in
          let R : List Step → Type 0 = λ ss. IsAtRest formula ss s c.args.trail.now c.args.units.now 0 c.args.last in
          let D : List Step → Type 0 = λ ss. GoesOnBy DropsTautology formula c.args.log.now.steps ss in
          let K : List Step → Type 0 = λ ss. KeepsPlain formula c.args.log.now.steps ss in
          let left : (clause : LiveClause) → Contains (g.S.Store.state c.if-is_tautology_at.store).live clause → Contains s.live clause = λ clause inside. subst (λ (x : StoreState). Contains x.live clause) (ap g.S.Store.state w.store-is) inside in
          record {
            rest = subst (λ (x : _). IsAtRest formula c.if-is_tautology_at.log.steps (g.S.Store.state x) c.args.trail.now c.args.units.now 0 c.args.last) (sym w.store-is) (subst R (sym steps) i.rest);
            plain = λ clause inside lt. below clause.number k lt (λ less. i.plain clause (left clause inside) less)
                (λ same. w.if-is_tautology_at.ensures.plain refl clause (ap (clause_numbered s.live) (sym same) ∙ clause_numbered-contained s.live clause c.is_tautology_at.ensures.live.numbers (left clause inside)));
            of = λ clause inside. i.of clause (left clause inside);
            drops = subst D (sym steps) i.drops;
            keeps = subst K (sym steps) i.keeps;
            count = ap (λ (x : StoreState). x.count) (ap g.S.Store.state w.store-is) ∙ i.count;
            tracked = subst (λ (x : _). g.S.Store.tracks x c.args.trail.now) (sym w.store-is) i.tracked;
            vars = c.is_tautology_at.ensures.vars ∙ i.vars;
          })
    ]

pub returns-clause-plain : goal.returns-clause-plain
returns-clause-plain g c = λ clause inside.
    let s = g.S.Store.state c.args.store.now in
    let given = All-contains (λ (x : LiveClause). x.number < s.count) s.live clause c.count-number-end.ensures.live.given (c.loop-number.invariant.of clause inside) in
    c.loop-number.invariant.plain clause inside (omega (arith, given, c.count-number-end.ensures.count, c.loop-number-test.false))
