use Rattle.std.proofs.Common.{◌≡◌, ◌<◌, ap, sym, subst, ◌∙◌, arith, length, get_or}
use Rattle.std.specs.Prelude.{ℤ, List, IsSome}
use Rattle.lls_store.specs.Trail.{HasNegated, entry_of}
use Rattle.lls_analyse.proofs.Grown.{grown_false, grown_then, grown_vars, grown_seen, gives_way_still}
use Rattle.lls_analyse.proofs.Minimising.{rest_more, is_true}
use Rattle.lls_analyse.proofs.Valued.{false_has_value}
use Rattle.lls_analyse.proofs.minimise.follow_all.Goals as goal

pub loop-next-init : goal.loop-next-init
loop-next-init g c = record {
  same_vars = grown_vars c.args.trail.now.entries c.args.visited.now c.follow_others.new.visited c.follow_others.ensures.grown ∙ c.requires.vars;
  behind = omega (arith, ap (λ (ls : List ℤ). length ls) c.lits-next.ensures.lits);
  grown = c.follow_others.ensures.grown;
  first = c.follow_others.ensures.all (is_true c.follow_others.result c.if-not-follow_others.false);
  rest = λ k le lt. absurd (omega (arith, le, lt, ap (λ (ls : List ℤ). length ls) c.lits-next.ensures.lits));
}

pub returns-then-not-follow_others-2-clause-grown : goal.returns-then-not-follow_others-2-clause-grown
returns-then-not-follow_others-2-clause-grown g c = grown_then c.args.trail.now.entries c.args.visited.now c.loop-next.visited c.follow_others-in-loop-next.new.visited c.loop-next.invariant.grown c.follow_others-in-loop-next.ensures.grown

pub loop-next-preserved : goal.loop-next-preserved
loop-next-preserved g c =
    let live = (g.S.Store.state c.args.store.now).live in
    let es = c.args.trail.now.entries in
    let a = c.loop-next.visited in
    let b = c.follow_others-in-loop-next.new.visited in
    let grown = c.follow_others-in-loop-next.ensures.grown in
    let l = c.index-lits-next.result in
    let lt : c.loop-next.next < length a.lits = omega (arith, c.loop-next-test.true, ap (λ (ls : List ℤ). length ls) c.lits.ensures.lits) in
    let is : l ≡ get_or a.lits c.loop-next.next l = c.index-lits-next.is ∙ ap (λ (ls : List ℤ). get_or ls c.loop-next.next l) c.lits-in-loop-next.ensures.lits in
    record {
      same_vars = grown_vars es a b grown ∙ c.loop-next.invariant.same_vars;
      behind = omega (arith, c.loop-next.invariant.behind);
      grown = grown_then es c.args.visited.now a b c.loop-next.invariant.grown grown;
      first = λ m var. gives_way_still live es a.seen b.seen m (c.loop-next.invariant.first m var) (λ x seen. grown_seen es a b x grown seen);
      rest = rest_more live es a b (length c.args.visited.now.lits) c.loop-next.next l grown lt is c.loop-next.invariant.rest
          (λ m var. c.follow_others-in-loop-next.ensures.all (is_true c.follow_others-in-loop-next.result c.if-not-follow_others-2.false) m (var ∙ sym c.var-other.ensures.var));
    }

pub follow_others-requires-in-loop-next-clause-has_value : goal.follow_others-requires-in-loop-next-clause-has_value
follow_others-requires-in-loop-next-clause-has_value g c =
    let es = c.args.trail.now.entries in
    let a = c.loop-next.visited in
    let l = c.index-lits-next.result in
    let is : l ≡ get_or a.lits c.loop-next.next l = c.index-lits-next.is ∙ ap (λ (ls : List ℤ). get_or ls c.loop-next.next l) c.lits-in-loop-next.ensures.lits in
    let added = grown_false es c.args.visited.now a c.loop-next.next l c.loop-next.invariant.grown c.loop-next.invariant.behind (omega (arith, c.loop-next-test.true, ap (λ (ls : List ℤ). length ls) c.lits.ensures.lits)) in
    subst (λ v. IsSome (entry_of es v)) (sym c.var-other.ensures.var) (false_has_value es l (subst (HasNegated es) (sym is) added))
