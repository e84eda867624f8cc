use Rattle.std.proofs.Common.{◌≡◌, ◌<◌, false, length, get_or, ap, refl, ◌∙◌, arith}
use Rattle.std.proofs.lemmas.List.{get_or_default, length-set}
use Rattle.lls_arena.specs.Links.{EdgeTableState, no_pair, with_next}
use Rattle.lls_arena.proofs.Told.{IsTelling-dead, IsTelling-live, IsTelling-start}
use Rattle.lls_arena.proofs.arena.tell_where_to.Goals as goal
use Rattle.lls_arena.proofs.arena.tell_where_to.Goals.{then-lives-k, else-lives-k}

pub loop-k-init : goal.loop-k-init
loop-k-init c = (IsTelling-start c.args.edges.now.pairs c.args.lives.now, refl, refl)

pub loop-k-preserved : goal.loop-k-preserved
loop-k-preserved c =
    let k = c.loop-k.k in
    let lt : k < length c.args.lives.now = c.loop-k-test.true in
    let among : k < length c.loop-k.edges.pairs = omega (arith, c.loop-k.invariant.1, c.requires.each, lt) in
    elim c.if-lives-k.branch [
      | then-lives-k w ↦
          let e = get_or c.loop-k.edges.pairs k no_pair in
          let at : e ≡ get_or c.loop-k.edges.pairs k e = get_or_default c.loop-k.edges.pairs k no_pair e among in
          let pairs = ap (λ (t : EdgeTableState). t.pairs) w.set_next.ensures in
          rw (w.edges-is, w.before-is, pairs) (
            IsTelling-live c.args.edges.now.pairs c.loop-k.edges.pairs c.args.lives.now k c.loop-k.before e (with_next false w.to.result e) c.loop-k.invariant.0 among lt w.if-lives-k.true at w.to.ensures.clause refl refl,
            length-set c.loop-k.edges.pairs k (with_next false w.to.result e) ∙ c.loop-k.invariant.1,
            ap (λ (t : EdgeTableState). t.room) w.set_next.ensures ∙ c.loop-k.invariant.2,
          )
      | else-lives-k w ↦ rw (w.edges-is, w.before-is) (IsTelling-dead c.args.edges.now.pairs c.loop-k.edges.pairs c.args.lives.now k c.loop-k.before c.loop-k.invariant.0 lt w.if-lives-k.false, c.loop-k.invariant.1, c.loop-k.invariant.2)
    ]

pub returns-clause-told : goal.returns-clause-told
returns-clause-told c = record {
  length_same = c.loop-k.invariant.1;
  told = λ k d lt live. c.loop-k.invariant.0.told k d (omega (arith, lt, c.loop-k-test.false)) live;
  first = c.loop-k.invariant.0.first;
  second = c.loop-k.invariant.0.second;
}
