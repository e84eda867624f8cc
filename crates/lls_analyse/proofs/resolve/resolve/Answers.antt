use Rattle.std.proofs.Common.{◌-◌, ◌≡◌, ◌≢◌, ◌<◌, ◌∷◌, ◌++◌, [], length, set, refl, sym, ap, subst, ◌∙◌, arith}
use Rattle.std.specs.Prelude.{ℕ, List, count_by}
use Rattle.std.proofs.lemmas.List.{length_push}
use Rattle.lls_store.specs.Clauses.{clause_numbered}
use Rattle.lls_analyse.specs.Traced.{IsTraced}
use Rattle.lls_analyse.specs.declared.visited.Seen.TheVariants.{Open, Followed}
use Rattle.lls_analyse.specs.Visited.{VisitedState, is_open, status_of}
use Rattle.lls_analyse.specs.Marked.{HoldsClause}
use Rattle.lls_analyse.proofs.Visits.{unlike}
use Rattle.lls_analyse.proofs.Opens.{open_is}
use Rattle.lls_analyse.proofs.Resolving.{begins, held_first, same_found}
use Rattle.lls_analyse.proofs.Followed.{follow_step, held_step, skip_step, var_bounds, forced_step, not_at_end, var_within, ends}
use Rattle.lls_analyse.proofs.Forcing.{forces_one}
use Rattle.lls_analyse.proofs.Traces.{grown_by, traced_first, traced_on}
use Rattle.lls_analyse.proofs.Valued.{conflict_has_values}
use Rattle.lls_analyse.proofs.resolve.resolve.Goals as goal

pub loop-place-init : goal.loop-place-init
loop-place-init g c =
    let store = g.S.Store.state c.args.store.now in
    let P : VisitedState → Type 0 = λ s. HoldsClause store.live c.args.trail.now s c.hold_clause.new.visited c.args.conflict in
    let held = subst P c.requires.start c.hold_clause.ensures in
    record {
      resolving = rw c.len-place.ensures.len (begins store c.args.trail.now c.args.conflict c.args.left c.hold_clause.new.visited c.len-place.ensures.kept c.requires.live c.requires.store_vars c.requires.conflict c.requires.left held);
      traced =
          let Q : List ℕ → Type 0 = λ ns. IsTraced store.live c.args.trail.now.entries c.args.conflict c.hold_clause.new.visited ns in
          subst Q (sym (c.push_reserved.ensures.items ∙ ap (λ ns. ns ++ c.args.conflict ∷ []) c.requires.empty))
          (traced_first store.live c.args.trail.now c.args.conflict c.hold_clause.new.visited held.clause c.len-place.ensures.kept c.requires.conflict held.is_live (held_first store c.args.trail.now c.args.conflict c.hold_clause.new.visited c.len-place.ensures.kept c.requires.live c.requires.store_vars c.requires.conflict held));
      few = omega (arith, c.len-place.ensures.len, ap (λ (ns : List ℕ). length ns) (c.push_reserved.ensures.items ∙ ap (λ ns. ns ++ c.args.conflict ∷ []) c.requires.empty));
      room_stays = refl;
    }

pub overflow_sub-place : goal.overflow_sub-place
overflow_sub-place g c =
    let store = g.S.Store.state c.args.store.now in
    let more : c.args.left < count_by is_open c.loop-place.visited.seen = omega (arith, c.loop-place-test.true, c.opens.ensures.opens) in
    omega (arith, not_at_end store.live c.args.trail.now c.args.conflict c.args.left c.loop-place.visited c.loop-place.place c.loop-place.invariant.resolving more)

pub lit-requires : goal.lit-requires
lit-requires g c =
    let store = g.S.Store.state c.args.store.now in
    let more : c.args.left < count_by is_open c.loop-place.visited.seen = omega (arith, c.loop-place-test.true, c.opens.ensures.opens) in
    omega (arith, not_at_end store.live c.args.trail.now c.args.conflict c.args.left c.loop-place.visited c.loop-place.place c.loop-place.invariant.resolving more, c.loop-place.invariant.resolving.within)

pub push_reserved-requires-then-is_open : goal.push_reserved-requires-then-is_open
push_reserved-requires-then-is_open g c =
    let store = g.S.Store.state c.args.store.now in
    let h = c.loop-place.invariant in
    let more : c.args.left < count_by is_open c.loop-place.visited.seen = omega (arith, c.loop-place-test.true, c.opens.ensures.opens) in
    omega (arith, h.few, h.room_stays, c.push_reserved.ensures.capacity, not_at_end store.live c.args.trail.now c.args.conflict c.args.left c.loop-place.visited c.loop-place.place h.resolving more, c.len-place.ensures.kept.most, c.requires.room)

pub is_open-requires : goal.is_open-requires
is_open-requires g c = omega (arith, var_within c.args.trail.now (c.loop-place.place - 1) c.var-var.result c.lit.result c.len-place.ensures.kept c.lit.ensures c.var-var.ensures.var, c.loop-place.invariant.resolving.marked.same_vars)

pub follow-requires-clause-forced : goal.follow-requires-clause-forced
follow-requires-clause-forced g c =
    let store = g.S.Store.state c.args.store.now in
    let more : c.args.left < count_by is_open c.loop-place.visited.seen = omega (arith, c.loop-place-test.true, c.opens.ensures.opens) in
    let opened : status_of c.loop-place.visited.seen c.var-var.result ≡ Open = open_is (status_of c.loop-place.visited.seen c.var-var.result) (sym c.is_open.ensures ∙ c.if-is_open.true) in
    forced_step store c.args.trail.now c.args.conflict c.args.left c.loop-place.visited c.loop-place.place c.var-var.result c.lit.result c.len-place.ensures.kept c.loop-place.invariant.resolving more c.lit.ensures c.var-var.ensures.var opened c.requires.left

pub follow-requires-clause-is_open : goal.follow-requires-clause-is_open
follow-requires-clause-is_open g c = open_is (status_of c.loop-place.visited.seen c.var-var.result) (sym c.is_open.ensures ∙ c.if-is_open.true)

pub loop-place-smaller-then-is_open : goal.loop-place-smaller-then-is_open
loop-place-smaller-then-is_open g c =
    let store = g.S.Store.state c.args.store.now in
    let more : c.args.left < count_by is_open c.loop-place.visited.seen = omega (arith, c.loop-place-test.true, c.opens.ensures.opens) in
    omega (arith, not_at_end store.live c.args.trail.now c.args.conflict c.args.left c.loop-place.visited c.loop-place.place c.loop-place.invariant.resolving more)

pub loop-place-smaller : goal.loop-place-smaller
loop-place-smaller g c =
    let store = g.S.Store.state c.args.store.now in
    let more : c.args.left < count_by is_open c.loop-place.visited.seen = omega (arith, c.loop-place-test.true, c.opens.ensures.opens) in
    omega (arith, not_at_end store.live c.args.trail.now c.args.conflict c.args.left c.loop-place.visited c.loop-place.place c.loop-place.invariant.resolving more)

pub loop-place-preserved-then-is_open : goal.loop-place-preserved-then-is_open
loop-place-preserved-then-is_open g c =
    let store = g.S.Store.state c.args.store.now in
    let more : c.args.left < count_by is_open c.loop-place.visited.seen = omega (arith, c.loop-place-test.true, c.opens.ensures.opens) in
    let opened : status_of c.loop-place.visited.seen c.var-var.result ≡ Open = open_is (status_of c.loop-place.visited.seen c.var-var.result) (sym c.is_open.ensures ∙ c.if-is_open.true) in
    let h = c.loop-place.invariant in
    let f = c.follow.ensures.follows in
    let now = held_step store c.args.trail.now c.args.conflict c.args.left c.loop-place.visited c.follow.new.visited c.loop-place.place c.var-var.result c.lit.result c.len-place.ensures.kept c.requires.live c.requires.store_vars c.requires.sound h.resolving more c.lit.ensures c.var-var.ensures.var opened f in
    let longer = grown_by store.live c.args.trail.now (record c.loop-place.visited { seen = set c.loop-place.visited.seen (c.var-var.result - 1) Followed }) c.follow.new.visited f.reason f.holds in
    let bounds = var_bounds c.args.trail.now (c.loop-place.place - 1) c.var-var.result c.lit.result c.len-place.ensures.kept c.lit.ensures c.var-var.ensures.var in
    let same : f.reason ≡ c.follow.result = same_found f.reason c.follow.result f.has_reason c.follow.ensures.reason in
    record {
      resolving = follow_step store c.args.trail.now c.args.conflict c.args.left c.loop-place.visited c.follow.new.visited c.loop-place.place c.var-var.result c.lit.result c.len-place.ensures.kept c.requires.live c.requires.store_vars c.requires.sound h.resolving more c.lit.ensures c.var-var.ensures.var opened f;
      traced =
          let Q : List ℕ → Type 0 = λ ns. IsTraced store.live c.args.trail.now.entries c.args.conflict c.follow.new.visited ns in
          subst Q (sym c.push_reserved-then-is_open.ensures.items)
          (traced_on store.live c.args.trail.now c.loop-place.visited c.follow.new.visited c.var-var.result f.holds.clause c.len-place.ensures.kept h.resolving.visited h.resolving.marked bounds.0 (omega (arith, bounds.0, bounds.1, h.resolving.visited.each, h.resolving.marked.same_vars)) opened now longer.0 longer.1
          c.args.conflict c.follow.result c.loop-place.resolved.items c.follow.ensures.reason (λ u of_u. forces_one store.live c.args.trail.now u c.var-var.result c.follow.result c.len-place.ensures.kept c.requires.sound of_u c.follow.ensures.reason) (ap (clause_numbered store.live) (sym same) ∙ f.holds.is_live) h.traced);
      few = omega (arith, h.few, not_at_end store.live c.args.trail.now c.args.conflict c.args.left c.loop-place.visited c.loop-place.place h.resolving more, ap (λ (ns : List ℕ). length ns) c.push_reserved-then-is_open.ensures.items, length_push c.loop-place.resolved.items c.follow.result);
      room_stays = c.push_reserved-then-is_open.ensures.capacity ∙ h.room_stays;
    }

pub loop-place-preserved : goal.loop-place-preserved
loop-place-preserved g c =
    let store = g.S.Store.state c.args.store.now in
    let more : c.args.left < count_by is_open c.loop-place.visited.seen = omega (arith, c.loop-place-test.true, c.opens.ensures.opens) in
    let shut : status_of c.loop-place.visited.seen c.var-var.result ≢ Open = λ is. unlike (c.is_open.ensures ∙ ap is_open is) c.if-is_open.false in
    record {
      resolving = skip_step store c.args.trail.now c.args.conflict c.args.left c.loop-place.visited c.loop-place.place c.var-var.result c.lit.result c.len-place.ensures.kept c.loop-place.invariant.resolving more c.lit.ensures c.var-var.ensures.var shut;
      traced = c.loop-place.invariant.traced;
      few = omega (arith, c.loop-place.invariant.few);
      room_stays = c.loop-place.invariant.room_stays;
    }

pub returns-clause-resolved : goal.returns-clause-resolved
returns-clause-resolved g c =
    let store = g.S.Store.state c.args.store.now in
    ends store.live c.args.trail.now c.args.conflict c.args.left c.loop-place.visited c.loop-place.place c.len-place.ensures.kept c.loop-place.invariant.resolving c.requires.conflict (omega (arith, c.loop-place-test.false, c.opens.ensures.opens))

pub returns-clause-traced : goal.returns-clause-traced
returns-clause-traced g c = c.loop-place.invariant.traced

pub hold_clause-requires-clause-have_values : goal.hold_clause-requires-clause-have_values
hold_clause-requires-clause-have_values g c = conflict_has_values (g.S.Store.state c.args.store.now).live c.args.trail.now c.args.conflict c.requires.conflict
