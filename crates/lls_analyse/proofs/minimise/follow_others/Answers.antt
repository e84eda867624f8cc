use Rattle.std.proofs.Common.{◌≡◌, take, true, ap, sym, subst, ◌∙◌, arith}
use Rattle.std.specs.Prelude.{ℤ, List, Contains}
use Rattle.std.specs.FinSet as set
use Rattle.std.proofs.lemmas.List.{take_all}
use Rattle.lls_lit.specs.Formula.{is_within}
use Rattle.lls_store.specs.Clauses.{Literals, clause_numbered}
use Rattle.lls_store.specs.Trail.{reason_of}
use Rattle.lls_store.proofs.ReasonFound.{reason_found}
use Rattle.lls_store.proofs.Sets.{IsIn-from_Contains, Contains-from_IsIn}
use Rattle.lls_analyse.specs.Visited.{is_seen, status_of}
use Rattle.lls_analyse.specs.Minimised.IsGrown.{same}
use Rattle.lls_analyse.proofs.Visits.{unlike}
use Rattle.lls_analyse.proofs.LiveClauses.{IsSome-from, number_given, told}
use Rattle.lls_analyse.proofs.Forcing.{others_false}
use Rattle.lls_analyse.proofs.Grown.{grown_then, grown_vars}
use Rattle.lls_analyse.proofs.Minimising.{literal_at, seen_more, seen_take_more, is_true}
use Rattle.lls_analyse.proofs.minimise.follow_others.Goals as goal

pub lits-lit-items-requires : goal.lits-lit-items-requires
lits-lit-items-requires g c =
    let store = g.S.Store.state c.args.store.now in
    let r = reason_found store.live c.args.trail.now c.args.var c.in-Some.reason c.requires.sound (sym c.known_reason.ensures ∙ c.in-Some.is) in
    number_given store c.in-Some.reason c.requires.live (IsSome-from (clause_numbered store.live c.in-Some.reason) r.forced.clause r.forced.is_live)

pub loop-lit-init : goal.loop-lit-init
loop-lit-init g c = record { same_vars = c.requires.vars; grown = same; seen = λ m (k, lt, at). absurd (omega (arith, lt)) }

pub follow-requires-clause-within : goal.follow-requires-clause-within
follow-requires-clause-within g c =
    let store = g.S.Store.state c.args.store.now in
    let lits = c.lits-lit-items.result.now in
    let r = reason_found store.live c.args.trail.now c.args.var c.in-Some.reason c.requires.sound (sym c.known_reason.ensures ∙ c.in-Some.is) in
    let t = told store c.in-Some.reason lits c.requires.live (IsSome-from (clause_numbered store.live c.in-Some.reason) r.forced.clause r.forced.is_live) c.lits-lit-items.ensures in
    literal_at c.args.trail.now.vars lits c.loop-lit.lit-index c.lit-item.result (ap (λ n. is_within n lits) (sym c.requires.store_vars) ∙ t.within) c.loop-lit-test.true c.lit-item.is

pub follow-requires-clause-is_false : goal.follow-requires-clause-is_false
follow-requires-clause-is_false g c = λ unseen.
    let store = g.S.Store.state c.args.store.now in
    let lits = c.lits-lit-items.result.now in
    let l = c.lit-item.result in
    let is = sym c.known_reason.ensures ∙ c.in-Some.is in
    let r = reason_found store.live c.args.trail.now c.args.var c.in-Some.reason c.requires.sound is in
    let t = told store c.in-Some.reason lits c.requires.live (IsSome-from (clause_numbered store.live c.in-Some.reason) r.forced.clause r.forced.is_live) c.lits-lit-items.ensures in
    let inside = ap (λ (ls : Literals). set.contains ls l) (sym t.spelled) ∙ IsIn-from_Contains lits l (c.loop-lit.lit-index, c.loop-lit-test.true, sym c.lit-item.is) in
    let here : is_seen (status_of c.loop-lit.visited.seen c.args.var) ≡ true = seen_more c.args.trail.now.entries c.args.visited.now c.loop-lit.visited c.args.var c.loop-lit.invariant.grown c.requires.seen in
    others_false store.live c.args.trail.now c.args.var c.in-Some.reason t.clause l c.requires.sound is t.is_live inside (λ at. unlike here (ap (λ v. is_seen (status_of c.loop-lit.visited.seen v)) (sym at) ∙ unseen))

pub returns-then-not-follow-clause-grown : goal.returns-then-not-follow-clause-grown
returns-then-not-follow-clause-grown g c = grown_then c.args.trail.now.entries c.args.visited.now c.loop-lit.visited c.follow.new.visited c.loop-lit.invariant.grown c.follow.ensures.grown

pub loop-lit-preserved : goal.loop-lit-preserved
loop-lit-preserved g c = record {
  same_vars = grown_vars c.args.trail.now.entries c.loop-lit.visited c.follow.new.visited c.follow.ensures.grown ∙ c.loop-lit.invariant.same_vars;
  grown = grown_then c.args.trail.now.entries c.args.visited.now c.loop-lit.visited c.follow.new.visited c.loop-lit.invariant.grown c.follow.ensures.grown;
  seen = seen_take_more c.args.trail.now.entries c.loop-lit.visited c.follow.new.visited c.lits-lit-items.result.now c.loop-lit.lit-index c.lit-item.result c.follow.ensures.grown c.loop-lit-test.true c.lit-item.is c.loop-lit.invariant.seen (c.follow.ensures.seen (is_true c.follow.result c.if-not-follow.false));
}

pub returns-in-Some-clause-all : goal.returns-in-Some-clause-all
returns-in-Some-clause-all g c = λ _ l var.
    let store = g.S.Store.state c.args.store.now in
    let lits = c.lits-lit-items.result.now in
    let is = sym c.known_reason.ensures ∙ c.in-Some.is in
    let r = reason_found store.live c.args.trail.now c.args.var c.in-Some.reason c.requires.sound is in
    let t = told store c.in-Some.reason lits c.requires.live (IsSome-from (clause_numbered store.live c.in-Some.reason) r.forced.clause r.forced.is_live) c.lits-lit-items.ensures in
    let all : take c.loop-lit.lit-index lits ≡ lits = take_all c.loop-lit.lit-index lits (omega (arith, c.loop-lit-test.false)) in
    record {
      reason = c.in-Some.reason;
      clause = t.clause;
      has_reason = ap (reason_of c.args.trail.now.entries) var ∙ is;
      is_live = t.is_live;
      all_seen = λ m inside.
          let P : List ℤ → Type 0 = λ ls. Contains ls m in
          c.loop-lit.invariant.seen m (subst P (sym all) (Contains-from_IsIn lits m (ap (λ (ls : Literals). set.contains ls m) t.spelled ∙ inside)));
    }

pub returns-clause-grown : goal.returns-clause-grown
returns-clause-grown g c = same
