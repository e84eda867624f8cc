use Rattle.std.proofs.Common.{◌≡◌, ◌+◌, ℕ, List, length, sym, ap, ◌∙◌, subst, arith}
use Rattle.std.specs.Prelude.{ℤ}
use Rattle.std.proofs.lemmas.Option.{same_Some}
use Rattle.std.proofs.lemmas.Result.{on_ok_weaker}
use Rattle.lls_lit.specs.Literal.{variable_of}
use Rattle.lls_store.specs.Trail.{entry_of, reason_of}
use Rattle.lls_store.specs.Clauses.{clause_numbered}
use Rattle.lls_analyse.proofs.LiveClauses.{IsSome-from}
use Rattle.lls_lemmas.specs.Behind.{GivesClause}
use Rattle.lls_lemmas.specs.Closing.{GivesEach}
use Rattle.lls_lemmas.specs.Units.{IsUnit}
use Rattle.lls_lemmas.proofs.Carried.{units_in_range}
use Rattle.lls_lemmas.proofs.Tried.{true_by, true_by_unit, true_within}
use Rattle.lls_lemmas.proofs.trying.gather_from_true.Goals as goal

pub bounds : goal.bounds
bounds g c =
    let within = true_within c.args.trail.now c.args.lit c.requires.is_trail c.requires.is_true in
    omega (arith, c.index.ensures.place, c.var.ensures.var, within.1, c.requires.unit_each)

pub take_unit-requires-clause-least : goal.take_unit-requires-clause-least
take_unit-requires-clause-least g c = (units_in_range (g.S.Store.state c.args.store.now) c.args.trail.now.entries c.args.units.now c.requires.live c.requires.are_units c.index.result c.in-Some.id c.in-Some.is).0

pub take_unit-requires-clause-most : goal.take_unit-requires-clause-most
take_unit-requires-clause-most g c = (units_in_range (g.S.Store.state c.args.store.now) c.args.trail.now.entries c.args.units.now c.requires.live c.requires.are_units c.index.result c.in-Some.id c.in-Some.is).1

pub known_reason-requires : goal.known_reason-requires
known_reason-requires g c =
    let t = c.args.trail.now in
    let f = true_by (g.S.Store.state c.args.store.now).live t c.args.lits.now c.args.lit c.requires.is_trail c.requires.sound c.requires.is_true c.requires.inside c.requires.decided c.requires.no_tautology in
    IsSome-from (entry_of t.entries c.var-in-None.result) f.entry (ap (entry_of t.entries) c.var-in-None.ensures.var ∙ f.is_entry)

pub unwrap-reason-requires : goal.unwrap-reason-requires
unwrap-reason-requires g c =
    let t = c.args.trail.now in
    let f = true_by (g.S.Store.state c.args.store.now).live t c.args.lits.now c.args.lit c.requires.is_trail c.requires.sound c.requires.is_true c.requires.inside c.requires.decided c.requires.no_tautology in
    IsSome-from c.known_reason.result f.reason (c.known_reason.ensures ∙ ap (reason_of t.entries) c.var-in-None.ensures.var ∙ f.is_reason)

pub gather-requires-clause-closing : goal.gather-requires-clause-closing
gather-requires-clause-closing g c =
    let t = c.args.trail.now in
    let live = (g.S.Store.state c.args.store.now).live in
    let f = true_by live t c.args.lits.now c.args.lit c.requires.is_trail c.requires.sound c.requires.is_true c.requires.inside c.requires.decided c.requires.no_tautology in
    let reason : f.reason ≡ c.unwrap-reason.result = same_Some f.reason c.unwrap-reason.result (sym (c.known_reason.ensures ∙ ap (reason_of t.entries) c.var-in-None.ensures.var ∙ f.is_reason) ∙ c.unwrap-reason.ensures) in
    let but = f.false_but (length t.entries) (omega arith) in
    IsSome-from (clause_numbered live c.unwrap-reason.result) but.clause (ap (clause_numbered live) (sym reason) ∙ but.is_live)

pub returns-in-Some-clause-gives : goal.returns-in-Some-clause-gives
returns-in-Some-clause-gives g c =
    let s = g.S.Store.state c.args.store.now in
    let t = c.args.trail.now in
    let at : c.index.result + 1 ≡ variable_of c.args.lit = c.index.ensures.place ∙ c.var.ensures.var in
    let u : IsUnit s.live t.entries (variable_of c.args.lit) c.in-Some.id = subst (λ v. IsUnit s.live t.entries v c.in-Some.id) at (c.requires.are_units c.index.result c.in-Some.id c.in-Some.is) in
    on_ok_weaker c.take_unit.result (λ is. subst (λ (hs : List ℤ). GivesClause s.live c.args.lits.now hs) (sym is) (true_by_unit s t c.args.lits.now c.args.lit c.in-Some.id c.requires.is_trail c.requires.live c.requires.is_true c.requires.inside u)) c.take_unit.ensures.hints

pub returns-in-None-clause-gives : goal.returns-in-None-clause-gives
returns-in-None-clause-gives g c =
    let t = c.args.trail.now in
    let live = (g.S.Store.state c.args.store.now).live in
    let f = true_by live t c.args.lits.now c.args.lit c.requires.is_trail c.requires.sound c.requires.is_true c.requires.inside c.requires.decided c.requires.no_tautology in
    let reason : f.reason ≡ c.unwrap-reason.result = same_Some f.reason c.unwrap-reason.result (sym (c.known_reason.ensures ∙ ap (reason_of t.entries) c.var-in-None.ensures.var ∙ f.is_reason) ∙ c.unwrap-reason.ensures) in
    let hints = c.gather.new.gathering.hints.items in
    on_ok_weaker c.gather.result (λ each.
    let P : ℕ → Type 0 = λ n. GivesEach live t.entries c.len.result n hints in
    subst P (sym reason) each c.args.lits.now c.requires.decided (f.false_but c.len.result (omega (arith, c.len.ensures.len)))) c.gather.ensures.gives
