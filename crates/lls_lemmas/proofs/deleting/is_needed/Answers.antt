use Rattle.std.proofs.Common.{◌≡◌, ◌≢◌, List, Option, Some, inl, inr, sym, ap, ◌∙◌, subst}
use Rattle.std.specs.Prelude.{ℤ, Contains, IfSome}
use Rattle.std.proofs.lemmas.List.{take_all}
use Rattle.lls_lit.specs.Literal.{variable_of}
use Rattle.lls_lit.specs.Formula.{is_literal_of}
use Rattle.lls_store.specs.Trail.{reason_of}
use Rattle.lls_store.specs.Clauses.{LiveClause}
use Rattle.lls_analyse.proofs.Gathering.{nothing_there}
use Rattle.lls_analyse.proofs.LiveClauses.{number_given, told}
use Rattle.lls_lemmas.specs.Units.{unit_of}
use Rattle.lls_lemmas.proofs.Listing.{Contains-take_more, all_pass}
use Rattle.lls_lemmas.proofs.Without.{is_free}
use Rattle.lls_lemmas.proofs.deleting.is_needed.Goals as goal

pub id-id-requires : goal.id-id-requires
id-id-requires g c = number_given (g.S.Store.state c.args.store.now) c.args.number c.requires.live c.requires.is_live

pub lits-lits-requires : goal.lits-lits-requires
lits-lits-requires g c = number_given (g.S.Store.state c.args.store.now) c.args.number c.requires.live c.requires.is_live

pub loop-lit-init : goal.loop-lit-init
loop-lit-init g c = λ m inside. absurd (nothing_there m inside)

pub is_for-requires-clause-within : goal.is_for-requires-clause-within
is_for-requires-clause-within g c =
    let s = g.S.Store.state c.args.store.now in
    let is = told s c.args.number c.lits-lits.result.now c.requires.live c.requires.is_live c.lits-lits.ensures in
    ap (λ n. is_literal_of n c.lit-item.result) (sym c.requires.store_vars) ∙ all_pass (is_literal_of s.vars) c.lits-lits.result.now c.lit-item.result is.within (c.loop-lit.lit-index, c.loop-lit-test.true, sym c.lit-item.is)

pub loop-lit-preserved : goal.loop-lit-preserved
loop-lit-preserved g c = λ m inside. elim (Contains-take_more c.lits-lits.result.now c.loop-lit.lit-index c.lit-item.result m c.loop-lit-test.true c.lit-item.is inside) [
  | inl old ↦ c.loop-lit.invariant m old
  | inr same ↦ (
      let P : ℤ → Type 0 = λ l. (reason_of c.args.trail.now.entries (variable_of l) ≢ Some c.args.number) × (unit_of c.args.units.now l ≢ Some c.id-id.result) in
      subst P same (c.is_for.ensures.no_reason c.if-is_for.false, c.is_for.ensures.no_unit c.if-is_for.false))
]

pub returns-then-is_for-clause-needed : goal.returns-then-is_for-clause-needed
returns-then-is_for-clause-needed g c = λ _.
    let s = g.S.Store.state c.args.store.now in
    let is = told s c.args.number c.lits-lits.result.now c.requires.live c.requires.is_live c.lits-lits.ensures in
    let P : Option LiveClause → Type 0 = λ x. IfSome x (λ (d : LiveClause). c.id-id.result ≡ d.id) in
    let same : c.id-id.result ≡ is.clause.id = subst P is.is_live c.id-id.ensures in
    record {
      variable = variable_of c.lit-item.result;
      clause = is.clause;
      is_live = is.is_live;
      why = elim (c.is_for.ensures.either c.if-is_for.true) [ inl reason ↦ inl reason | inr unit ↦ inr (unit ∙ ap (λ n. Some n) same) ];
    }

pub returns-clause-free : goal.returns-clause-free
returns-clause-free g c = λ _.
    let s = g.S.Store.state c.args.store.now in
    let t = c.args.trail.now in
    let lits = c.lits-lits.result.now in
    let is = told s c.args.number lits c.requires.live c.requires.is_live c.lits-lits.ensures in
    let P : Option LiveClause → Type 0 = λ x. IfSome x (λ (d : LiveClause). c.id-id.result ≡ d.id) in
    is_free s t c.args.units.now c.args.number c.id-id.result lits c.requires.live c.requires.is_trail c.requires.sound c.requires.are_units is (sym (subst P is.is_live c.id-id.ensures))
    (λ l inside. c.loop-lit.invariant l (let Q : List ℤ → Type 0 = λ ls. Contains ls l in subst Q (sym (take_all c.loop-lit.lit-index lits c.loop-lit-test.false)) inside))
