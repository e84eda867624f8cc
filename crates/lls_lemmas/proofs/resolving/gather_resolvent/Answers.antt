use Rattle.std.proofs.Common.{◌≡◌, ℕ, List, ◌++◌, Some, sym, ap, ◌∙◌, subst}
use Rattle.std.specs.Prelude.{ℤ, Contains, IfSome}
use Rattle.std.specs.FinSet as set
use Rattle.std.proofs.lemmas.Option.{same_Some}
use Rattle.lls_lit.specs.Literal.{negation}
use Rattle.lls_lit.specs.Formula.{is_within}
use Rattle.lls_prooflog.specs.Rat.{has_true, others}
use Rattle.lls_store.specs.Clauses.{LiveClause, IsIn, clause_numbered}
use Rattle.lls_store.specs.Store.{StoreState, AreLive}
use Rattle.lls_analyse.proofs.LiveClauses.{IsSome-from, IsTold, number_given, numbered, told}
use Rattle.lls_lemmas.specs.Assumed.{CanBeFalse}
use Rattle.lls_lemmas.specs.Behind.{GivesClause}
use Rattle.lls_lemmas.specs.Lemmas.{is_tautology}
use Rattle.lls_lemmas.specs.Pivot.{HoldsLit, ResolvesBy}
use Rattle.lls_lemmas.proofs.Resolvents.{no_tautology, others_within, resolves_given, resolves_true, unresolved, within_both}
use Rattle.lls_lemmas.proofs.Tautologies.{plain_told}
use Rattle.lls_lemmas.proofs.resolving.gather_resolvent.Goals as goal

-- a clause that was told, and its literal
record IsMet (store : StoreState) (number : ℕ) (lits : List ℤ) (l : ℤ) : Type 0 where
  is : IsTold store number lits
  inside : Contains store.live is.clause
  opposes : IsIn is.clause.lits l

met : (store : StoreState) (number : ℕ) (lits : List ℤ) (l : ℤ) → AreLive store → HoldsLit store.live number l → IfSome (clause_numbered store.live number) (λ clause. set.from_list lits ≡ clause.lits) → IsMet store number lits l
met store number lits l live h spelled =
    let is = told store number lits live (IsSome-from (clause_numbered store.live number) h.clause h.is_live) spelled in
    record {
      is = is;
      inside = (numbered store.live number is.clause is.is_live).contains;
      opposes = subst (λ (c : LiveClause). IsIn c.lits l) (same_Some h.clause is.clause (sym h.is_live ∙ is.is_live)) h.inside;
    }

-- what holds of the told clause, holds of the clause of its number
of_number : (store : StoreState) (number : ℕ) (lits : List ℤ) (is : IsTold store number lits) (pivot : ℤ) (lemma hints : List ℤ) → ResolvesBy store.live pivot lemma is.clause hints → (c : LiveClause) → clause_numbered store.live number ≡ Some c → ResolvesBy store.live pivot lemma c hints
of_number store number lits is pivot lemma hints resolves c found = subst (λ (d : LiveClause). ResolvesBy store.live pivot lemma d hints) (same_Some is.clause c (sym is.is_live ∙ found)) resolves

pub lits-clause-requires : goal.lits-clause-requires
lits-clause-requires g c =
    let s = g.S.Store.state c.args.store.now in
    number_given s c.args.number c.requires.live (IsSome-from (clause_numbered s.live c.args.number) c.requires.holds.clause c.requires.holds.is_live)

pub has_true-requires-clause-others_within : goal.has_true-requires-clause-others_within
has_true-requires-clause-others_within g c =
    let s = g.S.Store.state c.args.store.now in
    let clause = c.lits-clause.result.now in
    let m = met s c.args.number clause (negation c.args.pivot) c.requires.live c.requires.holds c.lits-clause.ensures in
    let rest = c.as_slice-others.ensures.value ∙ c.in_ok-take_others.ensures ∙ ap (λ (x : ℤ). others x clause) c.negated.ensures in
    ap (λ (n : ℕ). is_within n c.as_slice-others.result.now) (c.requires.ready.marks_vars ∙ sym c.requires.ready.has_units.same_vars)
    ∙ ap (is_within s.vars) rest
    ∙ others_within s.vars (negation c.args.pivot) clause m.is.within

pub returns-then-has_true-clause-resolves : goal.returns-then-has_true-clause-resolves
returns-then-has_true-clause-resolves g c = λ _.
    let s = g.S.Store.state c.args.store.now in
    let clause = c.lits-clause.result.now in
    let m = met s c.args.number clause (negation c.args.pivot) c.requires.live c.requires.holds c.lits-clause.ensures in
    let rest = c.as_slice-others.ensures.value ∙ c.in_ok-take_others.ensures ∙ ap (λ (x : ℤ). others x clause) c.negated.ensures in
    of_number s c.args.number clause m.is c.args.pivot c.args.lits.now c.clear.new.self.items
    (resolves_true s.live c.args.pivot c.args.lits.now m.is.clause clause m.is.spelled c.clear.new.self.items (ap (has_true c.args.lits.now) (sym rest) ∙ sym c.if-has_true.ensures.answer))

pub try_clause-requires-clause-within : goal.try_clause-requires-clause-within
try_clause-requires-clause-within g c =
    let s = g.S.Store.state c.args.store.now in
    let clause = c.lits-clause.result.now in
    let vars = c.args.trail.now.vars in
    let m = met s c.args.number clause (negation c.args.pivot) c.requires.live c.requires.holds c.lits-clause.ensures in
    let rest = c.as_slice-others.ensures.value ∙ c.in_ok-take_others.ensures ∙ ap (λ (x : ℤ). others x clause) c.negated.ensures in
    let whole = c.as_slice-resolvent.ensures.value ∙ c.in_ok-join.ensures ∙ ap (λ (xs : List ℤ). c.args.lits.now ++ xs) rest in
    ap (is_within vars) whole
    ∙ within_both vars c.args.lits.now (others (negation c.args.pivot) clause) c.requires.within
    (others_within vars (negation c.args.pivot) clause (ap (λ (n : ℕ). is_within n clause) (sym c.requires.ready.has_units.same_vars) ∙ m.is.within))

pub try_clause-requires-clause-no_tautology : goal.try_clause-requires-clause-no_tautology
try_clause-requires-clause-no_tautology g c =
    let clause = c.lits-clause.result.now in
    let m = met (g.S.Store.state c.args.store.now) c.args.number clause (negation c.args.pivot) c.requires.live c.requires.holds c.lits-clause.ensures in
    let rest = c.as_slice-others.ensures.value ∙ c.in_ok-take_others.ensures ∙ ap (λ (x : ℤ). others x clause) c.negated.ensures in
    let whole = c.as_slice-resolvent.ensures.value ∙ c.in_ok-join.ensures ∙ ap (λ (xs : List ℤ). c.args.lits.now ++ xs) rest in
    ap is_tautology whole
    ∙ no_tautology (negation c.args.pivot) c.args.lits.now clause c.requires.no_tautology (plain_told clause m.is.clause.lits m.is.spelled (c.requires.plain m.is.clause m.inside)) (ap (has_true c.args.lits.now) (sym rest) ∙ sym c.if-has_true.ensures.answer)

pub returns-clause-resolves : goal.returns-clause-resolves
returns-clause-resolves g c = λ went.
    let s = g.S.Store.state c.args.store.now in
    let clause = c.lits-clause.result.now in
    let hints = c.try_clause.new.gathering.hints.items in
    let m = met s c.args.number clause (negation c.args.pivot) c.requires.live c.requires.holds c.lits-clause.ensures in
    let rest = c.as_slice-others.ensures.value ∙ c.in_ok-take_others.ensures ∙ ap (λ (x : ℤ). others x clause) c.negated.ensures in
    let whole = c.as_slice-resolvent.ensures.value ∙ c.in_ok-join.ensures ∙ ap (λ (xs : List ℤ). c.args.lits.now ++ xs) rest in
    of_number s c.args.number clause m.is c.args.pivot c.args.lits.now hints
    (resolves_given s.live c.args.pivot c.args.lits.now m.is.clause clause m.is.spelled hints (subst (λ (ls : List ℤ). GivesClause s.live ls hints) whole (c.try_clause.ensures.gives went)))

pub returns-clause-opposed : goal.returns-clause-opposed
returns-clause-opposed g c = λ went.
    let s = g.S.Store.state c.args.store.now in
    let clause = c.lits-clause.result.now in
    let m = met s c.args.number clause (negation c.args.pivot) c.requires.live c.requires.holds c.lits-clause.ensures in
    let rest = c.as_slice-others.ensures.value ∙ c.in_ok-take_others.ensures ∙ ap (λ (x : ℤ). others x clause) c.negated.ensures in
    let whole = c.as_slice-resolvent.ensures.value ∙ c.in_ok-join.ensures ∙ ap (λ (xs : List ℤ). c.args.lits.now ++ xs) rest in
    (unresolved s.live c.args.pivot c.args.lits.now m.is.clause clause m.is.spelled m.inside m.opposes (subst (λ (ls : List ℤ). CanBeFalse s.live ls) whole (c.try_clause.ensures.none went)))
