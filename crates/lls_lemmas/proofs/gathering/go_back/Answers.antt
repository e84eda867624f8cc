use Rattle.std.proofs.Common.{◌≡◌, ◌∷◌, true, false, List, Option, reverse, sym, ap, subst, ◌∙◌, arith}
use Rattle.std.specs.Prelude.{ℤ, pos, option_map, unwrap_or}
use Rattle.std.specs.FinSet as set
use Rattle.lls_lit.specs.Literal.{variable_of, negation}
use Rattle.lls_store.specs.Trail.{entry_of, reason_of}
use Rattle.lls_store.specs.Clauses.{LiveClause, clause_numbered}
use Rattle.lls_store.proofs.Values.{variable_of-negation}
use Rattle.lls_analyse.specs.Hinted.{hint_of}
use Rattle.lls_analyse.proofs.LiveClauses.{IsSome-from}
use Rattle.lls_lemmas.specs.Closing.{Closes, IsMarkedBelow}
use Rattle.lls_lemmas.proofs.Closing.{closes_unmarked, closes_decided, closes_forced}
use Rattle.lls_lemmas.proofs.Reading.{is_read, forced_at, on_ok_both}
use Rattle.lls_lemmas.proofs.Carried.{reverse-push}
use Rattle.lls_lemmas.proofs.gathering.go_back.Goals as goal

pub has-requires : goal.has-requires
has-requires g c =
    let r = is_read c.args.trail.now c.args.place c.lit-lit.result c.requires.is_trail c.lit-lit.ensures in
    omega (arith, ap variable_of c.negated.ensures, variable_of-negation c.lit-lit.result, r.most, c.requires.vars)

pub returns-then-not-has-clause-closes : goal.returns-then-not-has-clause-closes
returns-then-not-has-clause-closes g c =
    let t = c.args.trail.now in
    let marked = c.args.gathering.now.marks.lits in
    let r = is_read t c.args.place c.lit-lit.result c.requires.is_trail c.lit-lit.ensures in
    λ lits for_lits closes. closes_unmarked (g.S.Store.state c.args.store.now).live t lits c.args.place r.entry r.at marked (reverse c.args.gathering.now.hints.items)
    (λ inside.
    let none : set.contains marked (negation c.lit-lit.result) ≡ false = ap (set.contains marked) (sym c.negated.ensures) ∙ sym c.if-not-has.ensures in
    let clash : false ≡ true = sym none ∙ ap (λ l. set.contains marked (negation l)) (sym r.same) ∙ inside in
    absurd cc)
    closes

pub known_reason-requires : goal.known_reason-requires
known_reason-requires g c =
    let t = c.args.trail.now in
    let r = is_read t c.args.place c.lit-lit.result c.requires.is_trail c.lit-lit.ensures in
    IsSome-from (entry_of t.entries c.var.result) r.entry (ap (entry_of t.entries) c.var.ensures.var ∙ r.is_entry)

pub go_by-requires-clause-is_live : goal.go_by-requires-clause-is_live
go_by-requires-clause-is_live g c =
    let t = c.args.trail.now in
    let live = (g.S.Store.state c.args.store.now).live in
    let r = is_read t c.args.place c.lit-lit.result c.requires.is_trail c.lit-lit.ensures in
    let f = forced_at live t c.args.place r.entry c.in-Some.reason c.requires.sound r.at (sym r.is_reason ∙ ap (reason_of t.entries) (sym c.var.ensures.var) ∙ sym c.known_reason.ensures ∙ c.in-Some.is) in
    IsSome-from (clause_numbered live c.in-Some.reason) f.clause f.is_live

pub returns-in-Some-clause-closes : goal.returns-in-Some-clause-closes
returns-in-Some-clause-closes g c =
    let t = c.args.trail.now in
    let s = g.S.Store.state c.args.store.now in
    let r = is_read t c.args.place c.lit-lit.result c.requires.is_trail c.lit-lit.ensures in
    let has_reason = sym r.is_reason ∙ ap (reason_of t.entries) (sym c.var.ensures.var) ∙ sym c.known_reason.ensures ∙ c.in-Some.is in
    let f = forced_at s.live t c.args.place r.entry c.in-Some.reason c.requires.sound r.at has_reason in
    let old = c.args.gathering.now.marks.lits in
    let new = c.go_by.new.gathering.marks.lits in
    let hints = c.args.gathering.now.hints.items in
    let hint : hint_of s.live c.in-Some.reason ≡ pos f.clause.id = ap (λ (o : Option LiveClause). pos (unwrap_or (option_map (λ (x : LiveClause). x.id) o) 0)) f.is_live in
    on_ok_both c.go_by.result (λ pushed marks lits for_lits closes.
    let P : List ℤ → Type 0 = λ hs. Closes s.live lits (IsMarkedBelow new t.entries c.args.place) hs in
    subst P (sym (ap reverse pushed ∙ reverse-push hints (hint_of s.live c.in-Some.reason) ∙ ap (λ h. h ∷ reverse hints) hint))
    (closes_forced s.live t lits c.args.place r.entry r.at c.in-Some.reason f.clause old new (reverse hints) c.requires.sound c.requires.live.ids has_reason f.is_live c.go_by.ensures.kept marks closes))
    c.go_by.ensures.hints c.go_by.ensures.marked

pub returns-in-None-clause-closes : goal.returns-in-None-clause-closes
returns-in-None-clause-closes g c =
    let t = c.args.trail.now in
    let marked = c.args.gathering.now.marks.lits in
    let r = is_read t c.args.place c.lit-lit.result c.requires.is_trail c.lit-lit.ensures in
    λ lits for_lits closes. closes_decided (g.S.Store.state c.args.store.now).live t lits c.args.place r.entry r.at marked (reverse c.args.gathering.now.hints.items)
    (for_lits r.entry r.contained (sym r.is_reason ∙ ap (reason_of t.entries) (sym c.var.ensures.var) ∙ sym c.known_reason.ensures ∙ c.in-None.is)) closes
