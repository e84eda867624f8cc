use Rattle.std.proofs.Common.{◌≡◌, ◌<◌, ◌+◌, ◌≤◌, ℕ, Option, Some, None, refl, sym, ap, subst, ◌∙◌, arith}
use Rattle.std.specs.Prelude.{slice_get, option_map}
use Rattle.std.specs.Option.{unwrap_or}
use Rattle.std.proofs.lemmas.Option.{slice_get-get_or}
use Rattle.lls_store.specs.Clauses.{Literals}
use Rattle.lls_analyse.proofs.LiveClauses.{numbered}
use Rattle.lls_lemmas.specs.declared.index.Entry.{Entry}
use Rattle.lls_lemmas.specs.Finding.{HasLiterals}
use Rattle.lls_lemmas.specs.Indexed.{newest_in, set_hash, IsMet}
use Rattle.lls_lemmas.proofs.Indexing.{met_before, met_none}
use Rattle.lls_lemmas.proofs.finding.find.Goals as goal

-- a place before another is a lesser measure
smaller : (before : Option ℕ) (place : ℕ) → ((b : ℕ) → before ≡ Some b → b < place) → unwrap_or (option_map (λ (p : ℕ). p + 1) before) 0 + 1 ≤ place + 1
smaller None place lt = omega arith
smaller (Some b) place lt = omega (arith, lt b refl)

pub loop-at-init : goal.loop-at-init
loop-at-init g c =
    let live = (g.S.Store.state c.args.store.now).live in
    let index = c.args.index.now in
    record {
      met = λ number h.
          let n = numbered live number h.clause h.is_live in
          let i = c.requires.indexes.each h.clause n.contains in
          let at : newest_in index (set_hash c.args.marks.now.vars h.clause.lits) ≡ c.newest-at.result = ap (λ (ls : Literals). newest_in index (set_hash c.args.marks.now.vars ls)) (sym h.same) ∙ ap (newest_in index) (sym c.requires.hash) ∙ sym c.newest-at.ensures in
          let P : ℕ → Type 0 = λ m. IsMet index.entries.items m (newest_in index (set_hash c.args.marks.now.vars h.clause.lits)) in
          let Q : Option ℕ → Type 0 = λ o. IsMet index.entries.items number o in
          subst Q at (subst P n.same i.met);
      within = λ place is. c.requires.indexes.linked.within c.args.hash place (sym c.newest-at.ensures ∙ is);
      vars = refl;
    }

pub index-entry-requires : goal.index-entry-requires
index-entry-requires g c = omega (arith, c.loop-at.invariant.within c.in-Some.place c.in-Some.is, c.args.index.now.entries.ok.0)

pub returns-then-has_literals-clause-has : goal.returns-then-has_literals-clause-has
returns-then-has_literals-clause-has g c = c.has_literals.ensures.has c.if-has_literals.true

pub loop-at-smaller : goal.loop-at-smaller
loop-at-smaller g c =
    let e = c.index-entry.result.now in
    let lt = c.loop-at.invariant.within c.in-Some.place c.in-Some.is in
    let at : slice_get c.args.index.now.entries.items c.in-Some.place ≡ Some e = slice_get-get_or c.args.index.now.entries.items c.in-Some.place e lt ∙ ap (λ (x : Entry). Some x) (sym c.index-entry.ensures) in
    let less = smaller e.before c.in-Some.place (λ b is. c.requires.indexes.linked.back c.in-Some.place b e at is) in
    let here : unwrap_or (option_map (λ (p : ℕ). p + 1) c.loop-at.at) 0 ≡ c.in-Some.place + 1 = ap (λ (o : Option ℕ). unwrap_or (option_map (λ (p : ℕ). p + 1) o) 0) c.in-Some.is in
    omega (arith, less, here)

pub loop-at-preserved : goal.loop-at-preserved
loop-at-preserved g c =
    let entries = c.args.index.now.entries.items in
    let lt = c.loop-at.invariant.within c.in-Some.place c.in-Some.is in
    let e = c.index-entry.result.now in
    let at : slice_get entries c.in-Some.place ≡ Some e = slice_get-get_or entries c.in-Some.place e lt ∙ ap (λ (x : Entry). Some x) (sym c.index-entry.ensures) in
    let linked = c.requires.indexes.linked in
    record {
      met = λ number h. met_before entries number c.in-Some.place c.loop-at.at e c.in-Some.is at
          (λ same. c.has_literals.ensures.lacks c.if-has_literals.false (let P : ℕ → Type 0 = λ n. HasLiterals (g.S.Store.state c.args.store.now).live n c.args.lits.now in subst P (sym same) h)) (c.loop-at.invariant.met number h);
      within = λ place is. (let back = linked.back c.in-Some.place place e at is in omega (arith, back, lt));
      vars = c.has_literals.ensures.vars ∙ c.loop-at.invariant.vars;
    }

pub returns-clause-none : goal.returns-clause-none
returns-clause-none g c = λ number h. met_none c.args.index.now.entries.items number c.loop-at.at c.in_default.is (c.loop-at.invariant.met number h)
