use Rattle.std.proofs.Common.{◌∙◌, [], ◌∷◌, ◌++◌, ℕ, Ok, Err, true, false, refl, sym, ap, subst, arith}
use Rattle.std.proofs.lemmas.Result.{err_from_is_err_and}
use Rattle.lls_base.specs.Shelf.{known_rest}
use Rattle.lls_base.proofs.Faults.{Counts-refl, Counts-trans}
use Rattle.lls_lit.specs.Formula.{Cnf}
use Rattle.lls_lemmas.specs.Lemmas.{IsNotImplied}
use Rattle.lls_drat.specs.Reading.{taken}
use Rattle.lls_hinting.specs.Judging.{StopsAfter, progress}
use Rattle.lls_hinting.specs.Place.{place_at}
use Rattle.lls_hinting.proofs.Passing.{passes_more, passes_none}
use Rattle.lls_hinting.proofs.Taking.{lemma_refused, lemma_stops, says_of, settled_of, takes_more}
use Rattle.lls_hinting.proofs.judging.judge_left.Goals as goal

pub loop-proof-init : goal.loop-proof-init
loop-proof-init g c = record {
  within = c.requires.within;
  input = refl;
  count = omega (arith, c.requires.fresh);
  formula = refl;
  vars = refl;
  rest = c.requires.rest;
  reasons = omega (arith, c.requires.reasons);
  unknown = omega (arith, c.requires.unknown);
  passed = ([], passes_none (place_at c.args.proof.now (known_rest (g.S.Shelf.told c.args.shelf.now))), refl);
  files = refl;
  counts = Counts-refl _ (g.met.S.Shelf.faults_fit c.args.shelf.now);
  no_fault = refl;
}

pub judge_lemma-requires-clause-reasons : goal.judge_lemma-requires-clause-reasons
judge_lemma-requires-clause-reasons g c =
    let read = rw c.in-Some.is at c.in_ok-next.ensures.read in
    omega (arith, c.loop-proof.invariant.reasons, read.ok.0.0, c.in_ok-next.ensures.above c.in-Some.next (ap Ok c.in-Some.is))

pub judge_lemma-requires-clause-unknown : goal.judge_lemma-requires-clause-unknown
judge_lemma-requires-clause-unknown g c =
    let read = rw c.in-Some.is at c.in_ok-next.ensures.read in
    omega (arith, c.loop-proof.invariant.unknown, read.ok.0.0, c.in_ok-next.ensures.above c.in-Some.next (ap Ok c.in-Some.is))

pub returns-in_err-is_taken-clause-read : goal.returns-in_err-is_taken-clause-read
returns-in_err-is_taken-clause-read g c =
    let inv = c.loop-proof.invariant in
    let next = c.in-Some.next in
    let read = rw c.in-Some.is at c.in_ok-next.ensures.read in
    let reading = c.next.new.self.reader in
    let a = place_at c.args.proof.now (known_rest (g.S.Shelf.told c.args.shelf.now)) in
    let b = place_at c.loop-proof.proof (known_rest (g.S.Shelf.told c.loop-proof.shelf)) in
    let d = place_at c.next.new.self (known_rest (g.S.Shelf.told c.next.new.shelf)) in
    let old = progress c.args.lemmas.now.steps c.args.tally.now in
    let between = progress c.loop-proof.lemmas.steps c.loop-proof.tally in
    let new = progress c.judge_lemma.new.lemmas.steps c.judge_lemma.new.tally in
    let says = says_of c.loop-proof.lemmas.formula c.args.lemmas.now.formula c.args.vars next.kind c.lits.result.now reading.lits between new (Err c.in_err-is_taken.field-0.0) inv.formula c.lits.ensures
    c.in_err-is_taken.ensures.says in
    let p = err_from_is_err_and c.from_residual-in_err-is_taken.result c.from_residual-in_err-is_taken.ensures.1 in
    rw (p.1, p.2)
    record {
      files = read.files ∙ inv.files;
      counts = Counts-trans inv.counts read.counts;
      ok = tt;
      err = lemma_stops c.args.lemmas.now.formula c.args.vars reading.count next.kind reading.lits old between new a d inv.passed.0
          _ _ _ (passes_more a b d inv.passed.0 (taken next.kind reading) inv.passed.1 read.ok.0.1) (read.ok.1 ∙ inv.no_fault) says;
    }

pub loop-proof-preserved : goal.loop-proof-preserved
loop-proof-preserved g c =
    let inv = c.loop-proof.invariant in
    let next = c.in-Some.next in
    let read = rw c.in-Some.is at c.in_ok-next.ensures.read in
    let reading = c.next.new.self.reader in
    let l = taken next.kind reading in
    let a = place_at c.args.proof.now (known_rest (g.S.Shelf.told c.args.shelf.now)) in
    let b = place_at c.loop-proof.proof (known_rest (g.S.Shelf.told c.loop-proof.shelf)) in
    let d = place_at c.next.new.self (known_rest (g.S.Shelf.told c.next.new.shelf)) in
    let formula = c.args.lemmas.now.formula in
    let state = c.loop-proof.lemmas in
    let old = progress c.args.lemmas.now.steps c.args.tally.now in
    let between = progress state.steps c.loop-proof.tally in
    let new = progress c.judge_lemma.new.lemmas.steps c.judge_lemma.new.tally in
    let says = says_of state.formula formula c.args.vars next.kind c.lits.result.now reading.lits between new (Ok true) inv.formula c.lits.ensures (rw c.if-not-is_taken.false at c.in_ok-is_taken.ensures.says) in
    let going = c.loop-proof-test.true in
    let settled = settled_of state inv.rest (sym c.is_refuted.ensures.refuted ∙ going) in
    let open_ = subst (λ (f : Cnf). IsNotImplied f state.steps []) inv.formula (c.is_refuted.ensures.unrefuted going settled) in
    record {
      within = c.next.ensures.within;
      input = c.next.ensures.input ∙ inv.input;
      count = c.in_ok-next.ensures.fits next (ap Ok c.in-Some.is);
      formula = c.judge_lemma.ensures.formula ∙ inv.formula;
      vars = c.judge_lemma.ensures.vars ∙ inv.vars;
      rest = c.in_ok-is_taken.ensures.rest (ap Ok c.if-not-is_taken.false);
      reasons = omega (arith, read.ok.0.0, c.judge_lemma.ensures.reasons);
      unknown = omega (arith, read.ok.0.0, c.judge_lemma.ensures.unknown);
      passed = (inv.passed.0 ++ l ∷ [], passes_more a b d inv.passed.0 l inv.passed.1 read.ok.0.1, takes_more formula inv.passed.0 l old between new inv.passed.2 open_ says);
      files = read.files ∙ inv.files;
      counts = Counts-trans inv.counts read.counts;
      no_fault = read.ok.1 ∙ inv.no_fault;
    }

pub returns-then-not-is_taken-clause-read : goal.returns-then-not-is_taken-clause-read
returns-then-not-is_taken-clause-read g c =
    let inv = c.loop-proof.invariant in
    let next = c.in-Some.next in
    let read = rw c.in-Some.is at c.in_ok-next.ensures.read in
    let reading = c.next.new.self.reader in
    let a = place_at c.args.proof.now (known_rest (g.S.Shelf.told c.args.shelf.now)) in
    let b = place_at c.loop-proof.proof (known_rest (g.S.Shelf.told c.loop-proof.shelf)) in
    let d = place_at c.next.new.self (known_rest (g.S.Shelf.told c.next.new.shelf)) in
    let formula = c.args.lemmas.now.formula in
    let old = progress c.args.lemmas.now.steps c.args.tally.now in
    let between = progress c.loop-proof.lemmas.steps c.loop-proof.tally in
    let new = progress c.judge_lemma.new.lemmas.steps c.judge_lemma.new.tally in
    let says = says_of c.loop-proof.lemmas.formula formula c.args.vars next.kind c.lits.result.now reading.lits between new (Ok false) inv.formula c.lits.ensures (rw c.if-not-is_taken.true at c.in_ok-is_taken.ensures.says) in
    let passes = passes_more a b d inv.passed.0 (taken next.kind reading) inv.passed.1 read.ok.0.1 in
    let stops = lemma_refused formula c.args.vars reading.count next.kind reading.lits old between new a d inv.passed.0 passes inv.passed.2 says in
    record {
      files = read.files ∙ inv.files;
      counts = Counts-trans inv.counts read.counts;
      ok = (subst (λ (n : ℕ). StopsAfter formula n old new a d) (sym read.ok.0.0) stops, read.ok.1 ∙ inv.no_fault);
      err = tt;
    }
