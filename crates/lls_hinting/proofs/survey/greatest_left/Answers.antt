use Rattle.std.proofs.Common.{◌∙◌, [], ◌∷◌, ◌++◌, Ok, refl, sym, ap, arith}
use Rattle.lls_lit.specs.Formula.{is_within}
use Rattle.lls_base.specs.Shelf.{known_rest}
use Rattle.lls_base.proofs.Faults.{Counts-refl, Counts-trans}
use Rattle.lls_drat.specs.Reading.{taken}
use Rattle.lls_hinting.specs.Place.{place_at}
use Rattle.lls_hinting.proofs.Passing.{passes_more, passes_none}
use Rattle.lls_hinting.proofs.Surveying.{within_more}
use Rattle.lls_hinting.proofs.survey.greatest_left.Goals as goal

pub loop-proof-init : goal.loop-proof-init
loop-proof-init g c = record {
  most = omega arith;
  within = c.requires.within;
  input = refl;
  count = omega (arith, c.requires.fresh);
  passed = ([], refl, passes_none (place_at c.args.proof.now (known_rest (g.S.Shelf.told c.args.shelf.now))));
  files = refl;
  counts = Counts-refl _ (g.met.S.Shelf.faults_fit c.args.shelf.now);
  no_fault = refl;
}

pub loop-proof-preserved : goal.loop-proof-preserved
loop-proof-preserved g c =
    let inv = c.loop-proof.invariant in
    let next = c.in-Some.field-0 in
    let read = rw c.in-Some.is at c.in_ok-next.ensures.read in
    let l = taken next.kind c.next.new.self.reader in
    let a = place_at c.args.proof.now (known_rest (g.S.Shelf.told c.args.shelf.now)) in
    let b = place_at c.loop-proof.proof (known_rest (g.S.Shelf.told c.loop-proof.shelf)) in
    let d = place_at c.next.new.self (known_rest (g.S.Shelf.told c.next.new.shelf)) in
    record {
      most = c.greater-vars.ensures.most;
      within = c.next.ensures.within;
      input = c.next.ensures.input ∙ inv.input;
      count = c.in_ok-next.ensures.fits next (ap Ok c.in-Some.is);
      passed = (
        inv.passed.0 ++ l ∷ [],
        within_more c.loop-proof.vars c.greater-vars.result inv.passed.0 l c.greater-vars.ensures.before inv.passed.1
            (ap (is_within c.greater-vars.result) (sym c.lits.ensures) ∙ c.greater-vars.ensures.within),
        passes_more a b d inv.passed.0 l inv.passed.2 read.ok.0.1,
      );
      files = read.files ∙ inv.files;
      counts = Counts-trans inv.counts read.counts;
      no_fault = read.ok.1 ∙ inv.no_fault;
    }
