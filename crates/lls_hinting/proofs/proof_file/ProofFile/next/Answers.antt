use Rattle.std.proofs.Common.{◌∙◌, [], ◌++◌, refl}
use Rattle.lls_base.specs.Shelf.{known_rest}
use Rattle.lls_base.proofs.Faults.{Counts-trans}
use Rattle.lls_drat.specs.Reading.{taken, to_come}
use Rattle.lls_hinting.specs.Place.{place_at}
use Rattle.lls_hinting.proofs.Coming.{all_came, came_more, came_none, last_said, next_passed}
use Rattle.lls_hinting.proofs.Numbers.{number_above}
use Rattle.lls_hinting.proofs.proof_file.ProofFile.next.Goals as goal

pub returns-in-Some-clause-read : goal.returns-in-Some-clause-read
returns-in-Some-clause-read g c =
    let inv = c.loop-next.invariant in
    let rest = known_rest (g.S.Shelf.told c.loop-next.shelf) in
    let says = rw c.in-Some.is at c.in_ok-next.ensures.whole in
    let passed = next_passed (place_at c.args.self.now (known_rest (g.S.Shelf.told c.args.shelf.now))) (place_at c.loop-next.self rest) (place_at c.whole.new.self rest)
    (taken c.in-Some.next.kind c.whole.new.self.reader) inv.came says.1 c.whole.ensures.taken refl in
    record { files = inv.files; counts = inv.counts; ok = ((says.0, passed), inv.no_fault); err = tt }

pub returns-in-Some-clause-above : goal.returns-in-Some-clause-above
returns-in-Some-clause-above g c = λ next is.
    let inv = c.loop-next.invariant in
    let says = rw c.in-Some.is at c.in_ok-next.ensures.whole in
    number_above c.args.self.now.reader (inv.came.bytes ++ []) (taken c.in-Some.next.kind c.whole.new.self.reader) (to_come c.whole.new.self.reader []) (inv.came.keeps [] ∙ says.1 [])

pub returns-then-branch-eq0-clause-read : goal.returns-then-branch-eq0-clause-read
returns-then-branch-eq0-clause-read g c =
    let inv = c.loop-next.invariant in
    let rest = known_rest (g.S.Shelf.told c.loop-next.shelf) in
    let a = place_at c.args.self.now (known_rest (g.S.Shelf.told c.args.shelf.now)) in
    let b = place_at c.loop-next.self rest in
    let d = place_at c.whole.new.self rest in
    let e = place_at c.fill.new.self (known_rest (g.S.Shelf.told c.fill.new.shelf)) in
    let keeps = rw c.in_default.is at c.in_ok-next.ensures.whole in
    let came = came_more a b d inv.came (came_none b d keeps c.whole.ensures.taken refl) in
    let filled = c.in_ok-fill.ensures.read in
    last_said a e (place_at c.last.new.self (known_rest (g.S.Shelf.told c.fill.new.shelf))) c.last.result _ _
    (all_came a d e came filled.ok.0.0 (filled.ok.0.1 c.if-branch-eq0.true)) c.last.ensures.taken refl c.fill.ensures.within
    (filled.files ∙ inv.files) (Counts-trans inv.counts filled.counts) (filled.ok.1 ∙ inv.no_fault) c.last.ensures.last

pub returns-then-branch-eq0-clause-above : goal.returns-then-branch-eq0-clause-above
returns-then-branch-eq0-clause-above g c = λ next is.
    let inv = c.loop-next.invariant in
    let rest = known_rest (g.S.Shelf.told c.loop-next.shelf) in
    let a = place_at c.args.self.now (known_rest (g.S.Shelf.told c.args.shelf.now)) in
    let b = place_at c.loop-next.self rest in
    let d = place_at c.whole.new.self rest in
    let e = place_at c.fill.new.self (known_rest (g.S.Shelf.told c.fill.new.shelf)) in
    let keeps = rw c.in_default.is at c.in_ok-next.ensures.whole in
    let came = came_more a d e (came_more a b d inv.came (came_none b d keeps c.whole.ensures.taken refl)) c.in_ok-fill.ensures.read.ok.0.0 in
    let says = rw is at c.last.ensures.last in
    number_above c.args.self.now.reader (came.bytes ++ []) (taken next.kind c.last.new.self.reader) (to_come c.last.new.self.reader []) (came.keeps [] ∙ says.1)

pub loop-next-preserved : goal.loop-next-preserved
loop-next-preserved g c =
    let inv = c.loop-next.invariant in
    let rest = known_rest (g.S.Shelf.told c.loop-next.shelf) in
    let a = place_at c.args.self.now (known_rest (g.S.Shelf.told c.args.shelf.now)) in
    let b = place_at c.loop-next.self rest in
    let d = place_at c.whole.new.self rest in
    let e = place_at c.fill.new.self (known_rest (g.S.Shelf.told c.fill.new.shelf)) in
    let keeps = rw c.in_default.is at c.in_ok-next.ensures.whole in
    let filled = c.in_ok-fill.ensures.read in
    record {
      within = c.fill.ensures.within;
      input = c.fill.ensures.input ∙ inv.input;
      came = came_more a d e (came_more a b d inv.came (came_none b d keeps c.whole.ensures.taken refl)) filled.ok.0.0;
      files = filled.files ∙ inv.files;
      counts = Counts-trans inv.counts filled.counts;
      no_fault = filled.ok.1 ∙ inv.no_fault;
    }
