use Rattle.std.proofs.Common.{◌≡◌, take, sym, ap, subst, arith}
use Rattle.std.specs.FinSet as set
use Rattle.std.specs.Prelude.{List}
use Rattle.std.proofs.lemmas.List.{take_all}
use Rattle.lls_lit.specs.Literal.{variable_of}
use Rattle.lls_store.specs.Trail.{TrailState}
use Rattle.lls_store.specs.Closed.{AreSettled}
use Rattle.lls_store.specs.Flat.{KeptClause}
use Rattle.lls_store.specs.Scan.{live_in}
use Rattle.lls_store.specs.Store.{AreWithin}
use Rattle.lls_store.proofs.Tabled.{variable_bounds}
use Rattle.lls_store.proofs.Passes.{GoesOn-same, IsConflict-read, IsPassed-start, IsPassed-settled, IsPassed-forced, read_at, within_read}
use Rattle.lls_store.proofs.scan_store.pass.Goals as goal
use Rattle.lls_store.proofs.scan_store.pass.Goals.{in-Settled, in-Forces}

pub loop-k-init : goal.loop-k-init
loop-k-init c = IsPassed-start c.args.clauses.now.clauses c.args.trail.now c.args.trail.now (GoesOn-same c.args.trail.now) c.requires.sound

pub standing_under-requires : goal.standing_under-requires
standing_under-requires c =
    let at = read_at c.args.clauses.now.clauses c.loop-k.k c.number-number.result c.lits.result.now c.requires.scannable.rising c.number-number.ensures c.lits.ensures in
    let vars : c.loop-k.trail.vars ≡ c.args.trail.now.vars = ap (λ (t : TrailState). t.vars) c.loop-k.invariant.grown.grown in
    subst (λ n. AreWithin n (set.from_list c.lits.result.now)) (sym vars) (within_read c.args.trail.now.vars c.args.clauses.now.clauses c.loop-k.k c.number-number.result c.lits.result.now c.requires.scannable at)

pub force-requires-clause-within : goal.force-requires-clause-within
force-requires-clause-within c =
    let at = read_at c.args.clauses.now.clauses c.loop-k.k c.number-number.result c.lits.result.now c.requires.scannable.rising c.number-number.ensures c.lits.ensures in
    let l = c.in-Forces.lit in
    let within = within_read c.args.trail.now.vars c.args.clauses.now.clauses c.loop-k.k c.number-number.result c.lits.result.now c.requires.scannable at l c.in-Forces.ensures.stands in
    let vars : c.loop-k.trail.vars ≡ c.args.trail.now.vars = ap (λ (t : TrailState). t.vars) c.loop-k.invariant.grown.grown in
    omega (arith, (variable_bounds c.args.trail.now.vars (variable_of l) within).1, vars)

pub returns-in-Falsified-clause-conflict : goal.returns-in-Falsified-clause-conflict
returns-in-Falsified-clause-conflict c =
    let at = read_at c.args.clauses.now.clauses c.loop-k.k c.number-number.result c.lits.result.now c.requires.scannable.rising c.number-number.ensures c.lits.ensures in
    IsConflict-read c.args.clauses.now.clauses c.loop-k.trail c.loop-k.k c.number-number.result c.lits.result.now at c.in-Falsified.ensures

pub returns-in-Falsified-clause-grown : goal.returns-in-Falsified-clause-grown
returns-in-Falsified-clause-grown c = c.loop-k.invariant.grown

pub returns-in-Falsified-clause-sound : goal.returns-in-Falsified-clause-sound
returns-in-Falsified-clause-sound c = c.loop-k.invariant.sound

pub loop-k-preserved : goal.loop-k-preserved
loop-k-preserved c =
    let at = read_at c.args.clauses.now.clauses c.loop-k.k c.number-number.result c.lits.result.now c.requires.scannable.rising c.number-number.ensures c.lits.ensures in
    elim c.match-standing_under.branch [
      | in-Settled w ↦ rw w.trail-is (IsPassed-settled c.args.clauses.now.clauses c.args.trail.now c.loop-k.trail c.loop-k.k c.number-number.result c.lits.result.now c.loop-k.invariant at w.in-Settled.ensures)
      | in-Forces w ↦ rw (w.trail-is, w.force.ensures) (IsPassed-forced c.args.clauses.now.clauses c.args.trail.now c.loop-k.trail c.loop-k.k c.number-number.result c.lits.result.now w.in-Forces.lit c.loop-k.invariant at w.in-Forces.ensures)
    ]

pub returns-clause-closed : goal.returns-clause-closed
returns-clause-closed c same =
    let all : take c.loop-k.k c.args.clauses.now.clauses ≡ c.args.clauses.now.clauses = take_all c.loop-k.k c.args.clauses.now.clauses (omega arith) in
    subst (λ (clauses : List KeptClause). AreSettled (live_in clauses) c.loop-k.trail.entries) all (c.loop-k.invariant.settled same)

pub returns-clause-grown : goal.returns-clause-grown
returns-clause-grown c = c.loop-k.invariant.grown

pub returns-clause-sound : goal.returns-clause-sound
returns-clause-sound c = c.loop-k.invariant.sound
