use Rattle.std.proofs.Common.{◌≡◌, ◌≤◌, length, ap, arith}
use Rattle.std.proofs.lemmas.List.{length-take-le}
use Rattle.lls_cnf.specs.Pieces.{pieces}
use Rattle.lls_cnf.proofs.Cut.{length-pieces, end_within, pieces-take, AreEnds-take}
use Rattle.lls_cnf.proofs.clauses.Clauses.cut.Goals as goal

pub keep-requires : goal.keep-requires
keep-requires c =
    let f = c.self.inside in
    let same : length (pieces 0 f.ends.items f.lits.items) ≡ length c.args.self.now = ap length c.self.view_is in
    omega (arith, same, c.requires, length-pieces 0 f.ends.items f.lits.items)

pub invariant_of-self : goal.invariant_of-self
invariant_of-self c =
    let f = c.self.inside in
    let same : length (pieces 0 f.ends.items f.lits.items) ≡ length c.args.self.now = ap length c.self.view_is in
    let le : c.args.clauses ≤ length f.ends.items = omega (arith, same, c.requires, length-pieces 0 f.ends.items f.lits.items) in
    let kept = length-take-le _ f.lits.items (end_within 0 f.ends.items (length f.lits.items) c.args.clauses c.self.invariant le) in
    rw (c.keep.ensures.ends, c.keep.ensures.buffer, kept) (AreEnds-take 0 f.ends.items (length f.lits.items) c.args.clauses c.self.invariant le)

pub returns : goal.returns
returns c =
    let f = c.self.inside in
    let same : length (pieces 0 f.ends.items f.lits.items) ≡ length c.args.self.now = ap length c.self.view_is in
    let le : c.args.clauses ≤ length f.ends.items = omega (arith, same, c.requires, length-pieces 0 f.ends.items f.lits.items) in
    rw (c.keep.ensures.ends, c.keep.ensures.buffer, ← c.self.view_is)
    (pieces-take 0 f.ends.items f.lits.items (length f.lits.items) c.args.clauses c.self.invariant le)
