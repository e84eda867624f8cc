use Rattle.std.proofs.Common.{arith}
use Rattle.std.specs.List.{zip}
use Rattle.lls_lrat.specs.Placed.{place_of}
use Rattle.lls_lrat.proofs.Indexed.{length-zip}
use Rattle.lls_lrat.proofs.Emptied.{length-emptied, kept-emptied, literals_in-emptied}
use Rattle.lls_lrat.proofs.added.bury.Goals as goal

pub returns-clause-same_many : goal.returns-clause-same_many
returns-clause-same_many c =
    let all = zip c.args.ids.now c.args.clauses.now in
    rw c.empty_dead.ensures (omega (arith, length-emptied (place_of c.args.places.now) 0 all, length-zip c.args.ids.now c.args.clauses.now c.requires.same_many, c.requires.same_many))

pub returns-clause-live : goal.returns-clause-live
returns-clause-live c =
    rw c.empty_dead.ensures (kept-emptied (place_of c.args.places.now) 0 c.args.ids.now c.args.clauses.now c.requires.same_many)

pub returns-clause-dead_at_most : goal.returns-clause-dead_at_most
returns-clause-dead_at_most c =
    rw c.empty_dead.ensures (omega (arith, literals_in-emptied (place_of c.args.places.now) 0 (zip c.args.ids.now c.args.clauses.now)))
