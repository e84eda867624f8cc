use Rattle.std.proofs.Common.{sym, subst}
use Rattle.std.proofs.lemmas.Option.{same_Some}
use Rattle.lls_lrat.specs.Occurring.{AreCounts}
use Rattle.lls_lrat.proofs.Occurring.{without, AreCounts-less, AreCounts-same}
use Rattle.lls_lrat.proofs.live.count_less.Goals as goal

pub returns-in-Some-find : goal.returns-in-Some-find
returns-in-Some-find c = λ counts is.
    let live = c.args.stored.now.all in
    subst (AreCounts (without c.args.id live)) (same_Some c.subtract.new.self counts is)
    (AreCounts-less live c.args.id c.in-Some-find.clause.now c.in-Some.known c.subtract.new.self (c.requires c.in-Some.known c.in-Some.is) (sym c.in-Some-find.ensures) c.subtract.ensures)

pub returns-in_default-find : goal.returns-in_default-find
returns-in_default-find c = λ counts is.
    let live = c.args.stored.now.all in
    subst (AreCounts (without c.args.id live)) (same_Some c.in-Some.known counts is) (AreCounts-same live c.args.id c.in-Some.known (c.requires c.in-Some.known c.in-Some.is))
