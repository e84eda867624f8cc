use Rattle.std.proofs.Common.{below_more}
use Rattle.lls_grid.specs.History.{cells_of}
use Rattle.lls_problem.specs.Judgement.{KeepsName}
use Rattle.lls_problem.proofs.Places.{IsFirstCell-by_number}
use Rattle.lls_problem.proofs.cells.first_disagreement.Goals as goal

pub returns-then-not-agrees : goal.returns-then-not-agrees
returns-then-not-agrees c =
    IsFirstCell-by_number c.args.problem.now.posed (KeepsName c.args.problem.now.posed.cells (cells_of c.args.history.now)) c.loop-k.k _
    (rw (c.sizes.ensures.sizes, c.posed-posed.ensures.value) at c.place.ensures.index) (rw (c.sizes.ensures.sizes, c.posed-posed.ensures.value) at c.place.ensures.inside)
    (λ keeps. let test = c.agrees.ensures.1 keeps in let other = c.if-not-agrees.true in cc)
    c.loop-k.invariant

pub loop-k-preserved : goal.loop-k-preserved
loop-k-preserved c =
    below_more (KeepsName c.args.problem.now.posed.cells (cells_of c.args.history.now)) c.loop-k.k c.loop-k.invariant (c.agrees.ensures.0 c.if-not-agrees.false)
