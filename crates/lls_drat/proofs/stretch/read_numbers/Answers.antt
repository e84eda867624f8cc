use Rattle.std.proofs.Common.{◌≡◌, sym, ◌∙◌}
use Rattle.std.specs.Prelude.{Ok, Some}
use Rattle.lls_drat.specs.Numbers.{next_number}
use Rattle.lls_drat.proofs.Answered.{given_fault}
use Rattle.lls_drat.proofs.FirstNumbers.{literals-step, literals-fault}
use Rattle.lls_drat.proofs.stretch.read_numbers.Goals as goal

pub returns-in_err-lit : goal.returns-in_err-lit
returns-in_err-lit c =
    given_fault _ c.in_err-lit.field-0.0 _ _ c.from_residual.ensures.1 (sym c.loop-lit.invariant ∙ literals-fault c.loop-lit.numbers c.loop-lit.lits.items c.in_err-lit.field-0.0 c.in_err-lit.ensures.literal)

pub loop-lit-preserved : goal.loop-lit-preserved
loop-lit-preserved c =
    let e : Ok (Some c.in-Some.lit) ≡ next_number c.loop-lit.numbers = rw (← c.in-Some.is) c.in_ok-lit.ensures.literal in
    rw (c.in_ok-push.ensures.items, c.in_ok-lit.ensures.rest) (literals-step c.loop-lit.numbers c.loop-lit.lits.items c.in-Some.lit e ∙ c.loop-lit.invariant)
