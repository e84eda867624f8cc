use Rattle.std.proofs.Common.{arith, subst}
use Rattle.lls_words.specs.Job.{KeepsLimits}
use Rattle.lls_cli.proofs.Crews.{crew_kept}
use Rattle.lls_cli.proofs.task.task_of.Goals as goal

pub returns-in-Search-clause-kept : goal.returns-in-Search-clause-kept
returns-in-Search-clause-kept c =
    let keeps = subst KeepsLimits c.in-Search.is c.requires in
    rw (c.new-effort.ensures, c.further_of.ensures)
    (record { limits = keeps.0.demanded; printable = keeps.0.isotropic; budget = keeps.0.budgeted; crew = crew_kept _ keeps.1 })

pub returns-in-Loose-clause-kept : goal.returns-in-Loose-clause-kept
returns-in-Loose-clause-kept c =
    let keeps = subst KeepsLimits c.in-Loose.is c.requires in
    rw (c.new-effort-in-Loose.ensures, c.further_of-in-Loose.ensures)
    (record { limits = keeps.0; printable = tt; budget = keeps.1; crew = λ plan is. absurd cc })

pub returns-in-Sat-clause-kept : goal.returns-in-Sat-clause-kept
returns-in-Sat-clause-kept c =
    let keeps = subst KeepsLimits c.in-Sat.is c.requires in
    rw (c.new-effort-in-Sat.ensures, c.further_of-further.ensures) (record { limits = tt; printable = tt; budget = keeps; crew = λ plan is. absurd cc })

pub returns-in-Make-clause-kept : goal.returns-in-Make-clause-kept
returns-in-Make-clause-kept c =
    let keeps = subst KeepsLimits c.in-Make.is c.requires in
    rw c.new-effort-in-Make.ensures (keeps.0, keeps.1, omega arith)
