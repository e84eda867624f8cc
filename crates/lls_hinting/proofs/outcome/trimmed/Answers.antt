-- An accepted log is recorded and trimmed, but for want of memory.
use Rattle.std.proofs.Common.{◌≡◌, ◌≤◌, ◌∙◌, ℕ, List, length, Ok, Err, ap, inl, subst, arith, rules}
use Rattle.std.specs.Prelude.{Result, count_by}
use Rattle.std.proofs.lemmas.Grind.{common_steps}
use Rattle.lls_lit.specs.Formula.{Cnf}
use Rattle.lls_prooflog.specs.declared.step.Step.{Step}
use Rattle.lls_prooflog.specs.Spent.{is_addition}
use Rattle.lls_prooflog.specs.Steps.{are_accepted}
use Rattle.lls_prooflog.specs.UnitWalk.{numbered}
use Rattle.lls_lrat.proofs.Logs.{accepted_log}
use Rattle.lls_trim.specs.declared.error.TrimError.{TrimError}
use Rattle.lls_trim.specs.declared.error.TrimError.TheVariants.{RatStep}
use Rattle.lls_trim.specs.declared.trimming.Trimming.{Trimming}
use Rattle.lls_trim.specs.Placed.{steps_of_log}
use Rattle.lls_trim.specs.Inferences.{Inference}
use Rattle.lls_trim.specs.Needed.{IsFirstRat}
use Rattle.lls_trim.specs.Trimming.{IsTrimmingOf}
use Rattle.lls_trim.proofs.Readings.{steps_in-log}
use Rattle.lls_trim.proofs.Theorem.{call_trims_well, no_first_rat}
use Rattle.lls_hinting.specs.Judging.{progress}
use Rattle.lls_hinting.proofs.Hinting.{accepted_at_end, additions_fewer, are_hints}
use Rattle.lls_hinting.proofs.outcome.trimmed.Goals as goal

pub unreachable-requires : goal.unreachable-requires
unreachable-requires c =
    let whole = accepted_log c.args.formula.now c.args.log.steps (accepted_at_end c.args.formula.now c.args.log.steps c.requires.well c.requires.ends) in
    first_of (search rules, grind (arith, common_steps))

pub unreachable-requires-in-Err-trim : goal.unreachable-requires-in-Err-trim
unreachable-requires-in-Err-trim c =
    let none : (line : ℕ) → c.trim.result ≡ Err (RatStep line) → ⊥ = λ line is.
    no_first_rat c.args.formula.now c.args.log.steps line c.requires.good
    (subst (λ (is : List Inference). IsFirstRat is line) c.in-Ok.ensures.inferences (c.trim.ensures.rat line is)) in
    first_of (search rules, grind (arith, common_steps))

pub returns-in-Ok-trim : goal.returns-in-Ok-trim
returns-in-Ok-trim c =
    let formula = c.args.formula.now in
    let steps = c.args.log.steps in
    let recorded = c.in-Ok.recorded in
    let trimming = c.in-Ok-trim.trimming in
    let does = c.in-Ok-trim.ensures in
    let accepted = ap (are_accepted (numbered formula.clauses)) (steps_in-log 1 steps) ∙ accepted_at_end formula steps c.requires.well c.requires.ends in
    let result : Result Trimming TrimError = Ok trimming in
    let well : IsTrimmingOf formula (steps_of_log steps) trimming =
    call_trims_well formula (steps_of_log steps) accepted recorded.inferences (length recorded.formula.clauses) result
    c.in-Ok.ensures.inferences (ap (λ (f : Cnf). length f.clauses) c.in-Ok.ensures.formula) does.trims does.additions does.by_propagation in
    let fewer = subst (λ (ss : List Step). length trimming.log.steps ≤ count_by is_addition ss) (steps_in-log 1 steps) well.fewer in
    are_hints formula (progress steps c.args.tally) trimming.log.steps c.additions-given.result c.printed.result c.additions-given.ensures (additions_fewer trimming.log.steps steps fewer)
    c.printed.ensures.text c.printed.ensures.read_again well.accepted c.requires.unsatisfiable (inl (record { left = well.trimmed; additions = well.additions; again = well.again })) c.printed.ensures.said
