use Rattle.std.proofs.Common.{List, ℕ, [], sym, ap, ◌∙◌, subst}
use Rattle.lls_prooflog.specs.Log.{Logged}
use Rattle.lls_prooflog.specs.declared.step.Step.{Step}
use Rattle.lls_crew.specs.declared.stage.Stage.TheVariants.{Going}
use Rattle.lls_crew.specs.Crew.{IsCrewOf, crew_of}
use Rattle.lls_crew.proofs.TurnsTaken.{crew_started, started_seen}
use Rattle.lls_crew.proofs.searchers.Crew.new.Goals as goal

pub invariant_of-result : goal.invariant_of-result
invariant_of-result c =
    let items = c.in_ok-new_searchers.field-0.items in
    let none = ap (λ (log : Logged). log.steps) c.new.ensures in
    let empty = c.new-2.ensures.items in
    subst (λ (steps : List Step). IsCrewOf c.args.formula.now c.args.budget c.args.keep_all items steps c.new-2.result.items Going) (sym none)
    (subst (λ (live : List ℕ). IsCrewOf c.args.formula.now c.args.budget c.args.keep_all items [] live Going) (sym empty)
    (crew_started c.args.formula.now c.args.budget c.args.keep_all items c.in_ok-new_searchers.ensures.searching c.requires.budget))

pub returns : goal.returns
returns c =
    let items = c.in_ok-new_searchers.field-0.items in
    ap (λ (log : Logged). crew_of c.args.formula.now c.args.budget c.args.keep_all items log.steps Going) c.new.ensures
    ∙ started_seen c.args.formula.now c.args.budget c.args.keep_all items c.args.searchers c.in_ok-new_searchers.ensures.searching c.in_ok-new_searchers.ensures.len
