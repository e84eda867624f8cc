use Rattle.std.proofs.Common.{◌≡◌, ◌≢◌, ◌∷◌, [], List, Ok, Some, sym, ap, subst, refl}
use Rattle.std.specs.Prelude.{Option, Result}
use Rattle.lls_base.specs.declared.memory.Memory.{Memory}
use Rattle.lls_lit.specs.Formula.{Cnf}
use Rattle.lls_prooflog.specs.declared.step.Step.{Step}
use Rattle.lls_prooflog.specs.declared.step.Step.TheVariants.{Add}
use Rattle.lls_store.specs.Clauses.{LiveClause}
use Rattle.lls_store.specs.Trail.{TrailState}
use Rattle.lls_store.specs.Store.{StoreState}
use Rattle.lls_solver.specs.declared.outcome.Outcome.{Outcome}
use Rattle.lls_solver.specs.declared.outcome.Outcome.TheVariants.{Sat, Unsat, Undecided}
use Rattle.lls_solver.specs.declared.searcher.Turn.{Turn}
use Rattle.lls_solver.specs.declared.searcher.Turn.TheVariants.{Complete, Learnt, Refuted, Spent}
use Rattle.lls_solver.specs.Searching.{IsOutcome, IsSearching}
use Rattle.lls_solver.specs.Sharing.{HoldsFirst}
use Rattle.lls_solver.proofs.Outcomes.{exhausted_outcome}
use Rattle.lls_solver.proofs.Sharing.{first_grown, first_searching}
use Rattle.lls_crew.specs.Turns.{EndsBy}
use Rattle.lls_crew.proofs.taking.go_on.Goals as goal

not_learnt_but : (other turn : Turn) (result : Result Turn Memory) → other ≢ Learnt → turn ≡ other → result ≡ Ok turn → result ≢ Ok Learnt
not_learnt_but other turn result differs is was learnt = differs cc

same_outcome : (a b : Outcome) → ◌≡◌ {A = Result (Option Outcome) Memory} (Ok (Some a)) (Ok (Some b)) → a ≡ b
same_outcome a b is = cc

-- where nothing changes
kept_first : (formula : Cnf) (old new : List Step) (store : StoreState) (trail : TrailState) (live : List LiveClause) → IsSearching formula old store trail → new ≡ old → live ≡ store.live → HoldsFirst formula new live
kept_first formula old new store trail live searching logged same =
    subst (λ (ss : List Step). HoldsFirst formula ss live) (sym logged) (subst (HoldsFirst formula old) (sym same) (first_searching formula old store trail searching))

pub returns-in_err-turn-clause-first : goal.returns-in_err-turn-clause-first
returns-in_err-turn-clause-first c =
    let searcher = c.args.searcher.now in
    kept_first c.args.formula.now c.args.log.now.steps c.turn.new.log.steps searcher.store searcher.trail c.turn.new.self.store.live c.requires.searching c.in_err-turn.ensures.err (c.in_err-turn.ensures.live (λ is. absurd cc))

pub returns-in_err-assignment-in-Complete-clause-first : goal.returns-in_err-assignment-in-Complete-clause-first
returns-in_err-assignment-in-Complete-clause-first c =
    let searcher = c.args.searcher.now in
    kept_first c.args.formula.now c.args.log.now.steps c.turn.new.log.steps searcher.store searcher.trail c.turn.new.self.store.live c.requires.searching
    (c.in_ok-turn.ensures.stays (ap Ok c.in-Complete.is)) (c.turn.ensures.live (not_learnt_but Complete c.in_ok-turn.field-0 c.turn.result (λ is. absurd cc) c.in-Complete.is c.in_ok-turn.was))

pub returns-in_ok-assignment-in-Complete-clause-first : goal.returns-in_ok-assignment-in-Complete-clause-first
returns-in_ok-assignment-in-Complete-clause-first c =
    let searcher = c.args.searcher.now in
    kept_first c.args.formula.now c.args.log.now.steps c.turn.new.log.steps searcher.store searcher.trail c.turn.new.self.store.live c.requires.searching
    (c.in_ok-turn.ensures.stays (ap Ok c.in-Complete.is)) (c.turn.ensures.live (not_learnt_but Complete c.in_ok-turn.field-0 c.turn.result (λ is. absurd cc) c.in-Complete.is c.in_ok-turn.was))

pub returns-in-Spent-clause-first : goal.returns-in-Spent-clause-first
returns-in-Spent-clause-first c =
    let searcher = c.args.searcher.now in
    kept_first c.args.formula.now c.args.log.now.steps c.turn.new.log.steps searcher.store searcher.trail c.turn.new.self.store.live c.requires.searching
    (c.in_ok-turn.ensures.spent_stays (ap Ok c.in-Spent.is)) (c.turn.ensures.live (not_learnt_but Spent c.in_ok-turn.field-0 c.turn.result (λ is. absurd cc) c.in-Spent.is c.in_ok-turn.was))

pub returns-in-Learnt-clause-first : goal.returns-in-Learnt-clause-first
returns-in-Learnt-clause-first c = first_searching c.args.formula.now c.turn.new.log.steps c.restart.new.self.store c.restart.new.self.trail c.restart.ensures.searching

pub returns-in-Refuted-clause-first : goal.returns-in-Refuted-clause-first
returns-in-Refuted-clause-first c =
    let formula = c.args.formula.now in
    let empty = c.in_ok-turn.ensures.empty (ap Ok c.in-Refuted.is) in
    let step = Add empty.id [] empty.hints in
    let live = c.turn.ensures.live (not_learnt_but Refuted c.in_ok-turn.field-0 c.turn.result (λ is. absurd cc) c.in-Refuted.is c.in_ok-turn.was) in
    subst (HoldsFirst formula c.turn.new.log.steps) (sym live)
    (subst (λ (ss : List Step). HoldsFirst formula ss c.args.searcher.now.store.live) (sym empty.logged) (first_grown formula c.args.log.now.steps (step ∷ []) c.args.searcher.now.store.live refl (first_searching formula c.args.log.now.steps c.args.searcher.now.store c.args.searcher.now.trail c.requires.searching)))

pub returns-in-Spent-clause-ended : goal.returns-in-Spent-clause-ended
returns-in-Spent-clause-ended c = λ outcome keep_all before is.
    let exhausted = c.in_ok-turn.ensures.spent (ap Ok c.in-Spent.is) in
    let kept = c.in_ok-turn.ensures.all_kept keep_all before in
    subst (λ (o : Outcome). IsOutcome c.args.formula.now c.args.budget keep_all c.turn.new.log.steps (Ok o)) (same_outcome Undecided outcome is)
    (exhausted_outcome c.args.formula.now c.args.budget keep_all c.turn.new.log.steps exhausted kept)

pub returns-in-Spent-clause-added : goal.returns-in-Spent-clause-added
returns-in-Spent-clause-added c = λ outcome is.
    subst (λ (o : Outcome). EndsBy o c.args.log.now.steps c.turn.new.log.steps) (same_outcome Undecided outcome is) (c.in_ok-turn.ensures.spent_stays (ap Ok c.in-Spent.is))

pub returns-in-Refuted-clause-added : goal.returns-in-Refuted-clause-added
returns-in-Refuted-clause-added c = λ outcome is.
    subst (λ (o : Outcome). EndsBy o c.args.log.now.steps c.turn.new.log.steps) (same_outcome Unsat outcome is) (c.in_ok-turn.ensures.empty (ap Ok c.in-Refuted.is))

pub returns-in_ok-assignment-in-Complete-clause-added : goal.returns-in_ok-assignment-in-Complete-clause-added
returns-in_ok-assignment-in-Complete-clause-added c = λ outcome is.
    subst (λ (o : Outcome). EndsBy o c.args.log.now.steps c.turn.new.log.steps) (same_outcome (Sat c.in_ok-assignment-in-Complete.field-0) outcome is) (c.in_ok-turn.ensures.stays (ap Ok c.in-Complete.is))
