-- What a log with hints comes to.
use Rattle.std.proofs.Common.{◌≡◌, ◌≤◌, ℕ, Bool, true, false, ◌||◌, cond, List, [], ◌∷◌, ◌++◌, length, Option, is_none, refl, sym, ap, subst, ◌∙◌, arith}
use Rattle.std.specs.Prelude.{◌⊎◌, ℤ, IfOk, Result, Ok, Err, count_by}
use Rattle.std.proofs.lemmas.List.Sums.{count_by-le-length}
use Rattle.lls_base.specs.declared.memory.Memory.{Memory}
use Rattle.lls_lit.specs.Formula.{Cnf, IsUnsatisfiable}
use Rattle.lls_prooflog.specs.declared.step.Step.{Step}
use Rattle.lls_prooflog.specs.declared.step.Step.TheVariants.{Add}
use Rattle.lls_prooflog.specs.declared.step_fault.StepFault.{StepFault}
use Rattle.lls_prooflog.specs.Log.{ReadsAs, log_text}
use Rattle.lls_prooflog.specs.Spent.{LogState, EachStep, is_addition, log_after, log_start}
use Rattle.lls_prooflog.specs.Steps.{after, are_accepted, is_empty_addition}
use Rattle.lls_prooflog.specs.UnitWalk.{numbered}
use Rattle.lls_lrat.proofs.Logs.{accepted_log, verdict_of_lines}
use Rattle.lls_lemmas.specs.Lemmas.{EndsEmpty, HasNoFault}
use Rattle.lls_lemmas.specs.Rest.{IsRest}
use Rattle.lls_hinting.specs.declared.outcome.Hints.{Hints}
use Rattle.lls_hinting.specs.Behind.{Progress}
use Rattle.lls_hinting.specs.Hinted.{AreHints, AreTrimmed, RestOnRat, hints_text}

accepted : (state : LogState) (before : List Step) (id : ℕ) (hints : List ℤ) → EachStep HasNoFault state (before ++ Add id [] hints ∷ []) → are_accepted state.live (before ++ Add id [] hints ∷ []) ≡ true
accepted state [] id hints good = ap (λ (o : Option StepFault). cond (is_none o) true false) good.0
accepted state (step ∷ before) id hints good =
    let rest = accepted (log_after state step) before id hints good.1 in
    ap (λ (o : Option StepFault). cond (is_none o) (is_empty_addition step || are_accepted (after state.live step) (before ++ Add id [] hints ∷ [])) false) good.0
    ∙ either (is_empty_addition step) rest
  where
    either : (a : Bool) {b : Bool} → b ≡ true → (a || b) ≡ true
    either true is = refl
    either false is = is

-- steps without fault that end with the empty clause are accepted
pub accepted_at_end : (formula : Cnf) (steps : List Step) → EachStep HasNoFault (log_start formula) steps → EndsEmpty steps → are_accepted (numbered formula.clauses) steps ≡ true
accepted_at_end formula steps good e =
    let P : List Step → Type 0 = λ ss. EachStep HasNoFault (log_start formula) ss in
    let Q : List Step → Type 0 = λ ss. are_accepted (numbered formula.clauses) ss ≡ true in
    subst Q (sym e.ends) (accepted (log_start formula) e.before e.id e.hints (subst P e.ends good))

-- what is printed of steps that are accepted, and were kept of others
pub are_hints : (formula : Cnf) (now : Progress) (steps : List Step) (given : ℕ) (result : Result Hints Memory) → given ≡ count_by is_addition now.steps → count_by is_addition steps ≤ count_by is_addition now.steps
    → IfOk result (λ hints. hints.bytes.items ≡ log_text steps) → IfOk result (λ hints. ReadsAs hints.bytes.items steps)
    → are_accepted (numbered formula.clauses) steps ≡ true → IsUnsatisfiable formula → AreTrimmed formula now.steps steps ⊎ (IsRest (length formula.clauses) now.steps steps × RestOnRat formula now.steps)
    → IfOk result (λ hints. hints.text.items ≡ hints_text (count_by is_addition steps) given now.reasons now.unknown) → IfOk result (λ hints. AreHints formula now hints.bytes.items hints.text.items)
are_hints formula now steps given (Ok hints) given_is fewer text read is_accepted unsatisfiable trimmed said = record {
  steps = steps;
  text = text;
  accepted = verdict_of_lines formula steps hints.bytes.items read ∙ accepted_log formula steps is_accepted;
  trimmed = trimmed;
  unsatisfiable = unsatisfiable;
  said = record {
    fewer = fewer;
    text_is = said ∙ ap (λ (n : ℕ). hints_text (count_by is_addition steps) n now.reasons now.unknown) given_is;
  };
}
are_hints formula now steps given (Err lack) given_is fewer text read is_accepted unsatisfiable trimmed said = tt

-- no more additions than steps
pub additions_fewer : (steps whole : List Step) → length steps ≤ count_by is_addition whole → count_by is_addition steps ≤ count_by is_addition whole
additions_fewer steps whole fewer = omega (arith, fewer, count_by-le-length is_addition steps)
