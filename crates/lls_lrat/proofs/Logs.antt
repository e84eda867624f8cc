-- What a log amounts to: as its text does, and accepted exactly where its steps are.
use Rattle.std.proofs.Common.{◌≡◌, ℕ, ◌+◌, true, false, cond, List, [], ◌∷◌, map, Option, Some, None, is_none, refl, sym, ap, ◌∙◌}
use Rattle.std.specs.Prelude.{Ok, Result, fold, ◌||◌}
use Rattle.lls_text.specs.Lines.{lines_of}
use Rattle.lls_lit.specs.Formula.{Cnf}
use Rattle.lls_prooflog.specs.declared.step.Step.{Step}
use Rattle.lls_prooflog.specs.declared.line_fault.LineFault.{LineFault}
use Rattle.lls_prooflog.specs.Line.{step_of_line}
use Rattle.lls_prooflog.specs.Log.{ReadsAs}
use Rattle.lls_prooflog.specs.Steps.{Live, numbered, fault_of, after, is_empty_addition, are_accepted}
use Rattle.lls_lrat.specs.Verdict.{Verdict, Accepted, BadLine, BadStep, NoEmpty, State, start, after_step, after_reading, line_taken, take_line, step_taken, take_step, closing, verdict, log_verdict, answer_of}
use Rattle.lls_lrat.proofs.Verdicts.{step_taken-ended, fold-ended}

-- a line takes the state where the step does that it writes
one_line : (state : State) (end : Option Verdict) (line : List ℕ) (step : Step) → step_of_line line ≡ Ok (Some step) → take_line state end line ≡ take_step state end step
one_line state (Some end) line step e = refl
one_line state None line step e = ap (after_reading state) e

read_as : Step → Result (Option Step) LineFault
read_as step = Ok (Some step)

head_same : {X : Type 0} (x y : X) (xs ys : List X) → x ∷ xs ≡ y ∷ ys → x ≡ y
head_same x y xs ys e = cc

tail_same : {X : Type 0} (x y : X) (xs ys : List X) → x ∷ xs ≡ y ∷ ys → xs ≡ ys
tail_same x y xs ys e = cc

pub fold-lines : (lines : List (List ℕ)) (steps : List Step) (state : State) → map step_of_line lines ≡ map (λ step. Ok (Some step)) steps → fold line_taken state lines ≡ fold step_taken state steps
fold-lines [] [] state e = refl
fold-lines [] (step ∷ steps) state e = absurd cc
fold-lines (line ∷ lines) [] state e = absurd cc
fold-lines (line ∷ lines) (step ∷ steps) state e =
    let first = one_line state state.end line step (head_same (step_of_line line) (Ok (Some step)) (map step_of_line lines) (map (λ s. Ok (Some s)) steps) e) in
    ap (λ (s : State). fold line_taken s lines) first
    ∙ fold-lines lines steps (step_taken state step) (tail_same (step_of_line line) (Ok (Some step)) (map step_of_line lines) (map (λ s. Ok (Some s)) steps) e)

pub verdict_of_lines : (formula : Cnf) (steps : List Step) (text : List ℕ) → ReadsAs text steps → verdict formula text ≡ log_verdict formula steps
verdict_of_lines formula steps text e = ap (λ (s : State). closing s.end) (fold-lines (lines_of text) steps (start formula) e)

-- behind so many lines without an end
abbrev going : Live → ℕ → State
going live lines = record { live = live; lines = lines; end = None }

pub accepted-from : (steps : List Step) (live : Live) (lines : ℕ) → are_accepted live steps ≡ true → (fold step_taken (going live lines) steps).end ≡ Some Accepted
accepted-from [] live lines e = absurd cc
accepted-from (step ∷ steps) live lines e =
    elim (fault_of live step) as (λ f. fault_of live step ≡ f → cond (is_none f) (is_empty_addition step || are_accepted (after live step) steps) false ≡ true → (fold step_taken (after_step (going live lines) step f) steps).end ≡ Some Accepted) [
      | Some fault ↦ λ is bad. absurd cc
      | None ↦ λ is good.
          elim (is_empty_addition step) as (λ b. (b || are_accepted (after live step) steps) ≡ true → (fold step_taken (record { live = after live step; lines = lines + 1; end = cond b (Some Accepted) None }) steps).end ≡ Some Accepted) [
            | true ↦ λ _. ap (λ (s : State). s.end) (fold-ended step_taken step_taken-ended (record { live = after live step; lines = lines + 1; end = Some Accepted }) Accepted steps refl)
            | false ↦ λ more. accepted-from steps (after live step) (lines + 1) more
          ] good
    ] refl e

pub accepted_log : (formula : Cnf) (steps : List Step) → are_accepted (numbered formula.clauses) steps ≡ true → log_verdict formula steps ≡ Accepted
accepted_log formula steps e = ap closing (accepted-from steps (numbered formula.clauses) 0 e)

-- no other steps end so
pub accepted-only : (steps : List Step) (live : Live) (lines : ℕ) → (fold step_taken (going live lines) steps).end ≡ Some Accepted → are_accepted live steps ≡ true
accepted-only [] live lines e = absurd cc
accepted-only (step ∷ steps) live lines e =
    elim (fault_of live step) as (λ f. fault_of live step ≡ f → (fold step_taken (after_step (going live lines) step f) steps).end ≡ Some Accepted → cond (is_none f) (is_empty_addition step || are_accepted (after live step) steps) false ≡ true) [
      | Some fault ↦ λ is good.
          let bad = after_step (going live lines) step (Some fault) in
          let stays = ap (λ (s : State). s.end) (fold-ended step_taken step_taken-ended bad (BadStep (lines + 1) fault) steps refl) in
          let apart : Some (BadStep (lines + 1) fault) ≡ Some Accepted = sym stays ∙ good in
          absurd cc
      | None ↦ λ is good.
          elim (is_empty_addition step) as (λ b. (fold step_taken (record { live = after live step; lines = lines + 1; end = cond b (Some Accepted) None }) steps).end ≡ Some Accepted → (b || are_accepted (after live step) steps) ≡ true) [
            | true ↦ λ _. refl
            | false ↦ λ more. accepted-only steps (after live step) (lines + 1) more
          ] good
    ] refl e

pub closes : (end : Option Verdict) → closing end ≡ Accepted → end ≡ Some Accepted
closes None e = absurd cc
closes (Some verdict) e = ap Some e

pub accepted_answer : (verdict : Verdict) → answer_of verdict ≡ Ok tt → verdict ≡ Accepted
accepted_answer Accepted e = refl
accepted_answer (BadLine number fault) e = absurd cc
accepted_answer (BadStep number fault) e = absurd cc
accepted_answer NoEmpty e = absurd cc

pub log_accepted : (formula : Cnf) (steps : List Step) → log_verdict formula steps ≡ Accepted → are_accepted (numbered formula.clauses) steps ≡ true
log_accepted formula steps e = accepted-only steps (numbered formula.clauses) 0 (closes (fold step_taken (start formula) steps).end e)
