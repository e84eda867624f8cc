-- A log as its callers see it, and its text.
use Rattle.std.specs.Prelude.{◌≡◌, ◌≤◌, ℕ, List, [], ◌∷◌, ◌++◌, map, Result, Ok, Option, Some}
use Rattle.lls_text.specs.Lines.{lines_of}
use Rattle.lls_prooflog.specs.declared.step.Step.{Step}
use Rattle.lls_prooflog.specs.declared.step.Step.TheVariants.{Add, Del}
use Rattle.lls_prooflog.specs.declared.line_fault.LineFault.{LineFault}
use Rattle.lls_prooflog.specs.declared.log.Addition.{Addition}
use Rattle.lls_prooflog.specs.declared.step_ref.StepRef.{StepRef}
use Rattle.lls_prooflog.specs.declared.step_ref.StepRef.TheVariants as lent
use Rattle.lls_prooflog.specs.Lent.{hints_of, ids_of}
use Rattle.lls_prooflog.specs.Line.{step_of_line}
use Rattle.lls_prooflog.specs.StepText.{step_text, greatest_with}

-- the steps, and for how many steps, literals and hints more there is room
pub record Logged : Type 0 where
  pub steps : List Step
  pub spare_steps : ℕ
  pub spare_lits : ℕ
  pub spare_hints : ℕ

-- room for so many steps, literals and hints more
pub record HasSpare (log : Logged) (steps lits hints : ℕ) : Type 0 where
  pub steps_fit : steps ≤ log.spare_steps
  pub lits_fit : lits ≤ log.spare_lits
  pub hints_fit : hints ≤ log.spare_hints

-- the same steps, and no less room
pub record Widens (old new : Logged) : Type 0 where
  pub steps_stay : new.steps ≡ old.steps
  pub roomy : HasSpare new old.spare_steps old.spare_lits old.spare_hints

-- a lent addition is this step
abbrev pub step_of_addition : Addition → Step
step_of_addition a = Add a.id a.lits.now (hints_of a.hints)

-- a lent step is this step
abbrev pub step_of_ref : StepRef → Step
step_of_ref (lent.Add addition) = step_of_addition addition
step_of_ref (lent.Del ids) = Del (ids_of ids)

-- a line for each step, behind steps whose greatest id this is
abbrev pub text_behind : ℕ → List Step → List ℕ
text_behind greatest [] = []
text_behind greatest (step ∷ steps) = step_text greatest step ++ text_behind (greatest_with greatest step) steps

-- a line for each step. The greatest id so far is 0 where nothing was added
abbrev pub log_text : List Step → List ℕ
log_text steps = text_behind 0 steps

-- what the lines of a text write
abbrev pub read_lines : List ℕ → List (Result (Option Step) LineFault)
read_lines text = map step_of_line (lines_of text)

-- lines that are read as just these steps
abbrev pub ReadsAs : List ℕ → List Step → Type 0
ReadsAs text steps = read_lines text ≡ map (λ step. Ok (Some step)) steps
