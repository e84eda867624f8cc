-- The lines of a printed log are read again.
use Rattle.std.proofs.Common.{◌≡◌, ◌≤◌, ℕ, zero, suc, ◌+◌, true, false, cond, leb, leb-true, List, [], ◌∷◌, ◌++◌, All, take, Some, refl, sym, ap, ◌∙◌, arith, append_assoc, subst}
use Rattle.std.specs.Prelude.{nat_lt, fold, slice_get, codes}
use Rattle.std.specs.List.{list_all, flat_map}
use Rattle.std.proofs.lemmas.Bool.{and_parts}
use Rattle.std.proofs.lemmas.Option.{same_Some}
use Rattle.std.proofs.lemmas.List.{flat_map_more, append-nil}
use Rattle.std.proofs.lemmas.List.Elements.{All-append, All-from_recursion, recursion_from_All}
use Rattle.lls_text.specs.Lines.{lines_of}
use Rattle.lls_text.proofs.Printed.{lines_of-printed}
use Rattle.lls_prooflog.specs.declared.step.Step.{Step}
use Rattle.lls_prooflog.specs.declared.step.Step.TheVariants.{Add, Del}
use Rattle.lls_prooflog.specs.declared.step.TheConstants.Step.{MOST_ID}
use Rattle.lls_prooflog.specs.Range.{is_id, is_hint, IsInRange}
use Rattle.lls_prooflog.specs.StepText.{step_line, step_text, greatest_with, AreLiterals}
use Rattle.lls_prooflog.specs.Log.{text_behind, log_text, ReadsAs}
use Rattle.lls_prooflog.proofs.PrintedSteps.{step_of_line-step_line}
use Rattle.lls_prooflog.proofs.StepLines.{step_printed}

-- a step whose line is read as the step
pub record IsReadable (step : Step) : Type 0 where
  pub literals : AreLiterals step
  pub in_range : IsInRange step

-- the line of a step stands before the lines of what is behind it
first_line : (greatest : ℕ) (step : Step) (rest : List ℕ) → greatest ≤ MOST_ID → IsReadable step → lines_of (step_text greatest step ++ rest) ≡ step_line greatest step ∷ lines_of rest
first_line greatest step rest fits h =
    ap lines_of (append_assoc (step_line greatest step) (codes "\n") rest) ∙ lines_of-printed (step_line greatest step) rest (step_printed greatest step fits h.literals h.in_range)

-- the greatest id is one
pub greatest_fits : (greatest : ℕ) (step : Step) → greatest ≤ MOST_ID → IsInRange step → greatest_with greatest step ≤ MOST_ID
greatest_fits greatest (Add id lits hints) fits range =
    let most = (and_parts (leb 1 id) (leb id MOST_ID) (and_parts (is_id id) (list_all is_hint hints) range).0).1 in
    elim (nat_lt greatest id) as (λ b. cond b id greatest ≤ MOST_ID) [ true ↦ leb-true id MOST_ID most | false ↦ fits ]
greatest_fits greatest (Del ids) fits range = fits

read_lines-text_behind : (greatest : ℕ) (steps : List Step) → greatest ≤ MOST_ID → All IsReadable steps → ReadsAs (text_behind greatest steps) steps
read_lines-text_behind greatest [] fits all = refl
read_lines-text_behind greatest (step ∷ steps) fits all =
    let parts = recursion_from_All IsReadable (step ∷ steps) all in
    let next = greatest_with greatest step in
    rw (first_line greatest step (text_behind next steps) fits parts.0, step_of_line-step_line greatest step fits parts.0.literals parts.0.in_range, read_lines-text_behind next steps (greatest_fits greatest step fits parts.0.in_range) (All-from_recursion IsReadable steps parts.1)) refl

pub read_lines-log_text : (steps : List Step) → All IsReadable steps → ReadsAs (log_text steps) steps
read_lines-log_text steps all = read_lines-text_behind 0 steps (omega arith) all

-- the first steps, and the one behind them
pub take-next : {X : Type 0} (xs : List X) (k : ℕ) (x : X) → slice_get xs k ≡ Some x → take (k + 1) xs ≡ take k xs ++ x ∷ []
take-next [] k x e = absurd cc
take-next (y ∷ ys) zero x e = ap (λ (z : _). z ∷ []) (same_Some y x e)
take-next (y ∷ ys) (suc k) x e =
    let next : suc k + 1 ≡ suc (k + 1) = omega arith in
    rw next (ap (λ (zs : List _). y ∷ zs) (take-next ys k x e))

pub readable_next : (steps : List Step) (k : ℕ) (step : Step) → slice_get steps k ≡ Some step → IsReadable step → All IsReadable (take k steps) → All IsReadable (take (k + 1) steps)
readable_next steps k step e h all = subst (All IsReadable) (sym (take-next steps k step e)) (All-append IsReadable (take k steps) (step ∷ []) all (All-from_recursion IsReadable (step ∷ []) (h, tt)))

text_more : {X : Type 0} (text : X → List ℕ) (xs : List X) (k : ℕ) (x : X) → slice_get xs k ≡ Some x → flat_map text (take k xs) ++ text x ≡ flat_map text (take (k + 1) xs)
text_more text xs k x e = flat_map_more text [] (take k xs) x ∙ ap (flat_map text) (sym (take-next xs k x e))

text_behind-more : (greatest : ℕ) (steps : List Step) (step : Step) → text_behind greatest (steps ++ step ∷ []) ≡ text_behind greatest steps ++ step_text (fold greatest_with greatest steps) step
text_behind-more greatest [] step = append-nil (step_text greatest step)
text_behind-more greatest (first ∷ rest) step =
    let next = greatest_with greatest first in
    ap (λ (t : List ℕ). step_text greatest first ++ t) (text_behind-more next rest step)
    ∙ sym (append_assoc (step_text greatest first) (text_behind next rest) (step_text (fold greatest_with next rest) step))

pub text_next : (steps : List Step) (k : ℕ) (step : Step) → slice_get steps k ≡ Some step
    → log_text (take k steps) ++ step_text (fold greatest_with 0 (take k steps)) step ≡ log_text (take (k + 1) steps)
text_next steps k step e = sym (text_behind-more 0 (take k steps) step) ∙ ap log_text (sym (take-next steps k step e))

fold-more : (greatest : ℕ) (steps : List Step) (step : Step) → fold greatest_with greatest (steps ++ step ∷ []) ≡ greatest_with (fold greatest_with greatest steps) step
fold-more greatest [] step = refl
fold-more greatest (first ∷ rest) step = fold-more (greatest_with greatest first) rest step

pub greatest_next : (steps : List Step) (k : ℕ) (step : Step) → slice_get steps k ≡ Some step → greatest_with (fold greatest_with 0 (take k steps)) step ≡ fold greatest_with 0 (take (k + 1) steps)
greatest_next steps k step e = sym (fold-more 0 (take k steps) step) ∙ ap (fold greatest_with 0) (sym (take-next steps k step e))

-- one more number of a list, and the blank behind it
pub number_next : {X : Type 0} (decimal : X → List ℕ) (before : List ℕ) (xs : List X) (k : ℕ) (x : X) → slice_get xs k ≡ Some x
    → ((before ++ flat_map (λ n. decimal n ++ codes " ") (take k xs)) ++ decimal x) ++ codes " " ≡ before ++ flat_map (λ n. decimal n ++ codes " ") (take (k + 1) xs)
number_next decimal before xs k x e =
    let done = flat_map (λ n. decimal n ++ codes " ") (take k xs) in
    append_assoc (before ++ done) (decimal x) (codes " ")
    ∙ append_assoc before done (decimal x ++ codes " ")
    ∙ ap (λ (text : List ℕ). before ++ text) (text_more (λ n. decimal n ++ codes " ") xs k x e)
