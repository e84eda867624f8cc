-- The text of a step is one line.
use Rattle.std.proofs.Common.{◌≡◌, ◌≤◌, ℕ, Bool, true, List, [], ◌∷◌, ◌++◌, refl, arith}
use Rattle.std.specs.Prelude.{ℤ, codes}
use Rattle.std.specs.List.{list_all, flat_map}
use Rattle.std.specs.Fmt.{decimal, signed_decimal}
use Rattle.std.proofs.lemmas.Bool.{and_parts}
use Rattle.std.proofs.lemmas.List.Folds.{list_all-append}
use Rattle.lls_text.specs.Lines.{lines_of}
use Rattle.lls_text.proofs.Printed.{is_printed, lines_of-printed}
use Rattle.lls_text.proofs.NumberBytes.{natural_bytes, printed_bytes}
use Rattle.lls_prooflog.specs.declared.step.Step.{Step}
use Rattle.lls_prooflog.specs.declared.step.TheConstants.Step.{MOST_ID}
use Rattle.lls_prooflog.specs.declared.step.Step.TheVariants.{Add, Del}
use Rattle.lls_prooflog.specs.Range.{is_id, is_hint, IsInRange}
use Rattle.lls_prooflog.specs.StepText.{step_line, step_text, AreLiterals}
use Rattle.lls_prooflog.proofs.PrintedNumbers.{signed_bytes, is_lit, id_bounds, lit_bounds, hint_bounds}
use Rattle.lls_prooflog.proofs.PrintedLists.{list_text}

id_printed : (n : ℕ) → is_id n ≡ true → list_all is_printed (decimal n) ≡ true
id_printed n e = printed_bytes (decimal n) (natural_bytes n (id_bounds n e).1).1

lit_printed : (l : ℤ) → is_lit l ≡ true → list_all is_printed (signed_decimal l) ≡ true
lit_printed l e = printed_bytes (signed_decimal l) (signed_bytes l (lit_bounds l e).1).1

hint_printed : (h : ℤ) → is_hint h ≡ true → list_all is_printed (signed_decimal h) ≡ true
hint_printed h e = printed_bytes (signed_decimal h) (signed_bytes h (hint_bounds h e).1).1

module _ {X : Type 0} (text_of : X → List ℕ) (test : X → Bool) (each : (x : X) → test x ≡ true → list_all is_printed (text_of x) ≡ true) where
  items_printed : (xs : List X) → list_all test xs ≡ true → list_all is_printed (flat_map (λ x. text_of x ++ codes " ") xs) ≡ true
  items_printed [] all = refl
  items_printed (x ∷ xs) all =
      let parts = and_parts (test x) (list_all test xs) all in
      rw (list_all-append is_printed (text_of x ++ codes " ") (flat_map (λ y. text_of y ++ codes " ") xs), list_all-append is_printed (text_of x) (codes " "), each x parts.0, items_printed xs parts.1) refl

  list_printed : (xs : List X) → list_all test xs ≡ true → list_all is_printed (list_text text_of xs) ≡ true
  list_printed xs all =
      rw (list_all-append is_printed (flat_map (λ x. text_of x ++ codes " ") xs) (codes "0"), items_printed xs all) refl

pub step_printed : (greatest : ℕ) (step : Step) → greatest ≤ MOST_ID → AreLiterals step → IsInRange step → list_all is_printed (step_line greatest step) ≡ true
step_printed greatest (Add id lits hints) fits within range =
    let parts = and_parts (is_id id) (list_all is_hint hints) range in
    let front = decimal id ++ codes " " in
    let middle = list_text signed_decimal lits in
    let last = list_text signed_decimal hints in
    rw (list_all-append is_printed ((front ++ middle) ++ codes " ") last, list_all-append is_printed (front ++ middle) (codes " "), list_all-append is_printed front middle, list_all-append is_printed (decimal id) (codes " "), id_printed id parts.0, list_printed signed_decimal is_lit lit_printed lits within, list_printed signed_decimal is_hint hint_printed hints parts.1) refl
step_printed greatest (Del ids) fits within range =
    let first = printed_bytes (decimal greatest) (natural_bytes greatest (omega (arith, fits))).1 in
    rw (list_all-append is_printed (decimal greatest ++ codes " d ") (list_text decimal ids), list_all-append is_printed (decimal greatest) (codes " d "), first, list_printed decimal is_id id_printed ids range) refl

pub lines_of-step_text : (greatest : ℕ) (step : Step) → greatest ≤ MOST_ID → AreLiterals step → IsInRange step → lines_of (step_text greatest step) ≡ step_line greatest step ∷ []
lines_of-step_text greatest step fits within range = lines_of-printed (step_line greatest step) [] (step_printed greatest step fits within range)
