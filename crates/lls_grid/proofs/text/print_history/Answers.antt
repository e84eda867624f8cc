use Rattle.std.proofs.Common.{◌≡◌, ◌<◌, ◌∙◌, ◌+◌, ◌++◌, inl, inr, ℕ, List, [], ◌∷◌, Bool, length, map, take, get_or, ap, arith, length-take}
use Rattle.std.proofs.lemmas.List.{take_more, map-append, length-map}
use Rattle.lls_grid.specs.Text.{line_feed, digit_word, rows_text}
use Rattle.lls_grid.proofs.Joins.{separated}
use Rattle.lls_grid.proofs.text.print_history.Goals as goal
use Rattle.lls_grid.proofs.text.print_history.Goals.{then-t-gt0+in_ok-push, else-t-gt0}

pub loop-t-preserved : goal.loop-t-preserved
loop-t-preserved c =
    let history = c.args.history.now in
    let t = c.loop-t.t in
    let t_in : t < length history = omega (arith, c.loop-t-test.true, c.generations-t-end.ensures.generations) in
    let one : List (List Bool) → List ℕ = λ rows. rows_text (map (map digit_word) rows) in
    let done = map rows_text (map (map (map digit_word)) (take t history)) in
    let count : length done ≡ t =
    omega (arith, length-map (map (map (map digit_word)) (take t history)) rows_text, length-map (take t history) (map (map digit_word)), length-take t history, t_in) in
    let more : map rows_text (map (map (map digit_word)) (take (t + 1) history)) ≡ done ++ one (get_or history t []) ∷ [] =
    ap (λ h. map rows_text (map (map (map digit_word)) h)) (take_more history t [] t_in) ∙
    (ap (map rows_text) (map-append (map (map digit_word)) (take t history) (get_or history t [] ∷ [])) ∙
    map-append rows_text (map (map (map digit_word)) (take t history)) (map (map digit_word) (get_or history t []) ∷ [])) in
    rw more (separated line_feed done (one (get_or history t [])) [] c.loop-t.text.items c.if-t-gt0.text.items c.push_rows.new.text.items c.loop-t.invariant
    (elim c.if-t-gt0.branch [
      | then-t-gt0+in_ok-push w ↦ inl (omega (arith, count, w.if-t-gt0.true), ap (λ text. text.items) w.text-is ∙ w.in_ok-push.ensures.items)
      | else-t-gt0 w ↦ inr (omega (arith, count, w.if-t-gt0.false), ap (λ text. text.items) w.text-is)
    ])
    (c.in_ok-push_rows.ensures ∙ rw (c.width.ensures, c.height.ensures) (ap (λ rows. c.if-t-gt0.text.items ++ one rows) c.cells_at.ensures.rows)))
