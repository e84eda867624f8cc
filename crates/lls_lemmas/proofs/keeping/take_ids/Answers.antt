use Rattle.std.proofs.Common.{◌≡◌, ◌+◌, ℕ, List, [], ◌∷◌, ◌++◌, cond, Vec, Global, sym, ap, ◌∙◌, take}
use Rattle.std.specs.Prelude.{filter}
use Rattle.std.proofs.lemmas.List.{append-nil}
use Rattle.std.proofs.lemmas.List.Elements.{filter-append}
use Rattle.lls_prooflog.specs.Lent.{ids_of}
use Rattle.lls_lemmas.specs.Rest.{keeps}
use Rattle.lls_lemmas.proofs.RestMarks.{take_one}
use Rattle.lls_lemmas.proofs.keeping.take_ids.Goals.{then-is_kept+in_ok-push, else-is_kept}
use Rattle.lls_lemmas.proofs.keeping.take_ids.Goals as goal

pub loop-k-preserved : goal.loop-k-preserved
loop-k-preserved c =
    let keep = keeps c.args.given c.args.marks.now in
    let ids = ids_of c.args.ids in
    let k = c.loop-k.k in
    let id = c.get-id.result in
    let more : filter keep (take (k + 1) ids) ≡ filter keep (take k ids) ++ cond (keep id) (id ∷ []) [] = ap (filter keep) (take_one ids k id c.get-id.ensures) ∙ filter-append keep (take k ids) (id ∷ []) in
    elim c.if-is_kept.branch [
      | then-is_kept+in_ok-push w ↦
          ap (λ (v : Vec ℕ Global). v.items) w.taken-is ∙ w.in_ok-push.ensures.items ∙ ap (λ (xs : List ℕ). xs ++ id ∷ []) c.loop-k.invariant
          ∙ sym (more ∙ ap (λ b. filter keep (take k ids) ++ cond b (id ∷ []) []) (sym c.is_kept.ensures ∙ w.if-is_kept.true))
      | else-is_kept w ↦
          ap (λ (v : Vec ℕ Global). v.items) w.taken-is ∙ c.loop-k.invariant
          ∙ sym (more ∙ ap (λ b. filter keep (take k ids) ++ cond b (id ∷ []) []) (sym c.is_kept.ensures ∙ w.if-is_kept.false) ∙ append-nil (filter keep (take k ids)))
    ]
