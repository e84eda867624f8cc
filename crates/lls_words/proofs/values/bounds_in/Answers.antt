use Rattle.std.proofs.Common.{[], ◌∷◌, ◌++◌, Some, ap, sym, ◌∙◌, subst}
use Rattle.std.specs.List.{All}
use Rattle.std.proofs.lemmas.List.Elements.{All-push}
use Rattle.lls_problem.specs.Bounds.{HasEnds}
use Rattle.lls_words.specs.Values.{comma}
use Rattle.lls_words.proofs.Entries.{parts_at, with_left, cut_some, cut_none, with_left-more, with_left-none, with_left-last}
use Rattle.lls_words.proofs.values.bounds_in.Goals as goal

pub returns-in_default-bound_in-clause-bounds : goal.returns-in_default-bound_in-clause-bounds
returns-in_default-bound_in-clause-bounds c =
    let cut = cut_some comma c.loop-entry.rest.now c.in-Some.entry.now c.in-Some.behind.now c.in-Some.ensures in
    with_left-none c.loop-entry.bounds.items c.in-Some.entry.now (parts_at comma c.in-Some.behind.now) c.in_default-bound_in.ensures.bound
    ∙ ap (with_left c.loop-entry.bounds.items) (sym cut.parts) ∙ c.loop-entry.invariant.read

pub loop-entry-preserved : goal.loop-entry-preserved
loop-entry-preserved c =
    let done = c.loop-entry.bounds.items in
    let cut = cut_some comma c.loop-entry.rest.now c.in-Some.entry.now c.in-Some.behind.now c.in-Some.ensures in
    record {
      read = ap (λ items. with_left items (parts_at comma c.in-Some.behind.now)) c.in_ok-push.ensures.items
          ∙ with_left-more done c.in-Some.entry.now (parts_at comma c.in-Some.behind.now) c.in-Some-bound_in.bound c.in-Some-bound_in.ensures.bound
          ∙ ap (with_left done) (sym cut.parts) ∙ c.loop-entry.invariant.read;
      ends = subst (All HasEnds) (sym c.in_ok-push.ensures.items) (All-push HasEnds done c.in-Some-bound_in.bound c.loop-entry.invariant.ends c.in-Some-bound_in.ensures.ends);
    }

pub returns-in_default-bound_in-2-clause-bounds : goal.returns-in_default-bound_in-2-clause-bounds
returns-in_default-bound_in-2-clause-bounds c =
    with_left-none c.loop-entry.bounds.items c.loop-entry.rest.now [] c.in_default-bound_in-2.ensures.bound
    ∙ ap (with_left c.loop-entry.bounds.items) (sym (cut_none comma c.loop-entry.rest.now c.in_default.ensures)) ∙ c.loop-entry.invariant.read

pub returns-clause-bounds : goal.returns-clause-bounds
returns-clause-bounds c =
    let done = c.loop-entry.bounds.items in
    let last = c.in-Some-bound_in-2.last in
    ap Some (c.new.ensures ∙ c.in_ok-push-2.ensures.items)
    ∙ with_left-last (c.loop-entry.bounds.items ++ c.in-Some-bound_in-2.last ∷ [])
    ∙ with_left-more done c.loop-entry.rest.now [] last c.in-Some-bound_in-2.ensures.bound
    ∙ ap (with_left c.loop-entry.bounds.items) (sym (cut_none comma c.loop-entry.rest.now c.in_default.ensures)) ∙ c.loop-entry.invariant.read
