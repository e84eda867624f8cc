use Rattle.std.proofs.Common.{◌≡◌, ◌+◌, Bool, List, length, take, sym, ap, ◌∙◌, subst, arith}
use Rattle.std.specs.Prelude.{All}
use Rattle.std.proofs.lemmas.List.{take_all, with_items_is}
use Rattle.std.proofs.lemmas.List.Elements.{All-more, All-weaker}
use Rattle.lls_store.specs.Sound.{IsSound}
use Rattle.lls_solver.specs.Deletion.{HasReasons, KeepsMarks}
use Rattle.lls_solver.specs.Searching.{SearcherState}
use Rattle.lls_crew.proofs.Deletions.{has_kept}
use Rattle.lls_crew.proofs.forgetting.reasons_of.Goals as goal

pub mark_reasons-requires-clause-sound : goal.mark_reasons-requires-clause-sound
mark_reasons-requires-clause-sound c =
    subst (λ (s : SearcherState). IsSound s.store.live s.trail) (sym c.searcher-item.is) (c.requires.sound c.loop-searcher.searcher-index c.searcher-item.result c.loop-searcher-test.true)

pub loop-searcher-preserved : goal.loop-searcher-preserved
loop-searcher-preserved c =
    let xs = c.args.searchers.now in
    let k = c.loop-searcher.searcher-index in
    let old = c.loop-searcher.reasons.items in
    let now = c.mark_reasons.new.marks in
    let item = c.searcher-item.result in
    let many : length now ≡ length old = c.mark_reasons.ensures.len ∙ ap (λ (ms : List Bool). length ms) c.deref_mut.ensures.value in
    let same = with_items_is c.loop-searcher.reasons now (c.mark_reasons.ensures.len ∙ c.deref_mut.ensures.len) in
    let kept : KeepsMarks old now = subst (λ (ms : List Bool). KeepsMarks ms now) c.deref_mut.ensures.value c.mark_reasons.ensures.kept in
    let Has : SearcherState → Type 0 = λ s. HasReasons s.trail.entries now in
    let before = All-weaker (λ (s : SearcherState). HasReasons s.trail.entries old) Has (λ s has. has_kept s.trail.entries old now kept many has) (take k xs) c.loop-searcher.invariant.reasons in
    let here = subst Has c.searcher-item.is c.mark_reasons.ensures.reasons in
    record {
      len = ap (λ (ms : List Bool). length ms) same ∙ many ∙ c.loop-searcher.invariant.len;
      reasons = subst (λ (ms : List Bool). All (λ (s : SearcherState). HasReasons s.trail.entries ms) (take (k + 1) xs)) (sym same) (All-more Has xs k item c.loop-searcher-test.true before here);
    }

pub returns-clause-reasons : goal.returns-clause-reasons
returns-clause-reasons c =
    let xs = c.args.searchers.now in
    let all : take c.loop-searcher.searcher-index xs ≡ xs = take_all c.loop-searcher.searcher-index xs (omega (arith, c.loop-searcher-test.false)) in
    subst (All (λ (s : SearcherState). HasReasons s.trail.entries c.loop-searcher.reasons.items)) all c.loop-searcher.invariant.reasons
