use Rattle.std.proofs.Common.{ap, sym, ◌∙◌}
use Rattle.std.proofs.lemmas.Slice.Eq.{bytes_eq-Decides}
use Rattle.std.proofs.lemmas.Bool.{false≢true}
use borrow.Author.Count.{below_more}
use Rattle.lls_base.proofs.NamedBytes.{name_at-get_or}
use Rattle.lls_base.proofs.files.place.Goals as goal

pub returns-then-eq-clause-first : goal.returns-then-eq-clause-first
returns-then-eq-clause-first c =
    let read = ap (λ file. file.0) c.index-files-i.is ∙ name_at-get_or c.args.files.now c.loop-i.i c.index-files-i.result c.loop-i-test.true in
    record {
      within = c.loop-i-test.true;
      named = sym read ∙ sym c.text.ensures ∙ (bytes_eq-Decides c.text.result.now c.args.name.now).0 (sym c.eq.ensures ∙ c.if-eq.true);
      before = c.loop-i.invariant;
    }

pub loop-i-preserved : goal.loop-i-preserved
loop-i-preserved c =
    let read = ap (λ file. file.0) c.index-files-i.is ∙ name_at-get_or c.args.files.now c.loop-i.i c.index-files-i.result c.loop-i-test.true in
    below_more _ _ c.loop-i.invariant (λ is_name.
    false≢true (sym c.if-eq.false ∙ c.eq.ensures ∙ (bytes_eq-Decides c.text.result.now c.args.name.now).1 (c.text.ensures ∙ read ∙ is_name)))
