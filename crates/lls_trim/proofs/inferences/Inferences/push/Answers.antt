use Rattle.std.proofs.Common.{◌≡◌, ◌+◌, ◌∷◌, ◌++◌, [], List, length, sym, ap, ◌∙◌, arith, length-append}
use Rattle.std.specs.Prelude.{ℤ, is_some}
use Rattle.std.specs.Option.{option_copied, unwrap_or}
use Rattle.lls_lrat.proofs.Checks.{is_some-copied}
use Rattle.lls_trim.specs.declared.source.Source.{Source}
use Rattle.lls_trim.specs.Inferences.{Inference}
use Rattle.lls_trim.specs.Buffers.{AreFilled, none_yet}
use Rattle.lls_trim.proofs.Buffers.{entry_behind, inferences_in-push, AreEnds-push}
use Rattle.lls_trim.proofs.inferences.Inferences.push.Goals as goal
use Rattle.lls_trim.proofs.inferences.Inferences.push.Goals.{After-push_reserved}

abbrev pushed : (c : After-push_reserved) → Inference
pushed c = record { line = c.args.line; clause = c.args.clause.now; by = option_copied c.args.by }

-- what the buffers have then
sources : (c : After-push_reserved) → c.fill.new.sources.items ≡ c.self.inside.sources.items ++ unwrap_or (pushed c).by []
sources c = c.in_ok-fill.ensures.sources ∙ ap (λ (ss : List Source). c.self.inside.sources.items ++ ss) c.listed.ensures

entries : (c : After-push_reserved) → c.push_reserved.new.self.items ≡ c.self.inside.entries.items ++ entry_behind c.self.inside.lits.items c.self.inside.sources.items (pushed c) ∷ []
entries c = c.push_reserved.ensures.items ∙ (λ t. c.in_ok-reserve.ensures.items t ++ record { line = c.args.line; is_by_propagation = is_by t; ends = record { lits = lits_end t; sources = sources_end t } } ∷ []) where
  is_by : c.is_some.result ≡ is_some (pushed c).by
  is_by = c.is_some.ensures ∙ sym (is_some-copied c.args.by)

  lits_end : c.len-2.result ≡ length c.self.inside.lits.items + length c.args.clause.now
  lits_end = omega (arith, c.len-2.ensures, c.fill.new.lits.ok.0, ap (λ (ls : List ℤ). length ls) c.in_ok-fill.ensures.lits, length-append c.self.inside.lits.items c.args.clause.now)

  sources_end : c.len-3.result ≡ length c.self.inside.sources.items + length (unwrap_or (pushed c).by [])
  sources_end = omega (arith, c.len-3.ensures, c.fill.new.sources.ok.0, ap (λ (ss : List Source). length ss) (sources c), length-append c.self.inside.sources.items (unwrap_or (pushed c).by []))

pub invariant_of-self-2 : goal.invariant_of-self-2
invariant_of-self-2 c =
    let m = c.self.inside in
    let filled : AreFilled (length (m.lits.items ++ c.args.clause.now)) (length (m.sources.items ++ unwrap_or (pushed c).by [])) (m.entries.items ++ entry_behind m.lits.items m.sources.items (pushed c) ∷ []) = record {
      ends = AreEnds-push m.lits.items m.sources.items (pushed c) none_yet m.entries.items c.self.invariant.ends;
      few = omega (arith, length-append m.entries.items (entry_behind m.lits.items m.sources.items (pushed c) ∷ []), c.len.ensures, m.entries.ok.0, c.if-len-ge-MOST.false);
    } in
    rw (entries c, c.in_ok-fill.ensures.lits, sources c) filled

pub returns : goal.returns
returns c =
    let m = c.self.inside in
    rw (entries c, c.in_ok-fill.ensures.lits, sources c)
    (inferences_in-push m.lits.items m.sources.items (pushed c) none_yet m.entries.items c.self.invariant.ends ∙ ap (λ (is : List Inference). is ++ pushed c ∷ []) c.self.view_is)
