use Rattle.std.proofs.Common.{◌≡◌, ◌∙◌, [], ◌∷◌, ◌++◌, length, map, ap, sym, refl, arith}
use Rattle.std.specs.List.{range_with_len}
use Rattle.std.proofs.lemmas.Bool.{and_from}
use Rattle.std.proofs.lemmas.List.Folds.{list_all-append}
use Rattle.std.proofs.lemmas.List.FromFn.{map-range_with_len_more}
use Rattle.lls_lit.specs.Formula.{is_literal_of, is_within}
use Rattle.lls_encode.specs.Formula.{generation_size, other_cell}
use Rattle.lls_encode.proofs.listed.unlike.Goals as goal

pub loop-k-preserved : goal.loop-k-preserved
loop-k-preserved c =
    let p = c.args.problem.now in
    let vars = length p.posed.cells in
    record {
      items = c.in_ok-push.ensures.items ∙ ap (λ items. items ++ c.other_cell.result ∷ []) c.loop-k.invariant.items
          ∙ ap (λ l. map (other_cell p c.args.pattern.now) (range_with_len 0 c.loop-k.k) ++ l ∷ []) c.other_cell.ensures.literal
          ∙ sym (map-range_with_len_more (other_cell p c.args.pattern.now) 0 c.loop-k.k c.loop-k.k (omega arith));
      within = ap (is_within vars) c.in_ok-push.ensures.items
          ∙ list_all-append (is_literal_of vars) c.loop-k.clause.items (c.other_cell.result ∷ [])
          ∙ and_from _ _ c.loop-k.invariant.within (and_from _ _ c.other_cell.ensures.within refl);
    }

pub returns-clause-clause : goal.returns-clause-clause
returns-clause-clause c =
    let p = c.args.problem.now in
    let all : c.loop-k.k ≡ generation_size p = omega (arith, c.loop-k-test.false, c.loop-k.auto.k-end, c.generation_size-k-end.ensures.size) in
    c.loop-k.invariant.items ∙ ap (λ n. map (other_cell p c.args.pattern.now) (range_with_len 0 n)) all

pub returns-clause-within : goal.returns-clause-within
returns-clause-within c = c.loop-k.invariant.within
