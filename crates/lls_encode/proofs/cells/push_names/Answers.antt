use Rattle.std.proofs.Common.{◌≡◌, ◌+◌, ◌∙◌, ap, arith, sym, length, subst, IfSome, ◌<◌}
use Rattle.std.proofs.lemmas.List.FromFn.{length-map-range_with_len}
use Rattle.lls_search_file.specs.Posed.{name_of}
use Rattle.lls_problem.specs.Solution.{cell_number}
use Rattle.lls_encode.specs.Formula.{name_clauses}
use Rattle.lls_encode.specs.Names.{first_literal, first_literals}
use Rattle.lls_encode.proofs.Steps.{pushed_more, with_clauses-none, HasRoom-after}
use Rattle.lls_encode.proofs.Firsts.{names_known, first_literals-start, length-name_clauses}
use Rattle.lls_encode.proofs.cells.push_names.Goals as goal

pub loop-k-init : goal.loop-k-init
loop-k-init c = record {
  pushed = with_clauses-none c.args.formula.now;
  firsts = c.in_ok-firsts.ensures ∙ first_literals-start c.args.cells.now c.args.names;
}

pub push_name-requires-clause-known : goal.push_name-requires-clause-known
push_name-requires-clause-known c =
    let count : length c.loop-k.firsts.items ≡ c.args.names = ap length c.loop-k.invariant.firsts ∙ length-map-range_with_len (first_literal c.args.cells.now c.loop-k.k) 0 c.args.names in
    subst (λ n. IfSome (name_of (cell_number c.args.cells.now c.loop-k.k).kind) (λ m. m < n)) (sym count)
    (names_known c.args.cells.now c.args.names c.loop-k.k c.requires.numbered c.loop-k-test.true)

pub push_name-requires-clause-firsts : goal.push_name-requires-clause-firsts
push_name-requires-clause-firsts c =
    let count : length c.loop-k.firsts.items ≡ c.args.names = ap length c.loop-k.invariant.firsts ∙ length-map-range_with_len (first_literal c.args.cells.now c.loop-k.k) 0 c.args.names in
    c.loop-k.invariant.firsts ∙ ap (first_literals c.args.cells.now c.loop-k.k) (sym count)

pub push_name-requires-clause-room : goal.push_name-requires-clause-room
push_name-requires-clause-room c =
    HasRoom-after _ _ (name_clauses c.args.cells.now) 2 0 c.loop-k.k (length c.args.cells.now) _ (length-name_clauses c.args.cells.now) c.loop-k.invariant.pushed c.loop-k-test.true (omega arith) c.requires.room

pub loop-k-preserved : goal.loop-k-preserved
loop-k-preserved c =
    let count : length c.loop-k.firsts.items ≡ c.args.names = ap length c.loop-k.invariant.firsts ∙ length-map-range_with_len (first_literal c.args.cells.now c.loop-k.k) 0 c.args.names in
    record {
      pushed = pushed_more _ _ _ (name_clauses c.args.cells.now) 0 c.loop-k.k c.loop-k.k c.loop-k.invariant.pushed c.in_ok-push_name.ensures.pushed (omega arith);
      firsts = c.in_ok-push_name.ensures.firsts ∙ ap (first_literals c.args.cells.now (c.loop-k.k + 1)) count;
    }
