use Rattle.std.proofs.Common.{◌≡◌, ◌+◌, ◌∙◌, [], ◌∷◌, ◌++◌, map, ap, sym, arith}
use Rattle.std.specs.List.{range_with_len}
use Rattle.std.proofs.lemmas.List.FromFn.{map-range_with_len_more}
use Rattle.lls_lit.specs.Formula.{Cnf}
use Rattle.lls_encode.specs.Formula.{generation_size, difference_variable}
use Rattle.lls_encode.proofs.Differences.{HasRoom-differences, differences_more, is_within-differences}
use Rattle.lls_encode.proofs.difference.push_differing.Goals as goal

pub push_difference_where-requires-clause-room : goal.push_difference_where-requires-clause-room
push_difference_where-requires-clause-room c =
    let p = c.args.problem.now in
    let room = HasRoom-differences p c.args.formula.now.vars _ c.loop-k.k _ c.args.formula.now c.loop-k.formula c.loop-k.invariant.pushed
    (omega (arith, c.loop-k-test.true, c.generation_size-size.ensures)) c.requires.room in
    omega (arith, room)

pub loop-k-preserved : goal.loop-k-preserved
loop-k-preserved c =
    let p = c.args.problem.now in
    let base = c.args.formula.now.vars in
    let d : c.difference_variable-d.result ≡ difference_variable base c.loop-k.k =
    c.difference_variable-d.ensures ∙ ap (λ base. difference_variable base c.loop-k.k) c.more_vars-base.ensures.before in
    record {
      pushed = differences_more p base (generation_size p) c.loop-k.k (c.args.first, c.args.second) c.args.formula.now c.loop-k.formula c.push_difference_where.new.formula _ _ _
          c.loop-k.invariant.pushed c.in_ok-push_difference_where.ensures d c.cell_of_generation-a.ensures.literal c.cell_of_generation-b.ensures.literal;
      some = c.in_ok-push.ensures.items ∙ ap (λ items. items ++ c.difference_variable-d.result ∷ []) c.loop-k.invariant.some
          ∙ ap (λ d. map (difference_variable base) (range_with_len 0 c.loop-k.k) ++ d ∷ []) d
          ∙ sym (map-range_with_len_more (difference_variable base) 0 c.loop-k.k c.loop-k.k (omega arith));
    }

pub push-requires-2-clause-within : goal.push-requires-2-clause-within
push-requires-2-clause-within c =
    let base = c.args.formula.now.vars in
    let items : c.deref.result.now ≡ map (difference_variable base) (range_with_len 0 c.loop-k.k) = c.deref.ensures.value ∙ c.loop-k.invariant.some in
    let vars : c.loop-k.formula.vars ≡ base + generation_size c.args.problem.now = ap (λ (g : Cnf). g.vars) c.loop-k.invariant.pushed in
    rw items (is_within-differences base 0 c.loop-k.k c.loop-k.formula.vars (omega (arith, vars, c.loop-k.auto.k-end, c.generation_size-size.ensures.size)))

pub push-requires-2-clause-room : goal.push-requires-2-clause-room
push-requires-2-clause-room c =
    let p = c.args.problem.now in
    let room = HasRoom-differences p c.args.formula.now.vars _ c.loop-k.k _ c.args.formula.now c.loop-k.formula c.loop-k.invariant.pushed
    (omega (arith, c.loop-k.auto.k-end, c.generation_size-size.ensures)) c.requires.room in
    omega (arith, room)
