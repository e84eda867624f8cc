use Rattle.std.proofs.Common.{FitsSigned, w32, to_z, of_z, to_z-of_z, rules, ◌≡◌, ◌+◌, ◌∙◌, [], ◌∷◌, ◌++◌, map, length, ap, sym, arith}
use Rattle.std.specs.List.{range_with_len}
use Rattle.std.proofs.lemmas.List.FromFn.{map-range_with_len_more}
use Rattle.lls_lit.specs.Formula.{Cnf}
use Rattle.lls_encode.specs.Place.{place_at}
use Rattle.lls_encode.specs.Formula.{difference_variable, pair_at}
use Rattle.lls_encode.proofs.Differences.{is_within-differences}
use Rattle.lls_encode.proofs.Parted.{length-pairs, pairs_more}
use Rattle.lls_encode.proofs.exact.push_unequal_pairs.Goals as goal

pub push_unequal_where-requires-clause-room : goal.push_unequal_where-requires-clause-room
push_unequal_where-requires-clause-room c =
    let count = length-pairs c.args.problem.now c.args.formula.now.vars _ c.loop-k.k c.args.pairs.now c.args.formula.now c.loop-k.formula c.loop-k.invariant.pushed in
    omega (arith, count, c.loop-k-test.true, c.requires.few, c.requires.room)

pub loop-k-preserved : goal.loop-k-preserved
loop-k-preserved c =
    let base = c.args.formula.now.vars in
    let d : c.difference_variable-d.result ≡ difference_variable base c.loop-k.k =
    c.difference_variable-d.ensures ∙ ap (λ base. difference_variable base c.loop-k.k) c.more_vars-base.ensures.before in
    let pair = pair_at c.args.pairs.now c.loop-k.k in
    let p = c.args.problem.now in
    let fits_early_y : FitsSigned w32 pair.early.y = search rules in
    let fits_early_x : FitsSigned w32 pair.early.x = search rules in
    let fits_late_y : FitsSigned w32 pair.late.y = search rules in
    let fits_late_x : FitsSigned w32 pair.late.x = search rules in
    let early_y : to_z w32 (of_z w32 pair.early.y) ≡ pair.early.y = rw to_z-of_z in
    let early_x : to_z w32 (of_z w32 pair.early.x) ≡ pair.early.x = rw to_z-of_z in
    let late_y : to_z w32 (of_z w32 pair.late.y) ≡ pair.late.y = rw to_z-of_z in
    let late_x : to_z w32 (of_z w32 pair.late.x) ≡ pair.late.x = rw to_z-of_z in
    record {
      pushed = pairs_more c.args.problem.now base (length c.args.pairs.now) c.loop-k.k c.args.pairs.now c.args.formula.now c.loop-k.formula c.push_unequal_where.new.formula _ _ _
          c.loop-k.invariant.pushed c.in_ok-push_unequal_where.ensures d
          (c.place_at-early.ensures.place ∙ ap (λ y. place_at p pair.early.t y (to_z w32 (of_z w32 pair.early.x))) early_y ∙ ap (place_at p pair.early.t pair.early.y) early_x)
          (c.place_at-late.ensures.place ∙ ap (λ y. place_at p pair.late.t y (to_z w32 (of_z w32 pair.late.x))) late_y ∙ ap (place_at p pair.late.t pair.late.y) late_x);
      some = c.in_ok-push.ensures.items ∙ ap (λ items. items ++ c.difference_variable-d.result ∷ []) c.loop-k.invariant.some
          ∙ ap (λ d. map (difference_variable base) (range_with_len 0 c.loop-k.k) ++ d ∷ []) d
          ∙ sym (map-range_with_len_more (difference_variable base) 0 c.loop-k.k c.loop-k.k (omega arith));
    }

pub push-requires-2-clause-within : goal.push-requires-2-clause-within
push-requires-2-clause-within c =
    let base = c.args.formula.now.vars in
    let items : c.deref.result.now ≡ map (difference_variable base) (range_with_len 0 c.loop-k.k) = c.deref.ensures.value ∙ c.loop-k.invariant.some in
    let vars : c.loop-k.formula.vars ≡ base + length c.args.pairs.now = ap (λ (g : Cnf). g.vars) c.loop-k.invariant.pushed in
    rw items (is_within-differences base 0 c.loop-k.k c.loop-k.formula.vars (omega (arith, vars, c.loop-k.auto.k-end)))

pub push-requires-2-clause-room : goal.push-requires-2-clause-room
push-requires-2-clause-room c =
    let count = length-pairs c.args.problem.now c.args.formula.now.vars _ c.loop-k.k c.args.pairs.now c.args.formula.now c.loop-k.formula c.loop-k.invariant.pushed in
    omega (arith, count, c.loop-k.auto.k-end, c.requires.few, c.requires.room)
