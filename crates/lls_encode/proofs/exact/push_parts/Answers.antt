use Rattle.std.proofs.Common.{◌≡◌, ◌+◌, ◌-◌, ◌∙◌, ap, sym, arith}
use Rattle.std.specs.List.{filter_map, range_with_len}
use Rattle.lls_lit.specs.Formula.{Cnf}
use Rattle.lls_problem.specs.Exact.{part_by, parts_of}
use Rattle.lls_encode.specs.Formula.{unseen_vars, all_unseen_vars}
use Rattle.lls_encode.proofs.Parted.{with_parts, with_part, left_with, left_without, left_vars, left_room, length-parts_of}
use Rattle.lls_encode.proofs.exact.push_parts.Goals as goal
use Rattle.lls_encode.proofs.exact.push_parts.Goals.{in-Some+in_ok-push_unseen, in_default}

pub push_unseen-requires-clause-vars : goal.push_unseen-requires-clause-vars
push_unseen-requires-clause-vars c = omega (arith, c.requires.vars, c.loop-q.invariant.grown)

pub push_unseen-requires-clause-most : goal.push_unseen-requires-clause-most
push_unseen-requires-clause-most c =
    let p = c.args.problem.now in
    let next = left_with c.args.period c.loop-q.q c.in-Some.part c.loop-q-test.true (sym c.part.ensures.part ∙ c.in-Some.is) in
    let all = left_vars p c.args.formula.now c.loop-q.formula (parts_of c.args.period) _ c.loop-q.invariant.left in
    omega (arith, all, ap (all_unseen_vars p) next, c.requires.most)

pub push_unseen-requires-clause-room : goal.push_unseen-requires-clause-room
push_unseen-requires-clause-room c =
    left_room c.args.problem.now c.args.formula.now c.loop-q.formula (parts_of c.args.period) _ c.posed-posed.ensures.kept c.loop-q.invariant.left (length-parts_of c.args.period c.requires.period) c.requires.room

pub loop-q-preserved : goal.loop-q-preserved
loop-q-preserved c =
    let p = c.args.problem.now in
    let period = c.args.period in
    elim c.match-part.branch [
      | in-Some+in_ok-push_unseen w ↦
          let step = w.formula-is ∙ w.in_ok-push_unseen.ensures in
          let vars : c.match-part.formula.vars ≡ c.loop-q.formula.vars + unseen_vars p w.in-Some.part = ap (λ (f : Cnf). f.vars) step in
          record {
            grown = omega (arith, vars, c.loop-q.invariant.grown);
            left = with_part p c.loop-q.formula c.match-part.formula w.in-Some.part _ step
                ∙ ap (with_parts p c.loop-q.formula) (sym (left_with period c.loop-q.q w.in-Some.part c.loop-q-test.true (sym c.part.ensures.part ∙ w.in-Some.is)))
                ∙ c.loop-q.invariant.left;
          }
      | in_default w ↦
          let vars : c.match-part.formula.vars ≡ c.loop-q.formula.vars = ap (λ (f : Cnf). f.vars) w.formula-is in
          record {
            grown = omega (arith, vars, c.loop-q.invariant.grown);
            left = ap (λ f. with_parts p f (filter_map (part_by period) (range_with_len (c.loop-q.q + 1) (period.length + 1 - (c.loop-q.q + 1))))) w.formula-is
                ∙ ap (with_parts p c.loop-q.formula) (sym (left_without period c.loop-q.q c.loop-q-test.true (sym c.part.ensures.part ∙ w.in_default.is)))
                ∙ c.loop-q.invariant.left;
          }
    ]
