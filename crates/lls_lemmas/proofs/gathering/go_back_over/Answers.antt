use Rattle.std.proofs.Common.{◌≡◌, ◌+◌, ◌-◌, ℕ, reverse, ◌∙◌, subst, arith}
use Rattle.lls_lemmas.specs.Closing.{AreListed, Closes, IsMarkedBelow}
use Rattle.lls_lemmas.proofs.gathering.go_back_over.Goals as goal

pub loop-place-preserved : goal.loop-place-preserved
loop-place-preserved g c =
    let live = (g.S.Store.state c.args.store.now).live in
    let es = c.args.trail.now.entries in
    let marks = c.loop-place.gathering.marks in
    let now = c.go_back.new.gathering in
    let same : c.loop-place.place ≡ c.loop-place.place - 1 + 1 = omega (arith, c.loop-place-test.true) in
    record {
      base = omega (arith, c.loop-place-test.true);
      top = omega (arith, c.loop-place.invariant.top);
      closes = λ lits for_lits start.
          let P : ℕ → Type 0 = λ n. Closes live lits (IsMarkedBelow marks.lits es n) (reverse c.loop-place.gathering.hints.items) in
          c.in_ok-go_back.ensures.closes lits for_lits (subst P same (c.loop-place.invariant.closes lits for_lits start));
      listed = subst (λ n. AreListed n now.marks.lits now.met.items) c.loop-place.invariant.vars c.in_ok-go_back.ensures.listed;
      in_range = c.in_ok-go_back.ensures.in_range;
      vars = c.in_ok-go_back.ensures.vars ∙ c.loop-place.invariant.vars;
    }

pub returns-clause-closes : goal.returns-clause-closes
returns-clause-closes g c =
    let live = (g.S.Store.state c.args.store.now).live in
    let es = c.args.trail.now.entries in
    let same : c.loop-place.place ≡ c.args.base = omega (arith, c.loop-place-test.false, c.loop-place.invariant.base) in
    λ lits for_lits start.
    let P : ℕ → Type 0 = λ n. Closes live lits (IsMarkedBelow c.loop-place.gathering.marks.lits es n) (reverse c.loop-place.gathering.hints.items) in
    subst P same (c.loop-place.invariant.closes lits for_lits start)
