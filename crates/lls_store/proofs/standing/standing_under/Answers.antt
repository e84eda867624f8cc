use Rattle.std.proofs.Common.{◌≡◌, Some, None, take, ap, subst, ◌∙◌, arith}
use Rattle.std.proofs.lemmas.List.{take_all}
use Rattle.lls_lit.specs.Literal.{variable_of}
use Rattle.lls_store.proofs.Sets.{Contains-from_IsIn, IsIn-from_Contains}
use Rattle.lls_store.proofs.Tabled.{variable_bounds}
use Rattle.lls_store.proofs.Standings.{Leaves, Leaves-empty, Leaves-false, Leaves-first, Leaves-again, Contains-take, Contains-read, take-read, settled_by_true, settled_by_two, left_at_end, IsAlone, apart_by_test, same_by_test}
use Rattle.lls_store.proofs.standing.standing_under.Goals as goal
use Rattle.lls_store.proofs.standing.standing_under.Goals.{in-Some-false, in-None, in-Some+else-ne, in_default}

pub loop-lit-init : goal.loop-lit-init
loop-lit-init c = Leaves-empty c.args.trail.now.entries

pub value-requires : goal.value-requires
value-requires c =
    let l = c.lit-item.result in
    let inside = Contains-read c.args.lits.now c.loop-lit.lit-index l c.loop-lit-test.true c.lit-item.is in
    (variable_bounds c.args.trail.now.vars (variable_of l) (c.requires l (IsIn-from_Contains c.args.lits.now l inside))).1

pub returns-in-Some-true : goal.returns-in-Some-true
returns-in-Some-true c =
    let l = c.lit-item.result in
    let inside = Contains-read c.args.lits.now c.loop-lit.lit-index l c.loop-lit-test.true c.lit-item.is in
    settled_by_true c.args.trail.now.entries c.args.lits.now l inside (c.value.ensures.is_true.0 (c.in-Some-true.is ∙ ap Some c.in-Some-true.field-0-test))

pub returns-then-ne : goal.returns-then-ne
returns-then-ne c =
    let l = c.lit-item.result in
    let inside = Contains-read c.args.lits.now c.loop-lit.lit-index l c.loop-lit-test.true c.lit-item.is in
    let alone : IsAlone c.args.trail.now.entries (take c.loop-lit.lit-index c.args.lits.now) c.in-Some.other = subst (Leaves c.args.trail.now.entries (take c.loop-lit.lit-index c.args.lits.now)) c.in-Some.is c.loop-lit.invariant in
    settled_by_two c.args.trail.now.entries c.args.lits.now c.in-Some.other l (Contains-take c.args.lits.now c.loop-lit.lit-index c.in-Some.other alone.contains) inside (apart_by_test c.in-Some.other l c.ne.result c.if-ne.true c.ne.ensures) alone.unset (c.value.ensures.unset.0 c.in-None.is)

pub loop-lit-preserved : goal.loop-lit-preserved
loop-lit-preserved c =
    let entries = c.args.trail.now.entries in
    let seen = take c.loop-lit.lit-index c.args.lits.now in
    let l = c.lit-item.result in
    let step = take-read c.args.lits.now c.loop-lit.lit-index l c.loop-lit-test.true c.lit-item.is in
    elim c.match-value.branch [
      | in-Some-false w ↦ rw (step, w.left-is) (Leaves-false entries seen c.loop-lit.left l c.loop-lit.invariant (c.value.ensures.is_false.0 (w.in-Some-false.is ∙ ap Some w.in-Some-false.field-0-test)))
      | in-None w ↦
          elim w.match-left.branch [
            | in-Some+else-ne v ↦
                let same : v.in-Some.other ≡ l = same_by_test v.in-Some.other l v.ne.result v.if-ne.false v.ne.ensures in
                let left = subst (Leaves entries seen) (v.in-Some.is ∙ ap Some same) c.loop-lit.invariant in
                rw (step, w.left-is) (Leaves-again entries seen l left)
            | in_default v ↦
                let none : c.loop-lit.left ≡ None = v.in_default.is in
                let left = subst (Leaves entries seen) none c.loop-lit.invariant in
                rw (step, w.left-is) (Leaves-first entries seen l left (c.value.ensures.unset.0 w.in-None.is))
          ]
    ]

pub returns-in-Some-left : goal.returns-in-Some-left
returns-in-Some-left c =
    let all : take c.loop-lit.lit-index c.args.lits.now ≡ c.args.lits.now = take_all c.loop-lit.lit-index c.args.lits.now (omega arith) in
    left_at_end c.args.trail.now.entries c.args.lits.now c.in-Some-left.lit
    (subst (Leaves c.args.trail.now.entries c.args.lits.now) c.in-Some-left.is (rw (← all) c.loop-lit.invariant))

pub returns-in-None-left : goal.returns-in-None-left
returns-in-None-left c = λ m inside.
    let all : take c.loop-lit.lit-index c.args.lits.now ≡ c.args.lits.now = take_all c.loop-lit.lit-index c.args.lits.now (omega arith) in
    let none : Leaves c.args.trail.now.entries (take c.loop-lit.lit-index c.args.lits.now) None = subst (Leaves c.args.trail.now.entries (take c.loop-lit.lit-index c.args.lits.now)) c.in-None-left.is c.loop-lit.invariant in
    none m (rw all (Contains-from_IsIn c.args.lits.now m inside))
