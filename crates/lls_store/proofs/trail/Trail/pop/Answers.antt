use Rattle.std.proofs.Common.{◌≡◌, ◌+◌, ◌-◌, ◌≤◌, List, None, set, true, false, not, ap, subst, ◌∙◌, arith, refl}
use Rattle.std.specs.Prelude.{ℤ, vec_capacity}
use Rattle.lls_lit.specs.Literal.{variable_of}
use Rattle.lls_store.specs.Tables.{ArePlaced}
use Rattle.lls_store.proofs.Placed.{ArePlaced-popped}
use Rattle.lls_store.proofs.Parts.{AreTables-counted_down, variable_of_last}
use Rattle.lls_store.proofs.trail.Trail.pop.Goals as goal
use Rattle.lls_store.proofs.trail.Trail.pop.Goals.{then-is_none, else-is_none}

pub reason-requires : goal.reason-requires
reason-requires c =
    let m = c.self.inside in
    let most : variable_of c.in-Some.lit ≤ m.vars = variable_of_last m.vars m.current m.rows.levels m.rows.reasons m.lits.items c.pop.new.self.items c.in-Some.lit c.self.invariant.0.is_trail c.in-Some.ensures.items in
    omega (arith, most, c.index-index.ensures.place, c.var.ensures.var, c.self.invariant.0.level_each)

pub clear-requires : goal.clear-requires
clear-requires c =
    let m = c.self.inside in
    let most : variable_of c.in-Some.lit ≤ m.vars = variable_of_last m.vars m.current m.rows.levels m.rows.reasons m.lits.items c.pop.new.self.items c.in-Some.lit c.self.invariant.0.is_trail c.in-Some.ensures.items in
    elim c.if-is_none.branch [
      | then-is_none w ↦ rw w.self-inside-is (omega (arith, most, c.self.invariant.0.value_each))
      | else-is_none w ↦ rw w.self-inside-is (omega (arith, most, c.self.invariant.0.value_each))
    ]

pub invariant_of-self : goal.invariant_of-self
invariant_of-self c =
    let m = c.self.inside in
    let i = c.index-index.result in
    let at : i + 1 ≡ variable_of c.in-Some.lit = c.index-index.ensures.place ∙ c.var.ensures.var in
    let P : List ℤ → Type 0 = λ ls. ArePlaced m.vars ls m.rows.places in
    let placed : ArePlaced m.vars c.pop.new.self.items m.rows.places = ArePlaced-popped m.vars c.pop.new.self.items m.rows.places c.in-Some.lit (subst P c.in-Some.ensures.items c.self.invariant.1) in
    let cleared : set c.if-is_none.self-inside.values (variable_of c.in-Some.lit - 1) None ≡ set c.if-is_none.self-inside.values i None = ap (λ n. set c.if-is_none.self-inside.values n None) (omega (arith, at)) in
    rw (c.clear.ensures, cleared) (elim c.if-is_none.branch [
      | then-is_none w ↦
          rw (w.self-inside-is, c.in-Some.ensures.capacity) (
            AreTables-counted_down m.vars m.current (m.current - 1) (vec_capacity m.lits) i m.values m.rows.levels m.rows.reasons m.lits.items c.pop.new.self.items c.in-Some.lit c.reason.result true c.self.invariant.0 c.in-Some.ensures.items at c.reason.ensures (ap not w.if-is_none.ensures) refl,
            placed,
          )
      | else-is_none w ↦
          rw (w.self-inside-is, c.in-Some.ensures.capacity) (
            AreTables-counted_down m.vars m.current m.current (vec_capacity m.lits) i m.values m.rows.levels m.rows.reasons m.lits.items c.pop.new.self.items c.in-Some.lit c.reason.result false c.self.invariant.0 c.in-Some.ensures.items at c.reason.ensures (ap not w.if-is_none.ensures) (omega arith),
            placed,
          )
    ])
