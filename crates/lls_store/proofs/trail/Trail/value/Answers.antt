use Rattle.std.proofs.Common.{◌≡◌, ◌+◌, ◌-◌, ◌<◌, ◌≤◌, ap, subst, arith, length}
use Rattle.std.specs.Prelude.{vec_capacity}
use Rattle.lls_lit.specs.Literal.{variable_of}
use Rattle.lls_store.specs.Trail.{TrailState}
use Rattle.lls_store.specs.Tables.{trail_in}
use Rattle.lls_store.proofs.Found.{TellsValue, value_tells}
use Rattle.lls_store.proofs.trail.Trail.value.Goals as goal

pub of-requires : goal.of-requires
of-requires c =
    let m = c.self.inside in
    let most : variable_of c.args.lit ≤ m.vars = rw (ap (λ (t : TrailState). t.vars) c.self.view_is) c.requires in
    omega (arith, most, c.self.invariant.0.value_each)

pub returns : goal.returns
returns c =
    let m = c.self.inside in
    let l = c.args.lit in
    let t = trail_in m.vars m.current m.rows.levels m.rows.reasons m.lits.items in
    let most : variable_of l ≤ m.vars = rw (ap (λ (s : TrailState). s.vars) c.self.view_is) c.requires in
    let at : variable_of l - 1 + 1 ≡ variable_of l = omega (arith, c.of.ensures.literal.0) in
    let inside : variable_of l - 1 < length m.values = omega (arith, at, most, c.self.invariant.0.value_each) in
    let P : TrailState → Type 0 = λ s. TellsValue s.entries l c.of.result in
    let told = subst P c.self.view_is (value_tells t (vec_capacity m.lits) (variable_of l - 1) m.values m.rows.levels m.rows.reasons l c.of.result c.self.invariant.0 at inside c.of.ensures.answer) in
    record { is_true = told.is_true; is_false = told.is_false; unset = told.unset }
