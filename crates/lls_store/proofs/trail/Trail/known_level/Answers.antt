use Rattle.std.proofs.Common.{◌≤◌, sym, subst, arith}
use Rattle.std.specs.Prelude.{IsSome}
use Rattle.lls_store.specs.Trail.{TrailState, entry_of}
use Rattle.lls_store.specs.Tables.{trail_in}
use Rattle.lls_store.proofs.Parts.{variable_most}
use Rattle.lls_store.proofs.Found.{level_of-some}
use Rattle.lls_store.proofs.trail.Trail.known_level.Goals as goal

pub level-requires : goal.level-requires
level-requires c =
    let m = c.self.inside in
    let P : TrailState → Type 0 = λ t. IsSome (entry_of t.entries c.args.var) in
    let most : c.args.var ≤ m.vars = variable_most (trail_in m.vars m.current m.rows.levels m.rows.reasons m.lits.items) c.args.var c.self.invariant.0.is_trail (subst P (sym c.self.view_is) c.requires) in
    omega (arith, most, c.index.ensures.place, c.self.invariant.0.level_each)

pub returns : goal.returns
returns c =
    let m = c.self.inside in
    let P : TrailState → Type 0 = λ t. IsSome (entry_of t.entries c.args.var) in
    rw (c.level.ensures, ← c.self.view_is) (level_of-some m.rows.levels m.rows.reasons m.lits.items c.index.result c.args.var c.index.ensures.place (subst P (sym c.self.view_is) c.requires))
