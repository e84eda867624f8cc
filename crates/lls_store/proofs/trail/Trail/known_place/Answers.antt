use Rattle.std.proofs.Common.{◌≤◌, sym, subst, arith}
use Rattle.std.specs.Prelude.{IsSome}
use Rattle.lls_store.specs.Trail.{TrailState, entry_of}
use Rattle.lls_store.specs.Tables.{trail_in}
use Rattle.lls_store.proofs.Parts.{variable_most}
use Rattle.lls_store.proofs.Placed.{place_of-some}
use Rattle.lls_store.proofs.trail.Trail.known_place.Goals as goal

pub place-requires : goal.place-requires
place-requires c =
    let m = c.self.inside in
    let P : TrailState → Type 0 = λ t. IsSome (entry_of t.entries c.args.var) in
    let most : c.args.var ≤ m.vars = variable_most (trail_in m.vars m.current m.rows.levels m.rows.reasons m.lits.items) c.args.var c.self.invariant.0.is_trail (subst P (sym c.self.view_is) c.requires) in
    omega (arith, most, c.index.ensures.place, c.self.invariant.0.level_each)

pub returns : goal.returns
returns c =
    let m = c.self.inside in
    let P : TrailState → Type 0 = λ t. IsSome (entry_of t.entries c.args.var) in
    rw (c.place.ensures, ← c.self.view_is) (place_of-some m.vars c.index.result c.args.var m.rows.levels m.rows.reasons m.lits.items m.rows.places c.self.invariant.1 c.index.ensures.place (subst P (sym c.self.view_is) c.requires))
