use Rattle.std.proofs.Common.{◌≡◌, ◌<◌, ◌≤◌, false, None, sym, ap, subst, arith, length, get_or}
use Rattle.std.specs.Prelude.{vec_capacity, is_none, IsSome}
use Rattle.lls_store.specs.Trail.{TrailState, reason_of}
use Rattle.lls_store.proofs.Parts.{AreTables-reason}
use Rattle.lls_store.proofs.Found.{reason_tabled, trail_in-reason}
use Rattle.lls_store.proofs.trail.Trail.set_reason.Goals as goal

pub set_reason-requires : goal.set_reason-requires
set_reason-requires c =
    let m = c.self.inside in
    let most : c.args.var ≤ m.vars = rw (ap (λ (t : TrailState). t.vars) c.self.view_is) c.requires.within in
    omega (arith, c.index.ensures.place, most, c.self.invariant.0.level_each)

pub invariant_of-self : goal.invariant_of-self
invariant_of-self c =
    let m = c.self.inside in
    let i = c.index.result in
    let most : c.args.var ≤ m.vars = rw (ap (λ (t : TrailState). t.vars) c.self.view_is) c.requires.within in
    let inside : i < length m.rows.reasons = omega (arith, c.index.ensures.place, most, c.self.invariant.0.reason_each) in
    let P : TrailState → Type 0 = λ t. IsSome (reason_of t.entries c.args.var) in
    let tabled : is_none (get_or m.rows.reasons i None) ≡ false = reason_tabled m.rows.levels m.rows.reasons m.lits.items i c.args.var c.index.ensures.place (subst P (sym c.self.view_is) c.requires.forced) in
    rw c.set_reason.ensures (AreTables-reason m.vars m.current (vec_capacity m.lits) i c.args.reason m.values m.rows.levels m.rows.reasons m.lits.items c.self.invariant.0 inside tabled, c.self.invariant.1)

pub returns : goal.returns
returns c =
    let m = c.self.inside in
    let i = c.index.result in
    let most : c.args.var ≤ m.vars = rw (ap (λ (t : TrailState). t.vars) c.self.view_is) c.requires.within in
    let inside : i < length m.rows.reasons = omega (arith, c.index.ensures.place, most, c.self.invariant.0.reason_each) in
    rw (c.set_reason.ensures, ← c.self.view_is) (trail_in-reason m.vars m.current (vec_capacity m.lits) i c.args.var c.args.reason m.values m.rows.levels m.rows.reasons m.lits.items c.self.invariant.0 c.index.ensures.place inside)
