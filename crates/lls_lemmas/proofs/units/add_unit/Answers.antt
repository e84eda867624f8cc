use Rattle.std.proofs.Common.{arith, ◌∙◌}
use Rattle.lls_lemmas.proofs.Reading.{is_read}
use Rattle.lls_lemmas.proofs.UnitTables.{units_set}
use Rattle.lls_lemmas.proofs.units.add_unit.Goals as goal

pub index_mut-requires : goal.index_mut-requires
index_mut-requires g c =
    let r = is_read c.args.trail.now c.args.units.now.done c.lit-lit.result c.requires.rest.has_units.is_trail c.lit-lit.ensures in
    omega (arith, c.index.ensures.place, c.var.ensures.var, r.most, c.requires.rest.has_units.unit_each, c.args.units.now.ids.ok.0)

pub returns-clause-rest : goal.returns-clause-rest
returns-clause-rest g c =
    let t = c.args.trail.now in
    let r = is_read t c.args.units.now.done c.lit-lit.result c.requires.rest.has_units.is_trail c.lit-lit.ensures in
    let rest = c.in_ok-id.ensures.rest in
    let units = rw c.as_slice.ensures.value at rest.has_units in
    record {
      holds = rest.holds;
      has_units = units_set (g.S.Store.state c.unit_id.new.store) t c.args.units.now.ids.items c.args.units.now.done c.index.result c.in_ok-id.id c.lit-lit.result units r (c.index.ensures.place ∙ c.var.ensures.var)
          (c.in_ok-id.ensures.unit c.lit-lit.result c.lit-lit.ensures);
    }
