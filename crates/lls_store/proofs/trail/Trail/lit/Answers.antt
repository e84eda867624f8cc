use Rattle.std.proofs.Common.{◌<◌, Some, sym, ap, ◌∙◌, arith, length}
use Rattle.std.specs.Prelude.{slice_get}
use Rattle.std.proofs.lemmas.List.{length-map}
use Rattle.std.proofs.lemmas.Option.{slice_get-get_or}
use Rattle.lls_store.specs.Trail.{TrailState, literals_of}
use Rattle.lls_store.specs.Tables.{entry_in}
use Rattle.lls_store.proofs.Tabled.{literals_of-entries_in}
use Rattle.lls_store.proofs.trail.Trail.lit.Goals as goal

pub returns : goal.returns
returns c =
    let m = c.self.inside in
    let inside : c.args.k < length m.lits.items = omega (arith, c.requires, ap (λ (t : TrailState). length t.entries) c.self.view_is, length-map m.lits.items (entry_in m.rows.levels m.rows.reasons)) in
    ap (λ (t : TrailState). slice_get (literals_of t.entries) c.args.k) (sym c.self.view_is)
    ∙ ap (λ ls. slice_get ls c.args.k) (literals_of-entries_in m.rows.levels m.rows.reasons m.lits.items)
    ∙ slice_get-get_or m.lits.items c.args.k c.index.result.now inside
    ∙ ap Some (sym c.index.ensures)
