use Rattle.std.proofs.Common.{◌<◌, length, arith}
use Rattle.std.proofs.lemmas.List.{length-map}
use Rattle.lls_store.specs.Flat.{kept_at}
use Rattle.lls_store.proofs.Buffer.{numbers_read}
use Rattle.lls_store.proofs.flat.FlatClauses.number.Goals as goal

pub returns : goal.returns
returns c =
    let f = c.self.inside in
    let inside = rw (← c.self.view_is) at c.requires in
    let lt : c.args.k < length f.heads.items = omega (arith, inside, length-map f.heads.items (kept_at f.lits.items)) in
    rw (← c.self.view_is) (numbers_read f.lits.items f.heads.items c.args.k c.index.result.now lt c.index.ensures)
