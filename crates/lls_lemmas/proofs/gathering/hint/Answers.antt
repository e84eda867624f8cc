use Rattle.std.proofs.Common.{sym, ap, ◌∙◌, arith, w64}
use Rattle.std.proofs.lemmas.Int.{ints, to_z_pos}
use Rattle.lls_analyse.proofs.LiveClauses.{number_given}
use Rattle.lls_analyse.proofs.HintLists.{id_in_range}
use Rattle.lls_lemmas.specs.Closing.{is_id_hint}
use Rattle.lls_lemmas.proofs.Carried.{id_passes}
use Rattle.lls_lemmas.proofs.gathering.hint.Goals as goal

pub id-requires : goal.id-requires
id-requires g c = number_given (g.S.Store.state c.args.store.now) c.args.number c.requires.live c.requires.is_live

pub overflow_cast-result : goal.overflow_cast-result
overflow_cast-result g c =
    let range = id_in_range (g.S.Store.state c.args.store.now) c.args.number c.id.result c.requires.live c.requires.is_live c.id.ensures in
    omega (arith, ints, range.1.0)

pub returns-clause-id : goal.returns-clause-id
returns-clause-id g c =
    let range = id_in_range (g.S.Store.state c.args.store.now) c.args.number c.id.result c.requires.live c.requires.is_live c.id.ensures in
    to_z_pos w64 c.id.result (omega (arith, range.1.0)) ∙ sym range.1.1

pub returns-clause-in_range : goal.returns-clause-in_range
returns-clause-in_range g c =
    let range = id_in_range (g.S.Store.state c.args.store.now) c.args.number c.id.result c.requires.live c.requires.is_live c.id.ensures in
    ap is_id_hint (to_z_pos w64 c.id.result (omega (arith, range.1.0))) ∙ id_passes c.id.result range.0 range.1.0
