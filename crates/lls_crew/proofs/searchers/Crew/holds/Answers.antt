use Rattle.std.proofs.Common.{◌≡◌, length, sym, ap, ◌∙◌, arith}
use Rattle.std.proofs.lemmas.List.{length-map}
use Rattle.lls_crew.specs.Forgetting.{ids_in}
use Rattle.lls_crew.specs.Crew.{CrewState, is_held}
use Rattle.lls_crew.proofs.TurnsTaken.{held_at}
use Rattle.lls_crew.proofs.searchers.Crew.holds.Goals as goal

pub returns : goal.returns
returns c =
    let searchers = c.self.inside.searchers.items in
    let many : length c.args.self.now.held ≡ length searchers = ap (λ (crew : CrewState). length crew.held) (sym c.self.view_is) ∙ length-map searchers ids_in in
    c.holds.ensures ∙ held_at searchers c.args.k c.args.id c.index.result.now (omega (arith, many, c.requires)) (sym c.index.ensures) ∙ ap (λ (crew : CrewState). is_held crew c.args.k c.args.id) c.self.view_is
