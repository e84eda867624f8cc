use Rattle.std.proofs.Common.{◌≡◌, eqb, length, ◌∙◌}
use Rattle.std.proofs.lemmas.List.{with_items_is}
use Rattle.lls_prooflog.specs.UnitWalk.{numbered}
use Rattle.lls_lrat.specs.Stored.{flagged}
use Rattle.lls_lrat.proofs.Kept.{kept-filter}
use Rattle.lls_lrat.proofs.given.Given.remove.Goals as goal

pub returns : goal.returns
returns c =
    let g = c.self.inside in
    let size : length c.clear_flag.new.live ≡ g.live.len = c.clear_flag.ensures.len ∙ c.deref_mut.ensures.len in
    rw (with_items_is g.live c.clear_flag.new.live size, ← c.self.view_is)
    (kept-filter (flagged g.live.items) (flagged c.clear_flag.new.live) (λ q. eqb c.args.id q) 0 (numbered g.formula.now.clauses) (rw (← c.deref_mut.ensures.value) c.clear_flag.ensures.places))
