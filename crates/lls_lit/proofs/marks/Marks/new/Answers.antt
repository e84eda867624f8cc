use Rattle.std.proofs.Common.{◌≡◌, ◌*◌, ◌<◌, replicate, arith, rules}
use Rattle.std.proofs.lemmas.List.Elements.{All-replicate}
use Rattle.lls_lit.proofs.Stamps.{marked-newer}
use Rattle.lls_lit.proofs.marks.Marks.new.Goals as goal

pub returns : goal.returns
returns c =
    let zeros : c.in_ok-stamps.stamps.items ≡ replicate (2 * c.args.vars) 0 = search rules in
    rw zeros (marked-newer c.args.vars (replicate (2 * c.args.vars) 0) 1 (All-replicate (λ s. s < 1) (2 * c.args.vars) 0 (omega arith)))
