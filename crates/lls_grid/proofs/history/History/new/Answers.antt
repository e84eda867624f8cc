use Rattle.std.proofs.Common.{◌≡◌, ◌*◌, ap, ◌∙◌, false, replicate, rules}
use Rattle.lls_grid.specs.History.{folded}
use Rattle.lls_grid.proofs.Folded.{folded-replicate}
use Rattle.lls_grid.proofs.history.History.new.Goals as goal

pub returns : goal.returns
returns c =
    let cells : c.in_ok-cells.cells.items ≡ replicate (c.args.width * (c.args.height * c.args.generations)) false = search rules in
    ap (folded c.args.generations c.args.height c.args.width) cells ∙ folded-replicate _ _ _ _
