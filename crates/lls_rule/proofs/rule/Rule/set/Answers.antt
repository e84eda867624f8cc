use Rattle.std.proofs.Common.{◌∙◌, sym, ap, set, length}
use Rattle.std.proofs.lemmas.List.{length-set}
use Rattle.lls_rule.proofs.Bits.{table_in-set, length-table_in}
use Rattle.lls_rule.proofs.rule.Rule.set.Goals as goal

pub returns-clause-sets : goal.returns-clause-sets
returns-clause-sets c =
    table_in-set c.self.inside.words c.args.nine c.replaced.result c.args.live c.self.invariant c.requires c.replaced.ensures ∙ ap (λ table. set table c.args.nine c.args.live) c.self.view_is

pub returns-clause-whole : goal.returns-clause-whole
returns-clause-whole c =
    ap length (returns-clause-sets c) ∙ (length-set c.args.self.now c.args.nine c.args.live ∙ (sym (ap length c.self.view_is) ∙ length-table_in c.self.inside.words c.self.invariant))
