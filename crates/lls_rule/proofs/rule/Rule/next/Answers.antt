use Rattle.std.proofs.Common.{◌∙◌, sym, ap, length}
use Rattle.lls_rule.specs.Rule.{answer}
use Rattle.lls_rule.proofs.Bits.{answer-table_in, length-table_in}
use Rattle.lls_rule.proofs.rule.Rule.next.Goals as goal

pub returns-clause-answers : goal.returns-clause-answers
returns-clause-answers c =
    c.holds.ensures ∙ (sym (answer-table_in c.self.inside.words c.args.nine c.self.invariant c.requires) ∙ ap (λ table. answer table c.args.nine) c.self.view_is)

pub returns-clause-whole : goal.returns-clause-whole
returns-clause-whole c = sym (ap length c.self.view_is) ∙ length-table_in c.self.inside.words c.self.invariant
