use Rattle.std.proofs.Common.{◌∙◌, sym, ap, refl}
use Rattle.std.proofs.lemmas.Bool.Decides.{same_from_decides}
use Rattle.std.proofs.lemmas.Slice.Eq.{slice_eq-Decides}
use Rattle.std.specs.Cmp.{booleans_Decides, unsigned_Decides}
use Rattle.std.specs.Cmp.Lexicographic.{pointwise}
use Rattle.std.proofs.Math.Bool.{beq}
use Rattle.lls_rule.specs.Words.{table_in, words_of, words_of-table_in}
use Rattle.lls_rule.proofs.rule.RulePartialEq.eq.Goals as goal

pub returns : goal.returns
returns c =
    let words = slice_eq-Decides unsigned_Decides c.self.inside.words c.other.inside.words c.eq.result c.eq.ensures in
    let tables = slice_eq-Decides booleans_Decides c.args.self.now c.args.other.now (pointwise beq c.args.self.now c.args.other.now) refl in
    same_from_decides c.eq.result (pointwise beq c.args.self.now c.args.other.now) (
      (λ t. sym c.self.view_is ∙ (ap table_in (words.0 t) ∙ c.other.view_is)),
      (λ same. words.1
          (sym (words_of-table_in c.self.inside.words c.self.invariant) ∙ (ap words_of (c.self.view_is ∙ (same ∙ sym c.other.view_is)) ∙ words_of-table_in c.other.inside.words c.other.invariant))),
    )
    tables
