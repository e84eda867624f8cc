use Rattle.std.proofs.Common.{◌≡◌, ◌∙◌, ap, ◌++◌, [], ◌∷◌, true, false, append_assoc}
use Rattle.lls_hensel.specs.Texts.{side_text}
use Rattle.lls_hensel.proofs.Texts.{rule_text-sides}
use Rattle.lls_hensel.proofs.print.text_of.Goals as goal

pub returns : goal.returns
returns c =
    let birth = side_text c.args.rule.now false in
    let survival = side_text c.args.rule.now true in
    let begun : c.push.new.self.items ≡ 66 ∷ [] = c.in_ok-push.ensures.items ∙ ap (λ bytes. bytes ++ 66 ∷ []) c.new-text.ensures.items in
    let born : c.push_side.new.text.items ≡ 66 ∷ birth = c.in_ok-push_side.ensures ∙ ap (λ bytes. bytes ++ birth) begun in
    let marked : c.extend_from_slice.new.self.items ≡ 66 ∷ birth ++ 47 ∷ 83 ∷ [] = c.in_ok-extend_from_slice.ensures.items ∙ ap (λ bytes. bytes ++ 47 ∷ 83 ∷ []) born in
    c.in_ok-push_side-2.ensures ∙ (ap (λ bytes. bytes ++ survival) marked ∙ (ap (λ bytes. 66 ∷ bytes) (append_assoc birth (47 ∷ 83 ∷ []) survival) ∙ rule_text-sides c.args.rule.now))
