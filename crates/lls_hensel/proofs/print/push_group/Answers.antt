use Rattle.std.proofs.Common.{◌∙◌, sym, ap, ◌+◌, ◌++◌, [], ◌∷◌, flat_map, true, false, append-nil, append_assoc}
use Rattle.std.proofs.lemmas.Result.{on_ok_weaker}
use Rattle.lls_hensel.specs.Numbers.{letter_text, representatives_of}
use Rattle.lls_hensel.proofs.Texts.{group_text-none, group_text-all, group_text-few, group_text-many}
use Rattle.lls_hensel.proofs.print.push_group.Goals as goal

pub returns-then-inside-eq0 : goal.returns-then-inside-eq0
returns-then-inside-eq0 c =
    sym (ap (λ bytes. c.args.text.now.items ++ bytes) (group_text-none c.args.rule.now c.args.survival c.args.count c.classes_at-inside.result c.requires c.classes_at-inside.ensures c.if-inside-eq0.true) ∙ append-nil c.args.text.now.items)

pub returns-then-outside-eq0 : goal.returns-then-outside-eq0
returns-then-outside-eq0 c =
    c.in_ok-push.ensures.items ∙ ap (λ bytes. c.args.text.now.items ++ bytes)
    (sym (group_text-all c.args.rule.now c.args.survival c.args.count c.classes_at-inside.result c.classes_at-outside.result c.requires c.classes_at-inside.ensures c.classes_at-outside.ensures c.if-inside-eq0.false c.if-outside-eq0.true))

pub returns-then-inside-outside : goal.returns-then-inside-outside
returns-then-inside-outside c =
    let letters = flat_map (letter_text c.args.rule.now c.args.survival c.args.count true) (representatives_of c.args.count) in
    on_ok_weaker c.push_letters.result (λ e. e ∙ (ap (λ bytes. bytes ++ letters) c.in_ok-push.ensures.items ∙ (append_assoc c.args.text.now.items ((48 + c.args.count) ∷ []) letters ∙
    ap (λ bytes. c.args.text.now.items ++ bytes)
    (sym (group_text-few c.args.rule.now c.args.survival c.args.count c.classes_at-inside.result c.classes_at-outside.result c.requires c.classes_at-inside.ensures c.classes_at-outside.ensures c.if-inside-eq0.false c.if-outside-eq0.false c.if-inside-outside.true))))) c.push_letters.ensures

pub returns : goal.returns
returns c =
    let letters = flat_map (letter_text c.args.rule.now c.args.survival c.args.count false) (representatives_of c.args.count) in
    on_ok_weaker c.push_letters-2.result (λ e. e ∙ (ap (λ bytes. bytes ++ letters) (c.in_ok-push-2.ensures.items ∙ (ap (λ bytes. bytes ++ 45 ∷ []) c.in_ok-push.ensures.items ∙ append_assoc c.args.text.now.items ((48 + c.args.count) ∷ []) (45 ∷ []))) ∙
    (append_assoc c.args.text.now.items ((48 + c.args.count) ∷ 45 ∷ []) letters ∙
    ap (λ bytes. c.args.text.now.items ++ bytes)
    (sym (group_text-many c.args.rule.now c.args.survival c.args.count c.classes_at-inside.result c.classes_at-outside.result c.requires c.classes_at-inside.ensures c.classes_at-outside.ensures c.if-inside-eq0.false c.if-outside-eq0.false c.if-inside-outside.false))))) c.push_letters-2.ensures
