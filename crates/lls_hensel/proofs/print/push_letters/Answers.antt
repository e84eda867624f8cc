use Rattle.std.proofs.Common.{◌∙◌, ap, ◌++◌, ◌≤◌, flat_map, length, get_or, None, subst, ◌<◌}
use Rattle.lls_hensel.specs.Numbers.{letter_text, representatives_of}
use Rattle.lls_hensel.proofs.Texts.{text_more, take_whole}
use Rattle.lls_hensel.proofs.print.push_letters.Goals as goal

pub loop-representative-preserved : goal.loop-representative-preserved
loop-representative-preserved c =
    let f = letter_text c.args.rule.now c.args.survival c.args.count c.args.live in
    let i = c.loop-representative.representative-index in
    let is = c.representatives-representative-items.ensures in
    text_more f c.args.text.now.items c.loop-representative.text.items c.push_letter.new.text.items (representatives_of c.args.count) i (record { letter = None; eight = 0 })
    (subst (λ rs. i < length rs) is c.loop-representative-test.true) c.loop-representative.invariant
    (c.in_ok-push_letter.ensures ∙ ap (λ rs. c.loop-representative.text.items ++ f (get_or rs i (record { letter = None; eight = 0 }))) is)

pub returns : goal.returns
returns c =
    let f = letter_text c.args.rule.now c.args.survival c.args.count c.args.live in
    c.loop-representative.invariant ∙ ap (λ rs. c.args.text.now.items ++ flat_map f rs)
    (take_whole c.loop-representative.representative-index (representatives_of c.args.count) (subst (λ rs. length rs ≤ c.loop-representative.representative-index) c.representatives-representative-items.ensures c.loop-representative-test.false))
