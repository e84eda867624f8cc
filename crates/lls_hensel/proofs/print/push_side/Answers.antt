use Rattle.std.proofs.Common.{◌≡◌, ◌∙◌, ap, ◌++◌, flat_map, arith}
use Rattle.std.specs.List.{range_with_len}
use Rattle.lls_hensel.specs.Texts.{group_text}
use Rattle.lls_hensel.proofs.Texts.{count_more, side_text-counts}
use Rattle.lls_hensel.proofs.print.push_side.Goals as goal

pub loop-count-preserved : goal.loop-count-preserved
loop-count-preserved c =
    count_more (group_text c.args.rule.now c.args.survival) c.args.text.now.items c.loop-count.text.items c.push_group.new.text.items c.loop-count.count c.loop-count.invariant c.in_ok-push_group.ensures

pub returns : goal.returns
returns c =
    let end : c.loop-count.count ≡ 9 = omega arith in
    c.loop-count.invariant ∙ (ap (λ n. c.args.text.now.items ++ flat_map (group_text c.args.rule.now c.args.survival) (range_with_len 0 n)) end ∙
    ap (λ bytes. c.args.text.now.items ++ bytes) (side_text-counts c.args.rule.now c.args.survival))
