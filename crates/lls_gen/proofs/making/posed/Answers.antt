use Rattle.std.proofs.Common.{◌≡◌, ◌*◌, length, ap, ◌∙◌, arith, Some, []}
use Rattle.std.specs.List.{list_all}
use Rattle.lls_search_file.specs.Posed.{is_name, are_distinct, are_numbered}
use Rattle.lls_gen.specs.Drawing.{cells_of_both}
use Rattle.lls_gen.proofs.Cells.{are_numbered-cells, length-cells}
use Rattle.lls_gen.proofs.Counts.{square-le}
use Rattle.lls_gen.proofs.making.posed.Goals as goal

pub invariant_of-result : goal.invariant_of-result
invariant_of-result c =
    let size = c.args.size in
    let numbers = c.args.numbers.now in
    let next = c.args.next.now in
    let most = square-le size c.requires.size.1 in
    let cells : c.new.result ≡ cells_of_both numbers next = c.new.ensures ∙ c.in_ok-cells.ensures in
    let names : c.new-3.result ≡ [] = c.new-3.ensures ∙ c.new-2.ensures.items in
    let count : length c.new.result ≡ size * (size * 2) = omega (arith, length-cells numbers next, ap length cells, c.requires.count, c.requires.next_count) in
    record {
      generations = (omega arith, omega arith);
      height = (omega (arith, c.requires.size), omega (arith, c.requires.size));
      width = (omega (arith, c.requires.size), omega (arith, c.requires.size));
      count = count;
      most = omega (arith, count, most);
      distinct = ap are_distinct names;
      spelled = ap (list_all is_name) names;
      numbered = ap (λ cells. are_numbered cells (length c.new-3.result) (Some 0)) cells ∙ (ap (λ names. are_numbered (cells_of_both numbers next) (length names) (Some 0)) names ∙ are_numbered-cells numbers next);
    }
