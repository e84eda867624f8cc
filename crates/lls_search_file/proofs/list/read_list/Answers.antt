use Rattle.std.proofs.Common.{◌≡◌, length, ap, sym, ◌∙◌, arith, refl}
use Rattle.lls_text.proofs.LineCounts.{length-lines_of}
use Rattle.lls_text.specs.Lines.{lines_of}
use Rattle.lls_search_file.specs.Listing.{lines_listed, no_patterns}
use Rattle.lls_search_file.proofs.Listings.{nothing_listed, list_of-none}
use Rattle.lls_search_file.proofs.list.read_list.Goals as goal

pub loop-line-init : goal.loop-line-init
loop-line-init c =
    let height = c.args.height in
    let width = c.args.width in
    let lines : c.into_iter-line-iterator.result ≡ lines_of c.args.bytes.now = c.into_iter-line-iterator.ensures.into_iter_gives ∙ c.new-line-items.ensures in
    rw (c.new.ensures.items, c.new-2.ensures.items) (record {
      kept = nothing_listed height width;
      height = refl;
      width = refl;
      count = omega (arith, ap length lines);
      lines = ap (λ ls. lines_listed height width 1 ls no_patterns) lines ∙ sym (list_of-none height width c.args.bytes.now);
    })

pub overflow_add-number : goal.overflow_add-number
overflow_add-number c =
    omega (arith, c.loop-line.invariant.count, ap length c.in-Some.ensures.steps, length-lines_of c.args.bytes.now)

pub overflow_add-number-2 : goal.overflow_add-number-2
overflow_add-number-2 c =
    omega (arith, c.loop-line.invariant.count, length-lines_of c.args.bytes.now)
