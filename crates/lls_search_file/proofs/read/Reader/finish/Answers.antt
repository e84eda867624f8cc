use Rattle.std.proofs.Common.{◌∙◌, sym}
use Rattle.lls_search_file.specs.Kept.{texts}
use Rattle.lls_search_file.proofs.Counts.{IsPosed-by_shape}
use Rattle.lls_search_file.proofs.Endings.{at_end-is}
use Rattle.lls_search_file.proofs.read.Reader.finish.Goals as goal

pub invariant_of-result : goal.invariant_of-result
invariant_of-result c =
    let end = c.in_ok-shape.shape in
    let kept = c.requires.kept in
    rw (c.new.ensures, c.new-2.ensures, c.in_ok-names.ensures)
    (IsPosed-by_shape end c.in-Some-Some.width c.in-Some-Some.height (texts c.args.self.names.keys) c.args.self.cells.items c.in_ok-shape.ensures.shape c.in_ok-shape.ensures.closed
    c.in-Some-Some.is-0 c.in-Some-Some.is-1 (kept.count ∙ sym c.in_ok-shape.ensures.cells) kept.numbered)

pub returns : goal.returns
returns c =
    let end = c.in_ok-shape.shape in
    rw (c.new.ensures, c.new-2.ensures, c.in_ok-names.ensures)
    (at_end-is c.args.self.shape end c.in-Some-Some.width c.in-Some-Some.height (texts c.args.self.names.keys) c.args.self.cells.items (sym c.in_ok-shape.ensures.sizes)
    c.in-Some-Some.is-0 c.in-Some-Some.is-1 c.requires.kept.numbered)
