use Rattle.std.proofs.Common.{◌≡◌, ◌+◌, length, ap, refl, sym, ◌∙◌, arith}
use Rattle.std.specs.Prelude.{Ok}
use Rattle.lls_text.proofs.LineCounts.{length-lines_of}
use Rattle.lls_text.specs.Lines.{lines_of}
use Rattle.lls_rle.specs.Pictures.{no_pictures, line_pictured, lines_pictured, pictures_of}
use Rattle.lls_rle.specs.Reader.{total}
use Rattle.lls_rle.proofs.Albums.{none_read, pictures_of-lines, taken_so, one_line}
use Rattle.lls_rle.proofs.LineTotals.{total-lines_of}
use Rattle.lls_rle.proofs.pictures.read_pictures.Goals as goal

pub loop-line-init : goal.loop-line-init
loop-line-init c =
    let height = c.args.height in
    let width = c.args.width in
    let lines : c.into_iter-line-iterator.result ≡ lines_of c.args.bytes.now = c.into_iter-line-iterator.ensures.into_iter_gives ∙ c.new-line-items.ensures in
    record {
      height = refl;
      width = refl;
      kept = tt;
      count = omega (arith, ap length lines);
      row = omega (arith, ap total lines, total-lines_of c.args.bytes.now, c.requires.bytes);
      column = omega (arith, ap total lines, total-lines_of c.args.bytes.now, c.requires.bytes);
      pictures = (no_pictures, none_read _ c.new.ensures.items refl, ap (λ ls. lines_pictured height width 1 ls no_pictures) lines ∙ sym (pictures_of-lines height width c.args.bytes.now));
    }

pub overflow_add-number : goal.overflow_add-number
overflow_add-number c = omega (arith, c.loop-line.invariant.count, ap length c.in-Some.ensures.steps, length-lines_of c.args.bytes.now, c.requires.bytes)

pub loop-line-preserved : goal.loop-line-preserved
loop-line-preserved c =
    let height = c.args.height in
    let width = c.args.width in
    let before = c.loop-line.invariant.pictures in
    let line = c.in-Some.line.now in
    let rest = c.next.new.self in
    let next = taken_so c.take_line.new.self (line_pictured c.loop-line.album.height c.loop-line.album.width (c.loop-line.number + 1) line before.0) (c.in_ok-take_line.ensures.taken before.0 before.1) in
    let took : line_pictured height width (c.loop-line.number + 1) line before.0 ≡ Ok next.0 =
    ap (λ h. line_pictured h width (c.loop-line.number + 1) line before.0) (sym c.loop-line.invariant.height)
    ∙ ap (λ w. line_pictured c.loop-line.album.height w (c.loop-line.number + 1) line before.0) (sym c.loop-line.invariant.width) ∙ next.2 in
    record {
      height = c.in_ok-take_line.ensures.height ∙ c.loop-line.invariant.height;
      width = c.in_ok-take_line.ensures.width ∙ c.loop-line.invariant.width;
      kept = c.in_ok-take_line.ensures.kept;
      count = omega (arith, c.loop-line.invariant.count, ap length c.in-Some.ensures.steps);
      row = omega (arith, c.loop-line.invariant.row, ap total c.in-Some.ensures.steps, c.in_ok-take_line.ensures.row);
      column = omega (arith, c.loop-line.invariant.column, ap total c.in-Some.ensures.steps, c.in_ok-take_line.ensures.column);
      pictures = (
        next.0,
        next.1,
        one_line height width (c.loop-line.number + 1) line rest before.0 next.0 (pictures_of height width c.args.bytes.now) took
            (ap (λ ls. lines_pictured height width (c.loop-line.number + 1) ls before.0) (sym c.in-Some.ensures.steps) ∙ before.2),
      );
    }
